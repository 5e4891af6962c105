use Rattle.std.proofs.Common.{◌∙◌, ◌∷◌, [], List, ap, length, map, refl, sym}
use Rattle.recording_counts.specs.declared.packet.StreamKey.{StreamKey}
use Rattle.recording_counts.specs.declared.stream.StreamCount.{StreamCount}
use Rattle.recording_counts.specs.Streams.{is_same, key_cmp, key_of, stream_of}
use Rattle.recording_counts.specs.Tables.{first_index}
use Rattle.recording_counts.proofs.Keys.{exact_streams, stream_keys}
use Rattle.recording_counts.proofs.Tables.{grown, index_grown}
use Rattle.recording_counts.proofs.streams.StreamTable.open.Goals as goal

pub invariant_of-self-2 : goal.invariant_of-self-2
invariant_of-self-2 g c =
    index_grown key_cmp exact_streams is_same stream_keys (λ x. x.key) c.self.inside.places
    c.append.new.places c.self.inside.counts.items c.append.new.counts.items c.note.new.self
    c.args.key (length c.self.inside.counts.items) c.self.invariant
    (sym (c.note.ensures.same ∙ ap (λ (x : StreamCount _). x.key) c.new-count.ensures))
    (ap (λ (x : List (StreamCount _)). first_index is_same c.args.key (map (λ y. y.key) x)) c.self.view_is
    ∙ c.requires.absent)
    refl c.in_ok-append.ensures.counted c.in_ok-append.ensures.indexed

pub returns-clause-added : goal.returns-clause-added
returns-clause-added g c =
    grown c.append.new.counts.items c.self.inside.counts.items c.args.self.now c.note.new.self
    (stream_of (key_of c.args.packet.now) (c.args.packet.now ∷ []))
    c.in_ok-append.ensures.counted c.self.view_is
    (c.in_ok-note.ensures.counted c.args.key [] c.new-count.ensures
    ∙ ap (λ (k : StreamKey). stream_of k (c.args.packet.now ∷ [])) c.requires.key)
