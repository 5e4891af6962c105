use Rattle.std.proofs.Common.{◌∙◌, ◌∷◌, [], List, ap, length, map, refl, sym}
use Rattle.recording_counts.specs.declared.packet.TimestampKey.{TimestampKey}
use Rattle.recording_counts.specs.declared.timestamp.TimestampCount.{TimestampCount}
use Rattle.recording_counts.specs.Timestamps.{is_same_timestamp, timestamp_cmp, timestamp_key_of}
use Rattle.recording_counts.specs.Timestamps.{timestamp_of}
use Rattle.recording_counts.specs.Tables.{first_index}
use Rattle.recording_counts.proofs.Keys.{exact_timestamps, timestamp_keys}
use Rattle.recording_counts.proofs.Tables.{grown, index_grown}
use Rattle.recording_counts.proofs.timestamps.TimestampTable.open.Goals as goal

pub invariant_of-self-2 : goal.invariant_of-self-2
invariant_of-self-2 g c =
    index_grown timestamp_cmp exact_timestamps is_same_timestamp timestamp_keys (λ x. x.key)
    c.self.inside.places c.append.new.places c.self.inside.counts.items
    c.append.new.counts.items c.note.new.self c.args.key (length c.self.inside.counts.items)
    c.self.invariant
    (sym (c.note.ensures.same ∙ ap (λ (x : TimestampCount). x.key) c.new-count.ensures))
    (ap
    (λ (x : List TimestampCount). first_index is_same_timestamp c.args.key (map (λ y. y.key) x))
    c.self.view_is
    ∙ c.requires.absent)
    refl c.in_ok-append.ensures.counted c.in_ok-append.ensures.indexed

pub returns-clause-added : goal.returns-clause-added
returns-clause-added g c =
    grown c.append.new.counts.items c.self.inside.counts.items c.args.self.now c.note.new.self
    (timestamp_of (timestamp_key_of c.args.packet.now) (c.args.packet.now ∷ []))
    c.in_ok-append.ensures.counted c.self.view_is
    (c.note.ensures.counted c.args.key [] c.new-count.ensures
    ∙ ap (λ (k : TimestampKey). timestamp_of k (c.args.packet.now ∷ [])) c.requires.key)
