use Rattle.std.proofs.Common.{◌∙◌, ◌<◌, List, ap, refl, arith, length, map, sym}
use Rattle.recording_counts.specs.declared.stream.StreamCount.{StreamCount}
use Rattle.std.proofs.lemmas.Result.{on_ok_weaker}
use Rattle.recording_counts.specs.Streams.{is_same, key_cmp, key_of, stream_of}
use Rattle.recording_counts.specs.Tables.{first_index}
use Rattle.recording_counts.proofs.Keys.{exact_streams, stream_keys, stream_parts}
use Rattle.recording_counts.proofs.Tables.{below, index_kept, note_new, note_there}
use Rattle.recording_counts.proofs.streams.StreamTable.note.Goals as goal

pub index_mut-requires : goal.index_mut-requires
index_mut-requires g c =
    let lt : c.in-Some.place < length c.self.inside.counts.items =
    below is_same (λ x. x.key) c.self.inside.counts.items
    c.stream-key.result c.in-Some.place
    (sym (c.self.invariant c.stream-key.result) ∙ sym c.get.ensures.value ∙ sym c.copied.ensures
    ∙ c.in-Some.is) in
    omega (arith, c.self.inside.counts.ok.0)

pub invariant_of-self : goal.invariant_of-self
invariant_of-self g c =
    index_kept key_cmp exact_streams is_same stream_keys (λ x. x.key) c.self.inside.places
    c.self.inside.counts.items c.in-Some.place c.index_mut.result.now c.note.new.self
    c.self.invariant
    (below is_same (λ x. x.key) c.self.inside.counts.items
    c.stream-key.result c.in-Some.place
    (sym (c.self.invariant c.stream-key.result) ∙ sym c.get.ensures.value ∙ sym c.copied.ensures
    ∙ c.in-Some.is))
    c.index_mut.ensures.value c.note.ensures.same

pub returns-in-Some-clause-noted : goal.returns-in-Some-clause-noted
returns-in-Some-clause-noted g c =
    on_ok_weaker c.note.result
    (λ on packets e.
    note_there is_same stream_parts key_of stream_of (λ x. x.key) (λ d rs. refl) packets
    c.args.packet.now c.self.inside.counts.items c.in-Some.place c.index_mut.result.now
    c.note.new.self c.stream-key.result (c.self.view_is ∙ e) c.stream-key.ensures
    (sym (c.self.invariant c.stream-key.result) ∙ sym c.get.ensures.value ∙ sym c.copied.ensures
    ∙ c.in-Some.is)
    c.index_mut.ensures.value on)
    c.note.ensures.counted

pub returns-in-None-clause-noted : goal.returns-in-None-clause-noted
returns-in-None-clause-noted g c =
    on_ok_weaker c.open.result
    (λ added packets e.
    note_new is_same stream_parts key_of stream_of (λ x. x.key) (λ d rs. refl) packets
    c.args.packet.now c.args.self.now c.open.new.self c.stream-key.result e
    c.stream-key.ensures
    (ap (λ (x : List (StreamCount _)). first_index is_same c.stream-key.result (map (λ y. y.key) x))
    (sym c.self.view_is)
    ∙ sym (c.self.invariant c.stream-key.result) ∙ sym c.get.ensures.value
    ∙ sym c.copied.ensures ∙ c.in-None.is)
    added)
    c.open.ensures.added
