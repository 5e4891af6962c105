use Rattle.std.proofs.Common.{◌∙◌, ◌<◌, List, ap, refl, arith, length, map, sym}
use Rattle.recording_counts.specs.declared.timestamp.TimestampCount.{TimestampCount}
use Rattle.std.proofs.lemmas.Result.{on_ok_weaker}
use Rattle.recording_counts.specs.Timestamps.{is_same_timestamp, timestamp_cmp, timestamp_key_of}
use Rattle.recording_counts.specs.Timestamps.{timestamp_of}
use Rattle.recording_counts.specs.Tables.{first_index}
use Rattle.recording_counts.proofs.Keys.{exact_timestamps, timestamp_keys, timestamp_parts}
use Rattle.recording_counts.proofs.Tables.{below, index_kept, note_new, note_there}
use Rattle.recording_counts.proofs.timestamps.TimestampTable.note.Goals as goal

pub index_mut-requires : goal.index_mut-requires
index_mut-requires g c =
    let lt : c.in-Some.place < length c.self.inside.counts.items =
    below is_same_timestamp (λ x. x.key) c.self.inside.counts.items
    c.timestamp_key-key.result c.in-Some.place
    (sym (c.self.invariant c.timestamp_key-key.result) ∙ sym c.get.ensures.value ∙ sym c.copied.ensures
    ∙ c.in-Some.is) in
    omega (arith, c.self.inside.counts.ok.0)

pub invariant_of-self : goal.invariant_of-self
invariant_of-self g c =
    index_kept timestamp_cmp exact_timestamps is_same_timestamp timestamp_keys (λ x. x.key) c.self.inside.places
    c.self.inside.counts.items c.in-Some.place c.index_mut.result.now c.note.new.self
    c.self.invariant
    (below is_same_timestamp (λ x. x.key) c.self.inside.counts.items
    c.timestamp_key-key.result c.in-Some.place
    (sym (c.self.invariant c.timestamp_key-key.result) ∙ sym c.get.ensures.value ∙ sym c.copied.ensures
    ∙ c.in-Some.is))
    c.index_mut.ensures.value c.note.ensures.same

pub returns-in-Some-clause-noted : goal.returns-in-Some-clause-noted
returns-in-Some-clause-noted g c =
    λ packets e.
    note_there is_same_timestamp timestamp_parts timestamp_key_of timestamp_of (λ x. x.key)
    (λ d rs. refl) packets c.args.packet.now c.self.inside.counts.items c.in-Some.place
    c.index_mut.result.now c.note.new.self c.timestamp_key-key.result (c.self.view_is ∙ e)
    c.timestamp_key-key.ensures
    (sym (c.self.invariant c.timestamp_key-key.result) ∙ sym c.get.ensures.value
    ∙ sym c.copied.ensures ∙ c.in-Some.is)
    c.index_mut.ensures.value c.note.ensures.counted

pub returns-in-None-clause-noted : goal.returns-in-None-clause-noted
returns-in-None-clause-noted g c =
    on_ok_weaker c.open.result
    (λ added packets e.
    note_new is_same_timestamp timestamp_parts timestamp_key_of timestamp_of (λ x. x.key) (λ d rs. refl) packets
    c.args.packet.now c.args.self.now c.open.new.self c.timestamp_key-key.result e
    c.timestamp_key-key.ensures
    (ap (λ (x : List TimestampCount). first_index is_same_timestamp c.timestamp_key-key.result (map (λ y. y.key) x))
    (sym c.self.view_is)
    ∙ sym (c.self.invariant c.timestamp_key-key.result) ∙ sym c.get.ensures.value
    ∙ sym c.copied.ensures ∙ c.in-None.is)
    added)
    c.open.ensures.added
