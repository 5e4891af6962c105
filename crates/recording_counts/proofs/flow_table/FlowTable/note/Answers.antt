use Rattle.std.proofs.Common.{◌∙◌, ◌<◌, List, ap, arith, length, map, refl, sym}
use Rattle.std.proofs.lemmas.Result.{on_ok_weaker}
use Rattle.recording_counts.specs.Flows.{arrival_of, is_same_flow}
use Rattle.recording_counts.specs.FlowPlaces.{FlowKey, flow_key_cmp, flow_key_of, is_same_key}
use Rattle.recording_counts.specs.FlowCounts.{flow_count_of}
use Rattle.recording_counts.specs.Tables.{first_index}
use Rattle.recording_counts.specs.declared.flow_count.FlowCount.{FlowCount}
use Rattle.recording_counts.proofs.Keys.{exact_flows, flow_keys, flow_parts, flow_place}
use Rattle.recording_counts.proofs.Tables.{below, index_kept, note_new, note_there}
use Rattle.recording_counts.proofs.flow_table.FlowTable.note.Goals as goal

abbrev of : FlowCount → FlowKey
of c = flow_key_of c.destination

pub index_mut-requires : goal.index_mut-requires
index_mut-requires g c =
    let lt : c.in-Some.place < length c.self.inside.counts.items =
    below is_same_key of c.self.inside.counts.items c.flow_key_of-key.result c.in-Some.place
    (sym (c.self.invariant c.flow_key_of-key.result) ∙ sym c.get.ensures.value
    ∙ sym c.copied.ensures ∙ c.in-Some.is) in
    omega (arith, c.self.inside.counts.ok.0)

pub invariant_of-self : goal.invariant_of-self
invariant_of-self g c =
    index_kept flow_key_cmp exact_flows is_same_key flow_keys of c.self.inside.places
    c.self.inside.counts.items c.in-Some.place c.index_mut.result.now c.note.new.self
    c.self.invariant
    (below is_same_key of c.self.inside.counts.items c.flow_key_of-key.result c.in-Some.place
    (sym (c.self.invariant c.flow_key_of-key.result) ∙ sym c.get.ensures.value
    ∙ sym c.copied.ensures ∙ c.in-Some.is))
    c.index_mut.ensures.value (ap flow_key_of c.note.ensures.same)

pub returns-in-Some-clause-noted : goal.returns-in-Some-clause-noted
returns-in-Some-clause-noted g c =
    λ arrivals e.
    let counts : List FlowCount = c.self.inside.counts.items in
    note_there is_same_flow flow_parts (λ a. a.destination) flow_count_of (λ x. x.destination)
    (λ d rs. refl) arrivals (arrival_of c.args.datagram.now) counts c.in-Some.place
    c.index_mut.result.now c.note.new.self c.args.datagram.now.destination
    (c.self.view_is ∙ e) refl
    (flow_place c.flow_key_of-key.result c.args.datagram.now.destination counts
    c.flow_key_of-key.ensures
    ∙ sym (c.self.invariant c.flow_key_of-key.result) ∙ sym c.get.ensures.value
    ∙ sym c.copied.ensures ∙ c.in-Some.is)
    c.index_mut.ensures.value c.note.ensures.counted

pub returns-in-None-clause-noted : goal.returns-in-None-clause-noted
returns-in-None-clause-noted g c =
    on_ok_weaker c.open.result
    (λ added arrivals e.
    note_new is_same_flow flow_parts (λ a. a.destination) flow_count_of (λ x. x.destination)
    (λ d rs. refl) arrivals (arrival_of c.args.datagram.now) c.args.self.now c.open.new.self
    c.args.datagram.now.destination e refl
    (ap (λ (x : List FlowCount). first_index is_same_flow c.args.datagram.now.destination
    (map (λ y. y.destination) x)) (sym c.self.view_is)
    ∙ flow_place c.flow_key_of-key.result c.args.datagram.now.destination
    c.self.inside.counts.items c.flow_key_of-key.ensures
    ∙ sym (c.self.invariant c.flow_key_of-key.result) ∙ sym c.get.ensures.value
    ∙ sym c.copied.ensures ∙ c.in-None.is)
    added)
    c.open.ensures.added
