use Rattle.std.proofs.Common.{◌∙◌, ◌∷◌, [], List, ap, length, map, refl, sym}
use Rattle.recording_counts.specs.FlowCounts.{flow_count_of}
use Rattle.recording_counts.specs.FlowPlaces.{flow_key_cmp, flow_key_of, is_same_key}
use Rattle.recording_counts.specs.Flows.{arrival_of}
use Rattle.recording_counts.specs.Tables.{first_index}
use Rattle.recording_counts.specs.declared.flow_count.FlowCount.{FlowCount}
use Rattle.recording_counts.proofs.Keys.{exact_flows, flow_keys}
use Rattle.recording_counts.proofs.Tables.{grown, index_grown}
use Rattle.recording_counts.proofs.flow_table.FlowTable.open.Goals as goal

pub invariant_of-self-2 : goal.invariant_of-self-2
invariant_of-self-2 g c =
    index_grown flow_key_cmp exact_flows is_same_key flow_keys (λ x. flow_key_of x.destination)
    c.self.inside.places c.append.new.places c.self.inside.counts.items
    c.append.new.counts.items c.note.new.self c.args.key
    (length c.self.inside.counts.items) c.self.invariant
    (c.requires.key
    ∙ ap flow_key_of
    (sym (c.note.ensures.same ∙ ap (λ (x : FlowCount). x.destination) c.new-count.ensures)))
    (ap
    (λ (x : List FlowCount). first_index is_same_key c.args.key
    (map (λ y. flow_key_of y.destination) x))
    c.self.view_is
    ∙ c.requires.absent)
    refl c.in_ok-append.ensures.counted c.in_ok-append.ensures.indexed

pub returns-clause-added : goal.returns-clause-added
returns-clause-added g c =
    grown c.append.new.counts.items c.self.inside.counts.items c.args.self.now c.note.new.self
    (flow_count_of c.args.datagram.now.destination (arrival_of c.args.datagram.now ∷ []))
    c.in_ok-append.ensures.counted c.self.view_is
    (c.note.ensures.counted c.args.datagram.now.destination [] c.new-count.ensures)
