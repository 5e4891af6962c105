use Rattle.std.proofs.Common.{rules}
use Rattle.sdp_format.proofs.KnownItems.{known_new, known_kept, known_met, other_met}
use Rattle.sdp_format.proofs.parameters.put.Goals as goal

pub returns-in_ok-insert-clause-new : goal.returns-in_ok-insert-clause-new
returns-in_ok-insert-clause-new g c =
    known_new c.args.known.now c.insert.new.self c.args.others.now c.args.others.now c.args.item
    (search rules) c.in_ok-insert.field-0 c.is_none.result c.in_ok-insert.ensures.old
    c.is_none.ensures

pub returns-in_ok-insert-clause-kept : goal.returns-in_ok-insert-clause-kept
returns-in_ok-insert-clause-kept g c absent =
    known_kept c.args.known.now c.insert.new.self c.args.others.now c.args.others.now c.args.item
    (search rules) c.in_ok-insert.ensures.entries absent

pub returns-in_ok-insert-clause-met : goal.returns-in_ok-insert-clause-met
returns-in_ok-insert-clause-met g c absent q =
    known_met c.args.known.now c.insert.new.self c.args.others.now c.args.others.now c.args.item
    (search rules) c.in_ok-insert.ensures.entries absent q

pub returns-in_ok-insert-2-clause-met : goal.returns-in_ok-insert-2-clause-met
returns-in_ok-insert-2-clause-met g c absent q =
    other_met c.args.known.now c.args.known.now c.args.others.now c.insert-else-is_known.new.self
    c.args.item (search rules) c.in_ok-insert-2.ensures.updates q
