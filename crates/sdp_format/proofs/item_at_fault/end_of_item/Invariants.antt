use Rattle.std.proofs.Common.{◌≤◌, length}
use Rattle.std.specs.Option.{option_copied}
use Rattle.sdp_format.specs.Naming.{items_left}
use Rattle.sdp_format.proofs.item_at_fault.end_of_item.Given as goal

abbrev pub invariant-loop-item : goal.invariant-loop-item
invariant-loop-item l = l.earlier ≤ length l.items

abbrev pub decreases-loop-item : goal.decreases-loop-item
decreases-loop-item l = length (items_left (option_copied l.rest))
