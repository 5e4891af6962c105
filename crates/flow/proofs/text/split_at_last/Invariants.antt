use Rattle.std.proofs.Common.{◌≡◌, ◌++◌, All, drop, length}
use Rattle.flow.specs.FlowText.{IsOther}
use Rattle.flow.proofs.text.split_at_last.Given as goal

abbrev pub invariant-loop-last : goal.invariant-loop-last
invariant-loop-last l =
    (l.fn.text ≡ l.rest ++ drop (length l.rest) l.fn.text)
    × All (IsOther l.mark) (drop (length l.rest) l.fn.text)

abbrev pub decreases-loop-last : goal.decreases-loop-last
decreases-loop-last l = length l.rest
