use Rattle.std.proofs.Common.{◌≡◌, ℕ, ◌<◌, get_or}
use Rattle.frame_assembly.proofs.groups.equal_octets.Given as goal

-- where no bit is set, those so far are the same
abbrev pub invariant-loop-i : goal.invariant-loop-i
invariant-loop-i l = l.unlike ≡ 0 → (k : ℕ) → k < l.i → get_or l.left k 0 ≡ get_or l.right k 0
