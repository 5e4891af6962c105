use Rattle.std.proofs.Common.{ℕ, ◌<◌, ◌≤◌, get_or, bit_xor}
use Rattle.frame_assembly.proofs.groups.equal_words.Given as goal

-- no two words so far are more unlike
abbrev pub invariant-loop-i : goal.invariant-loop-i
invariant-loop-i l = (k : ℕ) → k < l.i → bit_xor (get_or l.left k 0) (get_or l.right k 0) ≤ l.unlike
