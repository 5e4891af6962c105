use Rattle.std.proofs.Common.{◌≡◌, ℕ, ◌<◌, ◌≤◌, List, get_or}
use Rattle.frame_assembly.proofs.settling.are_whole.Given as goal

-- The bounds of the marks so far: where each is that of a whole group, so are they.
pub record AreBounds (least most many : ℕ) (marks : List ℕ) : Type 0 where
  pub low : (k : ℕ) → k < many → least ≤ get_or marks k 0
  pub high : (k : ℕ) → k < many → get_or marks k 0 ≤ most
  pub least_whole : ((k : ℕ) → k < many → get_or marks k 0 ≡ 32768) → least ≡ 32768
  pub most_whole : ((k : ℕ) → k < many → get_or marks k 0 ≡ 32768) → most ≡ 32768

abbrev pub invariant-loop-mark : goal.invariant-loop-mark
invariant-loop-mark l = AreBounds l.least l.most l.mark-index l.marks
