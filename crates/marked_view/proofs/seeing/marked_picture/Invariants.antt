use Rattle.std.proofs.Common.{◌≡◌}
use Rattle.marked_view.specs.Marked.{pixels_seen}
use Rattle.marked_view.proofs.seeing.marked_picture.Given as goal

abbrev pub invariant-loop-k : goal.invariant-loop-k
invariant-loop-k g l = l.samples.items ≡ pixels_seen l.frame l.k
