use Rattle.std.proofs.Common.{ℕ, ◌<◌, arith}
use Rattle.std.proofs.lemmas.Bool.{eqb-true}
use Rattle.std.proofs.lemmas.List.{ext_get_or}
use Rattle.frame_assembly.proofs.Equal.{same_more}
use Rattle.frame_assembly.proofs.groups.equal_octets.Goals as goal

pub loop-i-preserved : goal.loop-i-preserved
loop-i-preserved c =
    same_more c.args.left.now c.args.right.now c.loop-i.i c.loop-i.unlike c.loop-i.invariant

pub returns : goal.returns
returns c is =
    ext_get_or 0 c.args.left.now c.args.right.now c.requires
    (λ (k : ℕ) (lt : k < _). c.loop-i.invariant (eqb-true c.loop-i.unlike 0 is) k (omega arith))
