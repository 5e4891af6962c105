use Rattle.lane_kernels.specs.declared.matrix.Difference.TheVariants.{Cb, Cr}
use Rattle.lane_kernels.proofs.Colour.{natural}
use Rattle.lane_kernels.proofs.Gaining.{gain_natural}
use Rattle.lane_kernels.proofs.laws.formulas_raised.Goals as goal

pub returns-clause-cb : goal.returns-clause-cb
returns-clause-cb c = λ n r g b h p q. natural Cb n b r g h p q

pub returns-clause-cr : goal.returns-clause-cr
returns-clause-cr c = λ n r g b h p q. natural Cr n r g b h p q

pub returns-clause-gain : goal.returns-clause-gain
returns-clause-gain c = gain_natural
