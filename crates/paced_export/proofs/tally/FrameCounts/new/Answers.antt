use Rattle.std.proofs.Common.{arith, refl}
use Rattle.std.proofs.lemmas.Grind.{common_steps}
use Rattle.paced_export.proofs.CountLemmas.{counts_none}
use Rattle.paced_export.proofs.tally.FrameCounts.new.Goals as goal

pub returns : goal.returns
returns g c =
    counts_none _ refl (λ ts. grind (arith, common_steps)) (λ ts. grind (arith, common_steps))
