use Rattle.std.proofs.Common.{subst}
use Rattle.st_format.specs.Raster.{Raster}
use Rattle.frame_assembly.specs.Patterns.{IsPatternOf}
use Rattle.frame_assembly.proofs.frame.Frame.base_pattern.Goals as goal

pub returns : goal.returns
returns g c =
    subst (λ (q : Raster). IsPatternOf c.args.base q.format.sampling c.base_pattern.new.pattern)
    c.self.view_is c.base_pattern.ensures
