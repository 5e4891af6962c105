use Rattle.std.proofs.Common.{sym, subst}
use Rattle.st_format.specs.Picture.{IsPicture}
use Rattle.st_format.specs.Raster.{Raster}
use Rattle.frame_assembly.specs.Settled.{IsBaseOf, settled_picture}
use Rattle.frame_assembly.proofs.SettledLemmas.{settled-is_picture}
use Rattle.frame_assembly.proofs.frame.Frame.settled_facts.Goals as goal

pub returns : goal.returns
returns g c =
    subst (λ (q : Raster). IsPicture (settled_picture q c.args.base)) c.self.view_is
    (settled-is_picture _ c.args.base c.self.invariant.frame
    (subst (λ (q : Raster). IsBaseOf c.args.base q.format) (sym c.self.view_is) c.requires)
    c.base_facts.ensures)
