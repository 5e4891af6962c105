use Rattle.std.proofs.Common.{◌≡◌, ℕ, List, sym, ap, ◌∙◌, subst}
use Rattle.st_format.specs.declared.cell.Cell.{Cell}
use Rattle.st_format.specs.Picture.{IsPicture}
use Rattle.st_format.specs.Raster.{Raster}
use Rattle.st_format.proofs.PictureLemmas.{values}
use Rattle.frame_assembly.specs.Packed.{cells_in}
use Rattle.frame_assembly.specs.Settled.{IsBaseOf, settled_picture}
use Rattle.frame_assembly.proofs.Kept.{frame_view}
use Rattle.frame_assembly.proofs.SettledLemmas.{settled-is_picture, settled_as}
use Rattle.frame_assembly.proofs.frame.Frame.settle.Goals as goal

pub from_samples-requires : goal.from_samples-requires
from_samples-requires g c =
    let items : List Cell =
    cells_in c.self.inside.format c.self.inside.marks.items c.self.inside.octets.items in
    let lent : List Cell =
    cells_in c.self.inside.format c.as_slice.result.now c.as_slice-2.result.now in
    let same : lent ≡ items =
    ap (λ
    (ms : List ℕ). cells_in c.self.inside.format ms c.as_slice-2.result.now)
    c.as_slice.ensures.value
    ∙ ap (cells_in c.self.inside.format c.self.inside.marks.items) c.as_slice-2.ensures.value in
    let r : Raster = frame_view c.self.inside.format items in
    let is_base : IsBaseOf c.args.base c.self.inside.format =
    subst (λ (q : Raster). IsBaseOf c.args.base q.format) (sym c.self.view_is) c.requires in
    subst (λ (xs : List ℕ). IsPicture (values c.self.inside.format xs))
    (sym (settled_as c.self.inside.format items lent c.in_ok-samples.samples.items c.args.base
    is_base c.self.invariant.frame.whole same c.in_ok-samples.ensures.settled))
    (settled-is_picture r c.args.base c.self.invariant.frame is_base c.in_ok-samples.ensures.held)

pub returns-clause-settled : goal.returns-clause-settled
returns-clause-settled g c =
    let items : List Cell =
    cells_in c.self.inside.format c.self.inside.marks.items c.self.inside.octets.items in
    let lent : List Cell =
    cells_in c.self.inside.format c.as_slice.result.now c.as_slice-2.result.now in
    let same : lent ≡ items =
    ap (λ
    (ms : List ℕ). cells_in c.self.inside.format ms c.as_slice-2.result.now)
    c.as_slice.ensures.value
    ∙ ap (cells_in c.self.inside.format c.self.inside.marks.items) c.as_slice-2.ensures.value in
    let is_base : IsBaseOf c.args.base c.self.inside.format =
    subst (λ (q : Raster). IsBaseOf c.args.base q.format) (sym c.self.view_is) c.requires in
    c.from_samples.ensures.value
    ∙ ap (values c.self.inside.format)
    (settled_as c.self.inside.format items lent c.in_ok-samples.samples.items c.args.base
    is_base c.self.invariant.frame.whole same c.in_ok-samples.ensures.settled)
    ∙ ap (λ (q : Raster). settled_picture q c.args.base) c.self.view_is
