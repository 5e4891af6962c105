use Rattle.std.proofs.Common.{◌≡◌, ◌+◌, ◌*◌, ◌∙◌, ℕ, ap, arith, drop, replicate, sym}
use Rattle.st_format.specs.declared.cell.Cell.TheVariants.{Missing}
use Rattle.st_format.specs.declared.format.Format.{Format}
use Rattle.st_format.specs.Position.{group_count, sample_count}
use Rattle.st_format.specs.Raster.{Raster}
use Rattle.frame_assembly.proofs.Segments.{sample_count_groups}
use Rattle.receiver_file.specs.Known.{shape_in}
use Rattle.receiver_file.proofs.filling.read_rows.Goals as goal

pub fill-requires-clause-blank : goal.fill-requires-clause-blank
fill-requires-clause-blank g c = λ d e.
    let f : Format = c.format-format.result in
    let s = shape_in f in
    let was : Format = c.args.frame.now.format in
    let none : s.samples * 0 ≡ 0 = omega arith in
    let same : f ≡ was = c.format-format.ensures.format in
    let all : c.height.result * c.row_groups.result ≡ group_count f =
    ap (λ (k : ℕ). k * c.row_groups.result) c.height.ensures
    ∙ ap (λ (k : ℕ). f.height * k) c.row_groups.ensures.value in
    let many : d ≡ group_count f = (let z : 0 + d ≡ d = omega arith in sym z ∙ e ∙ all) in
    let cells : c.args.frame.now.cells ≡ replicate (sample_count was) Missing =
    ap (λ (r : Raster). r.cells) c.requires.blank in
    ap (λ (k : ℕ). drop k c.args.frame.now.cells) none ∙ cells
    ∙ ap (λ (h : Format). replicate (sample_count h) Missing) (sym same)
    ∙ ap (λ (k : ℕ). replicate k Missing)
    (sym (sample_count_groups f) ∙ ap (λ (k : ℕ). s.samples * k) (sym many))
