use Rattle.std.proofs.Common.{◌≡◌, ℕ, ◌*◌, ap, sym, ◌∙◌}
use Rattle.st_format.specs.declared.format.Format.{Format}
use Rattle.st_format.specs.Pgroup.{pixel_group}
use Rattle.st_format.specs.Position.{row_groups}
use Rattle.frame_assembly.proofs.Segments.{sample_count_groups}
use Rattle.settled_forms.proofs.settled.settle_all.Goals as goal

pub settle_groups-requires-clause-room : goal.settle_groups-requires-clause-room
settle_groups-requires-clause-room g c =
    let f : Format = c.args.frame.now.format in
    let s : ℕ = (pixel_group f.sampling f.depth).samples in
    let wide : ℕ = c.row_groups.result in
    let h : c.height.result ≡ f.height =
    c.height.ensures ∙ ap (λ (x : Format). x.height) c.format-format.ensures.format in
    let w : wide ≡ row_groups f =
    c.row_groups.ensures.value ∙ ap row_groups c.format-format.ensures.format in
    c.requires.room ∙ sym (sample_count_groups f)
    ∙ ap (λ (n : ℕ). s * (f.height * n)) (sym w)
    ∙ ap (λ (n : ℕ). s * (n * wide)) (sym h)
