use Rattle.std.proofs.Common.{◌≡◌, ℕ, List, get_or, map, ap, ◌∙◌}
use Rattle.std.specs.List.{range_with_len}
use Rattle.st_format.specs.Position.{component_in_row}
use Rattle.frame_assembly.proofs.settling.base_pattern.Goals as goal

pub returns-in-Fill : goal.returns-in-Fill
returns-in-Fill g c = λ fill is.
    let same : c.in-Fill.fill ≡ fill = cc (c.in-Fill.is, is) in
    c.fill_pattern.ensures
    ∙ ap (λ (xs : List ℕ). map (λ k. get_or xs (component_in_row c.args.sampling k) 0)
    (range_with_len 0 768)) same
