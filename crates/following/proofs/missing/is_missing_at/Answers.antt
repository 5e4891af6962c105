use Rattle.std.proofs.Common.{ap, sym, ◌∙◌, subst}
use Rattle.st_format.specs.declared.format.Format.{Format}
use Rattle.st_format.specs.Cell.{is_missing}
use Rattle.st_format.specs.Position.{IsPosition, Position}
use Rattle.following.proofs.Lacking.{lacking}
use Rattle.following.proofs.missing.is_missing_at.Goals as goal

pub returns : goal.returns
returns g c missing =
    let at : Position =
    record { row = c.args.row; column = c.args.column; component = 0 } in
    lacking c.args.frame.now at c.cell.ensures.whole
    (subst (λ (f : Format). IsPosition at f) c.format.ensures.format
    (c.has_position.ensures.0 c.if-not-has_position.false))
    (ap is_missing (sym c.cell.ensures.cell) ∙ sym c.is_missing.ensures ∙ missing)
