use Rattle.settled_forms.proofs.Rows.{row_has_values}
use Rattle.settled_forms.proofs.plane_source.has_values.Goals as goal

pub returns : goal.returns
returns g c = λ yes.
    row_has_values c.args.frame.now c.args.row c.marks.result.now c.facts.ensures.whole c.requires
    c.marks.ensures.long c.marks.ensures.states (c.are_whole.ensures yes)
