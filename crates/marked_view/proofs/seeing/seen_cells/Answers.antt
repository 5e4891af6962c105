use Rattle.std.proofs.Common.{sym, ◌∙◌}
use Rattle.marked_view.proofs.Seen.{value_shown}
use Rattle.marked_view.proofs.seeing.seen_cells.Goals as goal

pub returns-in-Value-Value-Value : goal.returns-in-Value-Value-Value
returns-in-Value-Value-Value c =
    let v = c.in-Value-Value-Value in
    rw (v.is-0, v.is-1, v.is-2)
    (c.shown.ensures ∙ sym (value_shown c.args.sampling c.args.depth v.x v.y v.z))
