use Rattle.std.proofs.Common.{sym}
use Rattle.script_engines.proofs.FormLemmas.{four_none, if_none}
use Rattle.script_engines.proofs.line.read_place.Goals as goal

pub returns-in_err-column-clause-none : goal.returns-in_err-column-clause-none
returns-in_err-column-clause-none c =
    if_none c.from_residual-in_err-column.result c.from_residual-in_err-column.ensures
    (four_none c.args.text.now c.in_ok-timestamp.timestamp.now c.in_ok-timestamp.rest.now
    c.in_ok-row.row.now c.in_ok-row.rest.now
    (sym c.in_ok-timestamp.ensures.parts) (sym c.in_ok-row.ensures.parts)
    c.in_err-column.ensures.none)
