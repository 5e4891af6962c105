use Rattle.script_engines.proofs.FormLemmas.{cell_none, if_none, numbers_none}
use Rattle.script_engines.proofs.line.read_trace_line.Goals as goal

pub returns-in_err-first-clause-none : goal.returns-in_err-first-clause-none
returns-in_err-first-clause-none c =
    if_none c.from_residual-in_err-first.result c.from_residual-in_err-first.ensures
    (numbers_none c.args.text.now c.in-Some-after_word-3.rest.now
    c.in-Some-after_word-3.ensures.cases c.in_err-first.ensures.none)

pub returns-in_err-read_place-clause-none : goal.returns-in_err-read_place-clause-none
returns-in_err-read_place-clause-none c =
    if_none c.from_residual-in_err-read_place.result c.from_residual-in_err-read_place.ensures
    (cell_none c.args.text.now c.in_ok-rest.rest.now c.in_ok-rest.ensures.cases
    c.in_err-read_place.ensures.none)
