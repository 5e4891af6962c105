use Rattle.script_engines.proofs.FormLemmas.{if_none}
use Rattle.script_engines.proofs.RehearsalLemmas.{number_none}
use Rattle.script_engines.proofs.rehearsal_line.read_number_line.Goals as goal

pub returns-in_err-number-clause-none : goal.returns-in_err-number-clause-none
returns-in_err-number-clause-none c =
    if_none c.from_residual-in_err-number.result c.from_residual-in_err-number.ensures
    (number_none c.args.word.now c.args.text.now c.in_ok-rest.rest.now c.in_ok-rest.ensures.cases
    c.in_err-number.ensures.value)
