use Rattle.script_engines.proofs.FormLemmas.{if_none}
use Rattle.script_engines.proofs.RehearsalLemmas.{arrive_none, merge_none, slide_none}
use Rattle.script_engines.proofs.rehearsal_line.read_event.Goals as goal

pub returns-in_err-to-clause-none : goal.returns-in_err-to-clause-none
returns-in_err-to-clause-none c =
    if_none c.from_residual.result c.from_residual.ensures
    (arrive_none c.args.text.now c.in-Some.rest.now c.in-Some.ensures.cases
    c.in_err-to.ensures.none)

pub returns-in_err-at-clause-none : goal.returns-in_err-at-clause-none
returns-in_err-at-clause-none c =
    if_none c.from_residual-in_err-at.result c.from_residual-in_err-at.ensures
    (slide_none c.args.text.now c.in-Some-after_word.rest.now c.in-Some-after_word.ensures.cases
    c.in_err-at.ensures.none)

pub returns-in_err-into-clause-none : goal.returns-in_err-into-clause-none
returns-in_err-into-clause-none c =
    if_none c.from_residual-in_err-into.result c.from_residual-in_err-into.ensures
    (merge_none c.args.text.now c.in_ok-rest.rest.now c.in_ok-rest.ensures.cases
    c.in_err-into.ensures.none)
