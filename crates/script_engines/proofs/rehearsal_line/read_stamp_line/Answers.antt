use Rattle.script_engines.proofs.FormLemmas.{if_none_map}
use Rattle.script_engines.proofs.RehearsalLemmas.{stamp_none}
use Rattle.script_engines.proofs.rehearsal_line.read_stamp_line.Goals as goal

pub returns-clause-none : goal.returns-clause-none
returns-clause-none c =
    if_none_map c.read_stamp.result
    (stamp_none c.args.text.now c.in_ok-rest.rest.now c.in_ok-rest.ensures.cases)
    c.read_stamp.ensures.none
