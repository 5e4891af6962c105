use Rattle.script_engines.proofs.FormLemmas.{if_none_map, if_some_map, open_none}
use Rattle.script_engines.proofs.line.read_open_line.Goals as goal

pub returns-clause-is : goal.returns-clause-is
returns-clause-is c =
    if_some_map c.read_opening.result (λ o fields.
    record {
      rest = c.in_ok-rest.rest.now;
      text_is = c.in_ok-rest.ensures.cases;
      fields = fields;
    }) c.read_opening.ensures.is

pub returns-clause-none : goal.returns-clause-none
returns-clause-none c =
    if_none_map c.read_opening.result
    (open_none c.args.text.now c.in_ok-rest.rest.now c.in_ok-rest.ensures.cases)
    c.read_opening.ensures.none
