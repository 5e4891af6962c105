use Rattle.script_engines.proofs.FormLemmas.{format_none, if_none_map, if_some_map}
use Rattle.script_engines.proofs.line.read_format_line.Goals as goal

pub returns-clause-is : goal.returns-clause-is
returns-clause-is c =
    if_some_map c.read_format_fields.result (λ f fields.
    record {
      rest = c.in_ok-rest.rest.now;
      text_is = c.in_ok-rest.ensures.cases;
      fields = fields;
    }) c.read_format_fields.ensures.is

pub returns-clause-none : goal.returns-clause-none
returns-clause-none c =
    if_none_map c.read_format_fields.result
    (format_none c.args.text.now c.in_ok-rest.rest.now c.in_ok-rest.ensures.cases)
    c.read_format_fields.ensures.none
