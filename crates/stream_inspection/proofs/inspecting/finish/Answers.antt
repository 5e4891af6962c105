use Rattle.std.proofs.Common.{◌∙◌, ◌++◌, List, ap}
use Rattle.stream_inspection.proofs.Told.{end_refused}
use Rattle.stream_inspection.proofs.inspecting.finish.Goals as goal

pub returns-clause-refusal : goal.returns-clause-refusal
returns-clause-refusal g c =
    rw c.of_reading.ensures
    (end_refused c.args.form c.args.target.now c.args.inspection.now c.in-Some.fault c.args.end _ _
    c.in-Some.is
    (record {
      text = c.in-Ok.text.items;
      is = c.in-Ok.ensures;
      printed = c.in-Ok-write_whole.ensures.took
          ∙ ap (λ (l : List _). g.O.ByteSink.took c.args.output.now ++ l) c.deref.ensures.value;
    }))
