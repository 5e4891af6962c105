use Rattle.std.proofs.Common.{◌≡◌, ◌++◌, ℕ, List, OnOk, subst}
use Rattle.follow_engine.proofs.Grows.{grows_part}
use Rattle.follow_engine.specs.Shown.{GrowsSome}
use Rattle.frame_sinks.proofs.Written.{head_due, no_head}
use Rattle.frame_sinks.specs.Pictures.{form_head, head_for}
use Rattle.run_outcome.proofs.Printed.{on_err}
use Rattle.st_format.specs.Device.{GrowsPart}
use Rattle.frame_sinks.proofs.writing.write_head.Goals as goal

pub returns-then-is_of-clause-written : goal.returns-then-is_of-clause-written
returns-then-is_of-clause-written g c =
    no_head c.args.begun c.args.format.now c.is_of.result (g.K.ByteSink.took c.args.sink.now)
    c.is_of.ensures c.if-is_of.true

pub returns-else-is_of-clause-written : goal.returns-else-is_of-clause-written
returns-else-is_of-clause-written g c =
    let took = g.K.ByteSink.took in
    subst (λ (t : List ℕ). OnOk c.write_form_head.result
    (took c.write_form_head.new.sink ≡ took c.args.sink.now ++ t))
    (head_due c.args.begun c.args.format.now c.is_of.result c.is_of.ensures c.if-is_of.false)
    c.write_form_head.ensures.written

pub returns-else-is_of-clause-part : goal.returns-else-is_of-clause-part
returns-else-is_of-clause-part g c =
    let took = g.K.ByteSink.took in
    let old = took c.args.sink.now in
    let new = took c.write_form_head.new.sink in
    on_err c.write_form_head.result (GrowsPart old new (form_head c.args.format.now))
    (GrowsSome old new (head_for c.args.begun c.args.format.now))
    (λ is. subst (λ (t : List ℕ). GrowsSome old new t)
    (head_due c.args.begun c.args.format.now c.is_of.result c.is_of.ensures c.if-is_of.false)
    (grows_part old new (form_head c.args.format.now) is)) c.write_form_head.ensures.part
