use Rattle.std.proofs.Common.{[], drop, subst, ℕ}
use Rattle.run_outcome.specs.Moments.{WasRead}
use Rattle.run_outcome.proofs.Printed.{on_err, on_ok, whenever}
use Rattle.st_format.specs.Device.{Failed}
use Rattle.capture_engines.specs.SentPart.{StopsBehind}
use Rattle.capture_engines.proofs.SentParts.{each_stopped, first_ended}
use Rattle.capture_engines.proofs.sending.send_each.Goals as goal

pub returns-clause-sent : goal.returns-clause-sent
returns-clause-sent g c =
    on_ok c.send_rest.result _ _
    (λ rest. record {
      between = c.send.new.self;
      sent = c.in_ok-send.ensures.sent;
      rest = rest;
    }) c.send_rest.ensures.sent

pub returns-in_err-send-clause-part : goal.returns-in_err-send-clause-part
returns-in_err-send-clause-part g c =
    let told = WasRead g.S.ByteSource.gave g.S.ByteSource.ended in
    whenever c.from_residual.result _
    (first_ended told g.K.ByteSink.took g.K.ByteSink.failures _ c.args.picture
    (drop 1 c.args.pictures.now) c.args.sender.now c.send.new.self c.in_err-send.field-0.0
    (λ fails. fails) c.requires.alike c.in_err-send.ensures.refusal c.in_err-send.ensures.part)

pub returns-clause-part : goal.returns-clause-part
returns-clause-part g c =
    let told = WasRead g.S.ByteSource.gave g.S.ByteSource.ended in
    let took = g.K.ByteSink.took in
    let failed = g.K.ByteSink.failures in
    let pictures = c.args.pictures.now in
    let between = c.send.new.self in
    let new = c.send_rest.new.sender in
    on_err c.send_rest.result _ _
    (λ rest. each_stopped told took _ c.args.picture (drop 1 pictures)
    (drop 1 c.send_rest.new.pictures) c.args.sender.now between new c.in_ok-send.ensures.sent
    (subst (λ (n : ℕ). StopsBehind told took (Failed n (failed new.writer.sink)) 1 []
    (drop 1 pictures) (drop 1 c.send_rest.new.pictures) between new)
    c.in_ok-send.ensures.failures rest)) c.send_rest.ensures.part
