use Rattle.std.proofs.Common.{Some, true, arith, refl}
use Rattle.std.proofs.lemmas.Result.{on_err_weaker}
use Rattle.media_file.specs.Writer.{WriterPlace}
use Rattle.st_format.specs.History.{since}
use Rattle.st_format.proofs.Histories.{grew_more, since_more}
use Rattle.media_file.proofs.Told.{takes_one, keeps_all, on_err, prefix_since, stands_behind}
use Rattle.media_file.proofs.Told.{stands_failed}
use Rattle.media_file.proofs.writer.CaptureWriterDatagramSink.put.Goals as goal

pub returns-in-Ok-clause-taken : goal.returns-in-Ok-clause-taken
returns-in-Ok-clause-taken g c =
    let w = c.self.inside in
    let p : WriterPlace =
    record { paths = w.paths; text_len = w.text_len; moment = w.moment; failed = w.failed } in
    rw (← c.self.view_is, c.width.ensures)
    (takes_one p _ _ c.args.octets.now c.if-self.false c.self.invariant.0
    (omega (arith, c.requires)) c.self.invariant.1 c.in-Ok.ensures.ok)

pub returns-in-Err-clause-fault : goal.returns-in-Err-clause-fault
returns-in-Err-clause-fault g c =
    let w = c.self.inside in
    let p : WriterPlace =
    record { paths = w.paths; text_len = w.text_len; moment = w.moment; failed = w.failed } in
    rw (← c.self.view_is, c.fail-in-Err.ensures.place, c.fail-in-Err.ensures.sink)
    (on_err_weaker c.fail-in-Err.result
    (λ _. keeps_all p _ _ c.args.octets.now c.if-self.false c.self.invariant.0
    (omega (arith, c.requires)) c.self.invariant.1 c.in-Err.ensures.fault)
    (on_err c.fail-in-Err.result))

pub invariant_of-self : goal.invariant_of-self
invariant_of-self g c =
    let w = c.self.inside in
    let p : WriterPlace =
    record { paths = w.paths; text_len = w.text_len; moment = w.moment; failed = w.failed } in
    rw c.width.ensures (
      omega arith,
      stands_behind p _ _ c.args.octets.now c.if-self.false
          (omega (arith, c.requires)) c.self.invariant.1 c.in-Ok.ensures.untold c.in-Ok.ensures.ok,
      grew_more _ _ _ _ c.self.invariant.2 c.in-Ok.ensures.took,
      stands_behind p (Some _) (Some _) c.args.octets.now c.if-self.false
          (omega (arith, c.requires)) c.self.invariant.3 tt
          (since_more _ _ _ _ c.self.invariant.2 c.in-Ok.ensures.took),
    )

pub invariant_of-self-in-Err : goal.invariant_of-self-in-Err
invariant_of-self-in-Err g c =
    let w = c.self.inside in
    let p : WriterPlace =
    record { paths = w.paths; text_len = w.text_len; moment = w.moment; failed = true } in
    let sink = c.write_datagram.new.sink in (
      c.self.invariant.0,
      stands_failed p (g.K.ByteSink.held sink) refl,
      grew_more _ _ _ _ c.self.invariant.2 c.in-Err.ensures.part.grown,
      stands_failed p
          (Some (since (g.K.ByteSink.took w.opened.value) (g.K.ByteSink.took sink))) refl,
    )

pub returns-in-Ok-clause-took : goal.returns-in-Ok-clause-took
returns-in-Ok-clause-took g c =
    let w = c.self.inside in
    let p : WriterPlace =
    record { paths = w.paths; text_len = w.text_len; moment = w.moment; failed = w.failed } in
    rw (← c.self.view_is)
    (takes_one p (Some _) (Some _) c.args.octets.now c.if-self.false c.self.invariant.0
    (omega (arith, c.requires)) c.self.invariant.3
    (since_more _ _ _ _ c.self.invariant.2 c.in-Ok.ensures.took))

pub returns-in-Err-clause-kept : goal.returns-in-Err-clause-kept
returns-in-Err-clause-kept g c =
    let w = c.self.inside in
    let p : WriterPlace =
    record { paths = w.paths; text_len = w.text_len; moment = w.moment; failed = w.failed } in
    rw (
      ← c.self.view_is,
      c.fail-in-Err.ensures.place,
      c.fail-in-Err.ensures.sink,
      c.fail-in-Err.ensures.before,
    )
    (on_err_weaker c.fail-in-Err.result
    (λ _. keeps_all p (Some _) (Some _) c.args.octets.now c.if-self.false c.self.invariant.0
    (omega (arith, c.requires)) c.self.invariant.3
    (prefix_since _ _ _ _ c.self.invariant.2 c.in-Err.ensures.part))
    (on_err c.fail-in-Err.result))
