use Rattle.follow_engine.proofs.Grows.{grows_first, grows_part, grows_then}
use Rattle.follow_engine.specs.Shown.{GrowsSome}
use Rattle.frame_sinks.specs.Pictures.{head_for, picture_of}
use Rattle.picture_forms.specs.Layouts.{frame_text}
use Rattle.run_outcome.proofs.Printed.{on_err, on_ok}
use Rattle.st_format.proofs.Gave.{grew_twice}
use Rattle.st_format.specs.Device.{GrowsPart}
use Rattle.std.proofs.Common.{◌≡◌, ◌++◌, None}
use Rattle.std.proofs.lemmas.Result.{err_from_is_err_and}
use Rattle.frame_sinks.proofs.writing.write_next_planes.Goals as goal

pub returns-clause-written : goal.returns-clause-written
returns-clause-written g c =
    let took = g.K.ByteSink.took in
    let head = head_for c.args.begun c.args.frame.now.format in
    let text = frame_text (picture_of c.args.fill None c.args.frame.now) in
    let old = took c.args.sink.now in
    let mid = took c.write_head.new.sink in
    let new = took c.write_filled.new.sink in
    on_ok c.write_filled.result (new ≡ mid ++ text) (new ≡ old ++ (head ++ text))
    (λ is. grew_twice old mid new head text
    (rw c.format-format.ensures.format at c.in_ok-write_head.ensures.written) is)
    c.write_filled.ensures.written

pub returns-clause-part : goal.returns-clause-part
returns-clause-part g c =
    let took = g.K.ByteSink.took in
    let head = head_for c.args.begun c.args.frame.now.format in
    let text = frame_text (picture_of c.args.fill None c.args.frame.now) in
    let old = took c.args.sink.now in
    let mid = took c.write_head.new.sink in
    let new = took c.write_filled.new.sink in
    on_err c.write_filled.result (GrowsPart mid new text) (GrowsSome old new (head ++ text))
    (λ is. grows_then old mid new head text
    (rw c.format-format.ensures.format at c.in_ok-write_head.ensures.written)
    (grows_part mid new text is)) c.write_filled.ensures.part

pub returns-in_err-write_head-clause-part : goal.returns-in_err-write_head-clause-part
returns-in_err-write_head-clause-part g c =
    let p = err_from_is_err_and c.from_residual.result c.from_residual.ensures.1 in
    let took = g.K.ByteSink.took in
    rw (p.1)
    (grows_first (took c.args.sink.now) (took c.write_head.new.sink)
    (head_for c.args.begun c.args.frame.now.format)
    (frame_text (picture_of c.args.fill None c.args.frame.now))
    (rw c.format-format.ensures.format at c.in_err-write_head.ensures.part))
