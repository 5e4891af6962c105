use Rattle.std.proofs.Common.{◌≡◌, ◌++◌, ◌∷◌, [], ◌∙◌, ap, List, subst, take, ℕ}
use Rattle.st_format.specs.declared.device.Turn.{Turn}
use Rattle.st_format.specs.Turns.{arrived}
use Rattle.capture_engines.proofs.Passing.{one_came, still_came}
use Rattle.capture_engines.proofs.looping.pass_one.Goals as goal

pub returns-in-Ok-Datagram-clause-put : goal.returns-in-Ok-Datagram-clause-put
returns-in-Ok-Datagram-clause-put g c =
    let took = g.L.DatagramSink.took in
    c.turn.ensures.took ∙ c.in-Ok.ensures.took
    ∙ ap (λ (d : List ℕ). took c.args.link.now ++ d ∷ []) c.datagram-count.ensures.text

pub returns-in-Ok-Datagram-clause-came : goal.returns-in-Ok-Datagram-clause-came
returns-in-Ok-Datagram-clause-came g c = λ turns before first came.
    let w = c.in-Ok-Datagram in
    let link = g.L.DatagramSource.came in
    let more =
    subst (λ (t : Turn). link c.turn.new.self ≡ link c.send.new.self ++ arrived t c.turn.new.buf)
    w.field-0-is w.ensures.came in
    one_came turns before w.path (take w.length c.turn.new.buf) first (link c.args.link.now)
    (link c.turn.new.self) c.args.receiver.now c.take.new.self
    (more
    ∙ ap (λ came. came ++ (w.path, take w.length c.turn.new.buf) ∷ []) c.send.ensures.came)
    c.take.ensures.holds came

pub returns-in-Ok-Quiet-clause-put : goal.returns-in-Ok-Quiet-clause-put
returns-in-Ok-Quiet-clause-put g c =
    let took = g.L.DatagramSink.took in
    c.turn.ensures.took ∙ c.in-Ok.ensures.took
    ∙ ap (λ (d : List ℕ). took c.args.link.now ++ d ∷ []) c.datagram-count.ensures.text

pub returns-in-Ok-Quiet-clause-came : goal.returns-in-Ok-Quiet-clause-came
returns-in-Ok-Quiet-clause-came g c = λ turns before first came.
    let w = c.in-Ok-Quiet in
    let link = g.L.DatagramSource.came in
    let none =
    subst (λ (t : Turn). link c.turn.new.self ≡ link c.send.new.self ++ arrived t c.turn.new.buf)
    w.field-0-is w.ensures.came in
    still_came turns before first (link c.args.link.now) (link c.turn.new.self)
    c.args.receiver.now (none ∙ ap (λ came. came ++ []) c.send.ensures.came) came

pub returns-in-Ok-End-clause-put : goal.returns-in-Ok-End-clause-put
returns-in-Ok-End-clause-put g c =
    let took = g.L.DatagramSink.took in
    c.turn.ensures.took ∙ c.in-Ok.ensures.took
    ∙ ap (λ (d : List ℕ). took c.args.link.now ++ d ∷ []) c.datagram-count.ensures.text

pub returns-in-Ok-End-clause-came : goal.returns-in-Ok-End-clause-came
returns-in-Ok-End-clause-came g c = λ turns before first came.
    let w = c.in-Ok-End in
    let link = g.L.DatagramSource.came in
    let none =
    subst (λ (t : Turn). link c.turn.new.self ≡ link c.send.new.self ++ arrived t c.turn.new.buf)
    w.field-0-is w.ensures.came in
    still_came turns before first (link c.args.link.now) (link c.turn.new.self)
    c.args.receiver.now (none ∙ ap (λ came. came ++ []) c.send.ensures.came) came
