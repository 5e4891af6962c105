use Rattle.std.proofs.Common.{arith, subst, sym, take}
use Rattle.std.proofs.lemmas.List.{length-take}
use Rattle.run_outcome.specs.Refusing.{OfRefusal}
use Rattle.run_outcome.specs.declared.fault.Fault.{Fault}
use Rattle.st_format.specs.History.{IsRead}
use Rattle.capture_engines.specs.Received.{IsCaptureFrontRefusal}
use Rattle.capture_engines.proofs.Untaken.{long_refused, short_refused}
use Rattle.capture_engines.proofs.way.no_capture.Goals as goal

pub returns-in-Ok-clause-refusal : goal.returns-in-Ok-clause-refusal
returns-in-Ok-clause-refusal g c = λ before four are.
    let told = g.S.ByteSource in
    let old = told.gave c.args.source.now in
    let new = told.gave c.read_whole.new.source in
    let ended = told.ended c.read_whole.new.source in
    let e = c.in-Ok.ensures in
    let buf = c.read_whole.new.buf in
    subst (λ (f : Fault). OfRefusal f (IsCaptureFrontRefusal (IsRead before new ended)))
    (sym c.of_capture.ensures)
    (short_refused before old new (take c.in-Ok.count buf) ended four e.gave
    (omega (arith, length-take c.in-Ok.count buf, c.if-count-lt4.true))
    (e.ended (omega (arith, e.room, c.if-count-lt4.true))))

pub returns-in-Ok-2-clause-refusal : goal.returns-in-Ok-2-clause-refusal
returns-in-Ok-2-clause-refusal g c = λ before four are.
    let told = g.S.ByteSource in
    let old = told.gave c.args.source.now in
    let new = told.gave c.read_whole.new.source in
    let ended = told.ended c.read_whole.new.source in
    let e = c.in-Ok.ensures in
    let buf = c.read_whole.new.buf in
    subst (λ (f : Fault). OfRefusal f (IsCaptureFrontRefusal (IsRead before new ended)))
    (sym c.of_capture-in-Ok-2.ensures)
    (long_refused before old new (take c.in-Ok.count buf) (told.ended c.args.source.now) ended
    four are e.gave
    (omega (arith, length-take c.in-Ok.count buf, c.if-count-lt4.false, e.within, e.room)))
