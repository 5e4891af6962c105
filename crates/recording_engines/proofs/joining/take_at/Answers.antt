use Rattle.std.proofs.Common.{List, ap, inl, inr}
use Rattle.std.proofs.lemmas.Result.{err_from_is_err_and}
use Rattle.std.specs.List.{sum_by}
use Rattle.run_outcome.proofs.SetSums.{set_counted}
use Rattle.recording_engines.specs.Files.{begun_of, failures_by}
use Rattle.recording_engines.specs.declared.file.ImportFile.{ImportFile}
use Rattle.recording_engines.proofs.Blames.{blames_first, blames_second}
use Rattle.recording_engines.proofs.FileFaults.{of_each}
use Rattle.recording_engines.proofs.Taken.{at_set, led_reading, map_set, set_same}
use Rattle.run_outcome.proofs.Printed.{whenever}
use Rattle.recording_engines.proofs.Stopped.{cut_at, failed_alone, left_at}
use Rattle.recording_engines.proofs.Written.{stops_at, takes_at}
use Rattle.recording_engines.proofs.joining.take_at.Goals as goal

pub go_on-requires : goal.go_on-requires
go_on-requires g c =
    led_reading c.args.place c.requires.led.0 c.args.files.now c.index-files-place.result
    c.requires.ready c.requires.led.1

pub returns-in_err-write_next-clause-failures : goal.returns-in_err-write_next-clause-failures
returns-in_err-write_next-clause-failures g c =
    let failures = failures_by g.S.ByteSource.failures in
    let fault = c.in_err-write_next.field-0.0 in
    let p = err_from_is_err_and c.from_residual.result c.from_residual.ensures.1 in
    rw (p.1, p.2)
    (blames_second fault _ _ _ _
    (ap (λ (fs : List (ImportFile _ _)). sum_by failures fs)
    (set_same c.args.files.now c.args.place c.index-files-place.result))
    c.in_err-write_next.ensures.failures)

pub returns-in_err-go_on-clause-begun : goal.returns-in_err-go_on-clause-begun
returns-in_err-go_on-clause-begun g c =
    map_set begun_of c.args.files.now c.args.place c.index-files-place.result c.go_on.new.self
    c.requires.place c.go_on.ensures.begun

pub returns-in_err-go_on-clause-stopped : goal.returns-in_err-go_on-clause-stopped
returns-in_err-go_on-clause-stopped g c =
    let took = g.K.ByteSink.took in
    let fault = c.in_err-go_on.field-0.0 in
    let p =
    err_from_is_err_and c.from_residual-in_err-go_on.result
    c.from_residual-in_err-go_on.ensures.1 in
    rw (p.1, p.2)
    (of_each _ fault (λ r told. stops_at c.args.files.now c.args.place c.requires.led.0
    c.index-files-place.result c.go_on.new.self fault r (took c.args.capture.now)
    (took c.write_next.new.capture) c.args.written.now c.write_next.new.written c.requires.place
    c.requires.ready c.requires.led.1 c.in_ok-write_next.ensures.written
    c.in_err-go_on.ensures.stopped told))

pub returns-in_err-go_on-clause-failures : goal.returns-in_err-go_on-clause-failures
returns-in_err-go_on-clause-failures g c =
    let failures = failures_by g.S.ByteSource.failures in
    let fault = c.in_err-go_on.field-0.0 in
    let p =
    err_from_is_err_and c.from_residual-in_err-go_on.result
    c.from_residual-in_err-go_on.ensures.1 in
    let counted =
    set_counted failures c.args.files.now c.args.place c.index-files-place.result c.go_on.new.self
    c.go_on.result c.requires.place c.go_on.ensures.failures in
    rw (p.1, p.2)
    (blames_first fault _ _ _ _ (rw c.in_err-go_on.was at counted)
    c.in_ok-write_next.ensures.failures)

pub returns-clause-begun : goal.returns-clause-begun
returns-clause-begun g c =
    map_set begun_of c.args.files.now c.args.place c.index-files-place.result c.go_on.new.self
    c.requires.place c.go_on.ensures.begun

pub returns-clause-taken : goal.returns-clause-taken
returns-clause-taken g c =
    let took = g.K.ByteSink.took in
    takes_at c.args.files.now c.args.place c.requires.led.0 c.index-files-place.result
    c.go_on.new.self (took c.args.capture.now) (took c.write_next.new.capture) c.args.written.now
    c.write_next.new.written c.requires.ready c.requires.led.1 c.in_ok-write_next.ensures.written
    c.in_ok-go_on.ensures.read

pub returns-in_err-write_next-clause-only : goal.returns-in_err-write_next-clause-only
returns-in_err-write_next-clause-only g c =
    let p = err_from_is_err_and c.from_residual.result c.from_residual.ensures.1 in
    rw (p.1, p.2) (inl c.in_err-write_next.ensures.device)

pub returns-in_err-go_on-clause-only : goal.returns-in_err-go_on-clause-only
returns-in_err-go_on-clause-only g c =
    let stops = c.in_err-go_on.ensures.stopped in
    let p =
    err_from_is_err_and c.from_residual-in_err-go_on.result
    c.from_residual-in_err-go_on.ensures.1 in
    rw (p.1, p.2) (inr (
      stops.reading,
      stops.told,
      at_set stops.reading c.args.place c.args.files.now c.go_on.new.self c.requires.place
          c.requires.ready stops.at,
    ))

pub returns-in_err-write_next-clause-part : goal.returns-in_err-write_next-clause-part
returns-in_err-write_next-clause-part g c =
    let took = g.K.ByteSink.took in
    whenever c.from_residual.result _
    (cut_at _ c.args.files.now c.args.place c.requires.led.0 c.index-files-place.result
    (took c.args.capture.now) (took c.write_next.new.capture) c.requires.place c.requires.ready
    c.requires.led.1
    (failed_alone c.in_err-write_next.field-0.0 _ _ c.in_err-write_next.ensures.device
    c.in_err-write_next.ensures.failures) c.in_err-write_next.ensures.part)

pub returns-in_err-go_on-clause-part : goal.returns-in_err-go_on-clause-part
returns-in_err-go_on-clause-part g c =
    let took = g.K.ByteSink.took in
    whenever c.from_residual-in_err-go_on.result _
    (left_at _ c.args.files.now c.args.place c.requires.led.0 c.index-files-place.result
    c.go_on.new.self c.in_err-go_on.field-0.0 (took c.args.capture.now)
    (took c.write_next.new.capture) c.args.written.now c.write_next.new.written c.requires.place
    c.requires.ready c.requires.led.1 c.in_ok-write_next.ensures.written
    c.in_err-go_on.ensures.stopped)
