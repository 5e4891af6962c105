use Rattle.media_file.specs.Records.{Entry}
use Rattle.run_outcome.proofs.Printed.{whenever}
use Rattle.recording_engines.proofs.Stopped.{next_cut}
use Rattle.recording_engines.proofs.joining.write_next.Goals as goal

pub returns-in_err-write_record-clause-part : goal.returns-in_err-write_record-clause-part
returns-in_err-write_record-clause-part g c =
    let x : Entry =
    record {
      path = c.in-Some.record.path;
      moment = c.in-Some.record.moment;
      octets = c.in-Some.record.octets.now;
    } in
    whenever c.from_residual.result _
    (λ e some. next_cut c.args.file.now x e _ _ c.in-Some.ensures.seen some
    c.in_err-write_record.ensures.part)
