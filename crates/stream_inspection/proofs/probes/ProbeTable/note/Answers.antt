use Rattle.stream_inspection.specs.Arrivals.{arrival}
use Rattle.stream_inspection.proofs.Moments.{go_on, probes_more}
use Rattle.stream_inspection.proofs.probes.ProbeTable.note.Goals as goal

pub returns : goal.returns
returns g c = λ arrivals are.
    let a = arrival c.args.packet.now c.args.moment in
    probes_more c.args.self.now _ arrivals a are c.stream-stream.result c.timestamp_key-key.result
    c.numbering-numbering.result c.behind-behind.result c.probes.result c.after-probes.result
    c.stream-stream.ensures c.timestamp_key-key.ensures c.in_ok-insert.ensures.updates
    c.in_ok-insert-2.ensures.updates c.numbering-numbering.ensures c.probes.ensures
    c.behind-behind.ensures
    (λ is.
    go_on arrivals a c.numbering-numbering.result c.next-number.result.long
    c.next-number.result.short c.probes.result c.after-probes.result is
    c.next-number.ensures.long c.next-number.ensures.short c.after-probes.ensures.long
    c.after-probes.ensures.short)
