use Rattle.std.proofs.Common.{◌++◌, ◌∙◌, List, ℕ, ap, subst}
use Rattle.std.proofs.lemmas.Result.{err_from_is_err_and}
use Rattle.st_format.specs.Device.{GrowsPart}
use Rattle.media_file.specs.Records.{Entry}
use Rattle.export_engine.proofs.PacketTexts.{packet_taken}
use Rattle.export_engine.proofs.packets.write_packet.Goals as goal

pub returns-in_err-write_whole-clause-part : goal.returns-in_err-write_whole-clause-part
returns-in_err-write_whole-clause-part g c =
    let e : Entry = record {
      path = c.args.head.path;
      moment = c.args.head.moment;
      octets = c.args.octets.now;
    } in
    let p = err_from_is_err_and c.from_residual.result c.from_residual.ensures.1 in
    rw p.1
    (subst (λ (t : List ℕ). GrowsPart (g.K.ByteSink.took c.args.sink.now)
    (g.K.ByteSink.took c.write_whole.new.sink) t)
    (packet_taken c.args.envelopes.now e c.in-Some.envelope _ c.in-Some.ensures.sent
    c.write_datagram-count.ensures.written)
    c.in_err-write_whole.ensures.part)

pub returns-clause-took : goal.returns-clause-took
returns-clause-took g c =
    let e : Entry = record {
      path = c.args.head.path;
      moment = c.args.head.moment;
      octets = c.args.octets.now;
    } in
    c.in_ok-write_whole.ensures.took
    ∙ ap (λ (t : List ℕ). g.K.ByteSink.took c.args.sink.now ++ t)
    (packet_taken c.args.envelopes.now e c.in-Some.envelope _ c.in-Some.ensures.sent
    c.write_datagram-count.ensures.written)
