use Rattle.std.proofs.Common.{◌≡◌, false, length}
use Rattle.picture_forms.specs.declared.streams.Standing.TheVariants.{Reads}
use Rattle.stream_sending.proofs.Sendings.{SoFar}
use Rattle.stream_sending.proofs.frames.send_each.Given as goal

abbrev pub invariant-loop-place : goal.invariant-loop-place
invariant-loop-place g l =
    let told = g.S.ByteSource in
    let put = g.K.ByteSink in
    record {
      room : length l.buf ≡ 65535;
      stands : l.sender.writer.place.failed ≡ false;
      reads : l.reader.standing ≡ Reads;
      plan : l.sender.plan ≡ l.initial.sender.plan;
      stream : l.reader.format ≡ l.initial.reader.format;
      format : l.picture.format ≡ l.initial.reader.format;
      alike : l.picture.format ≡ l.initial.sender.plan.format;
      source : told.failures l.reader.source ≡ told.failures l.initial.reader.source;
      written : put.failures l.sender.writer.sink ≡ put.failures l.initial.sender.writer.sink;
      read_names : told.names l.reader.source ≡ told.names l.initial.reader.source;
      names : put.names l.sender.writer.sink ≡ put.names l.initial.sender.writer.sink;
      sent : SoFar put.took l.initial.reader.format l.place l.initial.picture l.picture
          (told.gave l.initial.reader.source) (told.gave l.reader.source) l.initial.sender
          l.sender;
    }
