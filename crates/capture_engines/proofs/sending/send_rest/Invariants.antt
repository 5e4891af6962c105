use Rattle.std.proofs.Common.{◌≡◌, drop, false, length, take}
use Rattle.std.specs.List.{sum_by}
use Rattle.run_outcome.specs.Moments.{WasRead}
use Rattle.capture_engines.proofs.Sendings.{SoFar}
use Rattle.capture_engines.proofs.SentRefusals.{AreOf}
use Rattle.capture_engines.proofs.sending.send_rest.Given as goal

abbrev pub invariant-loop-place : goal.invariant-loop-place
invariant-loop-place g l = record {
  len : length l.pictures ≡ length l.initial.pictures;
  room : length l.buf ≡ 65535;
  stands : l.sender.writer.place.failed ≡ false;
  plan : l.sender.plan ≡ l.initial.sender.plan;
  behind : drop l.place l.pictures ≡ drop l.place l.initial.pictures;
  front : take 1 l.pictures ≡ take 1 l.initial.pictures;
  pictures : sum_by g.S.ByteSource.failures l.pictures
      ≡ sum_by g.S.ByteSource.failures l.initial.pictures;
  sink : g.K.ByteSink.failures l.sender.writer.sink
      ≡ g.K.ByteSink.failures l.initial.sender.writer.sink;
  names : g.K.ByteSink.names l.sender.writer.sink
      ≡ g.K.ByteSink.names l.initial.sender.writer.sink;
  sent : SoFar (WasRead g.S.ByteSource.gave g.S.ByteSource.ended) g.K.ByteSink.took l.place
      l.initial.pictures l.pictures l.initial.sender l.sender;
  alike : AreOf (WasRead g.S.ByteSource.gave g.S.ByteSource.ended) l.initial.sender.plan.format
      l.place l.initial.pictures l.pictures;
}
