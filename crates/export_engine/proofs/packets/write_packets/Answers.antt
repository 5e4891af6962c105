use Rattle.std.proofs.Common.{ℕ, ◌∙◌, arith, inr, subst, refl}
use Rattle.std.proofs.lemmas.Result.{err_from_is_err_and}
use Rattle.st_format.specs.Device.{CountsOne}
use Rattle.media_file.specs.Capture.{records_at}
use Rattle.media_file.specs.Records.{entry_of}
use Rattle.media_file.proofs.Gave.{fault_device}
use Rattle.media_file.proofs.Loops.{none_left}
use Rattle.media_file.proofs.Moved.{record_named}
use Rattle.media_file.proofs.GaveLoops.{gave_many, gave_wrong}
use Rattle.export_engine.proofs.PacketLoops.{packets_all, packets_few, packets_first, packets_more}
use Rattle.export_engine.proofs.PacketLoops.{source_counted, stops_before, stops_full}
use Rattle.export_engine.proofs.PacketLoops.{stops_within, stops_writing, written_wrong}
use Rattle.export_engine.proofs.PacketLoops.{one_packet}
use Rattle.export_engine.proofs.packets.write_packets.Goals as goal

pub loop-first-preserved : goal.loop-first-preserved
loop-first-preserved g c = record {
  packets =
      packets_more c.args.limit c.loop-first.left c.loop-first.written _ _ _ _ _ _ _ _ _
      c.in-Some.first (entry_of c.in_ok-head.head c.record_rest.new.buf) c.if-left-eq0.false
      c.loop-first.invariant.packets (rw c.in-Some.is at c.in_ok-first.ensures.gave)
      c.in_ok-head.ensures.gave c.in_ok-head.ensures.read.fits c.in_ok-head.ensures.read.first_is
      c.in_ok-written.ensures.took c.in_ok-written.ensures.counts;
  source_failures =
      c.in_ok-head.ensures.counted ∙ c.in_ok-first.ensures.counted
      ∙ c.loop-first.invariant.source_failures;
  sink_failures = c.in_ok-written.ensures.counted ∙ c.loop-first.invariant.sink_failures;
  room = omega (arith, c.in_ok-head.ensures.room, c.loop-first.invariant.room);
  packet = omega (arith, c.write_packet.ensures.room, c.loop-first.invariant.packet);
}

pub returns-in_err-first-clause-stopped : goal.returns-in_err-first-clause-stopped
returns-in_err-first-clause-stopped g c =
    let p = err_from_is_err_and c.from_residual.result c.from_residual.ensures.1 in
    rw (p.1, p.2)
    (stops_before c.args.limit c.loop-first.left c.loop-first.written _ c.in_err-first.field-0.0
    _ _ _ _ _ c.loop-first.invariant.packets c.in_err-first.ensures.kept)

pub returns-in_err-first-clause-gave_wrong : goal.returns-in_err-first-clause-gave_wrong
returns-in_err-first-clause-gave_wrong g c =
    let m = c.loop-first.invariant.packets in
    let p = err_from_is_err_and c.from_residual.result c.from_residual.ensures.1 in
    rw (p.1, p.2)
    (fault_device (records_at c.args.limit) _ _ _ _ c.in_err-first.field-0.0
    c.in_err-first.ensures.fault.0 (c.in_err-first.ensures.kept ∙ m.grown))

pub returns-then-left-eq0-clause-gave_wrong : goal.returns-then-left-eq0-clause-gave_wrong
returns-then-left-eq0-clause-gave_wrong g c =
    let m = c.loop-first.invariant.packets in
    gave_many c.args.limit _ _ _ m.entries c.in-Some.first _ (rw c.if-left-eq0.true at m.gave)
    (rw c.in-Some.is at c.in_ok-first.ensures.gave)

pub returns-then-left-eq0-clause-stopped : goal.returns-then-left-eq0-clause-stopped
returns-then-left-eq0-clause-stopped g c =
    stops_full c.args.limit c.loop-first.left c.loop-first.written _ _ _ _ _ _ _ c.in-Some.first
    c.loop-first.invariant.packets (rw c.in-Some.is at c.in_ok-first.ensures.gave)

pub returns-in_err-head-clause-gave_wrong : goal.returns-in_err-head-clause-gave_wrong
returns-in_err-head-clause-gave_wrong g c =
    let m = c.loop-first.invariant.packets in
    let e = c.in_err-head.ensures in
    let p =
    err_from_is_err_and c.from_residual-in_err-head.result
    c.from_residual-in_err-head.ensures.1 in
    rw (p.1, p.2)
    (gave_wrong c.args.limit c.loop-first.left _ _ _ _ m.entries c.in-Some.first
    c.in_err-head.field-0.0 _ _ _ c.if-left-eq0.false m.gave
    (rw c.in-Some.is at c.in_ok-first.ensures.gave) e.fault.named e.wrong e.cut)

pub returns-in_err-head-clause-stopped : goal.returns-in_err-head-clause-stopped
returns-in_err-head-clause-stopped g c =
    let p =
    err_from_is_err_and c.from_residual-in_err-head.result
    c.from_residual-in_err-head.ensures.1 in
    rw (p.1, p.2)
    (stops_within c.args.limit c.loop-first.left c.loop-first.written _ c.in_err-head.field-0.0
    _ _ _ _ _ _ c.in-Some.first _ _ c.loop-first.invariant.packets
    (rw c.in-Some.is at c.in_ok-first.ensures.gave) c.in_err-head.ensures.wrong)

pub returns-in_err-head-clause-named : goal.returns-in_err-head-clause-named
returns-in_err-head-clause-named g c =
    let p =
    err_from_is_err_and c.from_residual-in_err-head.result
    c.from_residual-in_err-head.ensures.1 in
    rw (p.1, p.2)
    (record_named c.in_err-head.field-0.0 c.in_err-head.ensures.fault.named)

pub returns-in_err-written-clause-stopped : goal.returns-in_err-written-clause-stopped
returns-in_err-written-clause-stopped g c =
    let p =
    err_from_is_err_and c.from_residual-in_err-written.result
    c.from_residual-in_err-written.ensures.1 in
    rw (p.1, p.2)
    (stops_writing c.args.limit c.loop-first.left c.loop-first.written _ _ _ _ _ _ _ _
    c.in-Some.first (entry_of c.in_ok-head.head c.record_rest.new.buf)
    c.loop-first.invariant.packets (rw c.in-Some.is at c.in_ok-first.ensures.gave)
    c.in_ok-head.ensures.gave c.in_ok-head.ensures.read.fits c.in_ok-head.ensures.read.first_is
    c.in_err-written.ensures.part)

pub returns-clause-exported : goal.returns-clause-exported
returns-clause-exported g c =
    let none = none_left c.in_ok-first.field-0 c.in_default.not-Some in
    packets_all c.args.limit c.loop-first.left c.loop-first.written _ _ _ _ _ _ _
    c.loop-first.invariant.packets (rw none at c.in_ok-first.ensures.gave)
    (c.in_ok-first.ensures.ended none)

pub loop-first-init : goal.loop-first-init
loop-first-init g c = record {
  packets = packets_first c.args.limit _ _ _;
  source_failures = refl;
  sink_failures = refl;
  room = c.requires.room;
  packet = c.requires.packet;
}

pub returns-in_err-written-clause-gave_wrong : goal.returns-in_err-written-clause-gave_wrong
returns-in_err-written-clause-gave_wrong g c =
    let p =
    err_from_is_err_and c.from_residual-in_err-written.result
    c.from_residual-in_err-written.ensures.1 in
    rw (p.1, p.2)
    (written_wrong c.args.limit c.loop-first.left c.loop-first.written _ _ _ _ _ _ _
    c.in-Some.first (entry_of c.in_ok-head.head c.record_rest.new.buf) _
    c.loop-first.invariant.packets (rw c.in-Some.is at c.in_ok-first.ensures.gave)
    c.in_ok-head.ensures.gave)

pub returns-in_err-first-clause-counted : goal.returns-in_err-first-clause-counted
returns-in_err-first-clause-counted g c =
    let i = c.loop-first.invariant in
    let p = err_from_is_err_and c.from_residual.result c.from_residual.ensures.1 in
    rw (p.1, p.2)
    (source_counted c.in_err-first.field-0.0 _ _ _ _ _ i.source_failures i.sink_failures
    c.in_err-first.ensures.counted)

pub returns-then-left-eq0-clause-counted : goal.returns-then-left-eq0-clause-counted
returns-then-left-eq0-clause-counted g c = (
  c.in_ok-first.ensures.counted ∙ c.loop-first.invariant.source_failures,
  c.loop-first.invariant.sink_failures,
)

pub returns-in_err-head-clause-counted : goal.returns-in_err-head-clause-counted
returns-in_err-head-clause-counted g c =
    let i = c.loop-first.invariant in
    let p =
    err_from_is_err_and c.from_residual-in_err-head.result
    c.from_residual-in_err-head.ensures.1 in
    rw (p.1, p.2)
    (source_counted c.in_err-head.field-0.0 _ _ _ _ _
    (c.in_ok-first.ensures.counted ∙ i.source_failures) i.sink_failures
    c.in_err-head.ensures.counted)

pub returns-in_err-written-clause-counted : goal.returns-in_err-written-clause-counted
returns-in_err-written-clause-counted g c =
    let i = c.loop-first.invariant in
    let p =
    err_from_is_err_and c.from_residual-in_err-written.result
    c.from_residual-in_err-written.ensures.1 in
    rw (p.1, p.2)
    (inr (
      c.in_ok-head.ensures.counted ∙ c.in_ok-first.ensures.counted ∙ i.source_failures,
      subst (λ (n : ℕ). CountsOne n (g.K.ByteSink.failures c.write_packet.new.sink))
          i.sink_failures c.in_err-written.ensures.counted,
    ))

pub overflow_add-written : goal.overflow_add-written
overflow_add-written g c =
    omega (
      arith,
      c.ranges.limit.fits,
      c.if-left-eq0.false,
      packets_few c.args.limit c.loop-first.left c.loop-first.written _ _ _ _ _
          c.loop-first.invariant.packets,
      one_packet c.in_ok-written.field-0 _
          (entry_of c.in_ok-head.head c.record_rest.new.buf) c.in_ok-written.ensures.counts,
    )

pub overflow_sub-result : goal.overflow_sub-result
overflow_sub-result g c =
    omega (
      arith,
      packets_few c.args.limit c.loop-first.left c.loop-first.written _ _ _ _ _
          c.loop-first.invariant.packets,
    )

pub overflow_sub-result-2 : goal.overflow_sub-result-2
overflow_sub-result-2 g c =
    omega (
      arith,
      packets_few c.args.limit c.loop-first.left c.loop-first.written _ _ _ _ _
          c.loop-first.invariant.packets,
    )

pub returns-clause-counted : goal.returns-clause-counted
returns-clause-counted g c = (
  c.in_ok-first.ensures.counted ∙ c.loop-first.invariant.source_failures,
  c.loop-first.invariant.sink_failures,
)
