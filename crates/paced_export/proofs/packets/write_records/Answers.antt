use Rattle.std.proofs.Common.{ℕ, ◌∙◌, arith, inr, subst, refl, sym, take}
use Rattle.std.proofs.lemmas.Result.{err_from_is_err_and}
use Rattle.st_format.specs.Device.{CountsOne}
use Rattle.media_file.specs.Capture.{records_at}
use Rattle.media_file.specs.Records.{Entry, entry_of}
use Rattle.media_file.specs.declared.fault.FileFault.TheVariants.{Device}
use Rattle.media_file.proofs.Gave.{fault_device}
use Rattle.media_file.proofs.Loops.{none_left}
use Rattle.media_file.proofs.GaveLoops.{gave_many, gave_wrong}
use Rattle.export_engine.proofs.PacketLoops.{source_counted, one_packet}
use Rattle.paced_export.specs.Counts.{counted}
use Rattle.paced_export.specs.Paced.{paced_entry}
use Rattle.paced_export.specs.Pacing.{timestamp_in}
use Rattle.paced_export.proofs.PacedLists.{entry_is}
use Rattle.paced_export.proofs.PacedLoops.{memory_wrong, paced_all, paced_few}
use Rattle.paced_export.proofs.PacedLoops.{paced_first, paced_next, seen_few}
use Rattle.paced_export.proofs.PacedLoops.{stops_before, stops_counting, stops_full, stops_within}
use Rattle.paced_export.proofs.PacedLoops.{stops_writing, written_wrong}
use Rattle.paced_export.proofs.packets.write_records.Goals as goal

pub loop-first-preserved : goal.loop-first-preserved
loop-first-preserved g c =
    let all = counted c.args.frames.all.now in
    let octets = take c.in_ok-head.head.length c.record_rest.new.buf in
    let e = entry_of c.in_ok-head.head c.record_rest.new.buf in
    let d : Entry = record {
      path = c.paced-paced.result.path;
      moment = c.paced-paced.result.moment;
      octets = octets;
    } in
    record {
      packets =
          paced_next c.loop-first.left c.loop-first.written _ _ _ _ _ _ _ _ _ _ _ _ _
          c.in-Some.first e d c.if-left-eq0.false
          c.loop-first.invariant.packets (rw c.in-Some.is at c.in_ok-first.ensures.gave)
          c.in_ok-head.ensures.gave c.in_ok-head.ensures.read.fits
          c.in_ok-head.ensures.read.first_is
          (λ before seen. entry_is c.paced-paced.result.path c.in_ok-head.head.path
          c.paced-paced.result.moment (paced_entry c.args.frames.pace all before e).moment octets
          c.paced-paced.ensures.path (c.paced-paced.ensures.moment before seen))
          c.in_ok-written.ensures.took c.in_ok-written.ensures.counts
          (λ entries seen. c.in_ok-add.ensures entries e refl (sym c.timestamp_in.ensures) seen);
      source_failures =
          c.in_ok-head.ensures.counted ∙ c.in_ok-first.ensures.counted
          ∙ c.loop-first.invariant.source_failures;
      sink_failures = c.in_ok-written.ensures.counted ∙ c.loop-first.invariant.sink_failures;
      room = omega (arith, c.in_ok-head.ensures.room, c.loop-first.invariant.room);
      packet = omega (arith, c.write_packet.ensures.room, c.loop-first.invariant.packet);
    }

pub returns-in_err-first-clause-stopped : goal.returns-in_err-first-clause-stopped
returns-in_err-first-clause-stopped g c =
    let p = err_from_is_err_and c.from_residual.result c.from_residual.ensures.1 in
    rw (p.1, p.2)
    (stops_before c.loop-first.left c.loop-first.written _ _ _ _ c.in_err-first.field-0.0
    _ _ _ _ _ c.loop-first.invariant.packets c.in_err-first.ensures.kept)

pub returns-in_err-first-clause-gave_wrong : goal.returns-in_err-first-clause-gave_wrong
returns-in_err-first-clause-gave_wrong g c =
    let m = c.loop-first.invariant.packets in
    let p = err_from_is_err_and c.from_residual.result c.from_residual.ensures.1 in
    rw (p.1, p.2)
    (fault_device (records_at 16777216) _ _ _ _ c.in_err-first.field-0.0
    c.in_err-first.ensures.fault.0 (c.in_err-first.ensures.kept ∙ m.grown))

pub returns-then-left-eq0-clause-gave_wrong : goal.returns-then-left-eq0-clause-gave_wrong
returns-then-left-eq0-clause-gave_wrong g c =
    let m = c.loop-first.invariant.packets in
    gave_many 16777216 _ _ _ m.entries c.in-Some.first _ (rw c.if-left-eq0.true at m.gave)
    (rw c.in-Some.is at c.in_ok-first.ensures.gave)

pub returns-then-left-eq0-clause-stopped : goal.returns-then-left-eq0-clause-stopped
returns-then-left-eq0-clause-stopped g c =
    stops_full c.loop-first.left c.loop-first.written _ _ _ _ _ _ _ _ _ _ c.in-Some.first
    c.loop-first.invariant.packets (rw c.in-Some.is at c.in_ok-first.ensures.gave)

pub returns-in_err-head-clause-gave_wrong : goal.returns-in_err-head-clause-gave_wrong
returns-in_err-head-clause-gave_wrong g c =
    let m = c.loop-first.invariant.packets in
    let e = c.in_err-head.ensures in
    let p =
    err_from_is_err_and c.from_residual-in_err-head.result
    c.from_residual-in_err-head.ensures.1 in
    rw (p.1, p.2)
    (gave_wrong 16777216 c.loop-first.left _ _ _ _ m.entries c.in-Some.first
    c.in_err-head.field-0.0 _ _ _ c.if-left-eq0.false m.gave
    (rw c.in-Some.is at c.in_ok-first.ensures.gave) e.fault.named e.wrong e.cut)

pub returns-in_err-head-clause-stopped : goal.returns-in_err-head-clause-stopped
returns-in_err-head-clause-stopped g c =
    let p =
    err_from_is_err_and c.from_residual-in_err-head.result
    c.from_residual-in_err-head.ensures.1 in
    rw (p.1, p.2)
    (stops_within c.loop-first.left c.loop-first.written _ _ _ _ c.in_err-head.field-0.0
    _ _ _ _ _ _ c.in-Some.first _ _ c.loop-first.invariant.packets
    (rw c.in-Some.is at c.in_ok-first.ensures.gave) c.in_err-head.ensures.wrong)

pub returns-in_err-written-clause-stopped : goal.returns-in_err-written-clause-stopped
returns-in_err-written-clause-stopped g c =
    let all = counted c.args.frames.all.now in
    let octets = take c.in_ok-head.head.length c.record_rest.new.buf in
    let e = entry_of c.in_ok-head.head c.record_rest.new.buf in
    let d : Entry = record {
      path = c.paced-paced.result.path;
      moment = c.paced-paced.result.moment;
      octets = octets;
    } in
    let p =
    err_from_is_err_and c.from_residual-in_err-written.result
    c.from_residual-in_err-written.ensures.1 in
    rw (p.1, p.2)
    (stops_writing c.loop-first.left c.loop-first.written _ _ _ _ _ _ _ _ _ _ _
    c.in-Some.first e d
    c.loop-first.invariant.packets (rw c.in-Some.is at c.in_ok-first.ensures.gave)
    c.in_ok-head.ensures.gave c.in_ok-head.ensures.read.fits c.in_ok-head.ensures.read.first_is
    (λ before seen. entry_is c.paced-paced.result.path c.in_ok-head.head.path
    c.paced-paced.result.moment (paced_entry c.args.frames.pace all before e).moment octets
    c.paced-paced.ensures.path (c.paced-paced.ensures.moment before seen))
    c.in_err-written.ensures.part)

pub returns-in_err-add-clause-stopped : goal.returns-in_err-add-clause-stopped
returns-in_err-add-clause-stopped g c =
    let all = counted c.args.frames.all.now in
    let octets = take c.in_ok-head.head.length c.record_rest.new.buf in
    let e = entry_of c.in_ok-head.head c.record_rest.new.buf in
    let d : Entry = record {
      path = c.paced-paced.result.path;
      moment = c.paced-paced.result.moment;
      octets = octets;
    } in
    let p =
    err_from_is_err_and c.from_residual-in_err-add.result
    c.from_residual-in_err-add.ensures.1 in
    rw (p.1, p.2)
    (stops_counting c.loop-first.left c.loop-first.written _ _ _ _ _ _ _ _ _ _ _
    c.in-Some.first e d
    c.loop-first.invariant.packets (rw c.in-Some.is at c.in_ok-first.ensures.gave)
    c.in_ok-head.ensures.gave c.in_ok-head.ensures.read.fits c.in_ok-head.ensures.read.first_is
    (λ before seen. entry_is c.paced-paced.result.path c.in_ok-head.head.path
    c.paced-paced.result.moment (paced_entry c.args.frames.pace all before e).moment octets
    c.paced-paced.ensures.path (c.paced-paced.ensures.moment before seen))
    c.in_ok-written.ensures.took)

pub returns-in_err-add-clause-gave_wrong : goal.returns-in_err-add-clause-gave_wrong
returns-in_err-add-clause-gave_wrong g c =
    let p =
    err_from_is_err_and c.from_residual-in_err-add.result
    c.from_residual-in_err-add.ensures.1 in
    rw (p.1, p.2)
    (memory_wrong c.loop-first.left c.loop-first.written _ _ _ _ _ _ _ _ _ _
    c.in-Some.first (entry_of c.in_ok-head.head c.record_rest.new.buf) _
    c.loop-first.invariant.packets (rw c.in-Some.is at c.in_ok-first.ensures.gave)
    c.in_ok-head.ensures.gave)

pub returns-in_err-add-clause-counted : goal.returns-in_err-add-clause-counted
returns-in_err-add-clause-counted g c =
    let i = c.loop-first.invariant in
    let p =
    err_from_is_err_and c.from_residual-in_err-add.result
    c.from_residual-in_err-add.ensures.1 in
    rw (p.1, p.2) (
      c.in_ok-head.ensures.counted ∙ c.in_ok-first.ensures.counted ∙ i.source_failures,
      c.in_ok-written.ensures.counted ∙ i.sink_failures,
    )

pub paced-paced-requires : goal.paced-paced-requires
paced-paced-requires g c =
    omega (
      arith,
      seen_few c.loop-first.left c.loop-first.written _ _ _ _ _ _ _ _
          c.loop-first.invariant.packets c.in_ok-head.head.path
          (timestamp_in (take c.in_ok-head.head.length c.record_rest.new.buf)),
    )

pub add-requires : goal.add-requires
add-requires g c =
    omega (
      arith,
      c.if-left-eq0.false,
      seen_few c.loop-first.left c.loop-first.written _ _ _ _ _ _ _ _
          c.loop-first.invariant.packets c.in_ok-head.head.path
          c.timestamp_in.result,
    )

pub returns-clause-exported : goal.returns-clause-exported
returns-clause-exported g c =
    let none = none_left c.in_ok-first.field-0 c.in_default.not-Some in
    paced_all c.loop-first.left c.loop-first.written _ _ _ _ _ _ _ _ _ _
    c.loop-first.invariant.packets (rw none at c.in_ok-first.ensures.gave)
    (c.in_ok-first.ensures.ended none)

pub loop-first-init : goal.loop-first-init
loop-first-init g c = record {
  packets = paced_first _ _ _ _ _ _ c.requires.none;
  source_failures = refl;
  sink_failures = refl;
  room = c.requires.room;
  packet = c.requires.packet;
}

pub returns-in_err-written-clause-gave_wrong : goal.returns-in_err-written-clause-gave_wrong
returns-in_err-written-clause-gave_wrong g c =
    let p =
    err_from_is_err_and c.from_residual-in_err-written.result
    c.from_residual-in_err-written.ensures.1 in
    rw (p.1, p.2)
    (written_wrong c.loop-first.left c.loop-first.written _ _ _ _ Device _ _ _ _ _ _
    c.in-Some.first (entry_of c.in_ok-head.head c.record_rest.new.buf) _ tt
    c.loop-first.invariant.packets (rw c.in-Some.is at c.in_ok-first.ensures.gave)
    c.in_ok-head.ensures.gave)

pub returns-in_err-first-clause-counted : goal.returns-in_err-first-clause-counted
returns-in_err-first-clause-counted g c =
    let i = c.loop-first.invariant in
    let p = err_from_is_err_and c.from_residual.result c.from_residual.ensures.1 in
    rw (p.1, p.2)
    (source_counted c.in_err-first.field-0.0 _ _ _ _ _ i.source_failures i.sink_failures
    c.in_err-first.ensures.counted)

pub returns-then-left-eq0-clause-counted : goal.returns-then-left-eq0-clause-counted
returns-then-left-eq0-clause-counted g c = (
  c.in_ok-first.ensures.counted ∙ c.loop-first.invariant.source_failures,
  c.loop-first.invariant.sink_failures,
)

pub returns-in_err-head-clause-counted : goal.returns-in_err-head-clause-counted
returns-in_err-head-clause-counted g c =
    let i = c.loop-first.invariant in
    let p =
    err_from_is_err_and c.from_residual-in_err-head.result
    c.from_residual-in_err-head.ensures.1 in
    rw (p.1, p.2)
    (source_counted c.in_err-head.field-0.0 _ _ _ _ _
    (c.in_ok-first.ensures.counted ∙ i.source_failures) i.sink_failures
    c.in_err-head.ensures.counted)

pub returns-in_err-written-clause-counted : goal.returns-in_err-written-clause-counted
returns-in_err-written-clause-counted g c =
    let i = c.loop-first.invariant in
    let p =
    err_from_is_err_and c.from_residual-in_err-written.result
    c.from_residual-in_err-written.ensures.1 in
    rw (p.1, p.2)
    (inr (
      c.in_ok-head.ensures.counted ∙ c.in_ok-first.ensures.counted ∙ i.source_failures,
      subst (λ (n : ℕ). CountsOne n (g.K.ByteSink.failures c.write_packet.new.sink))
          i.sink_failures c.in_err-written.ensures.counted,
    ))

pub overflow_add-written : goal.overflow_add-written
overflow_add-written g c =
    omega (
      arith,
      c.if-left-eq0.false,
      paced_few c.loop-first.left c.loop-first.written _ _ _ _ _ _ _ _
          c.loop-first.invariant.packets,
      one_packet c.in_ok-written.field-0 c.args.envelopes.now
          (let d : Entry = record {
            path = c.paced-paced.result.path;
            moment = c.paced-paced.result.moment;
            octets = take c.in_ok-head.head.length c.record_rest.new.buf;
          } in d) c.in_ok-written.ensures.counts,
    )

pub overflow_sub-result : goal.overflow_sub-result
overflow_sub-result g c =
    omega (
      arith,
      paced_few c.loop-first.left c.loop-first.written _ _ _ _ _ _ _ _
          c.loop-first.invariant.packets,
    )

pub overflow_sub-result-2 : goal.overflow_sub-result-2
overflow_sub-result-2 g c =
    omega (
      arith,
      paced_few c.loop-first.left c.loop-first.written _ _ _ _ _ _ _ _
          c.loop-first.invariant.packets,
    )

pub returns-clause-counted : goal.returns-clause-counted
returns-clause-counted g c = (
  c.in_ok-first.ensures.counted ∙ c.loop-first.invariant.source_failures,
  c.loop-first.invariant.sink_failures,
)
