use Rattle.std.proofs.Common.{◌∙◌, arith, refl, sym}
use Rattle.std.proofs.lemmas.Result.{err_from_is_err_and}
use Rattle.media_file.specs.Capture.{records_at}
use Rattle.media_file.specs.Records.{entry_of}
use Rattle.media_file.proofs.Gave.{fault_device}
use Rattle.media_file.proofs.Loops.{none_left}
use Rattle.media_file.proofs.GaveLoops.{gave_many, gave_wrong, no_record}
use Rattle.paced_export.proofs.PacedRecordings.{counted_all, counted_below, counted_first}
use Rattle.paced_export.proofs.PacedRecordings.{counted_next}
use Rattle.paced_export.proofs.counting.count_records.Goals as goal

pub loop-first-init : goal.loop-first-init
loop-first-init g c = record {
  records = counted_first c.args.limit _ _ c.requires.none;
  failures = refl;
  room = c.requires.room;
}

pub loop-first-preserved : goal.loop-first-preserved
loop-first-preserved g c =
    let e = entry_of c.in_ok-head.head c.record_rest.new.buf in
    record {
      records =
          counted_next c.args.limit c.loop-first.left _ _ _ _ _ _ c.in-Some.first e
          c.if-left-eq0.false c.loop-first.invariant.records
          (rw c.in-Some.is at c.in_ok-first.ensures.gave) c.in_ok-head.ensures.gave
          c.in_ok-head.ensures.read.fits c.in_ok-head.ensures.read.first_is
          (λ entries seen. c.in_ok-add.ensures entries e refl (sym c.timestamp_in.ensures) seen);
      failures =
          c.in_ok-head.ensures.counted ∙ c.in_ok-first.ensures.counted
          ∙ c.loop-first.invariant.failures;
      room = omega (arith, c.in_ok-head.ensures.room, c.loop-first.invariant.room);
    }

pub returns-in_err-first-clause-gave_wrong : goal.returns-in_err-first-clause-gave_wrong
returns-in_err-first-clause-gave_wrong g c =
    let m = c.loop-first.invariant.records in
    let p = err_from_is_err_and c.from_residual.result c.from_residual.ensures.1 in
    rw (p.1, p.2)
    (fault_device (records_at c.args.limit) _ _ m.gave.part _ c.in_err-first.field-0.0
    c.in_err-first.ensures.fault.0 (c.in_err-first.ensures.kept ∙ m.gave.grown))

pub returns-then-left-eq0-clause-gave_wrong : goal.returns-then-left-eq0-clause-gave_wrong
returns-then-left-eq0-clause-gave_wrong g c =
    let m = c.loop-first.invariant.records in
    gave_many c.args.limit _ _ _ m.entries c.in-Some.first _ (rw c.if-left-eq0.true at m.gave)
    (rw c.in-Some.is at c.in_ok-first.ensures.gave)

pub returns-in_err-head-clause-gave_wrong : goal.returns-in_err-head-clause-gave_wrong
returns-in_err-head-clause-gave_wrong g c =
    let m = c.loop-first.invariant.records in
    let e = c.in_err-head.ensures in
    let p =
    err_from_is_err_and c.from_residual-in_err-head.result
    c.from_residual-in_err-head.ensures.1 in
    rw (p.1, p.2)
    (gave_wrong c.args.limit c.loop-first.left _ _ _ _ m.entries c.in-Some.first
    c.in_err-head.field-0.0 _ _ _ c.if-left-eq0.false m.gave
    (rw c.in-Some.is at c.in_ok-first.ensures.gave) e.fault.named e.wrong e.cut)

pub returns-in_err-add-clause-gave_wrong : goal.returns-in_err-add-clause-gave_wrong
returns-in_err-add-clause-gave_wrong g c =
    let m = c.loop-first.invariant.records in
    let p =
    err_from_is_err_and c.from_residual-in_err-add.result
    c.from_residual-in_err-add.ensures.1 in
    rw (p.1, p.2)
    (no_record c.args.limit c.loop-first.left _ _ _ _ m.entries _ _ _ m.gave
    (rw c.in-Some.is at c.in_ok-first.ensures.gave) c.in_ok-head.ensures.gave)

pub returns-clause-read : goal.returns-clause-read
returns-clause-read g c =
    let none = none_left c.in_ok-first.field-0 c.in_default.not-Some in
    counted_all c.args.limit c.loop-first.left _ _ _ _ _ c.loop-first.invariant.records
    (rw none at c.in_ok-first.ensures.gave) (c.in_ok-first.ensures.ended none)

pub add-requires : goal.add-requires
add-requires g c =
    omega (
      arith,
      c.ranges.limit.fits,
      c.if-left-eq0.false,
      counted_below c.args.limit c.loop-first.left _ _ _ c.loop-first.invariant.records
          c.in_ok-head.head.path c.timestamp_in.result,
    )
