use Rattle.std.proofs.Common.{ℕ, ◌∙◌, arith, subst}
use Rattle.std.proofs.lemmas.Result.{err_from_is_err_and}
use Rattle.st_format.specs.Device.{CountsOne}
use Rattle.media_file.specs.Capture.{records_at}
use Rattle.media_file.specs.declared.fault.FileFault.TheVariants.{Device}
use Rattle.media_file.specs.Faults.{CountsFault}
use Rattle.media_file.specs.Migrated.{new_records}
use Rattle.media_file.specs.Records.{entry_of}
use Rattle.media_file.proofs.Loops.{goes_on_fault, goes_on_many, none_left, one_less}
use Rattle.media_file.proofs.Moved.{moves_end, moves_more, record_named, stops_device, stops_full}
use Rattle.media_file.proofs.Moved.{stops_record, stops_write}
use Rattle.media_file.proofs.MovedGave.{device_read, device_wrong, full_read, full_stops}
use Rattle.media_file.proofs.MovedGave.{moves_all, moves_record, write_stops, wrong_read}
use Rattle.media_file.proofs.MovedGave.{wrong_stops}
use Rattle.media_file.proofs.migrating.move_records.Goals as goal

pub returns-then-left-eq0-clause-fault : goal.returns-then-left-eq0-clause-fault
returns-then-left-eq0-clause-fault g c =
    let m = c.loop-first.invariant.moves in
    goes_on_many c.args.limit _ _ _ m.entries c.in-Some.first (rw c.if-left-eq0.true at m.goes)
    (rw c.in-Some.is at c.in_ok-first.ensures.given)

pub returns-in_err-head-clause-fault : goal.returns-in_err-head-clause-fault
returns-in_err-head-clause-fault g c =
    let m = c.loop-first.invariant.moves in
    let p =
    err_from_is_err_and c.from_residual-in_err-head.result
    c.from_residual-in_err-head.ensures.1 in
    rw (p.1, p.2)
    (goes_on_fault c.args.limit _ _ _ _ m.entries c.in-Some.first c.in_err-head.field-0.0
    (one_less c.args.limit _ _ _ _ c.if-left-eq0.false m.goes)
    (rw c.in-Some.is at c.in_ok-first.ensures.given) c.in_err-head.ensures.fault)

pub loop-first-preserved : goal.loop-first-preserved
loop-first-preserved g c = record {
  moves =
      moves_more c.args.limit c.loop-first.left _ _ _ _ _ _ _ c.in-Some.first
      (entry_of c.in_ok-head.head c.record_rest.new.buf) c.if-left-eq0.false
      c.loop-first.invariant.moves
      (rw c.in-Some.is at c.in_ok-first.ensures.given) c.in_ok-head.ensures.read
      c.in_ok-write_record.ensures.ok;
  gave =
      moves_record c.args.limit c.loop-first.left _ _ _ _ _ _ _ c.in-Some.first
      (entry_of c.in_ok-head.head c.record_rest.new.buf) c.if-left-eq0.false
      c.loop-first.invariant.gave (rw c.in-Some.is at c.in_ok-first.ensures.gave)
      c.in_ok-head.ensures.gave c.in_ok-head.ensures.read.fits c.in_ok-head.ensures.read.first_is
      c.in_ok-write_record.ensures.took;
  source_failures =
      c.in_ok-head.ensures.counted ∙ c.in_ok-first.ensures.counted
      ∙ c.loop-first.invariant.source_failures;
  sink_failures = c.in_ok-write_record.ensures.counted ∙ c.loop-first.invariant.sink_failures;
  room = omega (arith, c.in_ok-head.ensures.room, c.loop-first.invariant.room);
}

pub returns-in_err-first-clause-stopped : goal.returns-in_err-first-clause-stopped
returns-in_err-first-clause-stopped g c =
    let i = c.loop-first.invariant in
    let e = c.in_err-first.ensures in
    let p = err_from_is_err_and c.from_residual.result c.from_residual.ensures.1 in
    rw (p.1, p.2)
    (stops_device c.args.limit c.loop-first.left _ _ _ _ _ _ _ _ _ _ c.in_err-first.field-0.0
    i.moves e.fault.0 e.fault.1 i.source_failures e.counted i.sink_failures)

pub returns-then-left-eq0-clause-stopped : goal.returns-then-left-eq0-clause-stopped
returns-then-left-eq0-clause-stopped g c =
    stops_full c.args.limit _ _ _ _ _ _ _ _ _
    (rw c.if-left-eq0.true at c.loop-first.invariant.moves)

pub returns-in_err-head-clause-stopped : goal.returns-in_err-head-clause-stopped
returns-in_err-head-clause-stopped g c =
    let i = c.loop-first.invariant in
    let e = c.in_err-head.ensures in
    let p =
    err_from_is_err_and c.from_residual-in_err-head.result
    c.from_residual-in_err-head.ensures.1 in
    rw (p.1, p.2)
    (stops_record c.args.limit c.loop-first.left _ _ _ _ _ _ _ _ _ _ c.in-Some.first
    c.in_err-head.field-0.0 i.moves (rw c.in-Some.is at c.in_ok-first.ensures.given) e.fault e.part
    (subst (λ (n : ℕ). CountsFault c.in_err-head.field-0.0 n
    (g.S.ByteSource.failures c.record_rest.new.source))
    (c.in_ok-first.ensures.counted ∙ i.source_failures) e.counted)
    i.sink_failures)

pub returns-in_err-head-clause-named : goal.returns-in_err-head-clause-named
returns-in_err-head-clause-named g c =
    let p =
    err_from_is_err_and c.from_residual-in_err-head.result
    c.from_residual-in_err-head.ensures.1 in
    rw (p.1, p.2)
    (record_named c.in_err-head.field-0.0 c.in_err-head.ensures.fault.named)

pub returns-in_err-write_record-clause-stopped : goal.returns-in_err-write_record-clause-stopped
returns-in_err-write_record-clause-stopped g c =
    let i = c.loop-first.invariant in
    let p =
    err_from_is_err_and c.from_residual-in_err-write_record.result
    c.from_residual-in_err-write_record.ensures.1 in
    rw (p.1, p.2)
    (stops_write c.args.limit c.loop-first.left _ _ _ _ _ _ _ _ _ _ _ c.in-Some.first
    (entry_of c.in_ok-head.head c.record_rest.new.buf) c.if-left-eq0.false i.moves
    (rw c.in-Some.is at c.in_ok-first.ensures.given) c.in_ok-head.ensures.read
    c.in_err-write_record.ensures.fault
    (c.in_ok-head.ensures.counted ∙ c.in_ok-first.ensures.counted ∙ i.source_failures)
    (subst (λ (n : ℕ). CountsOne n (g.K.ByteSink.failures c.write_record.new.sink))
    i.sink_failures c.in_err-write_record.ensures.counted))

pub returns-clause-moved : goal.returns-clause-moved
returns-clause-moved g c =
    let none = none_left c.in_ok-first.field-0 c.in_default.not-Some in
    moves_end c.args.limit c.loop-first.left _ _ _ _ _ c.loop-first.invariant.moves
    (rw none at c.in_ok-first.ensures.given) (c.in_ok-first.ensures.end none)

pub returns-then-left-eq0-clause-gave_wrong : goal.returns-then-left-eq0-clause-gave_wrong
returns-then-left-eq0-clause-gave_wrong g c =
    full_read c.args.limit _ _ _ _ _ c.in-Some.first _
    (rw c.if-left-eq0.true at c.loop-first.invariant.gave)
    (rw c.in-Some.is at c.in_ok-first.ensures.gave)

pub returns-in_err-head-clause-gave_wrong : goal.returns-in_err-head-clause-gave_wrong
returns-in_err-head-clause-gave_wrong g c =
    let e = c.in_err-head.ensures in
    let p =
    err_from_is_err_and c.from_residual-in_err-head.result
    c.from_residual-in_err-head.ensures.1 in
    rw (p.1, p.2)
    (wrong_read c.args.limit c.loop-first.left _ _ _ _ _ _ c.in-Some.first
    c.in_err-head.field-0.0 _ _ _ c.if-left-eq0.false c.loop-first.invariant.gave
    (rw c.in-Some.is at c.in_ok-first.ensures.gave) e.fault.named e.wrong e.cut)

pub returns-in_err-first-clause-stopped_read : goal.returns-in_err-first-clause-stopped_read
returns-in_err-first-clause-stopped_read g c =
    let i = c.loop-first.invariant in
    let e = c.in_err-first.ensures in
    let p = err_from_is_err_and c.from_residual.result c.from_residual.ensures.1 in
    rw (p.1, p.2)
    (device_read c.args.limit c.loop-first.left _ _ _ _ _ _ _ _ _ _ _ c.in_err-first.field-0.0
    i.gave e.fault.0 e.kept i.source_failures e.counted i.sink_failures)

pub returns-then-left-eq0-clause-stopped_read : goal.returns-then-left-eq0-clause-stopped_read
returns-then-left-eq0-clause-stopped_read g c =
    full_stops c.args.limit _ _ _ _ _ c.in-Some.first _ _ _ _ _
    (rw c.if-left-eq0.true at c.loop-first.invariant.gave)
    (rw c.in-Some.is at c.in_ok-first.ensures.gave)

pub returns-in_err-head-clause-stopped_read : goal.returns-in_err-head-clause-stopped_read
returns-in_err-head-clause-stopped_read g c =
    let i = c.loop-first.invariant in
    let e = c.in_err-head.ensures in
    let p =
    err_from_is_err_and c.from_residual-in_err-head.result
    c.from_residual-in_err-head.ensures.1 in
    rw (p.1, p.2)
    (wrong_stops c.args.limit c.loop-first.left _ _ _ _ _ _ c.in-Some.first
    c.in_err-head.field-0.0 _ _ _ _ _ _ _ i.gave
    (rw c.in-Some.is at c.in_ok-first.ensures.gave) e.fault.named e.wrong e.cut
    (subst (λ (n : ℕ). CountsFault c.in_err-head.field-0.0 n
    (g.S.ByteSource.failures c.record_rest.new.source))
    (c.in_ok-first.ensures.counted ∙ i.source_failures) e.counted)
    i.sink_failures)

pub returns-in_err-write_record-clause-stopped_read :
    goal.returns-in_err-write_record-clause-stopped_read
returns-in_err-write_record-clause-stopped_read g c =
    let i = c.loop-first.invariant in
    let p =
    err_from_is_err_and c.from_residual-in_err-write_record.result
    c.from_residual-in_err-write_record.ensures.1 in
    rw (p.1, p.2)
    (write_stops c.args.limit c.loop-first.left _ _ _ _ _ _ _ c.in-Some.first
    (entry_of c.in_ok-head.head c.record_rest.new.buf) _ _ _ _ _ c.if-left-eq0.false i.gave
    (rw c.in-Some.is at c.in_ok-first.ensures.gave) c.in_ok-head.ensures.gave
    c.in_ok-head.ensures.read.fits c.in_ok-head.ensures.read.first_is
    c.in_err-write_record.ensures.part
    (c.in_ok-head.ensures.counted ∙ c.in_ok-first.ensures.counted ∙ i.source_failures)
    (subst (λ (n : ℕ). CountsOne n (g.K.ByteSink.failures c.write_record.new.sink))
    i.sink_failures c.in_err-write_record.ensures.counted))

pub returns-clause-moved_read : goal.returns-clause-moved_read
returns-clause-moved_read g c =
    let none = none_left c.in_ok-first.field-0 c.in_default.not-Some in
    moves_all c.args.limit c.loop-first.left _ _ _ _ _ _ c.loop-first.invariant.gave
    (rw none at c.in_ok-first.ensures.gave) (c.in_ok-first.ensures.ended none)

pub returns-in_err-first-clause-gave_wrong : goal.returns-in_err-first-clause-gave_wrong
returns-in_err-first-clause-gave_wrong g c =
    let i = c.loop-first.invariant in
    let e = c.in_err-first.ensures in
    let p = err_from_is_err_and c.from_residual.result c.from_residual.ensures.1 in
    rw (p.1, p.2)
    (device_wrong (records_at c.args.limit) (new_records c.args.limit) _ _ _ _ _ _ _ _ _
    c.in_err-first.field-0.0 e.fault.0
    (device_read c.args.limit c.loop-first.left _ _ _ _ _ _ _ _ _ _ _ c.in_err-first.field-0.0
    i.gave e.fault.0 e.kept i.source_failures e.counted i.sink_failures))

pub returns-in_err-write_record-clause-gave_wrong :
    goal.returns-in_err-write_record-clause-gave_wrong
returns-in_err-write_record-clause-gave_wrong g c =
    let i = c.loop-first.invariant in
    let p =
    err_from_is_err_and c.from_residual-in_err-write_record.result
    c.from_residual-in_err-write_record.ensures.1 in
    rw (p.1, p.2)
    (device_wrong (records_at c.args.limit) (new_records c.args.limit) _ _ _ _ _ _ _ _ _ Device tt
    (write_stops c.args.limit c.loop-first.left _ _ _ _ _ _ _ c.in-Some.first
    (entry_of c.in_ok-head.head c.record_rest.new.buf) _ _ _ _ _ c.if-left-eq0.false i.gave
    (rw c.in-Some.is at c.in_ok-first.ensures.gave) c.in_ok-head.ensures.gave
    c.in_ok-head.ensures.read.fits c.in_ok-head.ensures.read.first_is
    c.in_err-write_record.ensures.part
    (c.in_ok-head.ensures.counted ∙ c.in_ok-first.ensures.counted ∙ i.source_failures)
    (subst (λ (n : ℕ). CountsOne n (g.K.ByteSink.failures c.write_record.new.sink))
    i.sink_failures c.in_err-write_record.ensures.counted)))

-- where a call failed, what succeeds says nothing

pub returns-in_err-first-clause-moved : goal.returns-in_err-first-clause-moved
returns-in_err-first-clause-moved g c =
    let p = err_from_is_err_and c.from_residual.result c.from_residual.ensures.1 in
    rw p.1 tt

pub returns-in_err-first-clause-moved_read : goal.returns-in_err-first-clause-moved_read
returns-in_err-first-clause-moved_read g c =
    let p = err_from_is_err_and c.from_residual.result c.from_residual.ensures.1 in
    rw p.1 tt

pub returns-in_err-head-clause-moved : goal.returns-in_err-head-clause-moved
returns-in_err-head-clause-moved g c =
    let p =
    err_from_is_err_and c.from_residual-in_err-head.result
    c.from_residual-in_err-head.ensures.1 in
    rw p.1 tt

pub returns-in_err-head-clause-moved_read : goal.returns-in_err-head-clause-moved_read
returns-in_err-head-clause-moved_read g c =
    let p =
    err_from_is_err_and c.from_residual-in_err-head.result
    c.from_residual-in_err-head.ensures.1 in
    rw p.1 tt

pub returns-in_err-write_record-clause-moved : goal.returns-in_err-write_record-clause-moved
returns-in_err-write_record-clause-moved g c =
    let p =
    err_from_is_err_and c.from_residual-in_err-write_record.result
    c.from_residual-in_err-write_record.ensures.1 in
    rw p.1 tt

pub returns-in_err-write_record-clause-moved_read :
    goal.returns-in_err-write_record-clause-moved_read
returns-in_err-write_record-clause-moved_read g c =
    let p =
    err_from_is_err_and c.from_residual-in_err-write_record.result
    c.from_residual-in_err-write_record.ensures.1 in
    rw p.1 tt
