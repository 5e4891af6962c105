use Rattle.std.proofs.Common.{refl, arith}
use Rattle.media_file.specs.Records.{Entry, entry_of}
use Rattle.media_file.proofs.Dues.{gives_record, gives_end}
use Rattle.media_file.proofs.Givings.{came_again, came_same, came_still, given_again, given_all}
use Rattle.media_file.proofs.Givings.{given_records, given_wrong}
use Rattle.media_file.proofs.Standings.{stands_again, stands_at_end, stands_at_fault}
use Rattle.media_file.proofs.reader.CaptureReaderDatagramSource.next.Goals as goal

pub returns-in-Ok-Some-clause-turn : goal.returns-in-Ok-Some-clause-turn
returns-in-Ok-Some-clause-turn g c =
    rw (← c.self.view_is)
    (gives_record _ _ _ _
    (entry_of c.in-Ok-Some.head c.read_record.new.buf) c.in-Reads.is c.in-Reads.is
    (rw c.in-Ok-Some.field-0-is at c.in-Ok-Some.ensures.read))

pub returns-in-Ok-None-clause-turn : goal.returns-in-Ok-None-clause-turn
returns-in-Ok-None-clause-turn g c =
    let end =
    gives_end _ _ _ c.in-Reads.is (rw c.in-Ok-None.field-0-is at c.in-Ok-None.ensures.read) in
    rw (← c.self.view_is) (end.0, end.1, refl)

pub invariant_of-self-in-Ok-Some : goal.invariant_of-self-in-Ok-Some
invariant_of-self-in-Ok-Some g c =
    let told = g.S.ByteSource in
    let was = c.self.inside in
    let e : Entry = entry_of c.in-Ok-Some.head c.read_record.new.buf in
    let read = rw c.in-Ok-Some.field-0-is at c.in-Ok-Some.ensures.read in (
      stands_again was.standing was.delivered _ _ (told.to_give was.source)
          (told.to_give c.read_record.new.source) (told.failures was.source)
          (told.failures c.read_record.new.source) e c.in-Reads.is c.self.invariant.0 read
          (omega (arith, c.saturating_add-self-inside-in-Ok-Some.ensures))
          c.in-Ok-Some.ensures.counted,
      given_again was.standing _ (told.to_give was.source)
          (told.to_give c.read_record.new.source) (told.gave was.source)
          (told.gave c.read_record.new.source) (told.ended was.source)
          (told.ended c.read_record.new.source) e c.in-Reads.is c.self.invariant.1 read
          (rw c.in-Ok-Some.field-0-is at c.in-Ok-Some.ensures.gave),
    )

pub invariant_of-self-in-Ok-None : goal.invariant_of-self-in-Ok-None
invariant_of-self-in-Ok-None g c =
    let told = g.S.ByteSource in
    let was = c.self.inside in
    let read = rw c.in-Ok-None.field-0-is at c.in-Ok-None.ensures.read in
    let gave = rw c.in-Ok-None.field-0-is at c.in-Ok-None.ensures.gave in (
      stands_at_end was.standing was.delivered _ (told.to_give was.source)
          (told.to_give c.read_record.new.source) (told.failures was.source)
          (told.failures c.read_record.new.source) c.in-Reads.is c.self.invariant.0 read
          c.in-Ok-None.ensures.counted,
      given_all was.standing _ (told.to_give was.source)
          (told.to_give c.read_record.new.source) (told.gave was.source)
          (told.gave c.read_record.new.source) (told.ended was.source)
          (told.ended c.read_record.new.source) c.in-Reads.is c.self.invariant.1 read
          gave.0 gave.1,
    )

pub invariant_of-self-in-Err : goal.invariant_of-self-in-Err
invariant_of-self-in-Err g c =
    let told = g.S.ByteSource in
    let was = c.self.inside in
    let said = c.in-Err.ensures in (
      stands_at_fault was.standing c.in-Err.fault was.delivered _ (told.to_give was.source)
          (told.to_give c.read_record.new.source) (told.failures was.source)
          (told.failures c.read_record.new.source) c.in-Reads.is c.self.invariant.0
          said.fault said.counted,
      given_wrong was.standing c.in-Err.fault _ (told.to_give was.source)
          (told.to_give c.read_record.new.source) (told.gave was.source)
          (told.gave c.read_record.new.source) (told.ended was.source)
          (told.ended c.read_record.new.source) c.in-Reads.is c.self.invariant.1
          said.wrong said.cut,
    )

pub returns-in-Ok-Some-clause-came : goal.returns-in-Ok-Some-clause-came
returns-in-Ok-Some-clause-came g c =
    let told = g.S.ByteSource in
    let was = c.self.inside in
    let read = rw c.in-Ok-Some.field-0-is at c.in-Ok-Some.ensures.read in
    rw (← c.self.view_is)
    (came_again _ (told.to_give was.source) (told.gave was.source)
    (told.gave c.read_record.new.source) (entry_of c.in-Ok-Some.head c.read_record.new.buf)
    (given_records was.standing _ (told.to_give was.source) (told.gave was.source)
    (told.ended was.source) c.in-Reads.is c.self.invariant.1) read.fits
    (rw c.in-Ok-Some.field-0-is at c.in-Ok-Some.ensures.gave))

pub returns-in-Ok-None-clause-came : goal.returns-in-Ok-None-clause-came
returns-in-Ok-None-clause-came g c =
    let told = g.S.ByteSource in
    let was = c.self.inside in
    let gave = rw c.in-Ok-None.field-0-is at c.in-Ok-None.ensures.gave in
    rw (← c.self.view_is)
    (came_same _ (told.gave was.source) (told.gave c.read_record.new.source) gave.0)

pub returns-in-Err-clause-kept : goal.returns-in-Err-clause-kept
returns-in-Err-clause-kept g c =
    let told = g.S.ByteSource in
    let was = c.self.inside in
    rw (← c.self.view_is)
    (came_still c.in-Err.fault _ (told.to_give was.source)
    (told.to_give c.read_record.new.source) (told.gave was.source)
    (told.gave c.read_record.new.source)
    (given_records was.standing _ (told.to_give was.source) (told.gave was.source)
    (told.ended was.source) c.in-Reads.is c.self.invariant.1) c.in-Err.ensures.wrong)
