-- What a source of octets gave while a capture was read, by both that it tells: what it was to
-- give, where it tells that, and what it gave so far (own).
use Rattle.std.specs.Prelude.{◌≡◌, ℕ, List, [], ◌++◌, Option, Some, Result, Err}
use Rattle.std.specs.Io.KnownBytes.{Consumes}
use Rattle.st_format.specs.Device.{Told}
use Rattle.media_file.specs.declared.fault.FileFault.{FileFault}
use Rattle.media_file.specs.declared.fault.FileFault.TheVariants.{Truncated}
use Rattle.media_file.specs.declared.reader.Standing.{Standing}
use Rattle.media_file.specs.declared.reader.Standing.TheVariants.{Reads, Ended, Failed}
use Rattle.media_file.specs.Faults.{IfContent}
use Rattle.media_file.specs.Reading.{entries_in, fault_at}
use Rattle.media_file.specs.Records.{AllFit, Entry, records_text}

-- A source gave octets of which a reading makes no value: what it was to give and what it gave so
-- far were `was` and `old`, and are `left` and `new`. A fault of the content is theirs.
pub record GivesWrong {X : Type 0} (reading : List ℕ → Result (X × List ℕ) FileFault)
    (f : FileFault) (was left : Option (List ℕ)) (old new : List ℕ) : Type 0 where
  pub part : List ℕ
  pub given : Consumes was left part
  pub grown : new ≡ old ++ part
  pub fault : FileFault
  pub none : reading part ≡ Err fault
  pub told : IfContent f (fault ≡ f)

-- A source gave octets that are no record: none, a first part of one, or a wrong one. A fault of
-- the content is theirs.
pub record GivesNone (f : FileFault) (was left : Option (List ℕ)) (old new : List ℕ) : Type 0 where
  pub part : List ℕ
  pub given : Consumes was left part
  pub grown : new ≡ old ++ part
  pub none : entries_in part ≡ []
  pub told : IfContent f (fault_at part ≡ Some f)

-- since a source told `before` it gave whole records, and nothing else
pub record GaveRecords (before : Told) (to_give : Option (List ℕ)) (gave : List ℕ) : Type 0 where
  pub records : List Entry
  pub fit : AllFit records
  pub given : Consumes before.to_give to_give (records_text records)
  pub grown : gave ≡ before.gave ++ records_text records

-- Since a source told `before` it gave whole records, and behind them octets that are none. A fault
-- of the content is theirs; a record that is cut is so where the source has ended.
pub record GaveNone (f : FileFault) (before : Told) (to_give : Option (List ℕ)) (gave : List ℕ)
    (ended : Type 0) : Type 0 where
  pub records : List Entry
  pub fit : AllFit records
  pub part : List ℕ
  pub given : Consumes before.to_give to_give (records_text records ++ part)
  pub grown : gave ≡ before.gave ++ (records_text records ++ part)
  pub none : entries_in part ≡ []
  pub told : IfContent f (fault_at part ≡ Some f)
  pub cut : f ≡ Truncated → ended

-- What its source gave a reader of a capture since the records began, by where the reader stands:
-- whole records up to here, up to the end, or up to the fault.
abbrev pub HasGiven : Standing → Told → Option (List ℕ) → List ℕ → Type 0 → Type 0
HasGiven Reads before to_give gave ended = GaveRecords before to_give gave
HasGiven Ended before to_give gave ended = GaveRecords before to_give gave × ended
HasGiven (Failed f) before to_give gave ended = GaveNone f before to_give gave ended
