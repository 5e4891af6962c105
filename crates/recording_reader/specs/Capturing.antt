-- Reading a capture from one record to the next.
use Rattle.std.specs.Prelude.{◌≡◌, ℕ, List, [], ◌++◌, Some}
use Rattle.media_file.specs.Faults.{IfContent}
use Rattle.media_file.specs.Reading.{entries_in, fault_at}
use Rattle.media_file.specs.Records.{Entry, Fits, record_text}
use Rattle.media_file.specs.Source.{IsOfRecord}
use Rattle.media_file.specs.declared.fault.FileFault.{FileFault}
use Rattle.media_file.specs.declared.fault.FileFault.TheVariants.{Truncated}

-- A source gave the text of this record.
pub record ReadsRecord (old new : List ℕ) (e : Entry) : Type 0 where
  pub fits : Fits e
  pub grown : new ≡ old ++ record_text e

-- These octets are no record: none, a first part of one, or a wrong one. A fault of the content is
-- theirs, and a record that is cut is so where the source has ended.
pub record IsNoRecord (f : FileFault) (ended : Type 0) (part : List ℕ) : Type 0 where
  pub named : IsOfRecord f
  pub none : entries_in part ≡ []
  pub told : IfContent f (fault_at part ≡ Some f)
  pub cut : f ≡ Truncated → ended

-- A source gave octets that are no record.
pub record FailsRecord (f : FileFault) (old new : List ℕ) (ended : Type 0) : Type 0 where
  pub part : List ℕ
  pub grown : new ≡ old ++ part
  pub no_record : IsNoRecord f ended part
