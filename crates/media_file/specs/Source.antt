-- What reading does to a source of octets.
use Rattle.std.specs.Prelude.{◌≡◌, ℕ, List, [], length, ⊤, Option, None, Some, Err}
use Rattle.std.specs.Io.KnownBytes.{Consumes, IsAtEnd}
use Rattle.media_file.specs.declared.fault.FileFault.{FileFault}
use Rattle.media_file.specs.declared.fault.FileFault.TheVariants.{Device, Truncated, BadField}
use Rattle.media_file.specs.Faults.{IfContent}
use Rattle.media_file.specs.Reading.{fault_at, rest_at}
use Rattle.media_file.specs.Records.{AllFit, Entry, Fits, path_octet, record_text}
use Rattle.media_file.specs.Records.{records_text, rest_text}

-- The source gave the rest of this record's text, and an octet is its first.
pub record ReadsRest (first : ℕ) (old new : Option (List ℕ)) (e : Entry) : Type 0 where
  pub fits : Fits e
  pub first_is : first ≡ path_octet e.path
  pub given : Consumes old new (rest_text e)

-- the octets that a source was to give say this, where it told them
abbrev pub IfTold : Option (List ℕ) → (List ℕ → Type 0) → Type 0
IfTold None P = ⊤
IfTold (Some octets) P = P octets

-- the faults of a record: the device fails, the octets end before, or the path is none
abbrev pub IsOfRecord : FileFault → Type 0
IsOfRecord Device = ⊤
IsOfRecord Truncated = ⊤
IsOfRecord BadField = ⊤
IsOfRecord _ = ⊥

-- A fault of a record that an octet begins: if it isn't the device's, it is the first in the octets
-- to come.
pub record FailsRest (f : FileFault) (first : ℕ) (old : Option (List ℕ)) : Type 0 where
  pub named : IsOfRecord f
  pub content : IfContent f (IfTold old (λ octets. rest_at first octets ≡ Err f))

-- The source gave the text of this record.
pub record ReadsRecord (old new : Option (List ℕ)) (e : Entry) : Type 0 where
  pub fits : Fits e
  pub given : Consumes old new (record_text e)

-- a source gave so many whole records
pub record GivesRecords (count : ℕ) (old new : Option (List ℕ)) : Type 0 where
  pub records : List Entry
  pub fit : AllFit records
  pub counted : length records ≡ count
  pub given : Consumes old new (records_text records)

-- a source has come to its end, and gave nothing more
pub record ReadsEnd (old new : Option (List ℕ)) : Type 0 where
  pub none : Consumes old new []
  pub before : IsAtEnd old
  pub after : IsAtEnd new

-- A fault in the place of a record: if it isn't the device's, it is what is wrong at the front of
-- the octets to come.
pub record FailsRecord (f : FileFault) (old : Option (List ℕ)) : Type 0 where
  pub named : IsOfRecord f
  pub content : IfContent f (IfTold old (λ octets. fault_at octets ≡ Some f))
