-- A capture of version 01, written as one of version 02 (own).
use Rattle.std.specs.Prelude.{◌≡◌, ℕ, List, [], ◌++◌, ◌⊎◌, length, ⊤, Option, Some, Result, Ok}
use Rattle.std.specs.Prelude.{Err}
use Rattle.std.specs.Io.KnownBytes.{Appends, Consumes}
use Rattle.st_format.specs.Device.{AppendsPrefix, CountsOne}
use Rattle.media_file.specs.declared.fault.FileFault.{FileFault}
use Rattle.media_file.specs.declared.fault.FileFault.TheVariants.{NoMemory, Device, BadVersion}
use Rattle.media_file.specs.declared.fault.FileFault.TheVariants.{TrailingBytes, MixedGroup}
use Rattle.media_file.specs.declared.front.Version.{Version}
use Rattle.media_file.specs.declared.front.Version.TheVariants.{One, Two}
use Rattle.media_file.specs.Capture.{capture_text, records_at}
use Rattle.st_format.specs.Given.{GaveWhole, Takes}
use Rattle.st_format.specs.Reading.{◌>>=◌}
use Rattle.media_file.specs.Fronts.{capture_name, kind_at}
use Rattle.media_file.specs.Reading.{entries_up_to}
use Rattle.media_file.specs.Records.{Entry, records_text}
use Rattle.media_file.specs.Source.{IfTold}

-- the records behind a front, where its version is 01
abbrev pub old_by : Version → ℕ → List ℕ → Result (List Entry × List ℕ) FileFault
old_by One limit octets = records_at limit octets
old_by Two limit octets = Err BadVersion

-- the records of a capture of version 01, at most so many
unfoldable pub old_at : ℕ → List ℕ → Result (List Entry × List ℕ) FileFault
old_at limit octets = kind_at capture_name octets >>= λ x. old_by x.0 limit x.1

-- What is written of octets, at most so many records: nothing where they don't begin a capture of
-- version 01; else the front with this text, and the records up to the first fault.
abbrev pub new_by : Version → ℕ → List ℕ → List ℕ → List ℕ
new_by One limit text behind = capture_text text (entries_up_to limit behind)
new_by Two limit text behind = []

-- what is written of what a front is read as, and of the octets behind it
abbrev pub new_behind : Result (Version × List ℕ) FileFault → ℕ → List ℕ → List ℕ
new_behind (Ok x) limit text = new_by x.0 limit text x.1
new_behind (Err f) limit text = []

-- what is written of a file's octets
unfoldable pub new_text : ℕ → List ℕ → List ℕ → List ℕ
new_text limit text octets = new_behind (kind_at capture_name octets) limit text

-- what is written of records
abbrev pub new_records : ℕ → List ℕ → List ℕ
new_records limit octets = records_text (entries_up_to limit octets)

-- Records up to the end were written.
pub record MovesAll (limit count : ℕ)
    (source_old source_new held_old held_new : Option (List ℕ)) : Type 0 where
  pub entries : List Entry
  pub read : Takes (records_at limit) source_old source_new entries
  pub counted : length entries ≡ count
  pub written : Appends held_old held_new (records_text entries)

-- all records were written
pub record Migrated (limit count : ℕ) (text : List ℕ)
    (source_old source_new held_old held_new : Option (List ℕ)) : Type 0 where
  pub entries : List Entry
  pub read : Takes (old_at limit) source_old source_new entries
  pub counted : length entries ≡ count
  pub written : Appends held_old held_new (capture_text text entries)

-- So it is of what a source gave and a sink took so far: records up to the end were written, and
-- the source has ended.
pub record MovesRead (limit count : ℕ) (before now : List ℕ) (ended : Type 0)
    (took took' : List ℕ) : Type 0 where
  pub entries : List Entry
  pub read : GaveWhole (records_at limit) before now ended entries
  pub counted : length entries ≡ count
  pub written : took' ≡ took ++ records_text entries

-- and a capture was
pub record MigratedRead (limit count : ℕ) (text before now : List ℕ) (ended : Type 0)
    (took took' : List ℕ) : Type 0 where
  pub entries : List Entry
  pub read : GaveWhole (old_at limit) before now ended entries
  pub counted : length entries ≡ count
  pub written : took' ≡ took ++ capture_text text entries

-- one of two devices failed once where the fault is a device's, and else none
abbrev pub CountsEither : FileFault → ℕ → ℕ → ℕ → ℕ → Type 0
CountsEither Device s t h k = (CountsOne s t × (k ≡ h)) ⊎ ((t ≡ s) × CountsOne h k)
CountsEither _ s t h k = (t ≡ s) × (k ≡ h)

-- what a source and a sink tell: what the one has to give, what the other holds, and how often each
-- has failed
pub record Devices : Type 0 where
  pub to_give : Option (List ℕ)
  pub source_failures : ℕ
  pub held : Option (List ℕ)
  pub sink_failures : ℕ

-- what the two tell now
abbrev pub devices : Option (List ℕ) → ℕ → Option (List ℕ) → ℕ → Devices
devices to_give source_failures held sink_failures = record {
  to_give = to_give;
  source_failures = source_failures;
  held = held;
  sink_failures = sink_failures;
}

-- The octets that the source was to give are at fault: the sink took what is written of them.
pub record StopsAtFault (written_of : List ℕ → List ℕ) (old new : Devices) : Type 0 where
  pub octets : List ℕ
  pub told : IfTold old.to_give (λ all. all ≡ octets)
  pub written : Appends old.held new.held (written_of octets)

-- The source failed: the sink took what is written of the octets that it gave.
pub record StopsReading (written_of : List ℕ → List ℕ) (old new : Devices) : Type 0 where
  pub source : CountsOne old.source_failures new.source_failures
  pub sink : new.sink_failures ≡ old.sink_failures
  pub octets : List ℕ
  pub given : Consumes old.to_give new.to_give octets
  pub written : Appends old.held new.held (written_of octets)

-- The sink failed: it took a first part of what is written of the octets that the source was to
-- give, and not all.
pub record StopsWriting (written_of : List ℕ → List ℕ) (old new : Devices) : Type 0 where
  pub source : new.source_failures ≡ old.source_failures
  pub sink : CountsOne old.sink_failures new.sink_failures
  pub octets : List ℕ
  pub told : IfTold old.to_give (λ all. all ≡ octets)
  pub written : AppendsPrefix old.held new.held (written_of octets)

-- what a fault says of the devices, by whose it is
abbrev pub Stops : (List ℕ → List ℕ) → FileFault → Devices → Devices → Type 0
Stops written_of Device old new = StopsReading written_of old new ⊎ StopsWriting written_of old new
Stops written_of fault old new = StopsAtFault written_of old new

-- The same of what a source gave and a sink took so far: it is what a fault says of a source that
-- was to give these octets, whatever is behind them, and of a sink that held what it took.
pub record StopsRead (written_of : List ℕ → List ℕ) (f : FileFault) (before now : List ℕ)
    (ended : Type 0) (s t : ℕ) (took took' : List ℕ) (h k : ℕ) : Type 0 where
  pub part : List ℕ
  pub grown : now ≡ before ++ part
  pub stops : (behind : List ℕ) → (ended → behind ≡ []) → Stops written_of f
      (devices (Some (part ++ behind)) s (Some took) h)
      (devices (Some behind) t (Some took') k)

-- the faults of a capture that is read without memory
abbrev pub IsOfCapture : FileFault → Type 0
IsOfCapture NoMemory = ⊥
IsOfCapture TrailingBytes = ⊥
IsOfCapture MixedGroup = ⊥
IsOfCapture _ = ⊤
