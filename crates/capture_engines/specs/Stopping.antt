-- What ends the reading of a file before its end (own).
use Rattle.std.specs.Prelude.{◌≡◌, ◌<◌, ℕ, ◌⊎◌, List}
use Rattle.media_file.specs.declared.fault.FileFault.TheVariants.{TooManyRecords}
use Rattle.recording_reader.specs.declared.fault.ReadingFault.{ReadingFault}
use Rattle.recording_reader.specs.declared.way.Standing.{Standing}
use Rattle.recording_reader.specs.declared.way.Standing.TheVariants.{Failed, Reads}
use Rattle.run_outcome.specs.LowerFaults.{capture_fault, reading_fault}
use Rattle.run_outcome.specs.Refusing.{OfRefusal}
use Rattle.run_outcome.specs.declared.fault.Fault.{Fault}
use Rattle.capture_engines.specs.Received.{IsFrontRefusal, Opens}

-- A reader that gave so many records came to this fault: the file's, or the device's; or there are
-- as many as are taken.
abbrev pub IsReadingStop : Standing → ℕ → Fault → Type 0
IsReadingStop standing count f =
    ((g : ReadingFault) × (standing ≡ Failed g) × (f ≡ reading_fault g))
    ⊎ ((standing ≡ Reads) × (f ≡ capture_fault TooManyRecords) × (count ≡ 16777216))

-- a reader gave fewer records than are taken, or reads on
abbrev pub IsWithinTaken : Standing → ℕ → Type 0
IsWithinTaken standing count = (count < 16777216) ⊎ (standing ≡ Reads)

-- What ends the taking of a file with this text: the fault to which its reader came, where a
-- receiver was open or is opened by the text; or the refusal of opening by it, where none was.
abbrev pub StopsOpened : List ℕ → List ℕ → Type 0 → Standing → ℕ → Fault → Type 0
StopsOpened window text Unopened standing count f =
    ((Unopened → Opens window text) × IsWithinTaken standing count
    × IsReadingStop standing count f)
    ⊎ OfRefusal f (λ r. Unopened × IsFrontRefusal window text r)
