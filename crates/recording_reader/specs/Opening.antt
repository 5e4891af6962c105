-- Why a file of datagrams was not opened.
use Rattle.std.specs.Prelude.{◌≡◌, ℕ, ⊤, List, ◌++◌, true, length, Option, None, IsSome}
use Rattle.flow.specs.declared.flows.Flows.{Flows}
use Rattle.recording_reader.specs.Files.{CountsReadingFault, IfFile, IsFrontFault}
use Rattle.recording_reader.specs.Kinds.{is_recording}
use Rattle.recording_reader.specs.declared.fault.FileOpeningFault.{FileOpeningFault}
use Rattle.recording_reader.specs.declared.fault.FileOpeningFault.TheVariants.{NoFlows, NoMemory}
use Rattle.recording_reader.specs.declared.fault.FileOpeningFault.TheVariants.{Reading}
use Rattle.recording_reader.specs.declared.fault.ReadingFault.TheVariants.{Capture, Recording}
use Rattle.st_format.specs.History.{IsRead}

-- a source gave four octets, and no other
pub record HasGivenFour (before now : List ℕ) : Type 0 where
  pub four : List ℕ
  pub counted : length four ≡ 4
  pub grown : now ≡ before ++ four

-- What a fault says by which a file was not opened, of which a source gave octets. It is a
-- recording, and there are no flows; room was refused, and flows aren't wanting: both with the
-- first four octets read. A fault of the file's is that of its front, whatever is behind those
-- octets.
abbrev pub StopsOpening : Option Flows → List ℕ → List ℕ → Type 0 → FileOpeningFault → Type 0
StopsOpening flows before now ended NoFlows = HasGivenFour before now × (flows ≡ None)
    × ((octets : List ℕ) → IsRead before now ended octets → is_recording octets ≡ true)
StopsOpening flows before now ended NoMemory = HasGivenFour before now
    × ((octets : List ℕ) → IsRead before now ended octets → is_recording octets ≡ true
    → IsSome flows)
StopsOpening flows before now ended (Reading f) =
    (octets : List ℕ) → IsRead before now ended octets → IfFile f (IsFrontFault f octets)

-- and of how often the source failed
abbrev pub CountsOpening : FileOpeningFault → ℕ → ℕ → Type 0
CountsOpening NoFlows old new = new ≡ old
CountsOpening NoMemory old new = new ≡ old
CountsOpening (Reading f) old new = CountsReadingFault f old new

-- a recording's fault comes only where there are flows by which it is read
abbrev pub IsByFlows : Option Flows → FileOpeningFault → Type 0
IsByFlows flows NoFlows = ⊤
IsByFlows flows NoMemory = ⊤
IsByFlows flows (Reading (Capture f)) = ⊤
IsByFlows flows (Reading (Recording f)) = IsSome flows
