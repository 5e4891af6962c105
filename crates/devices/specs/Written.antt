-- What a file that is written took, and where that is (own).
use Rattle.std.specs.Prelude.{◌≡◌, ℕ, Option, List, [], ◌++◌, None, Some, ⊤}
use Rattle.std.specs.Io.Buffered.{writer_buffer, writer_inner}
use Rattle.std.specs.declared.io.buffered.BufWriter.{BufWriter}
use Rattle.devices.specs.declared.draft.Draft.{Draft}
use Rattle.devices.specs.declared.file_sink.Progress.{Progress}
use Rattle.devices.specs.declared.file_sink.Progress.TheVariants.{Front, Direct, Beside, Removed}
use Rattle.devices.specs.declared.history.History.{History}
use Rattle.devices.specs.declared.noted.Noted.{Noted}

-- a stream: what went into it, and what waits to
abbrev pub stream_took : {T A : Type 0} → BufWriter (Noted T) A → List ℕ
stream_took w = (writer_inner w).wrote.octets ++ writer_buffer w

-- a file that hasn't its name yet: what went into it, and what waits to
abbrev pub draft_took : {R F D A : Type 0} → Draft R F D A → List ℕ
draft_took d = stream_took d.writer

-- what was written so far, wherever it stands
abbrev pub taken_by : Progress → List ℕ
taken_by Front = []
taken_by (Direct w) = stream_took w
taken_by (Beside d) = draft_took d
taken_by (Removed d) = draft_took d

-- what was taken: what took the name; else what was written so far
abbrev pub took_in : Option History → Progress → List ℕ
took_in (Some file) p = file.octets
took_in None p = taken_by p

-- all that was taken is in the file that took the name, or went into a stream
abbrev pub IsWrittenOut : Option History → Progress → Type 0
IsWrittenOut (Some file) p = ⊤
IsWrittenOut None Front = ⊤
IsWrittenOut None (Direct w) = writer_buffer w ≡ []
IsWrittenOut None (Beside d) = ⊥
IsWrittenOut None (Removed d) = ⊥

-- no file stands beside the name
abbrev pub IsWithout : Progress → Type 0
IsWithout Front = ⊤
IsWithout (Direct w) = ⊤
IsWithout (Beside d) = ⊥
IsWithout (Removed d) = ⊤
