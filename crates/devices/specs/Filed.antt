-- Files that are written into a directory, one after the other (own).
use Rattle.std.specs.Prelude.{ℕ, List, [], Option, None, Some, map}
use Rattle.devices.specs.Written.{draft_took}
use Rattle.devices.specs.declared.directory_output.DirectoryOutput.{DirectoryOutput}
use Rattle.devices.specs.declared.directory_output.NextFile.{NextFile}
use Rattle.devices.specs.declared.draft.Draft.{Draft}
use Rattle.devices.specs.declared.filed.Filed.{Filed}

-- what was written of a file, where one was begun
abbrev pub begun_took : {R F D A : Type 0} → Option (Draft R F D A) → List ℕ
begun_took None = []
begun_took (Some d) = draft_took d

-- what was written of the file that is next to take its name, where it was begun
abbrev pub next_took : NextFile → List ℕ
next_took f = begun_took f.draft

-- how often one could not be begun, written or given its name
abbrev pub next_failures : NextFile → ℕ
next_failures f = f.failures

-- a file that has its name: the octets of the name, and its own
abbrev pub file_of : Filed → List ℕ × List ℕ
file_of f = (f.name.octets, f.took.octets)

-- The files that took their names, in order. One may have replaced another of the same name.
abbrev pub filed_files : DirectoryOutput → List (List ℕ × List ℕ)
filed_files d = map file_of d.filed.items

-- how often a file of the directory could not be begun, written or given its name
abbrev pub directory_failures : DirectoryOutput → ℕ
directory_failures d = next_failures d.file
