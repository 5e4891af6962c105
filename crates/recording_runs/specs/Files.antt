-- The files of `import` on this machine.
use Rattle.std.specs.Prelude.{◌≡◌, List, []}
use Rattle.std.specs.List.{AllByRecursion}
use Rattle.devices.specs.Passed.{file_gave}
use Rattle.devices.specs.declared.file_source.FileSource.{FileSource}
use Rattle.recording_engines.specs.Files.{AllClosed, gave_by}
use Rattle.recording_engines.specs.declared.file.ImportFile.{ImportFile}

-- none was looked at yet
abbrev pub AreNew : {A : Type 0} → List (ImportFile A FileSource) → Type 0
AreNew files = AllClosed files × AllByRecursion (λ f. gave_by file_gave f ≡ []) files
