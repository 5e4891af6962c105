-- The files that `follow` writes, where they are named (own).
use Rattle.std.specs.Prelude.{◌≡◌, ◌⊎◌, ◌+◌, ℕ, Bool, List, [], ◌++◌, Option, None, Some, IfSome}
use Rattle.std.specs.Prelude.{IsFalse, IsSome, option_map}
use Rattle.follow_runs.specs.Pictured.{IsSinkOver, SameFile, failures_under}
use Rattle.follow_runs.specs.Pictured.{file_under, octets_under}
use Rattle.follow_runs.specs.declared.outputs.FollowOutputs.{FollowOutputs}
use Rattle.follow_runs.specs.declared.picture_directory.PictureDirectory.{PictureDirectory}
use Rattle.follow_runs.specs.declared.unplaced.UnplacedOutput.{UnplacedOutput}
use Rattle.devices.specs.Filed.{directory_failures, filed_files}
use Rattle.devices.specs.Passed.{IsInPlace, IsUnplaced, file_took, writing_failures}
use Rattle.devices.specs.declared.file_output.FileOutput.{FileOutput}
use Rattle.following.specs.Following.{Handed}
use Rattle.follow_engine.specs.Shown.{TakesIn}
use Rattle.frame_sinks.specs.Files.{FilesFrame, files_for}
use Rattle.frame_sinks.specs.Pictures.{pictures_of}
use Rattle.frame_sinks.specs.Sinks.{SinkTakes, TakesBoth, TakesLines, frames_report}
use Rattle.frame_sinks.specs.declared.both.BothSinks.{BothSinks}
use Rattle.frame_sinks.specs.declared.files_sink.FilesSink.{FilesSink}
use Rattle.frame_sinks.specs.declared.filling.Filling.{Filling}
use Rattle.frame_sinks.specs.declared.form_sink.FormSink.{FormSink}
use Rattle.frame_sinks.specs.declared.report_sink.ReportSink.{ReportSink}
use Rattle.run_outcome.specs.Fault.{failures_in}

-- these files
abbrev pub outputs_of : Option FileOutput → Option FileOutput → Option PictureDirectory
    → FollowOutputs
outputs_of out report pictures = record { out = out; report = report; pictures = pictures }

-- ---- where they stand

-- no picture was written into the directory, where there is one
abbrev pub AreNoPictures : Option PictureDirectory → Type 0
AreNoPictures pictures = IfSome pictures (λ d. filed_files d.directory ≡ [])

-- nothing went into them, and what stood under their names stands there
abbrev pub AreUnwritten : FollowOutputs → Type 0
AreUnwritten o = IfSome o.out (λ f. (file_took f ≡ []) × IsUnplaced f)
    × IfSome o.report (λ f. (file_took f ≡ []) × IsUnplaced f) × AreNoPictures o.pictures

-- what stood under their names stands there
abbrev pub AreUnplaced : FollowOutputs → Type 0
AreUnplaced o = IfSome o.out (λ f. IsUnplaced f) × IfSome o.report (λ f. IsUnplaced f)

-- all that they took is in the files that have their names
abbrev pub AreInPlace : FollowOutputs → Type 0
AreInPlace o = IfSome o.out (λ f. IsInPlace f) × IfSome o.report (λ f. IsInPlace f)

-- What stood under their names stands there; but where the pictures' file alone could not take its
-- name, the report has its own.
abbrev pub AreLeft : FollowOutputs → Type 0
AreLeft o = IfSome o.out (λ f. IsUnplaced f) × (IfSome o.report (λ f. IsUnplaced f)
    ⊎ (IsSome o.out × IfSome o.report (λ f. IsInPlace f)))

-- where one is named, none is a file that is read
abbrev pub AreApart : FollowOutputs → Bool → Type 0
AreApart o is_input = IfSome o.out (λ _. IsFalse is_input) × IfSome o.report (λ _. IsFalse is_input)

-- ---- what they took, and how often one failed

-- A file took what a report has of these frames, where there is one; and nothing else.
abbrev pub TakesReport : List Handed → Option FileOutput → Option FileOutput → Type 0
TakesReport frames None g = g ≡ None
TakesReport frames (Some f) None = ⊥
TakesReport frames (Some f) (Some g) = file_took g ≡ file_took f ++ frames_report frames

-- The files that took their names in a directory are those of the pictures of these frames, where
-- there is one; and no others.
abbrev pub FilesFrames : Filling → Option (List ℕ) → List Handed → Option PictureDirectory
    → Option PictureDirectory → Type 0
FilesFrames filling fill frames None e = e ≡ None
FilesFrames filling fill frames (Some d) None = ⊥
FilesFrames filling fill frames (Some d) (Some e) = filed_files e.directory
    ≡ filed_files d.directory ++ files_for frames (pictures_of filling fill None frames)

-- how often a directory of pictures failed
abbrev pub pictures_failures : PictureDirectory → ℕ
pictures_failures d = directory_failures d.directory

-- how often the files failed that a run writes, all together
abbrev pub written_failures : FollowOutputs → ℕ
written_failures o = failures_in writing_failures o.out
    + (failures_in writing_failures o.report + failures_in pictures_failures o.pictures)

-- they took nothing more, and failed no more
abbrev pub SameOutputs : FollowOutputs → FollowOutputs → Type 0
SameOutputs o p =
    SameFile o.out p.out × SameFile o.report p.report × (p.pictures ≡ o.pictures)

-- ---- the sinks over them

-- a sink of what frames lack stands over the file
abbrev pub IsReportOver : Option FileOutput → Option (ReportSink UnplacedOutput) → Type 0
IsReportOver None k = k ≡ None
IsReportOver (Some f) None = ⊥
IsReportOver (Some f) (Some k) = k.sink.file ≡ f

-- the file below a sink of what frames lack
abbrev pub report_under : Option (ReportSink UnplacedOutput) → Option FileOutput
report_under k = option_map (λ s. s.sink.file) k

-- how often the file of a report failed
abbrev pub report_failures : ReportSink UnplacedOutput → ℕ
report_failures k = writing_failures k.sink.file

-- a sink of pictures stands over the directory, and nothing was settled
abbrev pub IsFilesOver : {A : Type 0} → Filling → Option (List ℕ) → Option PictureDirectory
    → Option (FilesSink PictureDirectory A) → Type 0
IsFilesOver filling fill None k = k ≡ None
IsFilesOver filling fill (Some d) None = ⊥
IsFilesOver filling fill (Some d) (Some k) = (k.files ≡ d) × (k.settling.filling ≡ filling)
    × (k.settling.fill ≡ fill) × (k.settling.held ≡ None)

-- the directory below a sink of pictures
abbrev pub directory_under : {A : Type 0} → Option (FilesSink PictureDirectory A)
    → Option PictureDirectory
directory_under k = option_map (λ s. s.files) k

-- the files in a directory that have their names, each name with its octets
abbrev pub files_under : PictureDirectory → List (List ℕ × List ℕ)
files_under d = filed_files d.directory

-- how often the directory failed that pictures are filed in
abbrev pub files_failures : {A : Type 0} → FilesSink PictureDirectory A → ℕ
files_failures k = directory_failures k.files.directory

-- the sinks over all of them
abbrev pub FollowSinks : Type 0 → Type 0
FollowSinks A = BothSinks (Option (FormSink UnplacedOutput A))
    (BothSinks (Option (ReportSink UnplacedOutput)) (Option (FilesSink PictureDirectory A)))

-- the sinks stand over these files, and no picture was settled
abbrev pub AreSinksOver : {A : Type 0} → Filling → Option (List ℕ) → FollowOutputs → FollowSinks A
    → Type 0
AreSinksOver filling fill o k = IsSinkOver filling fill o.out k.first
    × IsReportOver o.report k.second.first × IsFilesOver filling fill o.pictures k.second.second

-- the files that sinks write to
abbrev pub outputs_under : {A : Type 0} → FollowSinks A → FollowOutputs
outputs_under k = outputs_of (file_under k.first) (report_under k.second.first)
    (directory_under k.second.second)

-- all of them took a frame
abbrev pub TakesAllOver : {A : Type 0} → FollowSinks A → Handed → FollowSinks A → Type 0
TakesAllOver k h l = TakesBoth (TakesIn (SinkTakes octets_under))
    (TakesBoth (TakesIn (TakesLines octets_under)) (TakesIn (FilesFrame files_under))) k h l

-- how often the files under sinks failed, all together
abbrev pub sinks_failures : {A : Type 0} → FollowSinks A → ℕ
sinks_failures k = failures_in failures_under k.first
    + (failures_in report_failures k.second.first + failures_in files_failures k.second.second)
