-- ReportText: what a report says of what a receiver was opened with, and of its cells (own).
use Rattle.std.specs.Prelude.{ℕ, List, [], ◌++◌, codes, Option, Some, None}
use Rattle.std.specs.List.{flat_map}
use Rattle.st_format.specs.Raster.{Raster}
use Rattle.path_receiver.specs.Frames.{State, frame_at}
use Rattle.frame_assembly.specs.Kinds.{counts_of}
use Rattle.frame_assembly.specs.declared.counts.Counts.{Counts}
use Rattle.frame_report.specs.Gathers.{numbered_word}
use Rattle.frame_report.specs.Opening.{opening_line}
use Rattle.frame_report.specs.Missing.{missing_lines}
use Rattle.frame_report.specs.Contested.{contested_lines}

-- `frame TS present P missing M contested C`
abbrev pub counts_line : ℕ → Counts → List ℕ
counts_line timestamp counts =
    numbered_word (codes "frame ") timestamp ++ (numbered_word (codes " present ") counts.present
    ++ (numbered_word (codes " missing ") counts.missing
    ++ (numbered_word (codes " contested ") counts.contested ++ codes "\n")))

-- the lines of a frame: its counts, its missing runs, its contested samples
abbrev pub frame_text : ℕ → Raster → List ℕ
frame_text timestamp r =
    counts_line timestamp (counts_of r) ++ (missing_lines r ++ contested_lines r)

-- those of a timestamp, where there is a frame of it
abbrev pub text_if : ℕ → Option Raster → List ℕ
text_if timestamp None = []
text_if timestamp (Some r) = frame_text timestamp r

-- those of a timestamp of a receiver's window
abbrev pub text_at : State → ℕ → List ℕ
text_at s timestamp = text_if timestamp (frame_at s.opening.window s.frames timestamp)

-- those of all timestamps, in window order
abbrev pub frames_text : State → List ℕ
frames_text s = flat_map (text_at s) s.opening.window

-- ReportText: a line of the opening, the lines of the frames, and a last line
abbrev pub report_text : State → List ℕ
report_text s = opening_line s.opening ++ (frames_text s ++ codes "end\n")
