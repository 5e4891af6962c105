-- The line of a frame.
use Rattle.std.specs.Prelude.{ℕ, List, ◌++◌, codes, [], ◌∷◌, Option, None, Some}
use Rattle.std.specs.Fmt.{decimal}
use Rattle.frame_assembly.specs.declared.counts.Counts.{Counts}
use Rattle.std.specs.List.{flat_map}
use Rattle.frame_assembly.specs.Kinds.{counts_of}
use Rattle.path_receiver.specs.Frames.{State, frame_at}
use Rattle.st_format.specs.Raster.{Raster}

-- a word, a timestamp and how many samples are of each kind
abbrev pub frame_counts : List ℕ → ℕ → Counts → List ℕ
frame_counts word timestamp counts =
    word ++ (decimal timestamp ++ (codes " present " ++ (decimal counts.present
    ++ (codes " missing " ++ (decimal counts.missing ++ (codes " contested "
    ++ decimal counts.contested))))))

-- the line of a frame of a timestamp, where there is one: how many of its samples are of each kind
abbrev pub frame_line : ℕ → Option Raster → List ℕ
frame_line timestamp None = []
frame_line timestamp (Some frame) =
    frame_counts (codes "frame ") timestamp (counts_of frame) ++ 10 ∷ []

-- the line of a receiver's frame of a timestamp
abbrev pub frame_line_at : State → ℕ → List ℕ
frame_line_at s timestamp = frame_line timestamp (frame_at s.opening.window s.frames timestamp)

-- The lines of a receiver's frames, one for each timestamp of its window, in its order (own)
abbrev pub frame_lines : State → List ℕ
frame_lines s = flat_map (frame_line_at s) s.opening.window
