-- The first line of a report: what a receiver was opened with (own).
use Rattle.std.specs.Prelude.{ℕ, List, ◌++◌, codes, Option, Some, None}
use Rattle.std.specs.Fmt.{decimal}
use Rattle.st_format.specs.declared.format.Format.{Format}
use Rattle.st_format.specs.Pgroup.{bits_of}
use Rattle.st_format.specs.Words.{sampling_text}
use Rattle.path_receiver.specs.Opening.{Opening}
use Rattle.frame_report.specs.Gathers.{numbered_word}

-- sampling, depth, width, height and rate
abbrev pub raster_text : Format → List ℕ
raster_text f =
    sampling_text f.sampling ++ (numbered_word (codes " ") (bits_of f.depth)
    ++ (numbered_word (codes " ") f.width ++ (numbered_word (codes " ") f.height
    ++ (numbered_word (codes " ") f.n ++ numbered_word (codes "/") f.d))))

-- the source that is pinned, or any
abbrev pub source_text : Option ℕ → List ℕ
source_text None = codes "any"
source_text (Some ssrc) = decimal ssrc

-- `receiver S B W H N/D pt PT ssrc X`
abbrev pub opening_line : Opening → List ℕ
opening_line o =
    codes "receiver " ++ (raster_text o.format ++ (numbered_word (codes " pt ") o.payload_type
    ++ (codes " ssrc " ++ (source_text o.ssrc ++ codes "\n"))))
