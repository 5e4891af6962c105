-- The lines of the frames, timestamp by timestamp.
use Rattle.std.proofs.Common.{◌≡◌, ℕ, zero, suc, ◌+◌, ◌<◌, List, [], ◌∷◌, ◌++◌, length, get_or}
use Rattle.std.proofs.Common.{Some, refl, sym, ap, ◌∙◌, inl, inr, codes, count_by}
use Rattle.std.proofs.Common.{arith, drop}
use Rattle.std.specs.List.{flat_map}
use Rattle.st_format.specs.Member.{IsMember}
use Rattle.st_format.specs.Raster.{Raster}
use Rattle.path_receiver.specs.Frames.{State, frame_at}
use Rattle.frame_assembly.specs.declared.counts.Counts.{Counts}
use Rattle.st_format.specs.Cell.{is_contested, is_missing, is_present}
use Rattle.frame_report.specs.Gathers.{numbered_word}
use Rattle.frame_assembly.specs.Kinds.{counts_of}
use Rattle.frame_report.specs.Report.{counts_line, frame_text, text_at}
use Rattle.frame_report.specs.Report.{text_if}
use Rattle.frame_report.proofs.Ranges.{items_here}

pub member_of : (w : List ℕ) (i : ℕ) → i < length w → IsMember (get_or w i 0) w
member_of [] i lt = absurd (omega (arith, lt))
member_of (x ∷ w) zero lt = inl refl
member_of (x ∷ w) (suc i) lt = inr (member_of w i (omega (arith, lt)))

-- the texts of the timestamps from a place on
abbrev pub frames_from : State → ℕ → List ℕ
frames_from s i = flat_map (text_at s) (drop i s.opening.window)

pub frames_here : (s : State) (i t : ℕ) (r : Raster) → i < length s.opening.window
    → t ≡ get_or s.opening.window i 0 → frame_at s.opening.window s.frames t ≡ Some r
    → frames_from s i ≡ frame_text t r ++ frames_from s (i + 1)
frames_here s i t r lt at found =
    items_here (text_at s) s.opening.window i lt
    ∙ ap (λ (x : List ℕ). x ++ frames_from s (i + 1))
    (ap (text_at s) (sym at) ∙ ap (text_if t) found)

-- ---- the line of counts

abbrev line_of : ℕ → ℕ → ℕ → ℕ → List ℕ
line_of timestamp present missing contested =
    numbered_word (codes "frame ") timestamp ++ (numbered_word (codes " present ") present
    ++ (numbered_word (codes " missing ") missing
    ++ (numbered_word (codes " contested ") contested ++ codes "\n")))

pub counts_are : (t : ℕ) (k : Counts) (r : Raster) → k.present ≡ count_by is_present r.cells
    → k.missing ≡ count_by is_missing r.cells → k.contested ≡ count_by is_contested r.cells
    → counts_line t (counts_of r) ≡ counts_line t k
counts_are t k r e f h =
    sym
    (ap (λ (n : ℕ). line_of t n k.missing k.contested) e
    ∙ ap (λ (n : ℕ). line_of t (count_by is_present r.cells) n k.contested) f
    ∙ ap
    (λ (n : ℕ). line_of t (count_by is_present r.cells) (count_by is_missing r.cells) n) h)
