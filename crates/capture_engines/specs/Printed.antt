-- What is printed of a receiver, and of what it was given.
use Rattle.std.specs.Prelude.{ℕ, zero, suc, List, [], ◌∷◌, ◌++◌, Bool, true, false, Result, length}
use Rattle.std.specs.Prelude.{map, slice_index}
use Rattle.std.specs.List.{count_by, flat_map}
use Rattle.st_format.specs.Device.{capped}
use Rattle.path_receiver.specs.Answers.{all_refusals, taken_at}
use Rattle.path_receiver.specs.Frames.{State}
use Rattle.path_receiver.specs.declared.answer.Refusal.{Refusal}
use Rattle.path_receiver.specs.declared.answer.Taken.{Taken}
use Rattle.run_outcome.specs.Line.{line_text}
use Rattle.path_receiver.specs.Tallied.{is_outside, is_refusal, slot_of}
use Rattle.run_outcome.specs.declared.line.Line.{Line}
use Rattle.run_outcome.specs.declared.line.Line.TheVariants.{Delivered, OutsideCount, RefusedCount}
use Rattle.path_receiver.specs.declared.tally.Tally.{Tally}
use Rattle.run_outcome.specs.Frames.{frame_lines}

-- ---- refusals

-- a line with its end, where what it counts came at all
abbrev pub counted_line : ℕ → Line → List ℕ
counted_line zero line = []
counted_line (suc n) line = line_text line ++ 10 ∷ []

-- The lines of counts: of each refusal that came, in the order of their numbers, how often it came;
-- and how many datagrams were outside the window, if any (own)
abbrev pub refusals_text : (Refusal → ℕ) → ℕ → List ℕ
refusals_text refused outside =
    flat_map (λ e. counted_line (refused e) (RefusedCount e (refused e))) all_refusals
    ++ counted_line outside (OutsideCount outside)

-- the line of a refusal, where it came, by the counts of all refusals
abbrev pub refusal_line : List ℕ → Refusal → List ℕ
refusal_line counts e =
    counted_line (slice_index counts (slot_of e))
    (RefusedCount e (slice_index counts (slot_of e)))

-- those of a tally's counts
abbrev pub tally_text : Tally → List ℕ
tally_text t = flat_map (refusal_line t.refused) all_refusals ++ counted_line t.outside
    (OutsideCount t.outside)

-- the same by the answers that were counted, each count up to 2^64 - 1
abbrev pub answers_text : List (Result Taken Refusal) → List ℕ
answers_text answers =
    refusals_text (λ e. capped (count_by (is_refusal e) answers))
    (capped (count_by is_outside answers))

-- ---- what `receive` prints

-- lines that are wanted, or else none
abbrev pub if_wanted : Bool → List ℕ → List ℕ
if_wanted true lines = lines
if_wanted false lines = []

-- How many datagrams were delivered; where they are wanted, the lines of counts; and the lines of
-- the receiver's frames (own)
abbrev pub received_text : Bool → ℕ → List ℕ → State → List ℕ
received_text wanted delivered counts receiver =
    (line_text (Delivered delivered) ++ 10 ∷ [])
    ++ (if_wanted wanted counts ++ frame_lines receiver)

-- those of a receiver that was given these datagrams
abbrev pub taken_text : Bool → State → List (List ℕ) → List ℕ
taken_text wanted receiver datagrams =
    received_text wanted (capped (length datagrams))
    (answers_text (map (taken_at receiver.opening) datagrams)) receiver
