-- What `trace` makes of a script: a receiver is opened, the lines behind are followed one by one,
-- and this is printed; and why a script is refused (own).
use Rattle.std.specs.Prelude.{◌≡◌, ℕ, Bool, true, List, [], ◌∷◌, ◌++◌, length, take, ◌⊎◌}
use Rattle.std.specs.Prelude.{Option, None, Some, Ok}
use Rattle.std.specs.List.{flat_map}
use Rattle.path_receiver.specs.Frames.{Holds, State}
use Rattle.path_receiver.specs.Numbers.{IsCount, Numbers, missing_runs_of}
use Rattle.path_receiver.specs.Opening.{AreDifferent, IsWindow, IsWindowSize, Opening}
use Rattle.path_receiver.specs.declared.fault.OpenFault.{OpenFault}
use Rattle.path_receiver.specs.declared.fault.OpenFault.TheVariants as open_fault
use Rattle.packet_numbers.specs.declared.seq_map.SeqMapFault.TheVariants.{BadCount}
use Rattle.st_format.specs.declared.format.Format.{Format}
use Rattle.st_format.specs.Fields.{fields_of}
use Rattle.run_outcome.specs.Frames.{frame_lines}
use Rattle.run_outcome.specs.Line.{line_text}
use Rattle.run_outcome.specs.LowerFaults.{IsMisformed, of_line, of_script}
use Rattle.run_outcome.specs.declared.fault.Fault.{Fault}
use Rattle.run_outcome.specs.declared.line.Line.{Line}
use Rattle.run_outcome.specs.declared.line.Line.TheVariants.{Absent}
use Rattle.run_outcome.specs.declared.script_line.Form.TheVariants.{End}
use Rattle.run_outcome.specs.declared.script_line.LineFault.TheVariants as fault
use Rattle.script_engines.specs.declared.line.TraceLine.{TraceLine}
use Rattle.script_engines.specs.declared.line.TraceLine.TheVariants as line
use Rattle.script_engines.specs.FirstLines.{IsFaultyFormat, IsFaultyNext, ReadsFormat}
use Rattle.script_engines.specs.FirstLines.{ReadsOpening}
use Rattle.script_engines.specs.Forms.{IsOpenLine, IsTraceLine, IsWindowText}
use Rattle.script_engines.specs.Script.{IsReadFrom, line_behind, numbered_lines}
use Rattle.script_engines.specs.Session.{Follows, IsAtFault}

-- the line of an answer, and LF; nothing where there is none
abbrev pub answer_text : Option Line → List ℕ
answer_text None = []
answer_text (Some answer) = line_text answer ++ 10 ∷ []

-- the line of a run of numbers that did not come
abbrev pub absent_line : ℕ × ℕ → List ℕ
absent_line run = line_text (Absent run.0 run.1) ++ 10 ∷ []

-- such a line for each run, where numbers are noted
abbrev pub absent_lines : Option Numbers → List ℕ
absent_lines None = []
absent_lines (Some numbers) = flat_map absent_line (missing_runs_of numbers)

-- A line says something, which was done to the receiver and to the numbers beside it, with this
-- answer (own)
abbrev pub FollowsLine : List ℕ → State → State → Option Numbers → Option Numbers → Option Line
    → Type 0
FollowsLine text old new before after answer =
    (said : TraceLine) × IsTraceLine text said × Follows said old new before after answer

-- a line was followed, and its answer was printed, if it has one
abbrev pub IsAnswered : List ℕ → State → State → Option Numbers → Option Numbers → List ℕ → List ℕ
    → Type 0
IsAnswered text old new before after took took' =
    (answer : Option Line) × FollowsLine text old new before after answer
    × (took' ≡ took ++ answer_text answer)

-- Lines were followed one by one, and these are their answers, line by line (own)
abbrev pub FollowsLines : List (ℕ × List ℕ) → State → State → Option Numbers → Option Numbers
    → List ℕ → Type 0
FollowsLines [] old new before after text = (new ≡ old) × (after ≡ before) × (text ≡ [])
FollowsLines (next ∷ lines) old new before after text =
    (mid : State) × (between : Option Numbers) × (answer : Option Line) × (rest : List ℕ)
    × FollowsLine next.1 old mid before between answer
    × FollowsLines lines mid new between after rest × (text ≡ answer_text answer ++ rest)

-- The next two lines are a format and an opening of that format, and a receiver was opened so,
-- which holds no datagram. The lines behind them are left (own)
pub record OpensBy (lines rest : List (ℕ × List ℕ)) (opened : State) : Type 0 where
  pub format : Format
  pub behind : List (ℕ × List ℕ)
  pub format_read : ReadsFormat lines behind (Ok (fields_of format))
  pub opening_read : ReadsOpening behind rest format opened.opening
  pub window : IsWindow opened.opening.window
  pub empty : Holds opened []

-- Lines were followed, and their answers were printed (own)
pub record Answers (lines : List (ℕ × List ℕ)) (opened last : State) (before after : Option Numbers)
    (old new : List ℕ) : Type 0 where
  pub text : List ℕ
  pub followed : FollowsLines lines opened last before after text
  pub printed : new ≡ old ++ text

-- a first part of a text was printed, maybe none of it or all
abbrev pub PrintsPart : List ℕ → List ℕ → List ℕ → Type 0
PrintsPart text old new = (count : ℕ) × (new ≡ old ++ take count text)

-- a line was followed, and a first part of its answer was printed
abbrev pub IsPartAnswered : List ℕ → State → Option Numbers → List ℕ → List ℕ → Type 0
IsPartAnswered text old before took took' =
    (new : State) × (after : Option Numbers) × (answer : Option Line)
    × FollowsLine text old new before after answer × PrintsPart (answer_text answer) took took'

-- behind lines that were followed a first part of what comes next was printed: of the answer of the
-- next line, and behind the last of the frames and of the numbers that did not come
abbrev pub IsPartPrinted : List (ℕ × List ℕ) → State → Option Numbers → List ℕ → List ℕ → Type 0
IsPartPrinted [] last numbers took took' =
    PrintsPart (frame_lines last ++ absent_lines numbers) took took'
IsPartPrinted (next ∷ left) last numbers took took' =
    IsPartAnswered next.1 last numbers took took'

-- The first of some lines were followed, and their answers were printed. Then nothing was, or a
-- first part of what comes next (own)
pub record AnswersSome (lines : List (ℕ × List ℕ)) (opened : State) (before : Option Numbers)
    (old new : List ℕ) : Type 0 where
  pub done : List (ℕ × List ℕ)
  pub left : List (ℕ × List ℕ)
  pub parts : lines ≡ done ++ left
  pub last : State
  pub numbers : Option Numbers
  pub mid : List ℕ
  pub answers : Answers done opened last before numbers old mid
  pub part : (new ≡ mid) ⊎ IsPartPrinted left last numbers mid new

-- Lines were followed to the last. Printed are their answers, then a line for the frame of each
-- timestamp of the window, and then one for each run of numbers that did not come (own)
pub record PlaysLines (lines : List (ℕ × List ℕ)) (opened : State) (before : Option Numbers)
    (old new : List ℕ) : Type 0 where
  pub last : State
  pub numbers : Option Numbers
  pub text : List ℕ
  pub followed : FollowsLines lines opened last before numbers text
  pub printed : new ≡ old ++ (text ++ (frame_lines last ++ absent_lines numbers))

-- A script opens a receiver, and its lines behind were followed to the last (own)
pub record Traces (script old new : List ℕ) : Type 0 where
  pub opened : State
  pub rest : List (ℕ × List ℕ)
  pub opens : OpensBy (numbered_lines 0 script) rest opened
  pub plays : PlaysLines rest opened None old new

-- A script opens a receiver, and some of its lines behind were followed, or none (own)
pub record TracesSome (script old new : List ℕ) : Type 0 where
  pub opened : State
  pub rest : List (ℕ × List ℕ)
  pub opens : OpensBy (numbered_lines 0 script) rest opened
  pub some : AnswersSome rest opened None old new

-- A run that doesn't come to the end of its script printed nothing, or followed some of its lines
abbrev pub TracesPart : List ℕ → List ℕ → Type 0 → List ℕ → List ℕ → Type 0
TracesPart before now ended took took' =
    (took' ≡ took) ⊎ ((script : List ℕ) × (is_cut : Bool)
    × IsReadFrom before now ended script is_cut × TracesSome script took took')

-- ---- why a script is refused

-- a text is a line `open` that says a window
abbrev pub SaysOpening : List ℕ → Type 0
SaysOpening text =
    (payload_type : ℕ) × (ssrc : Option ℕ) × (said : List ℕ) × (window : List ℕ)
    × IsOpenLine text payload_type ssrc said × IsWindowText said window

-- Why a receiver has no such window: it has no timestamp, or more than 16; or one stands twice
-- in it (own)
abbrev pub IsUnopened : OpenFault → List ℕ → Type 0
IsUnopened open_fault.NoMemory window = ⊥
IsUnopened open_fault.BadWindow window = IsWindowSize (length window) → ⊥
IsUnopened open_fault.DoubleTimestamp window =
    IsWindowSize (length window) × (AreDifferent window → ⊥)

-- The next line is at fault: it is no line `open`, or one whose window no receiver has (own)
abbrev pub IsFaultyOpening : Format → List (ℕ × List ℕ) → ℕ → Fault → Type 0
IsFaultyOpening format lines end f =
    IsFaultyNext SaysOpening lines end f
    ⊎ ((why : OpenFault) × (behind : List (ℕ × List ℕ)) × (opening : Opening)
    × (read : ReadsOpening lines behind format opening) × IsUnopened why opening.window
    × (f ≡ of_line read.number (fault.Open why)))

-- The first line at fault of the two that open a receiver (own)
abbrev pub IsFaultyStart : List (ℕ × List ℕ) → ℕ → Fault → Type 0
IsFaultyStart lines end f =
    IsFaultyFormat lines end f
    ⊎ ((format : Format) × (behind : List (ℕ × List ℕ))
    × ReadsFormat lines behind (Ok (fields_of format)) × IsFaultyOpening format behind end f)

-- A line isn't followed, and is at fault: it is of no form or may not stand there, where a datagram
-- has at most 65535 octets; or it begins to note numbers of a count that is none (own)
abbrev pub IsUnfollowed : ℕ × List ℕ → Option Numbers → Fault → Type 0
IsUnfollowed next numbers f =
    (IsMisformed next.0 f × IsAtFault next.1 65535 numbers)
    ⊎ ((first : ℕ) × (count : ℕ) × IsTraceLine next.1 (line.Numbers first count)
    × (numbers ≡ None) × (IsCount count → ⊥) × (f ≡ of_line next.0 (fault.Numbers BadCount)))

-- the next line isn't followed; or there is none, and the script passes the limit
abbrev pub IsStopped : List (ℕ × List ℕ) → Bool → ℕ → Option Numbers → Fault → Type 0
IsStopped [] is_cut end numbers f = (is_cut ≡ true) × (f ≡ of_script end End)
IsStopped (next ∷ left) is_cut end numbers f = IsUnfollowed next numbers f

-- The first of some lines were followed, and the line behind them is at fault (own)
pub record StopsAt (lines : List (ℕ × List ℕ)) (opened : State) (before : Option Numbers)
    (is_cut : Bool) (end : ℕ) (f : Fault) : Type 0 where
  pub done : List (ℕ × List ℕ)
  pub left : List (ℕ × List ℕ)
  pub parts : lines ≡ done ++ left
  pub last : State
  pub numbers : Option Numbers
  pub text : List ℕ
  pub followed : FollowsLines done opened last before numbers text
  pub stopped : IsStopped left is_cut end numbers f

-- The first of some lines were followed, and just their answers were printed; the line behind them
-- is at fault (own)
pub record AnswersToFault (lines : List (ℕ × List ℕ)) (opened : State) (before : Option Numbers)
    (is_cut : Bool) (end : ℕ) (f : Fault) (old new : List ℕ) : Type 0 where
  pub done : List (ℕ × List ℕ)
  pub left : List (ℕ × List ℕ)
  pub parts : lines ≡ done ++ left
  pub last : State
  pub numbers : Option Numbers
  pub answers : Answers done opened last before numbers old new
  pub stopped : IsStopped left is_cut end numbers f

-- a script opens a receiver, and one of its lines behind is at fault
pub record StopsBehind (script : List ℕ) (is_cut : Bool) (f : Fault) : Type 0 where
  pub opened : State
  pub rest : List (ℕ × List ℕ)
  pub opens : OpensBy (numbered_lines 0 script) rest opened
  pub stops : StopsAt rest opened None is_cut (line_behind 0 script) f

-- Why a script is refused: one of the two lines that open a receiver is at fault, or the one behind
-- those that were followed (own)
abbrev pub IsUntraced : List ℕ → Bool → Fault → Type 0
IsUntraced script is_cut f =
    IsFaultyStart (numbered_lines 0 script) (line_behind 0 script) f
    ⊎ StopsBehind script is_cut f

-- Why a script is refused, and what was printed: nothing where one of the two lines that open a
-- receiver is at fault, and else the answers of just the lines before the one that is (own)
abbrev pub TracesToFault : List ℕ → List ℕ → List ℕ → Bool → Fault → Type 0
TracesToFault took took' script is_cut f =
    (IsFaultyStart (numbered_lines 0 script) (line_behind 0 script) f × (took' ≡ took))
    ⊎ ((opened : State) × (rest : List (ℕ × List ℕ))
    × OpensBy (numbered_lines 0 script) rest opened
    × AnswersToFault rest opened None is_cut (line_behind 0 script) f took took')
