-- What the lines of a script do to a receiver and to what stands beside it.
use Rattle.std.specs.Prelude.{◌≡◌, ◌≢◌, ◌≤◌, ◌⊎◌, ℕ, false, length, List, [], ◌∷◌, replicate}
use Rattle.std.specs.Prelude.{Option, Some, None, Result, Ok, Err, slice_get}
use Rattle.frame_assembly.specs.Kinds.{counts_of}
use Rattle.path_receiver.specs.declared.answer.Refusal.{Refusal}
use Rattle.path_receiver.specs.declared.answer.Taken.{Taken}
use Rattle.path_receiver.specs.declared.answer.Taken.TheVariants as taken
use Rattle.path_receiver.specs.declared.fault.SlideFault.TheVariants.{InWindow}
use Rattle.path_receiver.specs.Answers.{refusals_after, taken_at}
use Rattle.path_receiver.specs.Frames.{State, cell_in, frames_of, joined_frames}
use Rattle.path_receiver.specs.Numbers.{IsCount, Numbers, number_place, with_place}
use Rattle.path_receiver.specs.Sliding.{slid_state}
use Rattle.st_format.specs.declared.cell.Cell.{Cell}
use Rattle.st_format.specs.declared.cell.Cell.TheVariants as cell
use Rattle.st_format.specs.declared.path.Path.{Path}
use Rattle.st_format.specs.Member.{IsMember}
use Rattle.st_format.specs.Position.{IsPosition, Position}
use Rattle.st_format.specs.Raster.{Raster}
use Rattle.run_outcome.specs.declared.line.Line.{Line}
use Rattle.run_outcome.specs.declared.line.Line.TheVariants.{Kept, Outside, Refused, Missing}
use Rattle.run_outcome.specs.declared.line.Line.TheVariants.{Value, Contested, Nowhere}
use Rattle.run_outcome.specs.declared.line.Line.TheVariants.{NotSlid}
use Rattle.run_outcome.specs.declared.line.Line.TheVariants.{Out}
use Rattle.script_engines.specs.declared.line.SamplePlace.{SamplePlace}
use Rattle.script_engines.specs.declared.line.TraceLine.{TraceLine}
use Rattle.script_engines.specs.declared.line.TraceLine.TheVariants.{Datagram, Slide}
use Rattle.script_engines.specs.declared.line.TraceLine.TheVariants as line
use Rattle.script_engines.specs.Forms.{IsOctetsText, IsTraceLine}

-- the answer to a datagram, by what the receiver says of it
abbrev pub datagram_answer : Result Taken Refusal → Line
datagram_answer (Ok (taken.Kept number)) = Kept number
datagram_answer (Ok taken.Outside) = Outside
datagram_answer (Err refusal) = Refused refusal

-- numbers with one number more, where any are noted
abbrev pub with_number : ℕ → Option Numbers → Option Numbers
with_number number None = None
with_number number (Some m) = Some (with_place m (number_place m number))

-- the numbers behind a datagram: that of a datagram that was kept is noted, and no other (own)
abbrev pub numbers_after : Result Taken Refusal → Option Numbers → Option Numbers
numbers_after (Ok (taken.Kept number)) numbers = with_number number numbers
numbers_after (Ok taken.Outside) numbers = numbers
numbers_after (Err refusal) numbers = numbers

-- A slide to a timestamp that the window has not: the window moves on, and the answer tells of its
-- first timestamp and of that one's frame, which is then the spare one (own).
pub record IsSlide (old : State) (next : ℕ) (new : State) (spare : Raster)
    (answer : Line) : Type 0 where
  pub first : ℕ
  pub first_is : slice_get old.opening.window 0 ≡ Some first
  pub moved : new ≡ slid_state old next
  pub frame_is : slice_get old.frames 0 ≡ Some spare
  pub answer_is : answer ≡ Out first (counts_of spare)

-- where in a frame a sample is that a line asks for
abbrev pub position_of : SamplePlace → Position
position_of p = record { row = p.row; column = p.column; component = p.component }

-- numbers from a first one on, so many, of which none is noted
abbrev pub no_numbers : ℕ → ℕ → Numbers
no_numbers first count = record { first = first; noted = replicate count false }

-- a sample of a frame of the window
pub record IsSamplePlace (s : State) (timestamp : ℕ) (p : Position) : Type 0 where
  pub inside : IsMember timestamp s.opening.window
  pub position : IsPosition p s.opening.format

-- what a question for a sample is answered, by its cell
abbrev pub cell_answer : Cell → Line
cell_answer cell.Missing = Missing
cell_answer (cell.Value v) = Value v
cell_answer cell.Contested = Contested

-- What a datagram does: its answer, its offers joined, its refusal kept, its number noted where it
-- is kept (own)
pub record AnswersDatagram (path : Path) (octets : List ℕ) (old new : State)
    (before after : Option Numbers)
    (answer : Option Line) : Type 0 where
  pub answer_is : answer ≡ Some (datagram_answer (taken_at old.opening octets))
  pub opening : new.opening ≡ old.opening
  pub frames : new.frames ≡ joined_frames old.frames (frames_of old.opening (octets ∷ []))
  pub refusals : new.refusals ≡ refusals_after path (taken_at old.opening octets) old.refusals
  pub numbers : after ≡ numbers_after (taken_at old.opening octets) before

-- What a slide does: it moves the window on, or is refused where the window has the timestamp (own)
pub record SlidesTo (next : ℕ) (old new : State) (before after : Option Numbers)
    (answer : Option Line) : Type 0 where
  pub refused : IsMember next old.opening.window → (answer ≡ Some (NotSlid InWindow)) × (new ≡ old)
  pub slid : (IsMember next old.opening.window → ⊥) → (spare : Raster) × (said : Line)
      × (answer ≡ Some said) × IsSlide old next new spare said
  pub numbers : after ≡ before

-- What a line `numbers` does: from here on numbers are noted, of which none is yet (own)
pub record BeginsNumbers (first count : ℕ) (old new : State) (before after : Option Numbers)
    (answer : Option Line) : Type 0 where
  pub answer_is : answer ≡ None
  pub once : before ≡ None
  pub size : IsCount count
  pub numbers : after ≡ Some (no_numbers first count)
  pub receiver : new ≡ old

-- What a question for a cell does: it is answered, and nothing changes (own)
pub record TellsCell (place : SamplePlace) (old new : State) (before after : Option Numbers)
    (answer : Option Line) : Type 0 where
  pub there : IsSamplePlace old place.timestamp (position_of place)
      → answer ≡ Some (cell_answer (cell_in old place.timestamp (position_of place)))
  pub nowhere : (IsSamplePlace old place.timestamp (position_of place) → ⊥) → answer ≡ Some Nowhere
  pub receiver : new ≡ old
  pub numbers : after ≡ before

-- What a line of `trace` does to the receiver and the numbers beside it, and what it answers; the
-- length of a UDP datagram has 16 bits (RFC 768), so one of more octets can't come (own)
abbrev pub Follows : TraceLine → State → State → Option Numbers → Option Numbers → Option Line
    → Type 0
Follows (Datagram path digits) old new before after answer =
    (octets : List ℕ) × (length octets ≤ 65535) × IsOctetsText digits.now octets
    × AnswersDatagram path octets old new before after answer
Follows (Slide next) old new before after answer = SlidesTo next old new before after answer
Follows (line.Numbers first count) old new before after answer =
    BeginsNumbers first count old new before after answer
Follows (line.Cell place) old new before after answer = TellsCell place old new before after answer

-- Lines that are of a form and may not stand where they do: a datagram whose digits are those of no
-- octets for which there is room, and `numbers` where numbers are noted already (own)
abbrev pub IsUnfitLine : TraceLine → ℕ → Option Numbers → Type 0
IsUnfitLine (Datagram path digits) room numbers =
    (octets : List ℕ) → length octets ≤ room → IsOctetsText digits.now octets → ⊥
IsUnfitLine (Slide next) room numbers = ⊥
IsUnfitLine (line.Numbers first count) room numbers = numbers ≢ None
IsUnfitLine (line.Cell place) room numbers = ⊥

-- a line that is of no form, or an unfit one (own)
abbrev pub IsAtFault : List ℕ → ℕ → Option Numbers → Type 0
IsAtFault text room numbers =
    ((said : TraceLine) → IsTraceLine text said → ⊥)
    ⊎ ((said : TraceLine) × IsTraceLine text said × IsUnfitLine said room numbers)
