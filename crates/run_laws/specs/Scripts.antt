-- Scripts of `trace`: the datagrams that one has, and the lines of frames with which a run of it
-- ends (own).
use Rattle.std.specs.Prelude.{◌≡◌, ℕ, ◌||◌, if◌then◌else◌, List, [], ◌∷◌, ◌++◌, codes, bytes_eq}
use Rattle.std.specs.Prelude.{map, take, drop, Option, None, Result, Ok, Err}
use Rattle.std.specs.List.{flat_map}
use Rattle.hex.specs.Hex.{decode_of}
use Rattle.st_format.specs.Member.{IsMember}
use Rattle.path_receiver.specs.Frames.{State}
use Rattle.path_receiver.specs.Numbers.{Numbers}
use Rattle.run_outcome.specs.Frames.{frame_lines}
use Rattle.script_engines.specs.Script.{numbered_lines}
use Rattle.script_engines.specs.Traced.{FollowsLines, OpensBy, absent_lines}

-- the texts of numbered lines
abbrev pub texts_of : List (ℕ × List ℕ) → List (List ℕ)
texts_of lines = map (λ (line : ℕ × List ℕ). line.1) lines

-- the two lines of a script that open a receiver
abbrev pub first_lines : List ℕ → List (List ℕ)
first_lines script = take 2 (texts_of (numbered_lines 0 script))

-- the lines behind the two that open a receiver
abbrev pub lines_behind : List ℕ → List (List ℕ)
lines_behind script = drop 2 (texts_of (numbered_lines 0 script))

-- ---- datagrams

-- what was decoded, where it was
abbrev pub decoded : {E : Type 0} → Result (List ℕ) E → List (List ℕ)
decoded (Ok octets) = octets ∷ []
decoded (Err e) = []

-- the datagram of which this is the text: `-` of no octets, else two hexadecimal digits for each
abbrev pub datagram_of : List ℕ → List (List ℕ)
datagram_of digits = if bytes_eq digits (codes "-") then [] ∷ [] else decoded (decode_of digits)

-- the datagram of a line `A HEX` or `B HEX`; any other has none
abbrev pub datagram_said : List ℕ → List (List ℕ)
datagram_said line =
    if bytes_eq (take 2 line) (codes "A ") || bytes_eq (take 2 line) (codes "B ")
    then datagram_of (drop 2 line) else []

-- the datagrams of a script, in its order
abbrev pub datagrams_said : List ℕ → List (List ℕ)
datagrams_said script = flat_map datagram_said (lines_behind script)

-- none of some lines is a slide
abbrev pub HasNoSlide : List (List ℕ) → Type 0
HasNoSlide lines = (text : List ℕ) → IsMember (codes "slide " ++ text) lines → ⊥

-- ---- what is printed in the end

-- A script was run to its end, with this receiver in the end, and these are the lines of its
-- frames: printed behind the answers, and before the numbers that did not come.
pub record EndsWith (script old new : List ℕ) (last : State) (lines : List ℕ) : Type 0 where
  pub opened : State
  pub rest : List (ℕ × List ℕ)
  pub opens : OpensBy (numbered_lines 0 script) rest opened
  pub numbers : Option Numbers
  pub answers : List ℕ
  pub followed : FollowsLines rest opened last None numbers answers
  pub printed : new ≡ old ++ (answers ++ (lines ++ absent_lines numbers))
  pub lines_are : lines ≡ frame_lines last
