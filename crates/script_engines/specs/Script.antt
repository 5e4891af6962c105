-- Lines of a script.
use Rattle.std.specs.Prelude.{◌≡◌, ℕ, ◌+◌, ◌-◌, ◌≤◌, ◌<◌, ◌==◌, not, Bool, true, false}
use Rattle.std.specs.Prelude.{List, ◌++◌, length, take, drop, filter, slice_index, All, ◌≢◌, ◌⊎◌}
use Rattle.std.specs.List.{enumerate_from}
use Rattle.std.specs.Str.Lines.{lines}
use Rattle.run_outcome.specs.declared.text.TheConstants.{MOST_TEXT}

-- The lines of a text that are not empty, each with its number, where so many lines stand before
-- it. Lines end by LF, of which a CR before it is dropped; a last line needs no LF, and keeps a CR
-- (own)
abbrev pub numbered_lines : ℕ → List ℕ → List (ℕ × List ℕ)
numbered_lines passed text =
    filter (λ line. not (length line.1 == 0)) (enumerate_from (passed + 1) (lines text))

-- the number of the line behind the last one of a text, before which so many lines stand (own)
abbrev pub line_behind : ℕ → List ℕ → ℕ
line_behind passed text = passed + length (lines text) + 1

-- the first n octets of a text are its lines that end by LF
pub record IsWholeLines (text : List ℕ) (n : ℕ) : Type 0 where
  pub within : n ≤ length text
  pub ended : (n ≡ 0) ⊎ (slice_index text (n - 1) ≡ 10)
  pub all : All (λ octet. octet ≢ 10) (drop n text)

-- A script of the octets that a source gave: all of them, or, where they pass the limit, the lines
-- that end within it; the next line is the one in which they pass it (own)
abbrev pub IsCutScript : List ℕ → List ℕ → Bool → Type 0
IsCutScript given script false = (script ≡ given) × (length given ≤ MOST_TEXT)
IsCutScript given script true =
    (MOST_TEXT < length given) × IsWholeLines (take MOST_TEXT given) (length script)
    × (script ≡ take (length script) given)

-- Between two moments a source gave such octets, and told its end but where they pass the limit.
abbrev pub IsReadFrom : List ℕ → List ℕ → Type 0 → List ℕ → Bool → Type 0
IsReadFrom before now ended script is_cut =
    (given : List ℕ) × (now ≡ before ++ given) × IsCutScript given script is_cut
    × (length given ≤ MOST_TEXT → ended)

-- a source gave a whole script
abbrev pub GivesScript : List ℕ → List ℕ → Type 0 → Type 0
GivesScript before now ended = (script : List ℕ) × IsReadFrom before now ended script false

-- a source gave octets up to its end, or more than a script may have
abbrev pub GivesAll : List ℕ → List ℕ → Type 0 → Type 0
GivesAll before now ended =
    (script : List ℕ) × (is_cut : Bool) × IsReadFrom before now ended script is_cut
