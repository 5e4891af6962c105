-- The media sections of a text, and what they say.
use Rattle.std.specs.Prelude.{ℕ, if◌then◌else◌, List, [], ◌∷◌}
use Rattle.std.proofs.Common.{codes}
use Rattle.st_format.specs.Fields.{Fields}
use Rattle.sdp_format.specs.declared.sdp.Range.{Range}
use Rattle.sdp_format.specs.Bytes.{begins_with}

-- A media section: its first line, and the lines up to the next one that begins m= (RFC 8866, 5.14)
pub record Section : Type 0 where
  pub media : List ℕ
  pub lines : List (List ℕ)

-- the lines before the first that begins m=; of all lines of a text those of the session
-- (RFC 8866, 5)
abbrev pub section_lines : List (List ℕ) → List (List ℕ)
section_lines [] = []
section_lines (l ∷ ls) = if begins_with (codes "m=") l then [] else l ∷ section_lines ls

-- the sections whose first line begins m=video and a space, in the order of the text
abbrev pub video_sections : List (List ℕ) → List Section
video_sections [] = []
video_sections (l ∷ ls) =
    if begins_with (codes "m=video ") l
    then record { media = l; lines = section_lines ls } ∷ video_sections ls
    else video_sections ls

-- What a section says: all of it that a second section has to say too
pub record Leg : Type 0 where
  pub payload_type : ℕ
  pub format : Fields
  pub range : Range
  pub colorimetry : List ℕ

-- What a text says: a port for each section, and what all sections say
pub record Description : Type 0 where
  pub ports : List ℕ
  pub leg : Leg
