-- The forms of a rehearsal's lines.
use Rattle.std.specs.Prelude.{◌≡◌, ◌≤◌, ℕ, List, ◌++◌, codes, Some, Ok}
use Rattle.hex.specs.Hex.{decode_of}
use Rattle.st_format.specs.declared.path.Path.{Path}
use Rattle.st_format.specs.Forms.{path_text}
use Rattle.st_format.specs.Pgroup.{bits_of}
use Rattle.st_format.specs.Picture.{Values}
use Rattle.st_format.specs.Samples.{Spells}
use Rattle.packet_plan.specs.declared.stamp.Stamp.{Stamp}
use Rattle.path_merge.specs.declared.schedule.event.Event.{Event}
use Rattle.path_merge.specs.declared.schedule.event.Event.TheVariants.{Send, Arrive, Slide, Merge}
use Rattle.st_format.specs.Text.{parted}
use Rattle.script_engines.specs.Forms.{AreTwo, IsWindowText}
use Rattle.run_outcome.specs.Timestamps.{IsNumberOf}

-- the fields of a stamp, parted by spaces: a payload type of 7 bits, a number, a timestamp and a
-- source
pub record AreStamp (text : List ℕ) (s : Stamp) : Type 0 where
  pub payload_type : List ℕ
  pub behind : List ℕ
  pub first : List ℕ
  pub last : List ℕ
  pub parts : parted 32 text ≡ Some (payload_type, behind)
  pub parts_behind : parted 32 behind ≡ Some (first, last)
  pub payload_type_is : IsNumberOf payload_type s.payload_type
  pub seven_bits : s.payload_type ≤ 127
  pub first_is : IsNumberOf first s.first
  pub last_are : AreTwo last s.timestamp s.ssrc

-- a line `stamp PT FIRST TIMESTAMP SSRC` (own)
pub record IsStampLine (text : List ℕ) (s : Stamp) : Type 0 where
  pub rest : List ℕ
  pub text_is : text ≡ codes "stamp " ++ rest
  pub fields : AreStamp rest s

-- a line of a word and a number, as `max OCTETS` or `receivers N` (own)
pub record IsNumberLine (text word : List ℕ) (n : ℕ) : Type 0 where
  pub rest : List ℕ
  pub text_is : text ≡ word ++ rest
  pub number_is : IsNumberOf rest n

-- a line `receivers N`, of 8 bits (own)
pub record IsCountLine (text : List ℕ) (count : ℕ) : Type 0 where
  pub line_is : IsNumberLine text (codes "receivers ") count
  pub eight_bits : count ≤ 255

-- a line `window WINDOW` (own)
pub record IsWindowLine (text window : List ℕ) : Type 0 where
  pub rest : List ℕ
  pub text_is : text ≡ codes "window " ++ rest
  pub window_is : IsWindowText rest window

-- two hexadecimal digits of either case for each of the packed octets of a picture (RFC 4175, 4.3)
pub record IsPictureText (text : List ℕ) (p : Values) : Type 0 where
  pub octets : List ℕ
  pub digits : decode_of text ≡ Ok octets
  pub spells : Spells (bits_of p.format.depth) octets p.samples

-- a receiver of 8 bits, a path and a number, parted by spaces
pub record AreArrival (text : List ℕ) (to : ℕ) (by : Path) (number : ℕ) : Type 0 where
  pub receiver : List ℕ
  pub behind : List ℕ
  pub last : List ℕ
  pub parts : parted 32 text ≡ Some (receiver, behind)
  pub parts_behind : parted 32 behind ≡ Some (path_text by, last)
  pub receiver_is : IsNumberOf receiver to
  pub eight_bits : to ≤ 255
  pub number_is : IsNumberOf last number

-- a receiver of 8 bits and a number
pub record AreReceiverAndNumber (text : List ℕ) (receiver n : ℕ) : Type 0 where
  pub both : AreTwo text receiver n
  pub eight_bits : receiver ≤ 255

-- two receivers of 8 bits
pub record AreTwoReceivers (text : List ℕ) (into from : ℕ) : Type 0 where
  pub both : AreTwo text into from
  pub into_bits : into ≤ 255
  pub from_bits : from ≤ 255

-- the lines of events: a word, and behind one space what follows (own)
abbrev pub IsEventLine : List ℕ → Event → Type 0
IsEventLine text Send = text ≡ codes "send"
IsEventLine text (Arrive to by number) =
    (rest : List ℕ) × (text ≡ codes "arrive " ++ rest) × AreArrival rest to by number
IsEventLine text (Slide at next) =
    (rest : List ℕ) × (text ≡ codes "slide " ++ rest) × AreReceiverAndNumber rest at next
IsEventLine text (Merge into from) =
    (rest : List ℕ) × (text ≡ codes "merge " ++ rest) × AreTwoReceivers rest into from
