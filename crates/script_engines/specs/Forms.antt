-- The forms of a script's lines.
use Rattle.std.specs.Prelude.{◌≡◌, ◌≤◌, ℕ, List, [], ◌∷◌, ◌++◌, codes, Option, Some, Ok}
use Rattle.hex.specs.Hex.{decode_of}
use Rattle.st_format.specs.declared.path.Path.TheVariants as path
use Rattle.st_format.specs.Pgroup.{bits_of}
use Rattle.st_format.specs.Words.{sampling_text}
use Rattle.script_engines.specs.declared.line.FormatLine.{FormatLine}
use Rattle.script_engines.specs.declared.line.SamplePlace.{SamplePlace}
use Rattle.script_engines.specs.declared.line.TraceLine.{TraceLine}
use Rattle.script_engines.specs.declared.line.TraceLine.TheVariants.{Datagram, Slide, Numbers, Cell}
use Rattle.st_format.specs.Text.{parted}
use Rattle.run_outcome.specs.Sources.{IsSourceText}
use Rattle.run_outcome.specs.Timestamps.{AreTimestamps, IsNumberOf}

-- two numbers, parted by the first space
pub record AreTwo (text : List ℕ) (m n : ℕ) : Type 0 where
  pub first : List ℕ
  pub second : List ℕ
  pub parts : parted 32 text ≡ Some (first, second)
  pub first_is : IsNumberOf first m
  pub second_is : IsNumberOf second n

-- four numbers, parted by spaces: a timestamp, a row, a column and a component
pub record AreFour (text : List ℕ) (p : SamplePlace) : Type 0 where
  pub timestamp : List ℕ
  pub behind : List ℕ
  pub row : List ℕ
  pub last : List ℕ
  pub parts : parted 32 text ≡ Some (timestamp, behind)
  pub parts_behind : parted 32 behind ≡ Some (row, last)
  pub timestamp_is : IsNumberOf timestamp p.timestamp
  pub row_is : IsNumberOf row p.row
  pub last_are : AreTwo last p.column p.component

-- two numbers, parted by the first stroke
pub record IsRateText (text : List ℕ) (n d : ℕ) : Type 0 where
  pub over : List ℕ
  pub under : List ℕ
  pub parts : parted 47 text ≡ Some (over, under)
  pub over_is : IsNumberOf over n
  pub under_is : IsNumberOf under d

-- the fields behind a width
pub record AreHeightAndRate (text : List ℕ) (height n d : ℕ) : Type 0 where
  pub first : List ℕ
  pub rate : List ℕ
  pub parts : parted 32 text ≡ Some (first, rate)
  pub height_is : IsNumberOf first height
  pub rate_is : IsRateText rate n d

-- Six fields, parted by spaces but the last two, which a stroke parts (own)
pub record AreFormat (text : List ℕ) (f : FormatLine) : Type 0 where
  pub depth : List ℕ
  pub width : List ℕ
  pub behind : List ℕ
  pub more : List ℕ
  pub last : List ℕ
  pub parts : parted 32 text ≡ Some (sampling_text f.sampling, behind)
  pub parts_behind : parted 32 behind ≡ Some (depth, more)
  pub parts_more : parted 32 more ≡ Some (width, last)
  pub depth_is : IsNumberOf depth (bits_of f.depth)
  pub width_is : IsNumberOf width f.width
  pub last_are : AreHeightAndRate last f.height f.n f.d

-- a line `format S B W H N/D` (own)
pub record IsFormatLine (text : List ℕ) (f : FormatLine) : Type 0 where
  pub rest : List ℕ
  pub text_is : text ≡ codes "format " ++ rest
  pub fields : AreFormat rest f

-- a payload type of 7 bits, a source and a window, parted by spaces
pub record AreOpening (text : List ℕ) (payload_type : ℕ) (ssrc : Option ℕ)
    (window : List ℕ) : Type 0 where
  pub number : List ℕ
  pub source : List ℕ
  pub behind : List ℕ
  pub parts : parted 32 text ≡ Some (number, behind)
  pub parts_behind : parted 32 behind ≡ Some (source, window)
  pub number_is : IsNumberOf number payload_type
  pub seven_bits : payload_type ≤ 127
  pub source_is : IsSourceText source ssrc

-- a line `open PT SSRC WINDOW`, whose window is text yet (own)
pub record IsOpenLine (text : List ℕ) (payload_type : ℕ) (ssrc : Option ℕ)
    (window : List ℕ) : Type 0 where
  pub rest : List ℕ
  pub text_is : text ≡ codes "open " ++ rest
  pub fields : AreOpening rest payload_type ssrc window

-- The timestamps of a window, or `-` for none (own)
abbrev pub IsWindowText : List ℕ → List ℕ → Type 0
IsWindowText text [] = text ≡ codes "-"
IsWindowText text (t ∷ ts) = AreTimestamps text (t ∷ ts)

-- The octets of a datagram: two hexadecimal digits of either case for each, or `-` for none (own)
abbrev pub IsOctetsText : List ℕ → List ℕ → Type 0
IsOctetsText text [] = text ≡ codes "-"
IsOctetsText text (b ∷ octets) = decode_of text ≡ Ok (b ∷ octets)

-- Lines of `trace` behind the first two: a word, one space and what follows (own)
abbrev pub IsTraceLine : List ℕ → TraceLine → Type 0
IsTraceLine text (Datagram path.A digits) = text ≡ codes "A " ++ digits.now
IsTraceLine text (Datagram path.B digits) = text ≡ codes "B " ++ digits.now
IsTraceLine text (Slide timestamp) =
    (rest : List ℕ) × (text ≡ codes "slide " ++ rest) × IsNumberOf rest timestamp
IsTraceLine text (Numbers first count) =
    (rest : List ℕ) × (text ≡ codes "numbers " ++ rest) × AreTwo rest first count
IsTraceLine text (Cell place) =
    (rest : List ℕ) × (text ≡ codes "cell " ++ rest) × AreFour rest place
