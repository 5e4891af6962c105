-- Walks over a text, as the code walks, which tell the first fault or what the text says. What a
-- fault and a value mean says Grammar.antt, by relations over whole lists of lines, sections and
-- items; laws join the two both ways, so nobody has to believe a walk.
use Rattle.std.specs.Prelude.{◌≡◌, ◌⊎◌, ℕ, Bool, true, false, not, ◌&&◌, ◌||◌, ◌==◌, if◌then◌else◌}
use Rattle.std.specs.Prelude.{is_some, List, [], ◌∷◌, map, Option, Some, None, Result, Ok, Err}
use Rattle.std.specs.Prelude.{IsOk}
use Rattle.std.specs.List.{list_all, list_any}
use Rattle.std.specs.Str.{bytes_eq, str_eq_ignore_ascii_case}
use Rattle.std.proofs.Common.{codes}
use Rattle.st_format.specs.Fields.{Fields, format_at, same_fields}
use Rattle.st_format.specs.Forms.{depth_named, number_pair}
use Rattle.st_format.specs.Reading.{◌>>=◌}
use Rattle.st_format.specs.Words.{number, sampling_named}
use Rattle.sdp_format.specs.declared.sdp.Range.{Range}
use Rattle.sdp_format.specs.declared.sdp.Range.TheVariants.{Narrow, FullProtect, Full}
use Rattle.sdp_format.specs.declared.fault.SdpFault.{SdpFault}
use Rattle.sdp_format.specs.declared.fault.SdpFault.TheVariants.{NoMemory, NoVideo, TooManyLegs}
use Rattle.sdp_format.specs.declared.fault.SdpFault.TheVariants.{BadMediaLine, NoRtpmap}
use Rattle.sdp_format.specs.declared.fault.SdpFault.TheVariants.{NotRaw90000, NoFmtp, BadParameter}
use Rattle.sdp_format.specs.declared.fault.SdpFault.TheVariants.{DoubleParameter, MissingParameter}
use Rattle.sdp_format.specs.declared.fault.SdpFault.TheVariants.{UnsupportedSampling}
use Rattle.sdp_format.specs.declared.fault.SdpFault.TheVariants.{UnsupportedDepth, Interlaced}
use Rattle.sdp_format.specs.declared.fault.SdpFault.TheVariants.{UnsupportedPacking, BadSsn}
use Rattle.sdp_format.specs.declared.fault.SdpFault.TheVariants.{BadFormat, LegsDiffer}
use Rattle.sdp_format.specs.Bytes.{trimmed, trim_end, at_most, split, lines, begins_with}
use Rattle.sdp_format.specs.Bytes.{attribute}
use Rattle.sdp_format.specs.Sections.{Section, Leg, Description, video_sections}
use Rattle.sdp_format.specs.Naming.{Item, items, is_bad, has_double, has_name, value_of}
use Rattle.sdp_format.specs.Naming.{required_names, rate}
use Rattle.sdp_format.specs.Naming.{range_or, colorimetry, text_of}

-- a value that has to be there, and a condition that has not to hold
abbrev pub value_or_fault : {A : Type 0} → SdpFault → Option A → Result A SdpFault
value_or_fault fault None = Err fault
value_or_fault fault (Some x) = Ok x

-- this fault where the condition holds, and else none
abbrev pub fault_where : SdpFault → Bool → Result (Unit {0}) SdpFault
fault_where fault holds = if holds then Err fault else Ok tt

-- port and payload type of a media line
abbrev pub media_of_parts : List (List ℕ) → Option (ℕ × ℕ)
media_of_parts [] = None
media_of_parts (a ∷ []) = None
media_of_parts (a ∷ b ∷ []) = None
media_of_parts (a ∷ b ∷ c ∷ []) = None
media_of_parts (a ∷ port ∷ profile ∷ type ∷ []) =
    if bytes_eq a (codes "m=video") && bytes_eq profile (codes "RTP/AVP")
    then number_pair (at_most 65535 (number port)) (at_most 127 (number type)) else None
media_of_parts (a ∷ b ∷ c ∷ d ∷ e ∷ es) = None

-- the port and the payload type of a line m=video (RFC 8866, 5.14)
unfoldable pub media_of : List ℕ → Option (ℕ × ℕ)
media_of line = media_of_parts (split 32 (trim_end line))

-- what follows in the first line that has the word and the number
abbrev pub first_attribute : List ℕ → ℕ → List (List ℕ) → Option (List ℕ)
first_attribute word n [] = None
first_attribute word n (l ∷ ls) =
    if is_some (attribute word n l) then attribute word n l else first_attribute word n ls

-- whether an rtpmap names raw/90000, whatever the case of its letters (RFC 8866, 6.6)
unfoldable pub is_raw90000 : List ℕ → Bool
is_raw90000 text = str_eq_ignore_ascii_case (trimmed text) (codes "raw/90000")

-- whether one of the required names is that of no item
abbrev pub lacks_item : List Item → Bool
lacks_item is = not (list_all (has_name is) required_names)

-- whether the items tell of fields or of segmented frames (ST 2110-20, media type parameters)
abbrev pub is_interlaced : List Item → Bool
is_interlaced is = has_name is (codes "interlace") || has_name is (codes "segmented")

-- what a function returned, its value seen by view
abbrev pub result_map : {X Y : Type 0} → (X → Y) → Result X SdpFault → Result Y SdpFault
result_map view (Ok x) = Ok (view x)
result_map view (Err e) = Err e

-- What a function returned, seen by view, is what reading gives, unless memory ran out
abbrev pub GivesUnlessMemory : {X Y : Type 0} → (X → Y) → Result X SdpFault → Result Y SdpFault
    → Type 0
GivesUnlessMemory view (Ok x) read = read ≡ Ok (view x)
GivesUnlessMemory view (Err e) read = (e ≡ NoMemory) ⊎ (read ≡ Err e)

-- a format within the limits: whatever is wrong with it is one fault of an SDP text
abbrev pub or_fault : {E : Type 0} → Result Fields E → Result Fields SdpFault
or_fault (Ok f) = Ok f
or_fault (Err e) = Err BadFormat

-- the format that the items give, once each has its form and stands there
unfoldable pub format_of : List Item → Result Fields SdpFault
format_of is = do
  sampling ← value_or_fault UnsupportedSampling (sampling_named (text_of (codes "sampling") is))
  depth ← value_or_fault UnsupportedDepth (depth_named (text_of (codes "depth") is))
  tt ← fault_where Interlaced (is_interlaced is)
  tt ← fault_where UnsupportedPacking (not (bytes_eq (text_of (codes "PM") is) (codes "2110GPM")))
  tt ← fault_where BadSsn (not (begins_with (codes "ST2110-20:") (text_of (codes "SSN") is)))
  width ← value_or_fault BadParameter (number (text_of (codes "width") is))
  height ← value_or_fault BadParameter (number (text_of (codes "height") is))
  rate ← value_or_fault BadParameter (rate (text_of (codes "exactframerate") is))
  or_fault (format_at sampling depth width height rate.0 rate.1)

-- what items say, with the payload type of their line
unfoldable pub said_in : ℕ → List Item → Result Leg SdpFault
said_in payload_type is = do
  tt ← fault_where MissingParameter (lacks_item is)
  format ← format_of is
  range ← value_or_fault BadParameter (range_or (value_of (codes "RANGE") is))
  colorimetry ← value_or_fault BadParameter (colorimetry (text_of (codes "colorimetry") is))
  Ok (record {
    payload_type = payload_type;
    format = format;
    range = range;
    colorimetry = colorimetry;
  })

-- the same, of items that may have one name twice
unfoldable pub leg_of : ℕ → List Item → Result Leg SdpFault
leg_of payload_type is = do
  tt ← fault_where DoubleParameter (has_double is)
  said_in payload_type is

-- The port, the payload type and the items of a section
pub record Listed : Type 0 where
  pub port : ℕ
  pub payload_type : ℕ
  pub list : List Item

-- The part of the walk over a section that wants no memory: up to its items, none of them bad
unfoldable pub listing_walk : Section → Result Listed SdpFault
listing_walk s = do
  media ← value_or_fault BadMediaLine (media_of s.media)
  map ← value_or_fault NoRtpmap (first_attribute (codes "a=rtpmap:") media.1 s.lines)
  tt ← fault_where NotRaw90000 (not (is_raw90000 map))
  text ← value_or_fault NoFmtp (first_attribute (codes "a=fmtp:") media.1 s.lines)
  tt ← fault_where BadParameter (list_any is_bad (items text))
  Ok (record { port = media.0; payload_type = media.1; list = items text })

-- The walk over a section: its port and what it says, or its first fault
unfoldable pub section_walk : Section → Result (ℕ × Leg) SdpFault
section_walk s = do
  listed ← listing_walk s
  leg ← leg_of listed.payload_type listed.list
  Ok (listed.port, leg)

-- Memory is first wanted for the items of a first section, where there are one or two sections
abbrev pub WantsMemory : List Section → Type 0
WantsMemory [] = ⊥
WantsMemory (s ∷ []) = IsOk (listing_walk s)
WantsMemory (s ∷ t ∷ []) = IsOk (listing_walk s)
WantsMemory (s ∷ t ∷ u ∷ rest) = ⊥

-- whether two sections say the same
abbrev pub same_range : Range → Range → Bool
same_range Narrow Narrow = true
same_range FullProtect FullProtect = true
same_range Full Full = true
same_range a b = false

-- whether two sections say the same of the video, wherever it is sent
unfoldable pub same_leg : Leg → Leg → Bool
same_leg l m =
    l.payload_type == m.payload_type && same_fields l.format m.format
    && same_range l.range m.range && bytes_eq l.colorimetry m.colorimetry

-- The walk over the video sections of a text, and the walk over the text
unfoldable pub sections_walk : List Section → Result Description SdpFault
sections_walk [] = Err NoVideo
sections_walk (s ∷ []) = do
  first ← section_walk s
  Ok (record { ports = first.0 ∷ []; leg = first.1 })
sections_walk (s ∷ t ∷ []) = do
  first ← section_walk s
  second ← section_walk t
  tt ← fault_where LegsDiffer (not (same_leg first.1 second.1))
  Ok (record { ports = first.0 ∷ second.0 ∷ []; leg = first.1 })
sections_walk (s ∷ t ∷ u ∷ rest) = Err TooManyLegs

-- what an SDP text says, or its first fault
unfoldable pub text_walk : List ℕ → Result Description SdpFault
text_walk text = sections_walk (video_sections (lines text))
