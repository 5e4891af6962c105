-- The grammar of SDP texts (SdpGrammar): for each fault a condition of its own, on the whole list
-- of lines, of video sections or of items, and what a text without a fault says. RFC 8866, 5 and 6;
-- SMPTE ST 2110-20, SDP. The order of the faults, which line counts and the accepted spellings are
-- own.
use Rattle.std.specs.Prelude.{◌≡◌, ◌≢◌, ◌⊎◌, ◌<◌, ◌≤◌, ◌++◌, ℕ, true, false, List, [], ◌∷◌, All}
use Rattle.std.specs.Prelude.{Contains, Some, None, Ok, IsErr}
use Rattle.std.specs.List.{list_all}
use Rattle.std.specs.Str.{str_eq_ignore_ascii_case}
use Rattle.std.proofs.Common.{codes}
use Rattle.st_format.specs.declared.sampling.Sampling.{Sampling}
use Rattle.st_format.specs.declared.sampling.Depth.{Depth}
use Rattle.st_format.specs.Fields.{Fields, format_at}
use Rattle.sdp_format.specs.declared.sdp.Range.{Range}
use Rattle.sdp_format.specs.declared.sdp.Range.TheVariants.{Narrow, FullProtect, Full}
use Rattle.sdp_format.specs.declared.fault.SdpFault.{SdpFault}
use Rattle.sdp_format.specs.declared.fault.SdpFault.TheVariants.{NoVideo, TooManyLegs, BadMediaLine}
use Rattle.sdp_format.specs.declared.fault.SdpFault.TheVariants.{NoRtpmap, NotRaw90000, NoFmtp}
use Rattle.sdp_format.specs.declared.fault.SdpFault.TheVariants.{BadParameter, DoubleParameter}
use Rattle.sdp_format.specs.declared.fault.SdpFault.TheVariants.{MissingParameter}
use Rattle.sdp_format.specs.declared.fault.SdpFault.TheVariants.{UnsupportedSampling}
use Rattle.sdp_format.specs.declared.fault.SdpFault.TheVariants.{UnsupportedDepth, Interlaced}
use Rattle.sdp_format.specs.declared.fault.SdpFault.TheVariants.{UnsupportedPacking, BadSsn}
use Rattle.sdp_format.specs.declared.fault.SdpFault.TheVariants.{BadFormat, LegsDiffer}
use Rattle.sdp_format.specs.Faults.{sdp_fault_number}
use Rattle.sdp_format.specs.Bytes.{is_space, trimmed}
use Rattle.st_format.specs.Words.{number}
use Rattle.sdp_format.specs.Naming.{Item, items, rate, colorimetry, range_named, required_names}
use Rattle.sdp_format.specs.Sections.{Section, Leg, Description}
use Rattle.st_format.specs.Words.{sampling_text}
use Rattle.st_format.specs.Forms.{depth_text}

-- LINES

-- The first line of a video section: one port and one payload type, single spaces between the
-- words, spaces and tabs at the end (RFC 8866, 5.14)
pub record IsMediaLine (line : List ℕ) (port payload_type : ℕ) : Type 0 where
  pub port_text : List ℕ
  pub type_text : List ℕ
  pub spaces : List ℕ
  pub whole : line ≡ codes "m=video " ++ port_text ++ codes " RTP/AVP " ++ type_text ++ spaces
  pub is_port : number port_text ≡ Some port
  pub most_port : port ≤ 65535
  pub is_type : number type_text ≡ Some payload_type
  pub most_type : payload_type ≤ 127
  pub blank : list_all is_space spaces ≡ true

-- An attribute of a payload type: the word, a number equal to the type, a space, and the rest (RFC
-- 8866, 6.6, 6.15)
pub record IsAttribute (line word : List ℕ) (payload_type : ℕ) (rest : List ℕ) : Type 0 where
  pub digits : List ℕ
  pub whole : line ≡ word ++ digits ++ 32 ∷ rest
  pub is_type : number digits ≡ Some payload_type

-- no line is an attribute of this word and this payload type
abbrev pub HasNone : List (List ℕ) → List ℕ → ℕ → Type 0
HasNone lines word payload_type =
    All (λ line. (rest : List ℕ) → IsAttribute line word payload_type rest → ⊥) lines

-- The first such line counts
pub record IsFirst (lines : List (List ℕ)) (word : List ℕ) (payload_type : ℕ) (rest : List ℕ)
    : Type 0 where
  pub before : List (List ℕ)
  pub line : List ℕ
  pub after : List (List ℕ)
  pub whole : lines ≡ before ++ line ∷ after
  pub none : HasNone before word payload_type
  pub first : IsAttribute line word payload_type rest

-- ITEMS

-- an item has this name and this value; some item has the name; none has
abbrev pub Says : List Item → List ℕ → List ℕ → Type 0
Says is name value = Contains is (name, value)

-- some item has this name, whatever its value: that of a flag, as interlace is one, is empty
abbrev pub Has : List Item → List ℕ → Type 0
Has is name = (value : List ℕ) × Says is name value

-- no item has this name, whatever the value
abbrev pub Lacks : List Item → List ℕ → Type 0
Lacks is name = (value : List ℕ) → Says is name value → ⊥

-- An item that is wrong by itself: without a name, or with a value that is not of its name's form
pub data IsBadItem (i : Item) : Type 0 where
  NoName : i.0 ≡ [] → IsBadItem i
  NoWidth : i.0 ≡ codes "width" → number i.1 ≡ None → IsBadItem i
  NoHeight : i.0 ≡ codes "height" → number i.1 ≡ None → IsBadItem i
  NoRate : i.0 ≡ codes "exactframerate" → rate i.1 ≡ None → IsBadItem i
  NoColorimetry : i.0 ≡ codes "colorimetry" → colorimetry i.1 ≡ None → IsBadItem i
  NoRange : i.0 ≡ codes "RANGE" → range_named i.1 ≡ None → IsBadItem i

-- Two items with one name
pub record HasDouble (is : List Item) : Type 0 where
  pub before : List Item
  pub first : Item
  pub between : List Item
  pub second : Item
  pub after : List Item
  pub whole : is ≡ before ++ first ∷ (between ++ second ∷ after)
  pub same : second.0 ≡ first.0

-- What the items say of a format, the rate as it is given (SMPTE ST 2110-20, SDP)
pub record IsGiven (is : List Item) (given : Fields) : Type 0 where
  pub sampling : Says is (codes "sampling") (sampling_text given.sampling)
  pub depth : Says is (codes "depth") (depth_text given.depth)
  pub width : (text : List ℕ) × Says is (codes "width") text × (number text ≡ Some given.width)
  pub height : (text : List ℕ) × Says is (codes "height") text × (number text ≡ Some given.height)
  pub rate_given : (text : List ℕ) × Says is (codes "exactframerate") text
      × (rate text ≡ Some (given.n, given.d))

-- The condition of each fault of items, by itself
abbrev pub ItemFault : List Item → SdpFault → Type 0
ItemFault is BadParameter = (i : Item) × Contains is i × IsBadItem i
ItemFault is DoubleParameter = HasDouble is
ItemFault is MissingParameter = (name : List ℕ) × Contains required_names name × Lacks is name
ItemFault is UnsupportedSampling =
    (text : List ℕ) × Says is (codes "sampling") text × ((s : Sampling) → text ≢ sampling_text s)
ItemFault is UnsupportedDepth =
    (text : List ℕ) × Says is (codes "depth") text × ((b : Depth) → text ≢ depth_text b)
ItemFault is Interlaced = Has is (codes "interlace") ⊎ Has is (codes "segmented")
ItemFault is UnsupportedPacking =
    (text : List ℕ) × Says is (codes "PM") text × (text ≢ codes "2110GPM")
ItemFault is BadSsn =
    (text : List ℕ) × Says is (codes "SSN") text
    × ((rest : List ℕ) → text ≢ codes "ST2110-20:" ++ rest)
ItemFault is BadFormat =
    (given : Fields) × IsGiven is given
    × IsErr (format_at given.sampling given.depth given.width given.height given.n given.d)
ItemFault is fault = ⊥

-- what the items say of the range: narrow where they say nothing
abbrev pub SaysRange : List Item → Range → Type 0
SaysRange is Narrow = Lacks is (codes "RANGE") ⊎ Says is (codes "RANGE") (codes "NARROW")
SaysRange is FullProtect = Says is (codes "RANGE") (codes "FULLPROTECT")
SaysRange is Full = Says is (codes "RANGE") (codes "FULL")

-- What items without a fault say: the format of what they give, the range, the colorimetry
pub record IsSaid (is : List Item) (l : Leg) : Type 0 where
  pub given : Fields
  pub is_given : IsGiven is given
  pub format : format_at given.sampling given.depth given.width given.height given.n given.d
      ≡ Ok l.format
  pub range : SaysRange is l.range
  pub colorimetry : Says is (codes "colorimetry") l.colorimetry

-- SECTIONS

-- the items of a section: those of the first fmtp line of its payload type
pub record HasItems (s : Section) (port payload_type : ℕ) (is : List Item) : Type 0 where
  pub media : IsMediaLine s.media port payload_type
  pub text : List ℕ
  pub fmtp : IsFirst s.lines (codes "a=fmtp:") payload_type text
  pub list : is ≡ items text

-- no line with the word for the payload type; another first rtpmap line than raw/90000; items with
-- a fault
pub record LacksLine (s : Section) (word : List ℕ) : Type 0 where
  pub port : ℕ
  pub payload_type : ℕ
  pub media : IsMediaLine s.media port payload_type
  pub none : HasNone s.lines word payload_type

-- the first rtpmap line of the payload type names something else than raw/90000, whatever the
-- case of its letters (RFC 8866, 6.6)
pub record HasOtherMap (s : Section) : Type 0 where
  pub port : ℕ
  pub payload_type : ℕ
  pub map : List ℕ
  pub media : IsMediaLine s.media port payload_type
  pub rtpmap : IsFirst s.lines (codes "a=rtpmap:") payload_type map
  pub other : str_eq_ignore_ascii_case (trimmed map) (codes "raw/90000") ≡ false

-- the items of the section's first fmtp line have this fault (RFC 8866, 6.15)
pub record HasItemFault (s : Section) (fault : SdpFault) : Type 0 where
  pub port : ℕ
  pub payload_type : ℕ
  pub list : List Item
  pub has : HasItems s port payload_type list
  pub holds : ItemFault list fault

-- The condition of each fault of a section, by itself
abbrev pub SectionFault : Section → SdpFault → Type 0
SectionFault s BadMediaLine = (port payload_type : ℕ) → IsMediaLine s.media port payload_type → ⊥
SectionFault s NoRtpmap = LacksLine s (codes "a=rtpmap:")
SectionFault s NotRaw90000 = HasOtherMap s
SectionFault s NoFmtp = LacksLine s (codes "a=fmtp:")
SectionFault s fault = HasItemFault s fault

-- no condition of a fault before this one holds; the first fault of a section in the order of
-- numbers; no fault at all
abbrev pub NoneBefore : Section → SdpFault → Type 0
NoneBefore s fault =
    (other : SdpFault) → sdp_fault_number other < sdp_fault_number fault → SectionFault s other → ⊥

-- the one fault that is told of a section: of all that it has, that of the lowest number
abbrev pub IsFirstFault : Section → SdpFault → Type 0
IsFirstFault s fault = SectionFault s fault × NoneBefore s fault

-- a section for which no condition of a fault holds
abbrev pub IsFaultless : Section → Type 0
IsFaultless s = (fault : SdpFault) → SectionFault s fault → ⊥

-- What a section without a fault says
pub record SectionSays (s : Section) (port : ℕ) (l : Leg) : Type 0 where
  pub list : List Item
  pub has : HasItems s port l.payload_type list
  pub said : IsSaid list l

-- TEXTS

-- two sections that say something else than each other
pub record Differ (s t : Section) : Type 0 where
  pub port : ℕ
  pub leg : Leg
  pub second_port : ℕ
  pub second_leg : Leg
  pub says : SectionSays s port leg
  pub second_says : SectionSays t second_port second_leg
  pub unlike : leg ≢ second_leg

-- there are two sections and no more, neither with a fault, and the second says something else
-- than the first
abbrev pub TwoDiffer : List Section → Type 0
TwoDiffer [] = ⊥
TwoDiffer (s ∷ []) = ⊥
TwoDiffer (s ∷ t ∷ []) = IsFaultless s × IsFaultless t × Differ s t
TwoDiffer (s ∷ t ∷ u ∷ rest) = ⊥

-- The fault of the video sections of a text: that of the first section, then that of the second,
-- then that they differ
abbrev pub IsTextFault : List Section → SdpFault → Type 0
IsTextFault [] fault = fault ≡ NoVideo
IsTextFault (s ∷ []) fault = IsFirstFault s fault
IsTextFault (s ∷ t ∷ []) fault =
    IsFirstFault s fault
    ⊎ ((IsFaultless s × IsFirstFault t fault)
    ⊎ (IsFaultless s × IsFaultless t × Differ s t × (fault ≡ LegsDiffer)))
IsTextFault (s ∷ t ∷ u ∷ rest) fault = fault ≡ TooManyLegs

-- What one or two video sections without a fault say
pub record BothSay (s t : Section) (d : Description) : Type 0 where
  pub faultless : IsFaultless s
  pub second_faultless : IsFaultless t
  pub port : ℕ
  pub second_port : ℕ
  pub says : SectionSays s port d.leg
  pub second_says : SectionSays t second_port d.leg
  pub ports : d.ports ≡ port ∷ second_port ∷ []

-- what a text says whose only video section has no fault: one port, and what that section says
pub record OneSays (s : Section) (d : Description) : Type 0 where
  pub faultless : IsFaultless s
  pub port : ℕ
  pub says : SectionSays s port d.leg
  pub ports : d.ports ≡ port ∷ []

-- what a text says, by its video sections; it says nothing where these are none, or more than two
abbrev pub IsDescribed : List Section → Description → Type 0
IsDescribed [] d = ⊥
IsDescribed (s ∷ []) d = OneSays s d
IsDescribed (s ∷ t ∷ []) d = BothSay s t d
IsDescribed (s ∷ t ∷ u ∷ rest) d = ⊥
