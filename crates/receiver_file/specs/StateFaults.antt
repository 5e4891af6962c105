-- The faults of a receiver's file (own): each a condition of its own on the octets, with no step
-- of reading in it. Laws say that at most one holds, that octets are a receiver's file or have a
-- fault, and that they are read with a fault exactly where the fault's condition holds.
use Rattle.std.specs.Prelude.{◌≡◌, ◌≢◌, ℕ, ◌+◌, ◌%◌, ◌/◌, ◌^◌, ◌<◌, ◌≤◌, Bool, true, false, List}
use Rattle.std.specs.Prelude.{[], ◌∷◌, ◌++◌, ◌⊎◌, length, map, ⊤, Option}
use Rattle.std.specs.Int.{w16, w32, to_be_bytes}
use Rattle.std.specs.List.{AllByRecursion, flat_map}
use Rattle.st_format.specs.declared.cell.Cell.{Cell}
use Rattle.st_format.specs.Fields.{Fields}
use Rattle.st_format.specs.Member.{IsMember}
use Rattle.st_format.specs.Samples.{values_in}
use Rattle.path_receiver.specs.Opening.{AreDifferent, IsWindowSize}
use Rattle.media_file.specs.declared.fault.FileFault.{FileFault}
use Rattle.media_file.specs.declared.fault.FileFault.TheVariants.{BadName, BadVersion, Truncated}
use Rattle.media_file.specs.declared.fault.FileFault.TheVariants.{BadField, TrailingBytes}
use Rattle.media_file.specs.declared.fault.FileFault.TheVariants.{MixedGroup}
use Rattle.media_file.specs.declared.front.Version.TheVariants.{One}
use Rattle.media_file.specs.Fronts.{kind_text, receiver_name}
use Rattle.media_file.specs.Groups.{IsGroup, Shape, groups_text, shape_of}
use Rattle.media_file.specs.KindFaults.{HasOtherName, IsCutKind}
use Rattle.media_file.specs.PictureFaults.{HasOtherThanOne, IsFormat}
use Rattle.media_file.specs.StateFile.{Held, IsHeld, Kept, SsrcFits, format_text, raster_groups}
use Rattle.media_file.specs.StateFile.{held_text, ssrc_text, state_text}
use Rattle.receiver_file.specs.declared.front.Head.{Head}
use Rattle.receiver_file.specs.Saved.{IsSaved, timestamp_in}

-- WHAT A FILE SAYS UP TO A PLACE

-- the fields behind the format block
abbrev pub kept_head_text : Head → List ℕ
kept_head_text h = h.payload_type ∷ (ssrc_text h.ssrc ++ h.count ∷ [])

-- fields behind the format block that a file can have
pub record IsStateHead (h : Head) : Type 0 where
  pub payload_type : h.payload_type < 128
  pub ssrc : SsrcFits h.ssrc
  pub count : IsWindowSize h.count

-- A place in a file where a field begins, by what stands before it: name and version; the format;
-- the payload type; whether a source is pinned; the source; all before the frames, and whole
-- frames; and of the next frame its timestamp, and whole groups.
pub data FieldPlace : Type 0 where
  AtBlock : FieldPlace
  AtPayloadType : Fields → FieldPlace
  AtFlag : Fields → ℕ → FieldPlace
  AtSource : Fields → ℕ → Bool → FieldPlace
  AtCount : Fields → ℕ → Option ℕ → FieldPlace
  AtTimestamp : Fields → Head → List Held → FieldPlace
  AtGroup : Fields → Head → List Held → ℕ → List (List Cell) → FieldPlace

-- whether a source is pinned
abbrev pub flag_octet : Bool → ℕ
flag_octet false = 0
flag_octet true = 1

-- what stands in a file before the payload type
abbrev pub block_front : Fields → List ℕ
block_front f = kind_text receiver_name One ++ format_text f

-- what stands in a file before the next frame
abbrev pub frames_front : Fields → Head → List Held → List ℕ
frames_front f h frames = (block_front f ++ kept_head_text h) ++ flat_map (held_text f) frames

-- the shape of a format's pgroups
abbrev pub shape_by : Fields → Shape
shape_by f = shape_of f.sampling f.depth

-- the octets before a place
abbrev pub text_before : FieldPlace → List ℕ
text_before AtBlock = kind_text receiver_name One
text_before (AtPayloadType f) = block_front f
text_before (AtFlag f type) = block_front f ++ type ∷ []
text_before (AtSource f type pinned) = block_front f ++ type ∷ flag_octet pinned ∷ []
text_before (AtCount f type ssrc) = block_front f ++ type ∷ ssrc_text ssrc
text_before (AtTimestamp f h frames) = frames_front f h frames
text_before (AtGroup f h frames timestamp groups) =
    frames_front f h frames ++ (to_be_bytes w32 timestamp ++ groups_text (shape_by f) groups)

-- frames of different timestamps, fewer than the head counts
pub record AreFewer (f : Fields) (h : Head) (frames : List Held) : Type 0 where
  pub format : IsFormat f
  pub head : IsStateHead h
  pub held : AllByRecursion (IsHeld f) frames
  pub different : AreDifferent (map timestamp_in frames)
  pub fewer : length frames < h.count

-- a timestamp that isn't one of those before, and fewer groups than a frame has
pub record IsBegun (f : Fields) (before : List Held) (timestamp : ℕ) (gs : List (List Cell))
    : Type 0 where
  pub fits : timestamp < 2 ^ 32
  pub new : IsMember timestamp (map timestamp_in before) → ⊥
  pub groups : AllByRecursion (IsGroup (shape_by f)) gs
  pub fewer : length gs < raster_groups f

-- What stands before a place is what a file can say.
abbrev pub CanStand : FieldPlace → Type 0
CanStand AtBlock = ⊤
CanStand (AtPayloadType f) = IsFormat f
CanStand (AtFlag f type) = IsFormat f × (type < 128)
CanStand (AtSource f type pinned) = IsFormat f × (type < 128)
CanStand (AtCount f type ssrc) = (IsFormat f × (type < 128)) × SsrcFits ssrc
CanStand (AtTimestamp f h frames) = AreFewer f h frames
CanStand (AtGroup f h frames timestamp groups) =
    AreFewer f h frames × IsBegun f frames timestamp groups

-- WHAT IS WRONG AT A PLACE

-- the octets begin with one of which this holds
pub record HasOctet (Is : ℕ → Type 0) (octets : List ℕ) : Type 0 where
  pub first : ℕ
  pub behind : List ℕ
  pub whole : octets ≡ first ∷ behind
  pub is : Is first

-- the octets begin with a number of four octets of which this holds
pub record HasNumber (Is : ℕ → Type 0) (octets : List ℕ) : Type 0 where
  pub number : ℕ
  pub behind : List ℕ
  pub fits : number < 2 ^ 32
  pub whole : octets ≡ to_be_bytes w32 number ++ behind
  pub is : Is number

-- the octets begin with a block of fourteen that is the text of no format
pub record HasNoBlock (octets : List ℕ) : Type 0 where
  pub block : List ℕ
  pub behind : List ℕ
  pub whole : octets ≡ block ++ behind
  pub long : length block ≡ 14
  pub none : (f : Fields) → IsFormat f → block ≢ format_text f

-- The octets end before the state of a group, or before the end of the octets or of mask and octets
-- that go with it.
abbrev pub IsCutGroup : List ℕ → Shape → Type 0
IsCutGroup [] s = ⊤
IsCutGroup (state ∷ octets) s =
    ((state ≡ 1) × (length octets < s.octets)) ⊎ ((state ≡ 2) × (length octets < 2 + s.octets))

-- A sample that the mask names, counted from its least significant bit, isn't 0.
abbrev pub HasContestedValue : List ℕ → ℕ → Type 0
HasContestedValue [] mask = ⊥
HasContestedValue (v ∷ vs) mask =
    ((mask % 2 ≡ 1) × (v ≢ 0)) ⊎ HasContestedValue vs (mask / 2)

-- a mask that names no sample, or one that the group hasn't, or one that has a value
pub data IsWrongMask (mask : ℕ) (s : Shape) (values : List ℕ) : Type 0 where
  NamesNone : mask ≡ 0 → IsWrongMask mask s values
  NamesMore : 2 ^ s.samples ≤ mask → IsWrongMask mask s values
  NamesValue : HasContestedValue values mask → IsWrongMask mask s values

-- a contested group, whole, whose mask is wrong
pub record HasWrongMask (octets : List ℕ) (s : Shape) : Type 0 where
  pub mask : ℕ
  pub packed : List ℕ
  pub behind : List ℕ
  pub fits : mask < 2 ^ 16
  pub long : length packed ≡ s.octets
  pub whole : octets ≡ 2 ∷ (to_be_bytes w16 mask ++ (packed ++ behind))
  pub wrong : IsWrongMask mask s (values_in s.bits packed)

-- The octets end within the field at a place.
abbrev pub IsCutAt : List ℕ → FieldPlace → Type 0
IsCutAt octets AtBlock = length octets < 14
IsCutAt octets (AtPayloadType f) = octets ≡ []
IsCutAt octets (AtFlag f type) = octets ≡ []
IsCutAt octets (AtSource f type pinned) = length octets < 4
IsCutAt octets (AtCount f type ssrc) = octets ≡ []
IsCutAt octets (AtTimestamp f h frames) = length octets < 4
IsCutAt octets (AtGroup f h frames timestamp groups) = IsCutGroup octets (shape_by f)

-- The field at a place says what no such file says: a block of no format, a payload type above 127,
-- a flag above 1, a source where none is pinned, 0 or more than 16 timestamps, a timestamp that
-- stood before, a state above 2.
abbrev pub IsBadAt : List ℕ → FieldPlace → Type 0
IsBadAt octets AtBlock = HasNoBlock octets
IsBadAt octets (AtPayloadType f) = HasOctet (λ type. 127 < type) octets
IsBadAt octets (AtFlag f type) = HasOctet (λ flag. 1 < flag) octets
IsBadAt octets (AtSource f type true) = ⊥
IsBadAt octets (AtSource f type false) = HasNumber (λ ssrc. 0 < ssrc) octets
IsBadAt octets (AtCount f type ssrc) = HasOctet (λ count. (count ≡ 0) ⊎ (16 < count)) octets
IsBadAt octets (AtTimestamp f h frames) =
    HasNumber (λ t. IsMember t (map timestamp_in frames)) octets
IsBadAt octets (AtGroup f h frames timestamp groups) = HasOctet (λ state. 2 < state) octets

-- The group at a place has a wrong mask.
abbrev pub IsMixedAt : List ℕ → FieldPlace → Type 0
IsMixedAt octets (AtGroup f h frames timestamp groups) = HasWrongMask octets (shape_by f)
IsMixedAt octets place = ⊥

-- THE FAULTS

-- Behind what a file can say up to some place, this is so of the octets.
pub record HasPlace (IsWrong : List ℕ → FieldPlace → Type 0) (octets : List ℕ) : Type 0 where
  pub place : FieldPlace
  pub behind : List ℕ
  pub said : CanStand place
  pub whole : octets ≡ text_before place ++ behind
  pub wrong : IsWrong behind place

-- The octets end within name or version, or within a field behind them.
pub data IsCutState (octets : List ℕ) : Type 0 where
  Kind : IsCutKind octets → IsCutState octets
  Field : HasPlace IsCutAt octets → IsCutState octets

-- a whole receiver's file, and an octet behind it
pub record HasMore (octets : List ℕ) : Type 0 where
  pub kept : Kept
  pub behind : List ℕ
  pub is : IsSaved kept
  pub whole : octets ≡ state_text kept ++ behind
  pub more : 0 < length behind

-- the condition of each fault of a receiver's file, by itself
abbrev pub IsStateFault : FileFault → List ℕ → Type 0
IsStateFault BadName octets = HasOtherName octets receiver_name
IsStateFault BadVersion octets = HasOtherThanOne octets receiver_name
IsStateFault Truncated octets = IsCutState octets
IsStateFault BadField octets = HasPlace IsBadAt octets
IsStateFault MixedGroup octets = HasPlace IsMixedAt octets
IsStateFault TrailingBytes octets = HasMore octets
IsStateFault fault octets = ⊥
