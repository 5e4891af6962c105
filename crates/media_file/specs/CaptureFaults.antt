-- The faults of a capture (own): each a condition of its own on the octets, with no step of reading
-- in it. Laws say that at most one holds, that one holds where the octets are no capture within the
-- limit, and that a capture is read with a fault exactly where the fault's condition holds.
use Rattle.std.specs.Prelude.{◌≡◌, ℕ, ◌+◌, ◌<◌, ◌≤◌, List, ◌++◌, length, take, drop, slice_index}
use Rattle.std.specs.Int.{w16, from_be_bytes}
use Rattle.media_file.specs.declared.fault.FileFault.{FileFault}
use Rattle.media_file.specs.declared.fault.FileFault.TheVariants.{BadName, BadVersion, Truncated}
use Rattle.media_file.specs.declared.fault.FileFault.TheVariants.{BadField, TooManyRecords}
use Rattle.media_file.specs.declared.front.Version.TheVariants.{Two}
use Rattle.media_file.specs.Capture.{Content, IsCapture}
use Rattle.media_file.specs.Fronts.{capture_name, kind_text}
use Rattle.media_file.specs.KindFaults.{HasOtherName, HasOtherVersion, IsCutKind}

-- RECORDS

-- how many octets a record's head says: its last two octets
abbrev pub count_in : List ℕ → ℕ
count_in octets = from_be_bytes w16 (take 2 (drop 9 octets))

-- A record begins, and the octets end within its head of eleven octets, or, where its path is one,
-- within the octets that the head counts.
pub data IsCutRecord (octets : List ℕ) : Type 0 where
  Head : 0 < length octets → length octets < 11 → IsCutRecord octets
  Octets : 11 ≤ length octets → slice_index octets 0 ≤ 1 → length octets < 11 + count_in octets
      → IsCutRecord octets

-- where a capture is cut: in name or version, its text, a record's head, or a record's octets
pub data CutPlace : Type 0 where
  InKind : CutPlace
  InText : CutPlace
  InHead : CutPlace
  InOctets : CutPlace

-- within its head, or within the octets that this counts
abbrev pub record_place : {octets : List ℕ} → IsCutRecord octets → CutPlace
record_place (Head more short) = InHead
record_place (Octets head path short) = InOctets

-- A whole head whose first octet is no path.
pub record HasBadPath (octets : List ℕ) : Type 0 where
  pub head : 11 ≤ length octets
  pub path : 1 < slice_index octets 0

-- the condition of each fault of a record at the front of octets
abbrev pub IsRecordFault : FileFault → List ℕ → Type 0
IsRecordFault Truncated octets = IsCutRecord octets
IsRecordFault BadField octets = HasBadPath octets
IsRecordFault fault octets = ⊥

-- CAPTURES

-- A capture stands at the front, and these octets behind it.
pub record HasBehind (octets : List ℕ) (capture : Content) (behind : List ℕ) : Type 0 where
  pub front : List ℕ
  pub is : IsCapture front capture
  pub whole : octets ≡ front ++ behind

-- Version 02, and behind it the octets end within the two of the text's length, or within as many
-- as these say. (With fewer than two behind, they are too few whatever these say.)
pub record HasCutText (octets : List ℕ) : Type 0 where
  pub behind : List ℕ
  pub whole : octets ≡ kind_text capture_name Two ++ behind
  pub short : length behind < 2 + from_be_bytes w16 (take 2 behind)

-- Behind a capture of fewer records than the limit stands a record with this fault.
pub record HasBadRecord (octets : List ℕ) (limit : ℕ) (fault : FileFault) : Type 0 where
  pub capture : Content
  pub behind : List ℕ
  pub stands : HasBehind octets capture behind
  pub few : length capture.records < limit
  pub wrong : IsRecordFault fault behind

-- Behind a capture of as many records as the limit allows stands an octet.
pub record HasRecordMore (octets : List ℕ) (limit : ℕ) : Type 0 where
  pub capture : Content
  pub behind : List ℕ
  pub stands : HasBehind octets capture behind
  pub full : length capture.records ≡ limit
  pub more : 0 < length behind

-- The octets end within name or version, within the text, or within a record.
pub data IsCutCapture (octets : List ℕ) (limit : ℕ) : Type 0 where
  Kind : IsCutKind octets → IsCutCapture octets limit
  Text : HasCutText octets → IsCutCapture octets limit
  Record : HasBadRecord octets limit Truncated → IsCutCapture octets limit

-- where the octets of a capture that is cut end
abbrev pub cut_place : {limit : ℕ} {octets : List ℕ} → IsCutCapture octets limit → CutPlace
cut_place (Kind short) = InKind
cut_place (Text cut) = InText
cut_place (Record bad) = record_place bad.wrong

-- the condition of each fault of a capture of at most so many records, by itself
abbrev pub IsCaptureFault : FileFault → ℕ → List ℕ → Type 0
IsCaptureFault BadName limit octets = HasOtherName octets capture_name
IsCaptureFault BadVersion limit octets = HasOtherVersion octets capture_name
IsCaptureFault Truncated limit octets = IsCutCapture octets limit
IsCaptureFault BadField limit octets = HasBadRecord octets limit BadField
IsCaptureFault TooManyRecords limit octets = HasRecordMore octets limit
IsCaptureFault fault limit octets = ⊥
