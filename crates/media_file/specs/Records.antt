-- The text of a capture's records (own).
use Rattle.std.specs.Prelude.{◌≡◌, ℕ, ◌^◌, ◌<◌, List, ◌∷◌, ◌++◌, length, take}
use Rattle.std.specs.Int.{w16, w64, to_be_bytes}
use Rattle.std.specs.List.{flat_map, AllByRecursion}
use Rattle.st_format.specs.declared.path.Path.{Path}
use Rattle.st_format.specs.declared.path.Path.TheVariants.{A, B}
use Rattle.media_file.specs.declared.record.RecordHead.{RecordHead}

-- a record without where its octets lie in memory
pub record Entry : Type 0 where
  pub path : Path
  pub moment : ℕ
  pub octets : List ℕ

-- the record of this head whose octets stand at the front of a buffer
abbrev pub entry_of : RecordHead → List ℕ → Entry
entry_of h buf = record { path = h.path; moment = h.moment; octets = take h.length buf }

-- what has a text: a moment of 64 bits, and at most 65,535 octets
pub record Fits (e : Entry) : Type 0 where
  pub moment : e.moment < 2 ^ 64
  pub octets : length e.octets < 2 ^ 16

-- the octet that says a path
abbrev pub path_octet : Path → ℕ
path_octet A = 0
path_octet B = 1

-- a record but for its first octet: the moment in eight octets, the number of its octets in two,
-- and the octets
abbrev pub rest_text : Entry → List ℕ
rest_text e = to_be_bytes w64 e.moment ++ (to_be_bytes w16 (length e.octets) ++ e.octets)

-- a record: its path, and the rest
abbrev pub record_text : Entry → List ℕ
record_text e = path_octet e.path ∷ rest_text e

-- records, one after the other
abbrev pub records_text : List Entry → List ℕ
records_text entries = flat_map record_text entries

-- each record has a text
abbrev pub AllFit : List Entry → Type 0
AllFit entries = AllByRecursion Fits entries

-- an octet and ten more are the text of this head
pub record IsRecordHead (first : ℕ) (octets : List ℕ) (h : RecordHead) : Type 0 where
  pub first_is : first ≡ path_octet h.path
  pub moment : h.moment < 2 ^ 64
  pub length_fits : h.length < 2 ^ 16
  pub text : octets ≡ to_be_bytes w64 h.moment ++ to_be_bytes w16 h.length

-- the eleven octets of a head
abbrev pub record_head : Path → ℕ → ℕ → List ℕ
record_head path moment count = path_octet path ∷ (to_be_bytes w64 moment ++ to_be_bytes w16 count)
