-- A capture's records read from the left, with the first fault. What the text of a record is says
-- Records; laws join the two.
use Rattle.std.specs.Prelude.{ℕ, zero, suc, ◌==◌, nat_lt, if◌then◌else◌, List, [], ◌∷◌, length}
use Rattle.std.specs.Prelude.{take, drop, Option, None, Some, Result, Ok, Err}
use Rattle.std.specs.Int.{w16, w64, from_be_bytes}
use Rattle.st_format.specs.declared.path.Path.{Path}
use Rattle.st_format.specs.declared.path.Path.TheVariants.{A, B}
use Rattle.media_file.specs.declared.fault.FileFault.{FileFault}
use Rattle.media_file.specs.declared.fault.FileFault.TheVariants.{Truncated, BadField}
use Rattle.media_file.specs.declared.record.RecordHead.{RecordHead}
use Rattle.media_file.specs.Records.{Entry, entry_of}

-- the path that an octet says: 0 is A, 1 is B
abbrev pub path_of : ℕ → Result Path FileFault
path_of n = if n == 0 then Ok A else (if n == 1 then Ok B else Err BadField)

-- a head of this path, with the moment in eight octets and the length in two
abbrev pub head_by : Result Path FileFault → List ℕ → Result RecordHead FileFault
head_by (Ok path) octets =
    Ok (record {
      path = path;
      moment = from_be_bytes w64 (take 8 octets);
      length =
          from_be_bytes w16 (take 2 (drop 8 octets));
    })
head_by (Err f) octets = Err f

-- the head that an octet and ten octets make
abbrev pub head_at : ℕ → List ℕ → Result RecordHead FileFault
head_at first octets = head_by (path_of first) octets

-- the record of a head, whose octets have to be there, and what is behind it
abbrev pub octets_at : Result RecordHead FileFault → List ℕ → Result (Entry × List ℕ) FileFault
octets_at (Ok head) octets =
    if nat_lt (length octets) head.length then Err Truncated
    else Ok (entry_of head octets, drop head.length octets)
octets_at (Err f) octets = Err f

-- The rest of a record that an octet begins, and what is behind it: a head of ten octets more,
-- which is whole before the path is looked at, and then the octets.
unfoldable pub rest_at : ℕ → List ℕ → Result (Entry × List ℕ) FileFault
rest_at first octets =
    if nat_lt (length octets) 10 then Err Truncated
    else octets_at (head_at first (take 10 octets)) (drop 10 octets)

-- The records at the front of octets, up to the first that isn't whole and right, and at most so
-- many.
abbrev pub entries_by : Result (Entry × List ℕ) FileFault → (List ℕ → List Entry) → List Entry
entries_by (Ok x) next = x.0 ∷ next x.1
entries_by (Err f) next = []

-- at most so many records, each at the front of what is behind the one before
unfoldable pub entries_up_to : ℕ → List ℕ → List Entry
entries_up_to zero octets = []
entries_up_to (suc n) [] = []
entries_up_to (suc n) (first ∷ octets) = entries_by (rest_at first octets) (entries_up_to n)

-- all of them: a record has at least one octet
abbrev pub entries_in : List ℕ → List Entry
entries_in octets = entries_up_to (length octets) octets

-- the fault of the octet or the octets behind it that are no record
abbrev pub fault_by : Result (Entry × List ℕ) FileFault → Option FileFault
fault_by (Ok x) = None
fault_by (Err f) = Some f

-- what is wrong at the front of octets, where they begin with no record and are not at their end
unfoldable pub fault_at : List ℕ → Option FileFault
fault_at [] = None
fault_at (first ∷ octets) = fault_by (rest_at first octets)
