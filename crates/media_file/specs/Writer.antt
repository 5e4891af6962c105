-- What a writer of a capture writes (own).
use Rattle.std.specs.Prelude.{◌≡◌, ℕ, ◌+◌, ◌%◌, ◌^◌, ◌<◌, Bool, true, false, List, [], ◌∷◌, ◌++◌}
use Rattle.std.specs.Prelude.{length, drop, map, ⊤, Option, None, Some}
use Rattle.std.specs.Borrow.{GName}
use Rattle.std.specs.Io.KnownBytes.{Appends}
use Rattle.std.specs.List.{AllByRecursion}
use Rattle.st_format.specs.Device.{AppendsPrefix, CountsOne, GrowsPart}
use Rattle.st_format.specs.declared.path.Path.{Path}
use Rattle.st_format.specs.declared.path.Path.TheVariants.{A, B}
use Rattle.media_file.specs.declared.paths.Paths.{Paths}
use Rattle.media_file.specs.declared.paths.Paths.TheVariants.{OnlyA, OnlyB, Both}
use Rattle.media_file.specs.declared.front.Version.TheVariants.{Two}
use Rattle.media_file.specs.Fronts.{front_text}
use Rattle.media_file.specs.Reading.{entries_in}
use Rattle.media_file.specs.Records.{Entry, records_text}

-- a record of these fields
abbrev pub entry : Path → ℕ → List ℕ → Entry
entry path moment octets = record { path = path; moment = moment; octets = octets }

-- the records of a datagram, the first of this moment
abbrev pub entries_of : Paths → ℕ → List ℕ → List Entry
entries_of OnlyA moment octets = entry A moment octets ∷ []
entries_of OnlyB moment octets = entry B moment octets ∷ []
entries_of Both moment octets = entry A moment octets ∷ entry B ((moment + 1) % 2 ^ 64) octets ∷ []

-- how many records a datagram has: one for each path
abbrev pub width : Paths → ℕ
width OnlyA = 1
width OnlyB = 1
width Both = 2

-- the moment of what follows a datagram
abbrev pub moment_behind : Paths → ℕ → ℕ
moment_behind paths moment = (moment + width paths) % 2 ^ 64

-- The records of datagrams, the first of this moment: a record's moment is its index modulo 2^64.
abbrev pub entries_from : Paths → ℕ → List (List ℕ) → List Entry
entries_from paths moment [] = []
entries_from paths moment (d ∷ ds) =
    entries_of paths moment d ++ entries_from paths (moment_behind paths moment) ds

-- the moment behind datagrams
abbrev pub moment_after : Paths → ℕ → List (List ℕ) → ℕ
moment_after paths moment [] = moment
moment_after paths moment (d ∷ ds) = moment_after paths (moment_behind paths moment) ds

-- the capture of a text and datagrams
abbrev pub written_text : Paths → List ℕ → List (List ℕ) → List ℕ
written_text paths text datagrams =
    front_text Two text ++ records_text (entries_from paths 0 datagrams)

-- of each two records the octets of the first; nothing of a last one alone
abbrev pub first_of_two : List Entry → List (List ℕ)
first_of_two [] = []
first_of_two (e ∷ []) = []
first_of_two (e ∷ f ∷ es) = e.octets ∷ first_of_two es

-- the datagrams that whole records are of: by both paths two records make one
abbrev pub datagrams_by : Paths → List Entry → List (List ℕ)
datagrams_by OnlyA entries = map (λ e. e.octets) entries
datagrams_by OnlyB entries = map (λ e. e.octets) entries
datagrams_by Both entries = first_of_two entries

-- The datagrams that a sink holds behind the front of a capture: those all of whose records are
-- whole.
abbrev pub datagrams_in : Paths → ℕ → List ℕ → List (List ℕ)
datagrams_in paths text_len held = datagrams_by paths (entries_in (drop (10 + text_len) held))

-- where a writer stands: the moment is that of the next record
pub record WriterPlace : Type 0 where
  pub paths : Paths
  pub text_len : ℕ
  pub moment : ℕ
  pub failed : Bool

-- where a writer stands behind one more datagram
abbrev pub place_behind : WriterPlace → WriterPlace
place_behind p =
    record {
      paths = p.paths;
      text_len = p.text_len;
      moment =
          moment_behind p.paths p.moment;
      failed = p.failed;
    }

-- after a fault
abbrev pub place_failed : WriterPlace → WriterPlace
place_failed p = record { paths = p.paths; text_len = p.text_len; moment = p.moment; failed = true }

-- what is seen of a writer: `before` is what its sink had taken when it began
pub record Writer (K : Type 0) : Type 0 where
  pub sink : K
  pub before : List ℕ
  pub place : WriterPlace
  pub failures : ℕ

-- of at most 65,535 octets
abbrev pub IsShortEnough : List ℕ → Type 0
IsShortEnough octets = length octets < 2 ^ 16

-- A sink holds the capture of a text and datagrams, of which the next record's moment is this.
pub record IsWritten (paths : Paths) (text_len moment : ℕ) (held : List ℕ) : Type 0 where
  pub text : List ℕ
  pub datagrams : List (List ℕ)
  pub text_fits : length text < 2 ^ 16
  pub text_len_is : length text ≡ text_len
  pub fit : AllByRecursion IsShortEnough datagrams
  pub moment_is : moment_after paths 0 datagrams ≡ moment
  pub whole : held ≡ written_text paths text datagrams

-- What a writer's sink holds, where it tells it: until a fault, the capture of a text and
-- datagrams.
abbrev pub StandsWritten : WriterPlace → Option (List ℕ) → Type 0
StandsWritten p None = ⊤
StandsWritten p (Some held) = p.failed ≡ false → IsWritten p.paths p.text_len p.moment held

-- The datagrams that a writer took: those whose records its sink holds. Where the sink doesn't tell
-- what it holds, they are not told.
abbrev pub taken_of : WriterPlace → Option (List ℕ) → Option (List (List ℕ))
taken_of p None = None
taken_of p (Some held) = Some (datagrams_in p.paths p.text_len held)

-- the datagrams that a writer took, by what its sink took since it began
abbrev pub took_of : WriterPlace → List ℕ → List (List ℕ)
took_of p octets = datagrams_in p.paths p.text_len octets

-- ---- datagrams put into a writer

-- A writer that had not failed took a datagram: its sink took that datagram's records.
pub record TakesDatagram {K : Type 0} (held : K → Option (List ℕ)) (took : K → List ℕ)
    (failures : K → ℕ) (names : K → List GName) (old : Writer K) (octets : List ℕ) (new : Writer K)
    : Type 0 where
  pub stands : old.place.failed ≡ false
  pub written : Appends (held old.sink) (held new.sink)
      (records_text (entries_of old.place.paths old.place.moment octets))
  pub grown : took new.sink ≡ took old.sink
      ++ records_text (entries_of old.place.paths old.place.moment octets)
  pub place : new.place ≡ place_behind old.place
  pub faultless : failures new.sink ≡ failures old.sink
  pub lent : names new.sink ≡ names old.sink

-- A writer failed at a datagram: its sink failed in this call, having taken a first part of that
-- datagram's records; or the writer had failed before, and its sink stays.
pub record FailsDatagram {K : Type 0} (held : K → Option (List ℕ)) (took : K → List ℕ)
    (failures : K → ℕ) (names : K → List GName) (old : Writer K) (octets : List ℕ) (new : Writer K)
    : Type 0 where
  pub cut : old.place.failed ≡ false → AppendsPrefix (held old.sink) (held new.sink)
      (records_text (entries_of old.place.paths old.place.moment octets))
  pub part : old.place.failed ≡ false → GrowsPart (took old.sink) (took new.sink)
      (records_text (entries_of old.place.paths old.place.moment octets))
  pub device : old.place.failed ≡ false → CountsOne (failures old.sink) (failures new.sink)
  pub stays : old.place.failed ≡ true → new.sink ≡ old.sink
  pub place : new.place ≡ place_failed old.place
  pub lent : names new.sink ≡ names old.sink

-- a writer wrote the records of these datagrams
pub record WritesDatagrams {K : Type 0} (took : K → List ℕ) (datagrams : List (List ℕ))
    (old new : Writer K) : Type 0 where
  pub taken : took new.sink ≡ took old.sink
      ++ records_text (entries_from old.place.paths old.place.moment datagrams)
  pub paths : new.place.paths ≡ old.place.paths
  pub moment : new.place.moment ≡ moment_after old.place.paths old.place.moment datagrams
