-- What it means that octets spell some records up to their first fault (own). No step of reading is
-- in it.
use Rattle.std.specs.Prelude.{◌≡◌, ℕ, List, ◌++◌}
use Rattle.media_file.specs.Records.{AllFit, Entry, Fits, record_text, records_text}

-- no record stands at the front
abbrev pub HasNoRecord : List ℕ → Type 0
HasNoRecord octets = (e : Entry) (behind : List ℕ) → Fits e → octets ≡ record_text e ++ behind → ⊥

-- The octets are these records and a rest at whose front stands no record: it is empty, or the
-- first fault stands there.
pub record AreRecordsOf (entries : List Entry) (rest octets : List ℕ) : Type 0 where
  pub fit : AllFit entries
  pub whole : octets ≡ records_text entries ++ rest
  pub no_more : HasNoRecord rest
