-- A capture as a file (own): its text as a function of what it holds, and how octets are read as
-- one.
use Rattle.std.specs.Prelude.{◌≡◌, ℕ, zero, suc, List, [], ◌∷◌, ◌++◌, map, Result, Ok, Err}
use Rattle.media_file.specs.declared.capture.Capture.{Capture}
use Rattle.media_file.specs.declared.fault.FileFault.{FileFault}
use Rattle.media_file.specs.declared.fault.FileFault.TheVariants.{TooManyRecords}
use Rattle.media_file.specs.declared.front.Version.{Version}
use Rattle.media_file.specs.declared.front.Version.TheVariants.{Two}
use Rattle.media_file.specs.declared.record.Record.{Record}
use Rattle.st_format.specs.Reading.{◌>>=◌}
use Rattle.media_file.specs.Fronts.{HasFront, front_at, front_text}
use Rattle.media_file.specs.Reading.{rest_at}
use Rattle.media_file.specs.Records.{AllFit, Entry, records_text}

-- what a capture says
pub record Content : Type 0 where
  pub text : List ℕ
  pub records : List Entry

-- a capture of a version: its front, and its records joined
abbrev pub capture_by : Version → Content → List ℕ
capture_by v c = front_text v c.text ++ records_text c.records

-- what is written: a capture of version 02
abbrev pub capture_text : List ℕ → List Entry → List ℕ
capture_text text records = capture_by Two (record { text = text; records = records })

-- The octets are a capture of either version that says this.
pub record IsCapture (octets : List ℕ) (c : Content) : Type 0 where
  pub version : Version
  pub front : HasFront version c.text
  pub fit : AllFit c.records
  pub whole : octets ≡ capture_by version c

-- a record of the code, without where its octets lie in memory
abbrev pub entry_seen : {A : Type 0} → Record A → Entry
entry_seen r = record { path = r.path; moment = r.moment; octets = r.octets.items }

-- a capture that was read, as the grammar says it: its text and its records
abbrev pub capture_seen : {A : Type 0} → Capture A → Content
capture_seen c = record { text = c.text.items; records = map entry_seen c.records.items }

-- Records up to the end of the octets, and at most so many.
unfoldable pub records_at : ℕ → List ℕ → Result (List Entry × List ℕ) FileFault
records_at zero [] = Ok ([], [])
records_at zero (first ∷ octets) = Err TooManyRecords
records_at (suc n) [] = Ok ([], [])
records_at (suc n) (first ∷ octets) =
    rest_at first octets >>= λ x. records_at n x.1 >>= λ y. Ok (x.0 ∷ y.0, y.1)

-- the walk from the left: a capture of at most so many records, or the first fault
unfoldable pub capture_walk : ℕ → List ℕ → Result (Content × List ℕ) FileFault
capture_walk limit octets =
    front_at octets >>= λ x. records_at limit x.1 >>=
    λ y. Ok (record { text = x.0; records = y.0 }, y.1)
