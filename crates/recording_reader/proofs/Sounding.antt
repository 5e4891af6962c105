-- What holds of a reader of a file, one call later.
use Rattle.std.proofs.Common.{◌≡◌, ℕ, List, [], ◌∷◌, ◌++◌, Option, None, Some, refl, sym, ap, subst}
use Rattle.std.proofs.Common.{◌∙◌, ◌<◌, ◌≤◌, ◌-◌, arith, drop, false, length, take}
use Rattle.std.specs.Prelude.{MatchOption}
use Rattle.std.proofs.lemmas.List.{length-take, length-take-le}
use Rattle.std.specs.Option.{option_map}
use Rattle.flow.specs.declared.flows.Flows.{Flows}
use Rattle.media_file.specs.Records.{Entry}
use Rattle.media_file.specs.declared.fault.FileFault.{FileFault}
use Rattle.st_format.specs.History.{IsRead, since}
use Rattle.st_format.specs.declared.path.Path.{Path}
use Rattle.recording_reader.specs.Came.{AreNoted}
use Rattle.recording_reader.specs.Capturing.{FailsRecord, ReadsRecord}
use Rattle.recording_reader.specs.FileReader.{IsKnownBy}
use Rattle.recording_reader.specs.Files.{records_of_file, text_of_file}
use Rattle.recording_reader.specs.Found.{entry_at}
use Rattle.recording_reader.specs.Reading.{entry_there}
use Rattle.recording_reader.specs.Sound.{IsSound}
use Rattle.recording_reader.specs.Ways.{BeginsWay, FailsNextBy, FindsNext, HasSpace, IsAtHand}
use Rattle.recording_reader.specs.Ways.{WayStands, is_recording_way, left_out_by}
use Rattle.recording_reader.specs.declared.came.Came.{Came}
use Rattle.recording_reader.specs.declared.fault.ReadingFault.{ReadingFault}
use Rattle.recording_reader.specs.declared.fault.ReadingFault.TheVariants as fault
use Rattle.recording_reader.specs.declared.found.Found.{Found}
use Rattle.recording_reader.specs.declared.way.Standing.{Standing}
use Rattle.recording_reader.specs.declared.way.Standing.TheVariants.{Reads, Ended, Failed}
use Rattle.recording_reader.specs.declared.way.FileKind.{FileKind}
use Rattle.recording_reader.specs.declared.way.FileKind.TheVariants.{Capture, Recording}
use Rattle.recording_reader.proofs.Standings.{at_hand, exact_between, same_room}
use Rattle.recording_reader.proofs.Standings.{same_room_failed, way_again}
use Rattle.recording_reader.proofs.Standings.{way_end, way_fails, way_has, way_known, way_said}
use Rattle.recording_reader.proofs.Standings.{way_text}

abbrev pub some_path : Path → Option Path
some_path path = Some path

abbrev no_found : Option Found
no_found = None

abbrev pub no_path : Option Path
no_path = None

-- the path of what was found
abbrev pub path_there : Option Found → List ℕ → Option Path
path_there o buffer = option_map (λ e. e.path) (entry_there o buffer)

-- one record more is noted
abbrev pub NotesOne : Came → Came → Path → Type 0
NotesOne came came' path = (records : List Entry) (e : Entry) → e.path ≡ path
    → AreNoted came records → AreNoted came' (records ++ e ∷ [])

-- a reader that was just opened
module _ (way : FileKind) (flows : Option Flows) (before now : List ℕ) (ended : Type 0) (text : List ℕ)
    (begins : BeginsWay way flows before now ended text) where
  pub text_first : text_of_file (since before now) ≡ text
  text_first = way_text way flows Reads before now ended text [] begins

  pub records_first : records_of_file flows (since before now) ≡ []
  records_first = (way_has way flows Reads before now ended text [] begins tt).records_are

  -- what is known of its text and its records
  module _ (octets : List ℕ) (read : IsRead before now ended octets) where
    pub said_first : text_of_file octets ≡ text_of_file (since before now)
    said_first =
        way_said way flows Reads before now ended text [] octets begins read ∙ sym text_first

    pub known_first : IsKnownBy flows Reads octets (records_of_file flows (since before now))
        (left_out_by way)
    known_first =
        subst (λ (es : List Entry). IsKnownBy flows Reads octets es (left_out_by way))
        (sym records_first)
        (way_known way flows Reads before now ended text [] octets begins read)

  pub sound_first : (found : Option Found) (count : ℕ) (came : Came) (text_len : ℕ)
      → HasSpace way count → AreNoted came [] → length text ≡ text_len
      → IsSound way flows Reads before now ended (text_of_file (since before now))
      (records_of_file flows (since before now)) found count came text_len
  sound_first found count came text_len roomy noted size =
      rw (text_first, records_first)
      (record {
        stands = begins;
        roomy = roomy;
        hand = at_hand found Reads refl;
        noted = noted;
        text_is = size;
      })

-- where a reader stood, and what a call read
module _ (was way : FileKind) (flows : Option Flows) (standing : Standing) (before old new : List ℕ)
    (ended ended' : Type 0) (text : List ℕ) (records : List Entry) (found : Option Found)
    (count : ℕ) (came : Came) (text_len : ℕ)
    (s : IsSound was flows standing before old ended text records found count came text_len)
    (reads : standing ≡ Reads) where
  -- one record more
  pub record Finding (o : Option Found) (buffer : List ℕ) (path : Path) : Type 0 where
    pub entry : Entry
    pub stands : WayStands way flows standing before new ended' text (records ++ entry ∷ [])
    pub there : entry_there o buffer ≡ Some entry
    pub by : entry.path ≡ path

  pub finds : (o : Option Found) (buffer : List ℕ) (path : Path)
      → some_path path ≡ path_there o buffer → FindsNext was way o buffer old new ended'
      → Finding o buffer path
  finds None buffer path is next = absurd cc
  finds (Some f) buffer path is next = record {
    entry = entry_at f buffer;
    stands =
        way_again flows standing before old new ended ended' text records reads was way f buffer
        s.stands next;
    there = refl;
    by = cc;
  }

  module _ (o : Option Found) (buffer : List ℕ) (path : Path) (h : Finding o buffer path) where
    pub records_more : records_of_file flows (since before new) ≡ records ++ h.entry ∷ []
    records_more =
        (way_has way flows standing before new ended' text (records ++ h.entry ∷ []) h.stands
        (exact_between standing reads)).records_are

    pub text_same : text_of_file (since before new) ≡ text
    text_same =
        way_text way flows standing before new ended' text (records ++ h.entry ∷ []) h.stands

    pub sound_again : (kept : Option Found) (came' : Came) → NotesOne came came' path
        → FindsNext was way o buffer old new ended'
        → IsSound way flows standing before new ended' (text_of_file (since before new))
        (records_of_file flows (since before new)) kept count came' text_len
    sound_again kept came' notes next =
        rw (text_same, records_more)
        (record {
          stands = h.stands;
          roomy = same_room was way o buffer old new ended' count next s.roomy;
          hand = at_hand kept standing reads;
          noted = notes records h.entry h.by s.noted;
          text_is = s.text_is;
        })

  -- the end
  pub sound_end : (o : Option Found) (buffer : List ℕ) → no_path ≡ path_there o buffer
      → FindsNext was way o buffer old new ended'
      → IsSound way flows Ended before new ended' text records o count came text_len
  sound_end None buffer is next = record {
    stands =
        way_end flows standing before old new ended ended' text records reads was way buffer
        s.stands next;
    roomy = same_room was way no_found buffer old new ended' count next s.roomy;
    hand = tt;
    noted = s.noted;
    text_is = s.text_is;
  }
  sound_end (Some f) buffer is next = absurd cc

  -- a fault
  pub sound_failed : (f : ReadingFault) (o : Option Found) → o ≡ None
      → FailsNextBy was way f old new ended'
      → IsSound way flows (Failed f) before new ended' text records o count came text_len
  sound_failed f o none next = record {
    stands =
        way_fails flows standing before old new ended ended' text records reads was way f
        s.stands next;
    roomy = same_room_failed was way f old new ended' count next s.roomy;
    hand = subst (IsAtHand (Failed f)) (sym none) tt;
    noted = s.noted;
    text_is = s.text_is;
  }

-- what isn't found isn't there
pub none_there : (o : Option Found) (buffer : List ℕ) → no_path ≡ path_there o buffer
    → entry_there o buffer ≡ None
none_there None buffer is = refl
none_there (Some f) buffer is = absurd cc

-- ---- a capture, whose records are read into a buffer

pub capture_finds : (way : FileKind) → is_recording_way way ≡ false → (o : Option Found)
    (buffer old new : List ℕ) (ended : Type 0)
    → MatchOption o ((new ≡ old) × ended) (λ f. ReadsRecord old new (entry_at f buffer))
    → FindsNext way way o buffer old new ended
capture_finds Capture is None buffer old new ended read = read
capture_finds Capture is (Some f) buffer old new ended read = read
capture_finds (Recording t) is o buffer old new ended read = absurd cc

pub capture_fails : (way : FileKind) → is_recording_way way ≡ false → (f : FileFault)
    (old new : List ℕ) (ended : Type 0) → FailsRecord f old new ended
    → FailsNextBy way way (fault.Capture f) old new ended
capture_fails Capture is f old new ended wrong = wrong
capture_fails (Recording t) is f old new ended wrong = absurd cc

-- the octets that were found at the front of it
pub front_octets : (f : Found) (buffer : List ℕ) (e : Entry) → f.start ≡ 0
    → entry_there (Some f) buffer ≡ Some e → take f.end buffer ≡ e.octets
front_octets f buffer e at there =
    let whole : f.end ≡ f.end - f.start = omega (arith, at) in
    let same : entry_at f buffer ≡ e = cc in
    ap (λ (n : ℕ). take n buffer) whole
    ∙ ap (λ (k : ℕ). take (f.end - f.start) (drop k buffer)) (sym at)
    ∙ ap (λ (x : Entry). x.octets) same

-- ---- a text at the front of a buffer

pub text_front : (text buffer : List ℕ) (n : ℕ) → text ≡ take n buffer → n ≤ length buffer
    → take (length text) buffer ≡ text
text_front text buffer n is within =
    ap (λ (l : List ℕ). take (length l) buffer) is
    ∙ ap (λ (k : ℕ). take k buffer) (length-take-le n buffer within) ∙ sym is

pub text_short : (text buffer : List ℕ) (n : ℕ) → text ≡ take n buffer → n < 65536
    → length text < 65536
text_short text buffer n is few =
    omega (arith, ap (λ (l : List ℕ). length l) is, length-take n buffer)
