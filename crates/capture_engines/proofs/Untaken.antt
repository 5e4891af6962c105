-- What begins as a recording is no capture.
use Rattle.std.proofs.Common.{◌≡◌, ◌≢◌, ◌∙◌, ℕ, ◌<◌, ◌≤◌, ◌⊎◌, inl, inr, List, [], ◌∷◌, ◌++◌}
use Rattle.std.proofs.Common.{length, take, drop, Bool, true, false, cond, None, Result}
use Rattle.std.proofs.Common.{Err, refl, sym, ap, subst, arith, append_assoc, append-nil}
use Rattle.std.proofs.Common.{length-append}
use Rattle.recording_reader.specs.Opening.{HasGivenFour}
use Rattle.st_format.specs.History.{IsRead, since}
use Rattle.st_format.proofs.Histories.{since_is}
use Rattle.std.proofs.lemmas.Bool.{cases_lt}
use Rattle.std.proofs.lemmas.List.{length-drop, length-take-le, take-append-drop}
use Rattle.media_file.specs.Fronts.{capture_name, front_at, kind_at, text_by}
use Rattle.media_file.specs.declared.fault.FileFault.{FileFault}
use Rattle.media_file.specs.declared.fault.FileFault.TheVariants.{BadName, Truncated}
use Rattle.media_file.specs.declared.front.Version.{Version}
use Rattle.media_file.proofs.KindFaults.{kind_cut, name_tells}
use Rattle.recording_reader.specs.Files.{capture_records, records_behind, records_of_file}
use Rattle.recording_reader.specs.Kinds.{is_magic, is_recording}
use Rattle.recording_reader.specs.Files.{IfFile, IsFrontFault}
use Rattle.recording_reader.specs.Opening.{IsByFlows}
use Rattle.recording_reader.specs.declared.fault.FileOpeningFault.TheVariants.{Reading}
use Rattle.recording_reader.specs.declared.fault.ReadingFault.{ReadingFault}
use Rattle.recording_reader.specs.declared.fault.ReadingFault.TheVariants.{Capture, Recording}
use Rattle.media_file.specs.declared.fault.FileFault.TheVariants as file
use Rattle.pcap_file.specs.declared.fault.RecordingFault.TheVariants as recording
use Rattle.recording_reader.proofs.Files.{front_first}
use Rattle.run_outcome.specs.Refusing.{OfRefusal}
use Rattle.capture_engines.specs.Files.{flows_in}
use Rattle.run_outcome.specs.declared.refusal.Refusal.{Refusal}
use Rattle.run_outcome.specs.declared.refusal.Refusal.TheVariants as why
use Rattle.run_outcome.specs.LowerFaults.{reading_fault}
use Rattle.capture_engines.specs.Received.{IsCaptureBy, StopsFile, StopsFront}
use Rattle.capture_engines.specs.declared.way.Way.{Way}
use Rattle.capture_engines.specs.declared.way.Way.TheVariants as way
use Rattle.capture_engines.proofs.ReceivedRefusals.{plain_by}
use Rattle.st_format.specs.Reading.{◌>>=◌}

-- its first octet is no capture's
not_named : (octets : List ℕ) → is_recording octets ≡ true → take 6 octets ≢ capture_name
not_named [] is named = absurd cc
not_named (a ∷ []) is named = absurd cc
not_named (a ∷ b ∷ []) is named = absurd cc
not_named (a ∷ b ∷ c ∷ []) is named = absurd cc
not_named (a ∷ b ∷ c ∷ d ∷ octets) is named =
    let first : a ≡ 83 = first_is a (take 5 (b ∷ c ∷ d ∷ octets)) named in
    absurd (never (subst (λ (x : ℕ). is_magic (x ∷ b ∷ c ∷ d ∷ []) ≡ true) first is))
  where
    first_is : (x : ℕ) (xs : List ℕ) → x ∷ xs ≡ capture_name → x ≡ 83
    first_is x xs same = cc

    never : is_magic (83 ∷ b ∷ c ∷ d ∷ []) ≡ true → ⊥
    never same = cc

kind_none : (octets : List ℕ) (f : FileFault) → kind_at capture_name octets ≡ Err f
    → front_at octets ≡ Err f
unfolding front_at
kind_none octets f is =
    ap (λ (r : Result (Version × List ℕ) FileFault). r >>= λ x. text_by x.0 x.1) is

pub short_front : (octets : List ℕ) → length octets < 8 → front_at octets ≡ Err Truncated
short_front octets short = kind_none octets Truncated (kind_cut capture_name octets short)

pub long_front : (octets : List ℕ) → is_recording octets ≡ true → 8 ≤ length octets
    → front_at octets ≡ Err BadName
long_front octets is long = kind_none octets BadName (name_tells capture_name octets (record {
  found = take 6 octets;
  version = take 2 (drop 6 octets);
  kind = record {
    behind = drop 2 (drop 6 octets);
    six = length-take-le 6 octets (omega (arith, long));
    two = length-take-le 2 (drop 6 octets) (omega (arith, long, length-drop 6 octets));
    whole = sym (take-append-drop 6 octets)
        ∙ ap (λ (l : List ℕ). take 6 octets ++ l) (sym (take-append-drop 2 (drop 6 octets)));
  };
  other = not_named octets is;
}))

-- a recording has no capture's records
pub recording_records : (octets : List ℕ) → is_recording octets ≡ true
    → capture_records octets ≡ []
recording_records octets is = by (cases_lt (length octets) 8)
  where
    by : (length octets < 8) ⊎ (8 ≤ length octets) → capture_records octets ≡ []
    by (inl short) = ap records_behind (short_front octets short)
    by (inr long) = ap records_behind (long_front octets is long)

-- so without flows the records of a file are a capture's
pub records_alone : (octets : List ℕ) → records_of_file None octets ≡ capture_records octets
records_alone octets = by (is_recording octets) refl
  where
    by : (b : Bool) → is_recording octets ≡ b → records_of_file None octets ≡ capture_records octets
    by true is =
        ap (λ (c : Bool). cond c [] (capture_records octets)) is
        ∙ sym (recording_records octets is)
    by false is = ap (λ (c : Bool). cond c [] (capture_records octets)) is

-- ---- what was read on, behind four octets that begin a recording

-- octets that begin with four
recording_long : (four rest : List ℕ) → length four ≡ 4
    → is_recording (four ++ rest) ≡ is_magic four
recording_long [] rest is = absurd (omega (arith, is))
recording_long (a ∷ []) rest is = absurd (omega (arith, is))
recording_long (a ∷ b ∷ []) rest is = absurd (omega (arith, is))
recording_long (a ∷ b ∷ c ∷ []) rest is = absurd (omega (arith, is))
recording_long (a ∷ b ∷ c ∷ d ∷ []) rest is = refl
recording_long (a ∷ b ∷ c ∷ d ∷ e ∷ l) rest is = absurd (omega (arith, is))

magic_read : (before old : List ℕ) (over : Type 0) (g : HasGivenFour before old)
    → ((octets : List ℕ) → IsRead before old over octets → is_recording octets ≡ true)
    → is_magic g.four ≡ true
magic_read before old over g are =
    let itself : IsRead before old over g.four = record {
      behind = [];
      parts = sym (append-nil (since before old) ∙ since_is before old g.four g.grown);
      all = λ _. refl;
    } in
    sym (recording_long g.four [] g.counted) ∙ ap is_recording (append-nil g.four)
    ∙ are g.four itself

-- so many octets more were read
octets_are : (before old new more octets : List ℕ) (ended : Type 0) (g : HasGivenFour before old)
    → new ≡ old ++ more → (q : IsRead before new ended octets)
    → octets ≡ g.four ++ (more ++ q.behind)
octets_are before old new more octets ended g grown q =
    q.parts
    ∙ ap (λ (l : List ℕ). l ++ q.behind)
    (since_is before new (g.four ++ more)
    (grown ∙ ap (λ (l : List ℕ). l ++ more) g.grown ∙ append_assoc before g.four more))
    ∙ append_assoc g.four more q.behind

pub long_refused : (before old new more : List ℕ) (over ended : Type 0)
    → HasGivenFour before old
    → ((octets : List ℕ) → IsRead before old over octets → is_recording octets ≡ true)
    → new ≡ old ++ more → 4 ≤ length more → (octets : List ℕ)
    → IsRead before new ended octets → front_at octets ≡ Err BadName
long_refused before old new more over ended g are grown long octets q =
    let parts = octets_are before old new more octets ended g grown q in
    long_front octets
    (ap is_recording parts ∙ recording_long g.four (more ++ q.behind) g.counted
    ∙ magic_read before old over g are)
    (omega (
      arith,
      ap length parts,
      length-append g.four (more ++ q.behind),
      g.counted,
      length-append more q.behind,
      long,
    ))

pub short_refused : (before old new more : List ℕ) (ended : Type 0) → HasGivenFour before old
    → new ≡ old ++ more → length more < 4 → ended → (octets : List ℕ)
    → IsRead before new ended octets → front_at octets ≡ Err Truncated
short_refused before old new more ended g grown short over octets q =
    let parts = octets_are before old new more octets ended g grown q in
    short_front octets
    (omega (
      arith,
      ap length parts,
      length-append g.four (more ++ q.behind),
      g.counted,
      length-append more q.behind,
      ap length (q.all over),
      short,
    ))

-- ---- what stops a file before its records

-- without flows, and where it isn't refused, it is taken as a capture
pub plain_alone : (w : Way) (octets : List ℕ) → flows_in w ≡ None
    → ((r : Refusal) → w ≡ way.Refused r → ⊥) → IsCaptureBy w octets
plain_alone way.Capture octets none taken = tt
plain_alone (way.Flows flows) octets none taken = absurd cc
plain_alone (way.Refused r) octets none taken = absurd (taken r refl)

-- a fault before all records does
pub front_before : (w : Way) (told : List ℕ → Type 0) (g : ReadingFault)
    → ((octets : List ℕ) → told octets → IfFile g (IsFrontFault g octets))
    → IsByFlows (flows_in w) (Reading g) → OfRefusal (reading_fault g) (StopsFront w told)
front_before w told (Capture file.NoMemory) known by = tt
front_before w told (Capture file.Device) known by = tt
front_before w told (Capture f) known by =
    inl (
      λ octets read. (known octets read).1,
      λ octets read. plain_by w octets (known octets read).0,
    )
front_before w told (Recording recording.Device) known by = tt
front_before w told (Recording f) known by = inr (inl (by, known))

-- and it stops the file
pub front_stop : (w : Way) (told : List ℕ → Type 0) (r : Refusal) → StopsFront w told r
    → StopsFile w told r
front_stop w told (why.Capture f) (inl is) = inl (λ octets read. inl (is.0 octets read), is.1)
front_stop w told r (inl is) = absurd is.0
front_stop w told (why.Recording f) (inr (inl is)) =
    inr (inl (
      is.0,
      λ octets read. ((is.1 octets read).0, front_first octets f (is.1 octets read).1),
    ))
front_stop w told r (inr (inl is)) = absurd is
front_stop w told r (inr (inr is)) = inr (inr (inr is))
