-- What stops files that are followed, and the text of the first one.
use Rattle.std.proofs.Common.{◌≡◌, ◌<◌, ℕ, ◌⊎◌, inl, inr, List, [], ◌∷◌, Option, None, Some}
use Rattle.std.proofs.Common.{Result, refl, sym, ap, subst, ◌∙◌}
use Rattle.std.specs.List.{AllByRecursion, AllZip, zip}
use Rattle.std.specs.Prelude.{MatchOption}
use Rattle.flow.specs.declared.flows.Flows.{Flows}
use Rattle.capture_engines.specs.Files.{first_way, flows_in, other_ways}
use Rattle.capture_engines.specs.Received.{OneFileIs}
use Rattle.media_file.specs.Records.{Entry}
use Rattle.media_file.specs.declared.fault.FileFault.TheVariants.{TooManyRecords}
use Rattle.recording_engines.proofs.FileFaults.{of_file}
use Rattle.recording_engines.proofs.Same.{no_more, same_head, same_tail}
use Rattle.recording_engines.specs.Files.{HasKnownOctets, IsFailedAt, ended_by, gave_by}
use Rattle.recording_engines.specs.declared.file.ImportFile.{ImportFile}
use Rattle.recording_engines.specs.declared.file.ImportFile.TheVariants.{Closed, Open, Taken}
use Rattle.recording_reader.specs.FileReader.{FileReader, HasGivenFile, IsKnownBy}
use Rattle.recording_reader.specs.Files.{HaveFileRecords, IsFileFault}
use Rattle.recording_reader.specs.declared.fault.ReadingFault.{ReadingFault}
use Rattle.recording_reader.specs.declared.way.Standing.{Standing as Stand}
use Rattle.recording_reader.specs.declared.way.Standing.TheVariants.{Failed}
use Rattle.run_outcome.specs.Refusing.{OfRefusal}
use Rattle.run_outcome.specs.declared.fault.Fault.{Fault}
use Rattle.run_outcome.specs.declared.fault.Fault.TheVariants.{Device, Memory, Refused}
use Rattle.run_outcome.specs.declared.refusal.Refusal.{Refusal}
use Rattle.run_outcome.specs.declared.refusal.Refusal.TheVariants as refusal
use Rattle.st_format.specs.History.{IsRead}
use Rattle.side_by_side.specs.Side.{Begun, begun_at}
use Rattle.side_by_side.specs.Sides.{FirstSideAt, SideGave, begun_each, strands_of}
use Rattle.side_by_side.specs.declared.side.Side.{Side}
use Rattle.side_by_side.specs.declared.steering.Steering.{Steering}
use Rattle.follow_engine.specs.Opened.{AreOpened, IsFirstText}
use Rattle.follow_engine.specs.Order.{GoesToFault, GoesToMost, most_datagrams}
use Rattle.follow_engine.specs.Refused.{FirstRefuses, IsFileRefusal, IsFirstRefusal}
use Rattle.follow_engine.specs.Refused.{StopsFollowing, StopsReadSides}
use Rattle.follow_engine.specs.Sides.{SideRead}
use Rattle.follow_engine.proofs.Whole.{begun_by, first_said, same_fault}
use Rattle.run_outcome.specs.LowerFaults.{reading_fault}

-- ---- the text of the first

-- a refusal of it, which was read
pub first_refuses : {A S : Type 0} (gave : S → List ℕ) (ended : S → Type 0)
    (ways : List (Result Flows Refusal)) (text : List ℕ)
    (olds news : List (Side A S)) (r : Refusal) → AreOpened gave ended ways olds news
    → IsFirstText text news → IsFirstRefusal text r
    → FirstRefuses (SideRead gave ended) (zip olds news) r
first_refuses gave ended ways text [] [] r opened first (inl is) = is.0
first_refuses gave ended ways text [] [] r opened first (inr is) = absurd (is.0 first)
first_refuses gave ended ways text [] (n ∷ ns) r opened first is = absurd opened
first_refuses gave ended ways text (x ∷ xs) [] r opened first is = absurd opened
first_refuses gave ended ways text (x ∷ xs) (n ∷ ns) r opened first is =
    λ octets read.
    subst (λ (t : List ℕ). IsFirstRefusal t r)
    (sym (first_said gave ended ways text octets x n n xs ns ns opened refl first opened.0.known
    read)) is

pub first_by : {A S : Type 0} (gave : S → List ℕ) (ended : S → Type 0)
    (ways : List (Result Flows Refusal)) (sdp : Option (List ℕ))
    (text : List ℕ) (olds news : List (Side A S)) (r : Refusal)
    → AreOpened gave ended ways olds news → IsFirstText text news
    → MatchOption sdp (IsFirstRefusal text r) (λ _. ⊥)
    → MatchOption sdp (FirstRefuses (SideRead gave ended) (zip olds news) r) (λ _. ⊥)
first_by gave ended ways None text olds news r opened first is =
    first_refuses gave ended ways text olds news r opened first is
first_by gave ended ways (Some t) text olds news r opened first is = absurd is

-- ---- the fault of one

-- a source stays at the fault of one
pub stops_by : {A S : Type 0} (f : Fault) (reading : ReadingFault) (sides : List (Side A S))
    (count : ℕ) → f ≡ reading_fault reading → FirstSideAt reading sides → count < most_datagrams
    → OfRefusal f (StopsFollowing count sides)
stops_by (Refused r) reading sides count told at few = inl (reading, sym told, at, few)
stops_by Device reading sides count told at few = tt
stops_by Memory reading sides count told at few = tt

fault_reader : {S : Type 0} (gave : S → List ℕ) (ended : S → Type 0) (b : Begun)
    (octets : List ℕ) (r : FileReader S) (f : ReadingFault) (why : Refusal)
    → Some (begun_by r.flows r.before.gave r.text) ≡ Some b
    → HasGivenFile gave ended r → r.standing ≡ Failed f
    → reading_fault f ≡ Refused why
    → IsRead b.before (gave r.source) (ended r.source) octets → IsFileFault f octets
fault_reader gave ended b octets r f why begun known at told read =
    let same : begun_by r.flows r.before.gave r.text ≡ b = cc in
    let from =
    subst (λ (before : List ℕ). IsRead before (gave r.source) (ended r.source) octets)
    (sym (ap (λ (x : Begun). x.before) same)) read in
    let is =
    subst (λ (s : Stand). IsKnownBy r.flows s octets r.records r.left_out) at
    (known octets from).known in
    (of_file (HaveFileRecords r.flows octets r.records r.left_out × IsFileFault f octets) f why
    (sym (same_fault f) ∙ told) is.1).1

fault_file : {A S : Type 0} (gave : S → List ℕ) (ended : S → Type 0) (b : Begun)
    (octets : List ℕ) (file : ImportFile A S) (f : ReadingFault) (why : Refusal)
    → begun_at file ≡ Some b → HasKnownOctets gave ended file → IsFailedAt f file
    → reading_fault f ≡ Refused why
    → IsRead b.before (gave_by gave file) (ended_by ended file) octets → IsFileFault f octets
fault_file gave ended b octets (Closed s) f why begun known at told read = absurd at
fault_file gave ended b octets (Open r) f why begun known at told read =
    fault_reader gave ended b octets r f why begun known at told read
fault_file gave ended b octets Taken f why begun known at told read = absurd at

one_stops : {A S : Type 0} (gave : S → List ℕ) (ended : S → Type 0)
    (ways : List (Result Flows Refusal)) (olds mids news : List (Side A S)) (f : ReadingFault)
    (r : Refusal) → AreOpened gave ended ways olds mids → begun_each news ≡ begun_each mids
    → AllByRecursion (λ x. HasKnownOctets gave ended x.file) news → reading_fault f ≡ Refused r
    → FirstSideAt f news
    → OneFileIs (λ w s. IsFileRefusal (SideRead gave ended s) r) ways (zip olds news)
one_stops gave ended ways olds mids [] f r opened same known told at = absurd at
one_stops gave ended ways olds [] (n ∷ ns) f r opened same known told at =
    absurd (no_more (begun_at n.file) (begun_each ns) same)
one_stops gave ended ways [] (m ∷ ms) (n ∷ ns) f r opened same known told at = absurd opened
one_stops gave ended ways (x ∷ xs) (m ∷ ms) (n ∷ ns) f r opened same known told (inl at) =
    let head = same_head (begun_at n.file) (begun_at m.file) (begun_each ns) (begun_each ms) same in
    let b : Begun = begun_by (flows_in (first_way ways)) (gave_by gave x.file) opened.0.text in
    inl (
      f,
      told,
      λ octets read.
          fault_file gave ended b octets n.file f r (head ∙ opened.0.is.begun) known.0 at told read,
    )
one_stops gave ended ways (x ∷ xs) (m ∷ ms) (n ∷ ns) f r opened same known told (inr at) =
    let tail = same_tail (begun_at n.file) (begun_at m.file) (begun_each ns) (begun_each ms) same in
    inr (one_stops gave ended (other_ways ways) xs ms ns f r opened.1 tail known.1 told at.1)

pub stops_files : {A S : Type 0} (gave : S → List ℕ) (ended : S → Type 0)
    (ways : List (Result Flows Refusal)) (olds mids news : List (Side A S)) (st : Steering)
    (r : Refusal) (Turn Most : Type 0)
    → AreOpened gave ended ways olds mids → begun_each news ≡ begun_each mids
    → AllByRecursion (λ x. HasKnownOctets gave ended x.file) news
    → ((f : ReadingFault) (entries : List Entry) → reading_fault f ≡ Refused r
    → ((octets : List (List ℕ)) → AllZip (SideGave gave ended) news octets
    → GoesToFault f st (strands_of news octets) entries) → Turn)
    → ((entries : List Entry)
    → ((octets : List (List ℕ)) → AllZip (SideGave gave ended) news octets
    → GoesToMost st (strands_of news octets) entries) → Most)
    → StopsReadSides gave ended st news r
    → (OneFileIs (λ w s. IsFileRefusal (SideRead gave ended s) r) ways (zip olds news) × Turn)
    ⊎ ((r ≡ refusal.Capture TooManyRecords) × Most)
stops_files gave ended ways olds mids news st r Turn Most opened same known turn most
    (inl (f, told, at, entries, goes)) =
    inl (
      one_stops gave ended ways olds mids news f r opened same known told at,
      turn f entries told goes,
    )
stops_files gave ended ways olds mids news st r Turn Most opened same known turn most
    (inr (many, entries, goes)) =
    inr (many, most entries goes)
