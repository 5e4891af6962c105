-- What was read of files that were opened as they are taken.
use Rattle.std.proofs.Common.{◌≡◌, ℕ, List, [], ◌∷◌, Option, Some, Result, refl, sym, ap}
use Rattle.std.proofs.Common.{subst}
use Rattle.std.proofs.Common.{◌∙◌, map}
use Rattle.std.specs.List.{AllByRecursion, AllZip, zip}
use Rattle.std.specs.Prelude.{IsSome}
use Rattle.flow.specs.declared.flows.Flows.{Flows}
use Rattle.capture_engines.specs.Files.{first_way, flows_in, other_ways}
use Rattle.media_file.specs.Records.{Entry}
use Rattle.recording_engines.proofs.Same.{no_less, no_more, same_head, same_tail}
use Rattle.recording_engines.specs.Files.{HasKnownOctets, IsReadByFlows, ended_by, gave_by}
use Rattle.recording_engines.specs.Joining.{Strand}
use Rattle.recording_engines.specs.Strands.{IsTakenBy, strand_in}
use Rattle.recording_engines.specs.declared.file.ImportFile.{ImportFile}
use Rattle.recording_engines.specs.declared.file.ImportFile.TheVariants.{Closed, Open, Taken}
use Rattle.recording_reader.specs.FileReader.{FileReader}
use Rattle.recording_reader.specs.Files.{datagrams_of, text_of_file}
use Rattle.recording_reader.specs.declared.fault.ReadingFault.{ReadingFault}
use Rattle.recording_reader.specs.declared.fault.ReadingFault.TheVariants.{Capture, Recording}
use Rattle.run_outcome.specs.declared.refusal.Refusal.{Refusal}
use Rattle.st_format.specs.History.{IsRead}
use Rattle.st_format.specs.declared.path.Path.{Path}
use Rattle.path_receiver.specs.Took.{datagrams_since}
use Rattle.side_by_side.specs.Side.{Begun, begun_at}
use Rattle.side_by_side.specs.Sides.{FileGave, SideGave, begun_each, strand_of, strands_of}
use Rattle.side_by_side.specs.declared.side.Side.{Side}
use Rattle.follow_engine.specs.Opened.{AreOpened, IsFirstText}
use Rattle.follow_engine.specs.Order.{AreTakenBy, datagrams_in, strands_by}
use Rattle.follow_engine.specs.Sides.{SideRead}
use Rattle.run_outcome.specs.LowerFaults.{reading_fault}

-- ---- one file

-- what its octets are, and what records they have
pub record IsTaken {A S : Type 0} (gave : S → List ℕ) (ended : S → Type 0) (flows : Option Flows)
    (f : ImportFile A S) (octets : List ℕ) : Type 0 where
  pub given : FileGave gave ended f octets
  pub strand : strand_of f octets ≡ strand_in flows octets

abbrev pub begun_by : Option Flows → List ℕ → List ℕ → Begun
begun_by flows before text = record { flows = flows; before = before; text = text }

taken_reader : {A S : Type 0} (gave : S → List ℕ) (ended : S → Type 0) (b : Begun)
    (octets : List ℕ) (r : FileReader S) → Some (begun_by r.flows r.before.gave r.text) ≡ Some b
    → IsRead b.before (gave r.source) (ended r.source) octets
    → IsTaken {A = A} gave ended b.flows (Open r) octets
taken_reader gave ended b octets r begun read =
    let same : begun_by r.flows r.before.gave r.text ≡ b = cc in
    record {
      given = subst (λ (before : List ℕ). IsRead before (gave r.source) (ended r.source) octets)
          (sym (ap (λ (x : Begun). x.before) same)) read;
      strand = ap (λ (f : Option Flows). strand_in f octets) (ap (λ (x : Begun). x.flows) same);
    }

taken_file : {A S : Type 0} (gave : S → List ℕ) (ended : S → Type 0) (b : Begun)
    (octets : List ℕ) (f : ImportFile A S) → begun_at f ≡ Some b
    → IsRead b.before (gave_by gave f) (ended_by ended f) octets
    → IsTaken gave ended b.flows f octets
taken_file gave ended b octets (Closed s) begun read = absurd cc
taken_file gave ended b octets (Open r) begun read = taken_reader gave ended b octets r begun read
taken_file gave ended b octets Taken begun read = absurd cc

-- ---- all of them

pub record AreTaken {A S : Type 0} (gave : S → List ℕ) (ended : S → Type 0)
    (ways : List (Result Flows Refusal)) (sides : List (Side A S)) (octets : List (List ℕ))
    : Type 0 where
  pub given : AllZip (SideGave gave ended) sides octets
  pub strands : strands_of sides octets ≡ strands_by ways octets

cons : {x y : Strand} {xs ys : List Strand} → x ≡ y → xs ≡ ys → x ∷ xs ≡ y ∷ ys
cons one rest = cc

pub all_taken : {A S : Type 0} (gave : S → List ℕ) (ended : S → Type 0)
    (ways : List (Result Flows Refusal)) (olds mids news : List (Side A S))
    (octets : List (List ℕ)) → AreOpened gave ended ways olds mids
    → begun_each news ≡ begun_each mids
    → AllZip (SideRead gave ended) (zip olds news) octets → AreTaken gave ended ways news octets
all_taken gave ended ways [] [] [] [] opened same read = record { given = tt; strands = refl }
all_taken gave ended ways [] [] [] (o ∷ os) opened same read = absurd read
all_taken gave ended ways [] [] (n ∷ ns) octets opened same read =
    absurd (no_more (begun_at n.file) (begun_each ns) same)
all_taken gave ended ways [] (m ∷ ms) news octets opened same read = absurd opened
all_taken gave ended ways (x ∷ xs) [] news octets opened same read = absurd opened
all_taken gave ended ways (x ∷ xs) (m ∷ ms) [] octets opened same read =
    absurd (no_less (begun_at m.file) (begun_each ms) same)
all_taken gave ended ways (x ∷ xs) (m ∷ ms) (n ∷ ns) [] opened same read = absurd read
all_taken gave ended ways (x ∷ xs) (m ∷ ms) (n ∷ ns) (o ∷ os) opened same read =
    let head = same_head (begun_at n.file) (begun_at m.file) (begun_each ns) (begun_each ms) same in
    let tail = same_tail (begun_at n.file) (begun_at m.file) (begun_each ns) (begun_each ms) same in
    let b : Begun = begun_by (flows_in (first_way ways)) (gave_by gave x.file) opened.0.text in
    let one = taken_file gave ended b o n.file (head ∙ opened.0.is.begun) read.0 in
    let rest = all_taken gave ended (other_ways ways) xs ms ns os opened.1 tail read.1 in
    record { given = (one.given, rest.given); strands = cons one.strand rest.strands }

-- ---- recordings

-- what was read of a file is taken by its flows
taken_by_file : {A S : Type 0} (gave : S → List ℕ) (ended : S → Type 0) (b : Begun)
    (octets : List ℕ) (f : ImportFile A S) → begun_at f ≡ Some b → HasKnownOctets gave ended f
    → IsReadByFlows f → IsRead b.before (gave_by gave f) (ended_by ended f) octets
    → IsTakenBy b.flows octets
taken_by_file gave ended b octets (Closed s) begun known kind read = absurd cc
taken_by_file gave ended b octets (Open r) begun known kind read =
    let same : begun_by r.flows r.before.gave r.text ≡ b = cc in
    let from =
    subst (λ (before : List ℕ). IsRead before (gave r.source) (ended r.source) octets)
    (sym (ap (λ (x : Begun). x.before) same)) read in
    λ recording.
    subst (λ (f : Option Flows). IsSome f) (ap (λ (x : Begun). x.flows) same)
    (kind (sym (known octets from).kind ∙ recording))
taken_by_file gave ended b octets Taken begun known kind read = absurd cc

pub taken_by : {A S : Type 0} (gave : S → List ℕ) (ended : S → Type 0)
    (ways : List (Result Flows Refusal)) (olds mids news : List (Side A S))
    (octets : List (List ℕ)) → AreOpened gave ended ways olds mids
    → begun_each news ≡ begun_each mids
    → AllByRecursion (λ x. HasKnownOctets gave ended x.file) news
    → AllByRecursion (λ x. IsReadByFlows x.file) news
    → AllZip (SideRead gave ended) (zip olds news) octets → AreTakenBy ways octets
taken_by gave ended ways [] [] [] [] opened same known kind read = tt
taken_by gave ended ways [] [] [] (o ∷ os) opened same known kind read = absurd read
taken_by gave ended ways [] [] (n ∷ ns) octets opened same known kind read =
    absurd (no_more (begun_at n.file) (begun_each ns) same)
taken_by gave ended ways [] (m ∷ ms) news octets opened same known kind read = absurd opened
taken_by gave ended ways (x ∷ xs) [] news octets opened same known kind read = absurd opened
taken_by gave ended ways (x ∷ xs) (m ∷ ms) [] octets opened same known kind read =
    absurd (no_less (begun_at m.file) (begun_each ms) same)
taken_by gave ended ways (x ∷ xs) (m ∷ ms) (n ∷ ns) [] opened same known kind read = absurd read
taken_by gave ended ways (x ∷ xs) (m ∷ ms) (n ∷ ns) (o ∷ os) opened same known kind read =
    let head = same_head (begun_at n.file) (begun_at m.file) (begun_each ns) (begun_each ms) same in
    let tail = same_tail (begun_at n.file) (begun_at m.file) (begun_each ns) (begun_each ms) same in
    let b : Begun = begun_by (flows_in (first_way ways)) (gave_by gave x.file) opened.0.text in (
      taken_by_file gave ended b o n.file (head ∙ opened.0.is.begun) known.0 kind.0 read.0,
      taken_by gave ended (other_ways ways) xs ms ns os opened.1 tail known.1 kind.1 read.1,
    )

-- ---- the text of the first

-- the text by which a file was begun is that of its octets
text_file : {A S : Type 0} (gave : S → List ℕ) (ended : S → Type 0) (b : Begun) (octets : List ℕ)
    (f : ImportFile A S) → begun_at f ≡ Some b → HasKnownOctets gave ended f
    → IsRead b.before (gave_by gave f) (ended_by ended f) octets → text_of_file octets ≡ b.text
text_file gave ended b octets (Closed s) begun known read = absurd cc
text_file gave ended b octets (Open r) begun known read =
    let same : begun_by r.flows r.before.gave r.text ≡ b = cc in
    let from =
    subst (λ (before : List ℕ). IsRead before (gave r.source) (ended r.source) octets)
    (sym (ap (λ (x : Begun). x.before) same)) read in
    (known octets from).text ∙ ap (λ (x : Begun). x.text) same
text_file gave ended b octets Taken begun known read = absurd cc

-- so of one that was opened
text_by_text : (b c : Begun) → (let x : Option Begun = Some b in x ≡ Some c) → b.text ≡ c.text
text_by_text b c is = let same : b ≡ c = cc in ap (λ (x : Begun). x.text) same

pub first_said : {A S : Type 0} (gave : S → List ℕ) (ended : S → Type 0)
    (ways : List (Result Flows Refusal)) (text o : List ℕ) (x m n : Side A S)
    (xs ms ns : List (Side A S)) → AreOpened gave ended ways (x ∷ xs) (m ∷ ms)
    → begun_at n.file ≡ begun_at m.file → IsFirstText text (m ∷ ms)
    → HasKnownOctets gave ended n.file
    → SideRead gave ended (x, n) o → text_of_file o ≡ text
first_said gave ended ways text o x m n xs ms ns opened same first known read =
    let b : Begun = begun_by (flows_in (first_way ways)) (gave_by gave x.file) opened.0.text in
    let c : Begun = begun_by first.0 first.1 text in
    text_file gave ended b o n.file (same ∙ opened.0.is.begun) known read
    ∙ text_by_text b c (sym opened.0.is.begun ∙ first.2.begun)

-- ---- the datagrams of records

pub datagrams_all : (entries : List Entry)
    → map (λ (d : Path × List ℕ). d.1) (datagrams_of entries) ≡ datagrams_in entries
datagrams_all [] = refl
datagrams_all (e ∷ es) = ap (λ (l : List (List ℕ)). e.octets ∷ l) (datagrams_all es)

pub datagrams_from : (came : List (Path × List ℕ)) (entries : List Entry)
    → came ≡ datagrams_of entries → datagrams_since [] came ≡ datagrams_in entries
datagrams_from came entries is =
    ap (λ (l : List (Path × List ℕ)). datagrams_since [] l) is ∙ datagrams_all entries

-- ---- faults

-- a fault of a file ends a run by one and the same fault, whichever engine names it
pub same_fault : (f : ReadingFault) → reading_fault f ≡ reading_fault f
same_fault (Capture f) = refl
same_fault (Recording f) = refl
