-- What is known of files by where their readers stand, as what was read of them.
use Rattle.std.proofs.Common.{◌≡◌, inl, inr, ℕ, List, [], ◌∷◌, ◌++◌, Option, None, Some}
use Rattle.std.proofs.Common.{refl, sym, ap, subst, ◌∙◌, map}
use Rattle.std.specs.Prelude.{IsSome}
use Rattle.std.specs.List.{AllByRecursion, AllZip, zip}
use Rattle.flow.specs.declared.flows.Flows.{Flows}
use Rattle.recording_counts.specs.LeftOut.{left_out_of}
use Rattle.recording_counts.specs.declared.left_out.LeftOut.{LeftOut}
use Rattle.media_file.specs.Records.{Entry}
use Rattle.recording_reader.specs.FileReader.{IsKnownBy}
use Rattle.recording_reader.specs.Files.{omissions_of_file}
use Rattle.recording_reader.specs.declared.fault.ReadingFault.{ReadingFault}
use Rattle.recording_reader.specs.declared.way.Standing.{Standing as Stand}
use Rattle.recording_reader.specs.declared.way.Standing.TheVariants.{Reads, Ended, Failed}
use Rattle.run_outcome.specs.Moments.{WasRead}
use Rattle.run_outcome.specs.declared.fault.Fault.TheVariants.{Refused}
use Rattle.run_outcome.specs.declared.refusal.Refusal.{Refusal}
use Rattle.run_outcome.specs.LowerFaults.{reading_fault}
use Rattle.st_format.specs.History.{IsRead}
use Rattle.recording_engines.specs.Files.{AllOpened, AreLeftOut, HasAhead, HasKnownOctets}
use Rattle.recording_engines.specs.Files.{IsFailedAt, IsReadByFlows, IsReady, ahead_by, begun_of}
use Rattle.recording_engines.specs.Files.{ended_by, gave_by, left_out_by, next_entry, standing_of}
use Rattle.recording_engines.specs.Files.{standings}
use Rattle.recording_engines.specs.Joining.{Strand}
use Rattle.recording_engines.specs.Progress.{OneFileAt}
use Rattle.recording_engines.specs.Steps.{AllLay, Lays, Standing, nothing, whole_by}
use Rattle.recording_engines.specs.Strands.{IsTakenBy, fault_of_file, omissions_in, strand_in}
use Rattle.recording_engines.specs.declared.file.ImportFile.{ImportFile}
use Rattle.recording_engines.specs.declared.file.ImportFile.TheVariants.{Closed, Open, Taken}
use Rattle.recording_engines.proofs.Same.{no_less, no_more, same_head, same_tail}
use Rattle.recording_engines.proofs.FileFaults.{fault_is, fault_none, of_file, strand, strand_by}

-- ---- one file

-- a reader stands where a run goes on, or at a fault of its file's
abbrev pub IsTold : Stand → Option Entry → Type 0
IsTold Reads None = ⊥
IsTold Reads (Some e) = Unit {0}
IsTold Ended at_hand = Unit {0}
IsTold (Failed f) at_hand = (r : Refusal) × (reading_fault f ≡ Refused r)

lays_by : (flows : Option Flows) (stand : Stand) (at_hand : Option Entry) (es : List Entry)
    (left : LeftOut) (octets : List ℕ) → IsKnownBy flows stand octets es left
    → IsTold stand at_hand
    → (r : Strand) × (strand_in flows octets ≡ whole_by es (ahead_by stand at_hand) r)
lays_by flows Reads None es left octets known told = absurd told
lays_by flows Reads (Some e) es left octets known told = (
  strand known.0 (fault_of_file octets),
  strand_by flows octets (es ++ known.0) (fault_of_file octets) known.1 refl,
)
lays_by flows Ended at_hand es left octets known told =
    (nothing, strand_by flows octets es None known.0.records_are (fault_none octets known.1))
lays_by flows (Failed f) at_hand es left octets known told =
    let is = of_file _ f told.0 told.1 known.1 in
    (nothing, strand_by flows octets es (Some f) is.0.records_are (fault_is f octets is.1))

pub told_ready : (stand : Stand) (at_hand : Option Entry) → HasAhead stand at_hand
    → IsTold stand at_hand
told_ready Reads None ready = absurd ready
told_ready Reads (Some e) ready = tt
told_ready Ended None ready = tt
told_ready Ended (Some e) ready = tt
told_ready (Failed f) None ready = absurd ready
told_ready (Failed f) (Some e) ready = absurd ready

pub told_at : (f : ReadingFault) (r : Refusal) (stand : Stand) (at_hand : Option Entry)
    → reading_fault f ≡ Refused r → stand ≡ Failed f → IsTold stand at_hand
told_at f r stand at_hand told is =
    subst (λ (s : Stand). IsTold s at_hand) (sym is) (r, told)

-- so it is of a file
abbrev pub IsToldFile : {A S : Type 0} → ImportFile A S → Type 0
IsToldFile (Closed s) = ⊥
IsToldFile (Open r) = IsTold r.standing r.at_hand
IsToldFile Taken = ⊥

pub file_ready : {A S : Type 0} (f : ImportFile A S) → IsReady f → IsToldFile f
file_ready (Closed s) ready = absurd ready
file_ready (Open r) ready = told_ready r.standing r.at_hand ready
file_ready Taken ready = absurd ready

pub file_at : {A S : Type 0} (f : ReadingFault) (r : Refusal) (x : ImportFile A S)
    → reading_fault f ≡ Refused r → IsFailedAt f x → IsToldFile x
file_at f r (Closed s) told is = absurd is
file_at f r (Open x) told is = told_at f r x.standing x.at_hand told is
file_at f r Taken told is = absurd is

pub lays_file : {A S : Type 0} (gave : S → List ℕ) (ended : S → Type 0) (flows : Option Flows)
    (before : List ℕ) (f : ImportFile A S) → begun_of f ≡ (flows, before)
    → HasKnownOctets gave ended f
    → IsToldFile f → Lays before (gave_by gave f) (ended_by ended f) flows (standing_of f)
lays_file gave ended flows before (Closed s) begun known told = absurd told
lays_file gave ended flows before (Open r) begun known told =
    let by : r.flows ≡ flows = ap (λ (x : Option Flows × List ℕ). x.0) begun in
    let from : r.before.gave ≡ before = ap (λ (x : Option Flows × List ℕ). x.1) begun in
    let s : Standing = record { entries = r.records; ahead = ahead_by r.standing r.at_hand } in
    subst (λ (f : Option Flows). Lays before (gave r.source) (ended r.source) f s) by
    (subst (λ (b : List ℕ). Lays b (gave r.source) (ended r.source) r.flows s) from
    (record {
      says = λ octets read.
          lays_by r.flows r.standing r.at_hand r.records r.left_out octets
          (known octets read).known told;
    }))
lays_file gave ended flows before Taken begun known told = absurd told

-- ---- all of them

abbrev pub AllTold : {A S : Type 0} → List (ImportFile A S) → Type 0
AllTold files = AllByRecursion IsToldFile files

pub all_ready : {A S : Type 0} (files : List (ImportFile A S)) → AllByRecursion IsReady files
    → AllTold files
all_ready [] ready = tt
all_ready (f ∷ fs) ready = (file_ready f ready.0, all_ready fs ready.1)

pub all_but : {A S : Type 0} (f : ReadingFault) (r : Refusal) (files : List (ImportFile A S))
    → reading_fault f ≡ Refused r → OneFileAt f files → AllTold files
all_but f r [] told one = absurd one
all_but f r (x ∷ xs) told (inl one) = (file_at f r x told one.0, all_ready xs one.1)
all_but f r (x ∷ xs) told (inr one) = (file_ready x one.0, all_but f r xs told one.1)

-- files that were opened, and since read on
pub all_lay : {A S : Type 0} (gave : S → List ℕ) (ended : S → Type 0) (each : List (Option Flows))
    (olds mids news : List (ImportFile A S)) → AllOpened gave each olds mids
    → map begun_of news ≡ map begun_of mids → AllByRecursion (HasKnownOctets gave ended) news
    → AllTold news
    → AllLay (gave_by gave) (ended_by ended) (zip olds news) each (standings news)
all_lay gave ended [] [] [] [] opened same known told = tt
all_lay gave ended [] [] [] (n ∷ ns) opened same known told =
    absurd (no_more (begun_of n) (map begun_of ns) same)
all_lay gave ended [] [] (m ∷ ms) news opened same known told = absurd opened
all_lay gave ended [] (o ∷ os) mids news opened same known told = absurd opened
all_lay gave ended (f ∷ fs) [] mids news opened same known told = absurd opened
all_lay gave ended (f ∷ fs) (o ∷ os) [] news opened same known told = absurd opened
all_lay gave ended (f ∷ fs) (o ∷ os) (m ∷ ms) [] opened same known told =
    absurd (no_less (begun_of m) (map begun_of ms) same)
all_lay gave ended (f ∷ fs) (o ∷ os) (m ∷ ms) (n ∷ ns) opened same known told =
    let first = same_head (begun_of n) (begun_of m) (map begun_of ns) (map begun_of ms) same in
    let rest = same_tail (begun_of n) (begun_of m) (map begun_of ns) (map begun_of ms) same in (
      lays_file gave ended f (gave_by gave o) n (first ∙ opened.0.begun) known.0 told.0,
      all_lay gave ended fs os ms ns opened.1 rest known.1 told.1,
    )

-- a recording of them is taken by flows
pub taken_file : {A S : Type 0} (gave : S → List ℕ) (ended : S → Type 0) (flows : Option Flows)
    (before octets : List ℕ) (f : ImportFile A S) → begun_of f ≡ (flows, before)
    → HasKnownOctets gave ended f → IsReadByFlows f → IsToldFile f
    → IsRead before (gave_by gave f) (ended_by ended f) octets → IsTakenBy flows octets
taken_file gave ended flows before octets (Closed s) begun known kind told read = absurd told
taken_file gave ended flows before octets (Open r) begun known kind told read = λ recording.
    let by : r.flows ≡ flows = ap (λ (x : Option Flows × List ℕ). x.0) begun in
    let from : before ≡ r.before.gave = ap (λ (x : Option Flows × List ℕ). x.1) (sym begun) in
    let at = subst (λ (b : List ℕ). IsRead b (gave r.source) (ended r.source) octets) from read in
    subst (λ (f : Option Flows). IsSome f) by (kind (sym (known octets at).kind ∙ recording))
taken_file gave ended flows before octets Taken begun known kind told read = absurd told

pub taken_all : {A S : Type 0} (gave : S → List ℕ) (ended : S → Type 0)
    (each : List (Option Flows)) (olds mids news : List (ImportFile A S))
    (octets : List (List ℕ)) → AllOpened gave each olds mids
    → map begun_of news ≡ map begun_of mids → AllByRecursion (HasKnownOctets gave ended) news
    → AllByRecursion IsReadByFlows news → AllTold news
    → AllZip (WasRead (gave_by gave) (ended_by ended)) (zip olds news) octets
    → AllZip IsTakenBy each octets
taken_all gave ended [] [] [] [] [] opened same known kind told read = tt
taken_all gave ended [] [] [] [] (x ∷ xs) opened same known kind told read = absurd read
taken_all gave ended [] [] [] (n ∷ ns) octets opened same known kind told read =
    absurd (no_more (begun_of n) (map begun_of ns) same)
taken_all gave ended [] [] (m ∷ ms) news octets opened same known kind told read = absurd opened
taken_all gave ended [] (o ∷ os) mids news octets opened same known kind told read = absurd opened
taken_all gave ended (f ∷ fs) [] mids news octets opened same known kind told read = absurd opened
taken_all gave ended (f ∷ fs) (o ∷ os) [] news octets opened same known kind told read =
    absurd opened
taken_all gave ended (f ∷ fs) (o ∷ os) (m ∷ ms) [] octets opened same known kind told read =
    absurd (no_less (begun_of m) (map begun_of ms) same)
taken_all gave ended (f ∷ fs) (o ∷ os) (m ∷ ms) (n ∷ ns) [] opened same known kind told read =
    absurd read
taken_all gave ended (f ∷ fs) (o ∷ os) (m ∷ ms) (n ∷ ns) (x ∷ xs) opened same known kind told
    read =
    let first = same_head (begun_of n) (begun_of m) (map begun_of ns) (map begun_of ms) same in
    let rest = same_tail (begun_of n) (begun_of m) (map begun_of ns) (map begun_of ms) same in (
      taken_file gave ended f (gave_by gave o) x n (first ∙ opened.0.begun) known.0 kind.0 told.0
          read.0,
      taken_all gave ended fs os ms ns xs opened.1 rest known.1 kind.1 told.1 read.1,
    )

-- ---- what was left out

left_by_known : (flows : Option Flows) (stand : Stand) (at_hand : Option Entry) (es : List Entry)
    (left : LeftOut) (octets : List ℕ) → IsKnownBy flows stand octets es left
    → HasAhead stand at_hand → at_hand ≡ None → left ≡ left_out_of (omissions_of_file flows octets)
left_by_known flows Reads None es left octets known ready none = absurd ready
left_by_known flows Reads (Some e) es left octets known ready none = absurd cc
left_by_known flows Ended None es left octets known ready none = known.0.left_is
left_by_known flows Ended (Some e) es left octets known ready none = absurd ready
left_by_known flows (Failed f) None es left octets known ready none = absurd ready
left_by_known flows (Failed f) (Some e) es left octets known ready none = absurd ready

left_file : {A S : Type 0} (gave : S → List ℕ) (ended : S → Type 0) (flows : Option Flows)
    (before octets : List ℕ) (f : ImportFile A S) → begun_of f ≡ (flows, before)
    → HasKnownOctets gave ended f → IsReady f → next_entry f ≡ None
    → IsRead before (gave_by gave f) (ended_by ended f) octets
    → left_out_by f ≡ left_out_of (omissions_of_file flows octets)
left_file gave ended flows before octets (Closed s) begun known ready none read = absurd ready
left_file gave ended flows before octets (Open r) begun known ready none read =
    let by : r.flows ≡ flows = ap (λ (x : Option Flows × List ℕ). x.0) begun in
    let from : before ≡ r.before.gave = ap (λ (x : Option Flows × List ℕ). x.1) (sym begun) in
    let at = subst (λ (b : List ℕ). IsRead b (gave r.source) (ended r.source) octets) from read in
    left_by_known r.flows r.standing r.at_hand r.records r.left_out octets
    (known octets at).known ready none
    ∙ ap (λ (f : Option Flows). left_out_of (omissions_of_file f octets)) by
left_file gave ended flows before octets Taken begun known ready none read = absurd ready

pub left_all : {A S : Type 0} (gave : S → List ℕ) (ended : S → Type 0)
    (each : List (Option Flows)) (olds mids news : List (ImportFile A S))
    (octets : List (List ℕ)) → AllOpened gave each olds mids
    → map begun_of news ≡ map begun_of mids → AllByRecursion (HasKnownOctets gave ended) news
    → AllByRecursion IsReady news → AllByRecursion (λ f. next_entry f ≡ None) news
    → AllZip (WasRead (gave_by gave) (ended_by ended)) (zip olds news) octets
    → AreLeftOut news (omissions_in each octets)
left_all gave ended [] [] [] [] octets opened same known ready none read = refl
left_all gave ended [] [] [] (n ∷ ns) octets opened same known ready none read =
    absurd (no_more (begun_of n) (map begun_of ns) same)
left_all gave ended [] [] (m ∷ ms) news octets opened same known ready none read = absurd opened
left_all gave ended [] (o ∷ os) mids news octets opened same known ready none read = absurd opened
left_all gave ended (f ∷ fs) [] mids news octets opened same known ready none read = absurd opened
left_all gave ended (f ∷ fs) (o ∷ os) [] news octets opened same known ready none read =
    absurd opened
left_all gave ended (f ∷ fs) (o ∷ os) (m ∷ ms) [] octets opened same known ready none read =
    absurd (no_less (begun_of m) (map begun_of ms) same)
left_all gave ended (f ∷ fs) (o ∷ os) (m ∷ ms) (n ∷ ns) [] opened same known ready none read =
    absurd read
left_all gave ended (f ∷ fs) (o ∷ os) (m ∷ ms) (n ∷ ns) (x ∷ xs) opened same known ready none read =
    let first = same_head (begun_of n) (begun_of m) (map begun_of ns) (map begun_of ms) same in
    let rest = same_tail (begun_of n) (begun_of m) (map begun_of ns) (map begun_of ms) same in (
      omissions_of_file f x,
      omissions_in fs xs,
      left_file gave ended f (gave_by gave o) x n (first ∙ opened.0.begun) known.0 ready.0 none.0
          read.0,
      left_all gave ended fs os ms ns xs opened.1 rest known.1 ready.1 none.1 read.1,
      refl,
    )
