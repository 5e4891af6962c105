-- Opening files, one after the other.
use Rattle.std.proofs.Common.{◌≡◌, ℕ, zero, suc, ◌+◌, ◌<◌, ◌≤◌, inl, inr, List, [], ◌∷◌, ◌++◌}
use Rattle.std.proofs.Common.{Option, Some, Result, Ok, Err, refl, sym, ap, subst, ◌∙◌}
use Rattle.std.proofs.Common.{add-one, arith, drop, get_or, length, set, take}
use Rattle.std.specs.List.{AllByRecursion, zip}
use Rattle.std.specs.Prelude.{IfErr, OnOk}
use Rattle.flow.specs.declared.flows.Flows.{Flows}
use Rattle.media_file.specs.Records.{Entry}
use Rattle.recording_reader.specs.Opening.{StopsOpening}
use Rattle.recording_reader.specs.declared.fault.FileOpeningFault.{FileOpeningFault}
use Rattle.recording_reader.specs.declared.fault.FileOpeningFault.TheVariants.{NoFlows, NoMemory}
use Rattle.recording_reader.specs.declared.fault.FileOpeningFault.TheVariants.{Reading}
use Rattle.recording_reader.specs.declared.fault.ReadingFault.{ReadingFault}
use Rattle.run_outcome.specs.Moments.{WasRead}
use Rattle.run_outcome.specs.Refusing.{OfRefusal}
use Rattle.run_outcome.specs.declared.fault.Fault.{Fault}
use Rattle.run_outcome.specs.declared.refusal.Refusal.{Refusal}
use Rattle.run_outcome.specs.LowerFaults.{reading_fault}
use Rattle.st_format.specs.History.{IsRead}
use Rattle.recording_engines.specs.Faults.{opening_fault}
use Rattle.recording_engines.specs.Files.{AllClosed, AllOpened, HasKnownOctets, IsClosed}
use Rattle.recording_engines.specs.Files.{IsOpenedFile}
use Rattle.recording_engines.specs.Files.{ReadsFileOn, ReadsToFault, begun_of, ended_by, gave_by}
use Rattle.recording_engines.specs.Files.{IsReadByFlows, standing_of}
use Rattle.recording_engines.specs.Joining.{IsAtNoFault, Strand}
use Rattle.recording_engines.specs.Opened.{AllBegin, IsFirstStop, IsStopRefusal, TellsUnopened}
use Rattle.recording_engines.specs.Steps.{Ahead, Coming, IsFresh, Over, ReadsMore, Standing}
use Rattle.recording_engines.specs.Steps.{Unknown, left_by, whole_by}
use Rattle.recording_engines.specs.declared.file.ImportFile.{ImportFile}
use Rattle.recording_engines.proofs.FileFaults.{front_strand, of_each, of_file, opening_blames}
use Rattle.recording_engines.proofs.FileFaults.{strand}
use Rattle.recording_engines.proofs.Going.{new_begun}
use Rattle.recording_engines.proofs.Endings.{file_going}
use Rattle.recording_engines.proofs.Known.{file_at, file_ready, lays_file, taken_file}

-- ---- one file

-- why a file isn't opened
pub opening_stops : (flows : Option Flows) (before now : List ℕ) (ended : Type 0)
    (f : FileOpeningFault) → StopsOpening flows before now ended f
    → OfRefusal (opening_fault f) (IsStopRefusal (IsRead before now ended) flows)
opening_stops flows before now ended NoFlows stops = inl (refl, stops.1, stops.2)
opening_stops flows before now ended NoMemory stops = tt
opening_stops flows before now ended (Reading f) stops =
    of_each (IsStopRefusal (IsRead before now ended) flows) (reading_fault f)
    (λ r told. inr (
      f,
      told,
      λ octets read. front_strand flows f octets (of_file _ f r told (stops octets read)),
    ))

pub opening_told : (flows : Option Flows) (before now : List ℕ) (ended : Type 0)
    (f : FileOpeningFault) → StopsOpening flows before now ended f
    → TellsUnopened flows before now ended (opening_fault f)
opening_told flows before now ended f stops = record { reason = f; told = refl; stops = stops }

-- what a file is that was opened
pub ruleset opened_one = (opening_stops, opening_told, opening_blames, new_begun)

whole_over : (s : Standing) (f : ReadingFault) (r : Strand) → s.ahead ≡ Over (Some f)
    → s.entries ≡ [] → whole_by s.entries s.ahead r ≡ strand [] (Some f)
whole_over s f r over none =
    ap (λ (a : Ahead). whole_by s.entries a r) over
    ∙ ap (λ (es : List Entry). strand es (Some f)) none

-- a fault before the first record
pub first_stops : {A S : Type 0} (gave : S → List ℕ) (ended : S → Type 0) (fault : Fault)
    (old new : ImportFile A S) → (standing_of old).entries ≡ [] → ReadsToFault fault old new
    → HasKnownOctets gave ended new
    → OfRefusal fault (IsStopRefusal
    (IsRead (begun_of new).1 (gave_by gave new) (ended_by ended new)) (begun_of new).0)
first_stops gave ended fault old new none stops known =
    of_each _ fault (λ r told. inr (
      stops.reading,
      sym stops.told ∙ told,
      λ octets read.
          let lays = lays_file gave ended (begun_of new).0 (begun_of new).1 new refl known
          (file_at stops.reading r new (sym stops.told ∙ told) stops.at) in
          let is = lays.says octets read in
          is.1 ∙ whole_over (standing_of new) stops.reading is.0 stops.over (stops.same ∙ none),
    ))

pub first_refused : {A S V : Type 0} (gave : S → List ℕ) (ended : S → Type 0)
    (result : Result V Fault) (old new : ImportFile A S) → (standing_of old).entries ≡ []
    → IfErr result (λ f. ReadsToFault f old new) → HasKnownOctets gave ended new
    → IfErr result (λ f. OfRefusal f (IsStopRefusal
    (IsRead (begun_of new).1 (gave_by gave new) (ended_by ended new)) (begun_of new).0))
first_refused gave ended (Ok v) old new none stops known = tt
first_refused gave ended (Err f) old new none stops known =
    first_stops gave ended f old new none stops known

-- a file of which nothing was read is read on to its first record
fresh_by : (a : Ahead) (es : List Entry) (r : Strand) → ReadsMore [] a es
    → whole_by es a r ≡ left_by a r
fresh_by Unknown es r more = absurd more
fresh_by (Coming e) es r more =
    ap (λ (l : List Entry). strand (l ++ r.entries) r.fault) more
fresh_by (Over f) es r more = ap (λ (l : List Entry). strand l f) more

pub first_fresh : {A S : Type 0} (old new : ImportFile A S) → (standing_of old).entries ≡ []
    → ReadsFileOn old new → IsFresh (standing_of new)
first_fresh old new none reads r =
    fresh_by (standing_of new).ahead (standing_of new).entries r
    (subst (λ (es : List Entry). ReadsMore es (standing_of new).ahead (standing_of new).entries)
    none reads.more)

-- it begins then, whatever is behind what was read
pub first_begins : {A S V : Type 0} (gave : S → List ℕ) (ended : S → Type 0)
    (result : Result V Fault) (old new : ImportFile A S) → (standing_of old).entries ≡ []
    → OnOk result (ReadsFileOn old new) → HasKnownOctets gave ended new → IsReadByFlows new
    → OnOk result
    (AllBegin (IsRead (begun_of new).1 (gave_by gave new) (ended_by ended new)) (begun_of new).0)
first_begins gave ended (Ok v) old new none reads known kind = λ octets read.
    let told = file_ready new reads.ready in
    let lays = lays_file gave ended (begun_of new).0 (begun_of new).1 new refl known told in
    let is = lays.says octets read in (
      taken_file gave ended (begun_of new).0 (begun_of new).1 octets new refl known kind told read,
      subst IsAtNoFault (sym (is.1 ∙ first_fresh old new none reads is.0))
          (file_going new reads.ready is.0),
    )
first_begins gave ended (Err f) old new none reads known kind = tt

-- what is said of a file's beginning is said of what that is
pub begun_refusal : (x : Option Flows × List ℕ) (flows : Option Flows) (before now : List ℕ)
    (ended : Type 0) (f : Fault) → x ≡ (flows, before)
    → OfRefusal f (IsStopRefusal (IsRead x.1 now ended) x.0)
    → OfRefusal f (IsStopRefusal (IsRead before now ended) flows)
begun_refusal x flows before now ended f same is =
    subst (λ (y : Option Flows × List ℕ). OfRefusal f (IsStopRefusal (IsRead y.1 now ended) y.0)) same
    is

pub begun_begins : (x : Option Flows × List ℕ) (flows : Option Flows) (before now : List ℕ)
    (ended : Type 0) → x ≡ (flows, before) → AllBegin (IsRead x.1 now ended) x.0
    → AllBegin (IsRead before now ended) flows
begun_begins x flows before now ended same is =
    subst (λ (y : Option Flows × List ℕ). AllBegin (IsRead y.1 now ended) y.0) same is

pub ruleset begun_of_file = (begun_refusal, begun_begins)

-- ---- all of them

-- so many of the first files were opened, and the others are as they were
abbrev pub OpenedUpTo : {A S : Type 0} → (S → List ℕ) → ℕ → List (Option Flows)
    → List (ImportFile A S) → List (ImportFile A S) → Type 0
OpenedUpTo gave zero each olds news = news ≡ olds
OpenedUpTo gave (suc k) (f ∷ fs) (o ∷ os) (n ∷ ns) =
    IsOpenedFile gave f o n × OpenedUpTo gave k fs os ns
OpenedUpTo gave (suc k) each olds news = ⊥

-- the next one is as it was
pub next_same : {A S : Type 0} (gave : S → List ℕ) (k : ℕ) (each : List (Option Flows))
    (olds news : List (ImportFile A S)) (d : ImportFile A S) → OpenedUpTo gave k each olds news
    → get_or news k d ≡ get_or olds k d
next_same gave zero each olds news d had = ap (λ (l : List _). get_or l 0 d) had
next_same gave (suc k) [] olds news d had = absurd had
next_same gave (suc k) (f ∷ fs) [] news d had = absurd had
next_same gave (suc k) (f ∷ fs) (o ∷ os) [] d had = absurd had
next_same gave (suc k) (f ∷ fs) (o ∷ os) (n ∷ ns) d had = next_same gave k fs os ns d had.1

pub closed_there : {A S : Type 0} (olds : List (ImportFile A S)) (k : ℕ) (d : ImportFile A S)
    → AllClosed olds → k < length olds → IsClosed (get_or olds k d)
closed_there [] k d closed lt = absurd (omega (arith, lt))
closed_there (o ∷ os) zero d closed lt = closed.0
closed_there (o ∷ os) (suc k) d closed lt = closed_there os k d closed.1 (omega (arith, lt))

opened_suc : {A S : Type 0} (gave : S → List ℕ) (k : ℕ) (each : List (Option Flows))
    (olds news : List (ImportFile A S)) (e : Option Flows) (d y : ImportFile A S)
    → OpenedUpTo gave k each olds news → k < length olds → length each ≡ length olds
    → IsOpenedFile gave (get_or each k e) (get_or news k d) y
    → OpenedUpTo gave (suc k) each olds (set news k y)
opened_suc gave k each [] news e d y had lt long is = absurd (omega (arith, lt))
opened_suc gave k [] (o ∷ os) news e d y had lt long is = absurd (omega (arith, long))
opened_suc gave zero (f ∷ fs) (o ∷ os) news e d y had lt long is =
    subst (λ (l : List _). OpenedUpTo gave 1 (f ∷ fs) (o ∷ os) (set l 0 y)) (sym had)
    (subst (λ (x : _). IsOpenedFile gave f x y) (ap (λ (l : List _). get_or l 0 d) had) is, refl)
opened_suc gave (suc k) (f ∷ fs) (o ∷ os) [] e d y had lt long is = absurd had
opened_suc gave (suc k) (f ∷ fs) (o ∷ os) (n ∷ ns) e d y had lt long is = (
  had.0,
  opened_suc gave k fs os ns e d y had.1 (omega (arith, lt)) (omega (arith, long)) is,
)

pub opened_more : {A S : Type 0} (gave : S → List ℕ) (k : ℕ) (each : List (Option Flows))
    (olds news : List (ImportFile A S)) (e : Option Flows) (d y : ImportFile A S)
    → OpenedUpTo gave k each olds news → k < length olds → length each ≡ length olds
    → IsOpenedFile gave (get_or each k e) (get_or news k d) y
    → OpenedUpTo gave (k + 1) each olds (set news k y)
opened_more gave k each olds news e d y had lt long is =
    subst (λ (n : ℕ). OpenedUpTo gave n each olds (set news k y)) (sym (add-one k))
    (opened_suc gave k each olds news e d y had lt long is)

pub opened_all : {A S : Type 0} (gave : S → List ℕ) (n : ℕ) (each : List (Option Flows))
    (olds news : List (ImportFile A S)) → OpenedUpTo gave n each olds news → length olds ≤ n
    → length each ≡ length olds → AllOpened gave each olds news
opened_all gave zero [] [] news had le long =
    subst (λ (l : List _). AllOpened gave [] [] l) (sym had) tt
opened_all gave zero [] (o ∷ os) news had le long = absurd (omega (arith, le))
opened_all gave zero (f ∷ fs) [] news had le long = absurd (omega (arith, long))
opened_all gave zero (f ∷ fs) (o ∷ os) news had le long = absurd (omega (arith, le))
opened_all gave (suc n) [] olds news had le long = absurd had
opened_all gave (suc n) (f ∷ fs) [] news had le long = absurd had
opened_all gave (suc n) (f ∷ fs) (o ∷ os) [] had le long = absurd had
opened_all gave (suc n) (f ∷ fs) (o ∷ os) (x ∷ xs) had le long =
    (had.0, opened_all gave n fs os xs had.1 (omega (arith, le)) (omega (arith, long)))

-- ---- the first that is refused

-- so many of the first files, as they were and are, with the flows of each
abbrev pub first_files : {A C : Type 0} → ℕ → List A → List A → List C → List ((A × A) × C)
first_files k olds news each = zip (zip (take k olds) (take k news)) (take k each)

first_suc : {A C : Type 0} (P : (A × A) × C → Type 0) (olds news : List A) (each : List C) (k : ℕ)
    (d y : A) (e : C) → k < length olds → k < length news → k < length each
    → AllByRecursion P (first_files k olds news each) → P ((get_or olds k d, y), get_or each k e)
    → AllByRecursion P (first_files (suc k) olds (set news k y) each)
first_suc P [] news each k d y e few many long all is = absurd (omega (arith, few))
first_suc P (o ∷ os) [] each k d y e few many long all is = absurd (omega (arith, many))
first_suc P (o ∷ os) (n ∷ ns) [] k d y e few many long all is = absurd (omega (arith, long))
first_suc P (o ∷ os) (n ∷ ns) (f ∷ fs) zero d y e few many long all is = (is, tt)
first_suc P (o ∷ os) (n ∷ ns) (f ∷ fs) (suc k) d y e few many long all is = (
  all.0,
  first_suc P os ns fs k d y e (omega (arith, few)) (omega (arith, many)) (omega (arith, long))
      all.1 is,
)

-- all files are those before one, it, and those behind it
files_at : {A C : Type 0} (olds news : List A) (each : List C) (k : ℕ) (d y : A) (e : C)
    → k < length olds → k < length news → k < length each
    → zip (zip olds (set news k y)) each
    ≡ first_files k olds news each ++ ((get_or olds k d, y), get_or each k e)
    ∷ zip (zip (drop (suc k) olds) (drop (suc k) news)) (drop (suc k) each)
files_at [] news each k d y e few many long = absurd (omega (arith, few))
files_at (o ∷ os) [] each k d y e few many long = absurd (omega (arith, many))
files_at (o ∷ os) (n ∷ ns) [] k d y e few many long = absurd (omega (arith, long))
files_at (o ∷ os) (n ∷ ns) (f ∷ fs) zero d y e few many long = refl
files_at {A} {C} (o ∷ os) (n ∷ ns) (f ∷ fs) (suc k) d y e few many long =
    ap (λ (l : List ((A × A) × C)). ((o, n), f) ∷ l)
    (files_at os ns fs k d y e (omega (arith, few)) (omega (arith, many)) (omega (arith, long)))

-- so many of the first files begin, and so does the next
pub begin_more : {A S : Type 0} (gave : S → List ℕ) (ended : S → Type 0) (k : ℕ)
    (each : List (Option Flows)) (olds news : List (ImportFile A S)) (e : Option Flows)
    (d y : ImportFile A S) → OpenedUpTo gave k each olds news → k < length olds
    → length news ≡ length olds → length each ≡ length olds
    → AllByRecursion (λ x. AllBegin (WasRead (gave_by gave) (ended_by ended) x.0) x.1)
    (first_files k olds news each)
    → AllBegin (IsRead (gave_by gave (get_or news k d)) (gave_by gave y) (ended_by ended y))
    (get_or each k e)
    → AllByRecursion (λ x. AllBegin (WasRead (gave_by gave) (ended_by ended) x.0) x.1)
    (first_files (k + 1) olds (set news k y) each)
begin_more {A} {S} gave ended k each olds news e d y had lt long many all is =
    let P = λ (x : (ImportFile A S × ImportFile A S) × Option Flows).
    AllBegin (WasRead (gave_by gave) (ended_by ended) x.0) x.1 in
    subst (λ (n : ℕ). AllByRecursion P (first_files n olds (set news k y) each)) (sym (add-one k))
    (first_suc P olds news each k d y e lt (omega (arith, lt, long)) (omega (arith, lt, many)) all
    (subst (λ (x : _). AllBegin (IsRead (gave_by gave x) (gave_by gave y) (ended_by ended y))
    (get_or each k e)) (next_same gave k each olds news d had) is))

-- or it is the first that is refused
pub first_stop : {A S : Type 0} (gave : S → List ℕ) (ended : S → Type 0) (k : ℕ)
    (each : List (Option Flows)) (olds news : List (ImportFile A S)) (e : Option Flows)
    (d y : ImportFile A S) (r : Refusal) → OpenedUpTo gave k each olds news → k < length olds
    → length news ≡ length olds → length each ≡ length olds
    → AllByRecursion (λ x. AllBegin (WasRead (gave_by gave) (ended_by ended) x.0) x.1)
    (first_files k olds news each)
    → IsStopRefusal (IsRead (gave_by gave (get_or news k d)) (gave_by gave y) (ended_by ended y))
    (get_or each k e) r
    → IsFirstStop (WasRead (gave_by gave) (ended_by ended)) (zip (zip olds (set news k y)) each) r
first_stop gave ended k each olds news e d y r had lt long many all is = record {
  front = first_files k olds news each;
  at = ((get_or olds k d, y), get_or each k e);
  behind = zip (zip (drop (suc k) olds) (drop (suc k) news)) (drop (suc k) each);
  parts = files_at olds news each k d y e lt (omega (arith, lt, long)) (omega (arith, lt, many));
  whole = all;
  refused =
      subst (λ (x : _). IsStopRefusal (IsRead (gave_by gave x) (gave_by gave y) (ended_by ended y))
      (get_or each k e) r) (next_same gave k each olds news d had) is;
}
