-- The file that comes next, whose record is taken.
use Rattle.std.proofs.Common.{◌≡◌, ℕ, zero, suc, ◌<◌, inl, inr, List, [], ◌∷◌}
use Rattle.std.proofs.Common.{Option, None, Some, refl, sym, ap, subst, arith}
use Rattle.std.proofs.Common.{get_or, set, length, map}
use Rattle.std.specs.List.{AllByRecursion}
use Rattle.media_file.specs.Records.{Entry}
use Rattle.recording_reader.specs.declared.fault.ReadingFault.{ReadingFault}
use Rattle.recording_reader.specs.declared.way.Standing.{Standing as Stand}
use Rattle.recording_reader.specs.declared.way.Standing.TheVariants.{Reads, Ended, Failed}
use Rattle.recording_engines.specs.Files.{AllReady, HasAhead, IsFailedAt, IsReading, IsReady, Leads}
use Rattle.recording_engines.specs.Files.{NextIsLater, NextIsNoSooner, ahead_by, next_entry}
use Rattle.recording_engines.specs.Files.{standing_of, standings}
use Rattle.recording_engines.specs.Progress.{OneFileAt}
use Rattle.recording_engines.specs.Steps.{Coming, IsLater, IsNoSooner, ReadsMore, TakesEarliest}
use Rattle.recording_engines.specs.declared.file.ImportFile.{ImportFile}
use Rattle.recording_engines.specs.declared.file.ImportFile.TheVariants.{Closed, Open, Taken}

-- ---- one file

later_by : (moment : ℕ) (stand : Stand) (at_hand : Option Entry) → HasAhead stand at_hand
    → NextIsLater moment at_hand → IsLater moment (ahead_by stand at_hand)
later_by moment Reads None ready later = absurd ready
later_by moment Reads (Some e) ready later = later
later_by moment Ended None ready later = tt
later_by moment Ended (Some e) ready later = absurd ready
later_by moment (Failed f) None ready later = absurd ready
later_by moment (Failed f) (Some e) ready later = absurd ready

no_sooner_by : (moment : ℕ) (stand : Stand) (at_hand : Option Entry) → HasAhead stand at_hand
    → NextIsNoSooner moment at_hand → IsNoSooner moment (ahead_by stand at_hand)
no_sooner_by moment Reads None ready later = absurd ready
no_sooner_by moment Reads (Some e) ready later = later
no_sooner_by moment Ended None ready later = tt
no_sooner_by moment Ended (Some e) ready later = absurd ready
no_sooner_by moment (Failed f) None ready later = absurd ready
no_sooner_by moment (Failed f) (Some e) ready later = absurd ready

pub next_later : {A S : Type 0} (moment : ℕ) (f : ImportFile A S) → IsReady f
    → NextIsLater moment (next_entry f) → IsLater moment (standing_of f).ahead
next_later moment (Closed s) ready later = absurd ready
next_later moment (Open r) ready later = later_by moment r.standing r.at_hand ready later
next_later moment Taken ready later = absurd ready

next_no_sooner : {A S : Type 0} (moment : ℕ) (f : ImportFile A S) → IsReady f
    → NextIsNoSooner moment (next_entry f) → IsNoSooner moment (standing_of f).ahead
next_no_sooner moment (Closed s) ready later = absurd ready
next_no_sooner moment (Open r) ready later = no_sooner_by moment r.standing r.at_hand ready later
next_no_sooner moment Taken ready later = absurd ready

pub all_no_sooner : {A S : Type 0} (moment : ℕ) (fs : List (ImportFile A S)) → AllReady fs
    → AllByRecursion (λ f. NextIsNoSooner moment (next_entry f)) fs
    → AllByRecursion (λ s. IsNoSooner moment s.ahead) (standings fs)
all_no_sooner moment [] ready is = tt
all_no_sooner moment (f ∷ fs) ready is =
    (next_no_sooner moment f ready.0 is.0, all_no_sooner moment fs ready.1 is.1)

-- the record of the one that comes next
coming_by : (stand : Stand) (at_hand : Option Entry) (e : Entry) → HasAhead stand at_hand
    → at_hand ≡ Some e → ahead_by stand at_hand ≡ Coming e
coming_by Reads None e ready is = absurd ready
coming_by Reads (Some x) e ready is = let same : Some x ≡ Some e = is in cc
coming_by Ended None e ready is = absurd cc
coming_by Ended (Some x) e ready is = absurd ready
coming_by (Failed f) None e ready is = absurd ready
coming_by (Failed f) (Some x) e ready is = absurd ready

pub coming : {A S : Type 0} (f : ImportFile A S) (e : Entry) → IsReady f → next_entry f ≡ Some e
    → (standing_of f).ahead ≡ Coming e
coming (Closed s) e ready is = absurd ready
coming (Open r) e ready is = coming_by r.standing r.at_hand e ready is
coming Taken e ready is = absurd ready

reads_by : (stand : Stand) (at_hand : Option Entry) (e : Entry) → HasAhead stand at_hand
    → at_hand ≡ Some e → stand ≡ Reads
reads_by Reads None e ready is = refl
reads_by Reads (Some x) e ready is = refl
reads_by Ended None e ready is = absurd cc
reads_by Ended (Some x) e ready is = absurd ready
reads_by (Failed f) None e ready is = absurd ready
reads_by (Failed f) (Some x) e ready is = absurd ready

reading : {A S : Type 0} (f : ImportFile A S) (e : Entry) → IsReady f → next_entry f ≡ Some e
    → IsReading f
reading (Closed s) e ready is = absurd ready
reading (Open r) e ready is = reads_by r.standing r.at_hand e ready is
reading Taken e ready is = absurd ready

-- ---- the one that leads

pub record HasLead {A S : Type 0} (f : ImportFile A S) (moment : ℕ) : Type 0 where
  pub entry : Entry
  pub next : next_entry f ≡ Some entry
  pub moment_is : entry.moment ≡ moment
  pub ready : IsReady f

pub led : {A S : Type 0} (k moment : ℕ) (fs : List (ImportFile A S)) (d : ImportFile A S)
    → AllReady fs → Leads k moment fs → HasLead (get_or fs k d) moment
led k moment [] d ready leads = absurd leads
led zero moment (f ∷ fs) d ready leads = record {
  entry = leads.0.0;
  next = leads.0.1;
  moment_is = leads.0.2;
  ready = ready.0;
}
led (suc k) moment (f ∷ fs) d ready leads = led k moment fs d ready.1 leads.1

pub led_reading : {A S : Type 0} (k moment : ℕ) (fs : List (ImportFile A S)) (d : ImportFile A S)
    → AllReady fs → Leads k moment fs → IsReading (get_or fs k d)
led_reading k moment fs d ready leads =
    let is = led k moment fs d ready leads in
    reading (get_or fs k d) is.entry is.ready is.next

-- it is taken, and its file is something else
takes_by : {A S : Type 0} (k : ℕ) (fs : List (ImportFile A S)) (d f' : ImportFile A S) (e : Entry)
    → AllReady fs → Leads k e.moment fs → next_entry (get_or fs k d) ≡ Some e
    → ReadsMore (standing_of (get_or fs k d)).entries (standing_of f').ahead (standing_of f').entries
    → TakesEarliest (standings fs) e (standings (set fs k f'))
takes_by k [] d f' e ready leads next more = absurd leads
takes_by zero (f ∷ fs) d f' e ready leads next more =
    inl (coming f e ready.0 next, more, refl, all_no_sooner e.moment fs ready.1 leads.1)
takes_by (suc k) (f ∷ fs) d f' e ready leads next more =
    inr (refl, next_later e.moment f ready.0 leads.0, takes_by k fs d f' e ready.1 leads.1 next more)

pub takes_led : {A S : Type 0} (k moment : ℕ) (fs : List (ImportFile A S)) (d f' : ImportFile A S)
    → (ready : AllReady fs) → (leads : Leads k moment fs)
    → ReadsMore (standing_of (get_or fs k d)).entries (standing_of f').ahead (standing_of f').entries
    → TakesEarliest (standings fs) (led k moment fs d ready leads).entry (standings (set fs k f'))
takes_led k moment fs d f' ready leads more =
    let is = led k moment fs d ready leads in
    takes_by k fs d f' is.entry ready
    (subst (λ (m : ℕ). Leads k m fs) (sym is.moment_is) leads) is.next more

-- ---- all files, where one is something else

pub ready_set : {A S : Type 0} (k : ℕ) (fs : List (ImportFile A S)) (f' : ImportFile A S)
    → AllReady fs → IsReady f' → AllByRecursion IsReady (set fs k f')
ready_set k [] f' ready is = tt
ready_set zero (f ∷ fs) f' ready is = (is, ready.1)
ready_set (suc k) (f ∷ fs) f' ready is = (ready.0, ready_set k fs f' ready.1 is)

pub at_set : {A S : Type 0} (f : ReadingFault) (k : ℕ) (fs : List (ImportFile A S))
    (f' : ImportFile A S) → k < length fs → AllReady fs → IsFailedAt f f'
    → OneFileAt f (set fs k f')
at_set f k [] f' lt ready is = absurd (omega (arith, lt))
at_set f zero (x ∷ xs) f' lt ready is = inl (is, ready.1)
at_set f (suc k) (x ∷ xs) f' lt ready is =
    inr (ready.0, at_set f k xs f' (omega (arith, lt)) ready.1 is)

pub map_set : {X Y : Type 0} (g : X → Y) (xs : List X) (k : ℕ) (d y : X) → k < length xs
    → g y ≡ g (get_or xs k d) → map g (set xs k y) ≡ map g xs
map_set g [] k d y lt same = absurd (omega (arith, lt))
map_set g (x ∷ xs) zero d y lt same = ap (λ (z : _). z ∷ map g xs) same
map_set g (x ∷ xs) (suc k) d y lt same =
    let rest = map_set g xs k d y (omega (arith, lt)) same in ap (λ (l : List _). g x ∷ l) rest

-- one that is put where it was
pub set_same : {X : Type 0} (xs : List X) (k : ℕ) (d : X) → set xs k (get_or xs k d) ≡ xs
set_same [] k d = refl
set_same (x ∷ xs) zero d = refl
set_same (x ∷ xs) (suc k) d = ap (λ (l : List _). x ∷ l) (set_same xs k d)
