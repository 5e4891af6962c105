-- Which of some files comes next.
use Rattle.std.proofs.Common.{◌≡◌, ℕ, zero, suc, ◌+◌, ◌<◌, ◌≤◌, inl, inr, List, [], ◌∷◌}
use Rattle.std.proofs.Common.{Option, None, Some, refl, sym, subst, arith, add-one, length}
use Rattle.std.specs.List.{AllByRecursion}
use Rattle.std.specs.Option.{option_map}
use Rattle.std.specs.Prelude.{IfSome}
use Rattle.media_file.specs.Records.{Entry}
use Rattle.recording_engines.specs.Files.{IsEarliest, IsSooner, Leads, NextIsLater}
use Rattle.recording_engines.specs.Files.{NextIsNoSooner, next_entry}
use Rattle.recording_engines.specs.declared.file.ImportFile.{ImportFile}

pub leads_within : {A S : Type 0} (k moment : ℕ) (fs : List (ImportFile A S)) → Leads k moment fs
    → k < length fs
leads_within k moment [] leads = absurd leads
leads_within zero moment (f ∷ fs) leads = omega arith
leads_within (suc k) moment (f ∷ fs) leads =
    let rest = leads_within k moment fs leads.1 in omega (arith, rest)

-- the moment of what comes next
abbrev moment_in : Option Entry → Option ℕ
moment_in n = option_map (λ (e : Entry). e.moment) n

next_none : (n : Option Entry) → None ≡ moment_in n → n ≡ None
next_none None at = refl
next_none (Some e) at = absurd cc

pub record HasNext (n : Option Entry) (moment : ℕ) : Type 0 where
  pub entry : Entry
  pub is : n ≡ Some entry
  pub moment_is : entry.moment ≡ moment

next_some : (n : Option Entry) (moment : ℕ) → Some moment ≡ moment_in n → HasNext n moment
next_some None moment at = absurd cc
next_some (Some e) moment at =
    let same : Some moment ≡ Some e.moment = at in
    record { entry = e; is = refl; moment_is = cc }

none_sooner : {A S : Type 0} (moment : ℕ) (fs : List (ImportFile A S))
    → AllByRecursion (λ f. next_entry f ≡ None) fs
    → AllByRecursion (λ f. NextIsNoSooner moment (next_entry f)) fs
none_sooner moment [] none = tt
none_sooner moment (f ∷ fs) none =
    (subst (NextIsNoSooner moment) (sym none.0) tt, none_sooner moment fs none.1)

no_sooner_by : (moment later : ℕ) (n : Option Entry) → moment ≤ later → NextIsNoSooner later n
    → NextIsNoSooner moment n
no_sooner_by moment later None le is = tt
no_sooner_by moment later (Some e) le is = omega (arith, le, is)

later_by : (moment later : ℕ) (n : Option Entry) → moment ≤ later → NextIsLater later n
    → NextIsNoSooner moment n
later_by moment later None le is = tt
later_by moment later (Some e) le is = omega (arith, le, is)

all_by : {A S : Type 0} (moment later : ℕ) (fs : List (ImportFile A S)) → moment ≤ later
    → AllByRecursion (λ f. NextIsNoSooner later (next_entry f)) fs
    → AllByRecursion (λ f. NextIsNoSooner moment (next_entry f)) fs
all_by moment later [] le is = tt
all_by moment later (f ∷ fs) le is =
    (no_sooner_by moment later (next_entry f) le is.0, all_by moment later fs le is.1)

led_sooner : {A S : Type 0} (moment later k : ℕ) (fs : List (ImportFile A S)) → moment ≤ later
    → Leads k later fs → AllByRecursion (λ f. NextIsNoSooner moment (next_entry f)) fs
led_sooner moment later k [] le leads = absurd leads
led_sooner moment later zero (f ∷ fs) le leads =
    let e = leads.0.0 in
    let at : moment ≤ e.moment = omega (arith, le, leads.0.2) in
    (subst (NextIsNoSooner moment) (sym leads.0.1) at, all_by moment later fs le leads.1)
led_sooner moment later (suc k) (f ∷ fs) le leads =
    (later_by moment later (next_entry f) le leads.0, led_sooner moment later k fs le leads.1)

one_more : {A S : Type 0} (f : ImportFile A S) (fs : List (ImportFile A S)) (k moment : ℕ)
    → NextIsLater moment (next_entry f) → Leads k moment fs → Leads (k + 1) moment (f ∷ fs)
one_more f fs k moment later leads =
    subst (λ (n : ℕ). Leads n moment (f ∷ fs)) (sym (add-one k)) (later, leads)

pub earliest_of : {A S : Type 0} (f : ImportFile A S) (fs : List (ImportFile A S))
    (first : Option ℕ) (later found : Option (ℕ × ℕ)) → first ≡ moment_in (next_entry f)
    → IsEarliest fs later → IsSooner first later found → IsEarliest (f ∷ fs) found
earliest_of f fs None None found at rest sooner =
    subst (IsEarliest (f ∷ fs)) (sym sooner) (next_none (next_entry f) at, rest)
earliest_of f fs None (Some x) found at rest sooner =
    subst (IsEarliest (f ∷ fs)) (sym sooner)
    (one_more f fs x.0 x.1 (subst (NextIsLater x.1) (sym (next_none (next_entry f) at)) tt) rest)
earliest_of f fs (Some m) None found at rest sooner =
    let has = next_some (next_entry f) m at in
    subst (IsEarliest (f ∷ fs)) (sym sooner)
    ((has.entry, has.is, has.moment_is), none_sooner m fs rest)
earliest_of f fs (Some m) (Some x) found at rest (inl sooner) =
    let has = next_some (next_entry f) m at in
    let lt : x.1 < has.entry.moment = omega (arith, sooner.0, has.moment_is) in
    subst (IsEarliest (f ∷ fs)) (sym sooner.1)
    (one_more f fs x.0 x.1 (subst (NextIsLater x.1) (sym has.is) lt) rest)
earliest_of f fs (Some m) (Some x) found at rest (inr sooner) =
    let has = next_some (next_entry f) m at in
    subst (IsEarliest (f ∷ fs)) (sym sooner.1)
    ((has.entry, has.is, has.moment_is), led_sooner m x.1 x.0 fs sooner.0 rest)

pub place_fits : {A S : Type 0} (fs : List (ImportFile A S)) (later : Option (ℕ × ℕ)) (count : ℕ)
    → IsEarliest fs later → length fs + 1 ≡ count → IfSome later (λ x. x.0 + 1 ≤ count)
place_fits fs None count is fits = tt
place_fits fs (Some x) count is fits =
    let within = leads_within x.0 x.1 fs is in omega (arith, within, fits)
