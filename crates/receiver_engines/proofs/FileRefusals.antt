-- Refusals of files.
use Rattle.std.proofs.Common.{◌≡◌, ℕ, ◌<◌, zero, suc, List, [], ◌∷◌, length, take, get_or}
use Rattle.std.proofs.Common.{ap, arith, refl, set, subst, sym, ◌∙◌}
use Rattle.std.proofs.lemmas.List.{get_or-set_same}
use Rattle.run_outcome.specs.Moments.{WasRead}
use Rattle.std.specs.List.{zip}
use Rattle.run_outcome.specs.Refusing.{OfRefusal}
use Rattle.run_outcome.specs.declared.fault.Fault.{Fault}
use Rattle.run_outcome.specs.declared.fault.Fault.TheVariants as fault
use Rattle.run_outcome.specs.declared.refusal.Refusal.{Refusal}
use Rattle.path_receiver.specs.Frames.{State}
use Rattle.receiver_engines.specs.Reading.{SayReceivers}
use Rattle.receiver_engines.specs.Merging.{SaysReceiver}
use Rattle.receiver_engines.specs.States.{IsStateRefusal}
use Rattle.st_format.specs.History.{IsRead}
use Rattle.receiver_engines.specs.Refused.{IsReceiversRefusal, IsRefusedAt}
use Rattle.run_outcome.proofs.Refusals.{of_refusal_map}

-- what stands at a place, whatever stands for none
pub same_at : {X : Type 0} (xs : List X) (k : ℕ) (d e : X) → k < length xs
    → get_or xs k d ≡ get_or xs k e
same_at [] k d e some = absurd (omega (arith, some))
same_at (x ∷ xs) zero d e some = refl
same_at (x ∷ xs) (suc k) d e some = same_at xs k d e (omega (arith, some))

-- what stands at a place of two lists
pub zip_at : {S : Type 0} (old now : List S) (k : ℕ) (d : S × S) → length now ≡ length old
    → k < length old → get_or (zip old now) k d ≡ (get_or old k d.0, get_or now k d.1)
zip_at [] now k d same some = absurd (omega (arith, some))
zip_at (s ∷ old) [] k d same some = absurd (omega (arith, same))
zip_at (s ∷ old) (t ∷ now) zero d same some = refl
zip_at (s ∷ old) (t ∷ now) (suc k) d same some =
    zip_at old now k d (omega (arith, same)) (omega (arith, some))

pub zip_length : {S : Type 0} (old now : List S) → length now ≡ length old
    → length (zip old now) ≡ length old
zip_length [] now same = refl
zip_length (s ∷ old) [] same = absurd (omega (arith, same))
zip_length (s ∷ old) (t ∷ now) same =
    ap suc (zip_length old now (omega (arith, same)))

-- before a place nothing changed
pub zip_before : {S : Type 0} (old now new : List S) (place : ℕ) → length now ≡ length old
    → length new ≡ length old → ((k : ℕ) (s : S) → k < place → get_or new k s ≡ get_or now k s)
    → take place (zip old new) ≡ take place (zip old now)
zip_before [] now new zero a b same = refl
zip_before [] now new (suc place) a b same = refl
zip_before (s ∷ old) [] new place a b same = absurd (omega (arith, a))
zip_before (s ∷ old) (t ∷ now) [] place a b same = absurd (omega (arith, b))
zip_before (s ∷ old) (t ∷ now) (u ∷ new) zero a b same = refl
zip_before {S} (s ∷ old) (t ∷ now) (u ∷ new) (suc place) a b same =
    ap (λ (x : S). (s, x) ∷ take place (zip old new)) (same 0 s (omega arith))
    ∙ ap (λ (l : List (S × S)). (s, t) ∷ l)
    (zip_before old now new place (omega (arith, a)) (omega (arith, b))
    (λ k d lt. same (suc k) d (omega (arith, lt))))

-- what was read of the source at a place, whatever stands for none
pub one_said : {S : Type 0} (gave : S → List ℕ) (ended : S → Type 0) (first mid last : List S)
    (place : ℕ) (d : S × S) (r : State) → length last ≡ length first → place < length first
    → ((s : S) → get_or mid place s ≡ get_or first place s)
    → ((s : S) → SaysReceiver (IsRead (gave (get_or mid place s)) (gave (get_or last place s))
    (ended (get_or last place s))) r)
    → SaysReceiver (WasRead gave ended (get_or (zip first last) place d)) r
one_said gave ended first mid last place d r len within same says =
    let some : place < length last = omega (arith, len, within) in
    let now : get_or last place d.0 ≡ get_or last place d.1 = same_at last place d.0 d.1 some in
    subst (λ p. SaysReceiver (WasRead gave ended p) r)
    (sym (zip_at first last place d len within))
    (subst (λ t. SaysReceiver (IsRead (gave (get_or first place d.0)) (gave t) (ended t)) r) now
    (subst (λ s. SaysReceiver (IsRead (gave s) (gave (get_or last place d.0))
    (ended (get_or last place d.0))) r) (same d.0) (says d.0)))

refused_by : {S : Type 0} (gave : S → List ℕ) (ended : S → Type 0) (first mid last : List S)
    (place : ℕ) (d : S) (f : Fault) → length last ≡ length first → place < length first
    → ((s : S) → get_or mid place s ≡ get_or first place s)
    → ((s : S) → OfRefusal f (IsStateRefusal (IsRead (gave (get_or mid place s))
    (gave (get_or last place s)) (ended (get_or last place s)))))
    → OfRefusal f (IsRefusedAt (WasRead gave ended) (zip first last) place)
refused_by gave ended first mid last place d f len within same is =
    let some : place < length last = omega (arith, len, within) in
    of_refusal_map f (λ r refused. record {
      source = (get_or first place d, get_or last place d);
      at = λ s. zip_at first last place s len within
          ∙ ap (λ x. (x, get_or last place s.1)) (same_at first place s.0 d within)
          ∙ ap (λ x. (get_or first place d, x)) (same_at last place s.1 d some);
      refused =
          subst (λ x. IsStateRefusal (IsRead (gave x) (gave (get_or last place d))
          (ended (get_or last place d))) r) (same d) refused;
    }) (is d)

pub refused_at : {S : Type 0} (gave : S → List ℕ) (ended : S → Type 0) (first mid last : List S)
    (place : ℕ) (f : Fault) → length last ≡ length first → place < length first
    → ((s : S) → get_or mid place s ≡ get_or first place s)
    → ((s : S) → OfRefusal f (IsStateRefusal (IsRead (gave (get_or mid place s))
    (gave (get_or last place s)) (ended (get_or last place s)))))
    → OfRefusal f (IsRefusedAt (WasRead gave ended) (zip first last) place)
refused_at gave ended [] mid last place f len within same is = absurd (omega (arith, within))
refused_at gave ended (x ∷ xs) mid last place f len within same is =
    refused_by gave ended (x ∷ xs) mid last place x f len within same is

-- the refusal of a file whose place no earlier reading changed, where those before it were read
pub first_refused : {S : Type 0} (told : S → List ℕ → Type 0) (states : List S) (place : ℕ)
    (receivers : List State) (f : Fault) → place < length states
    → SayReceivers told (take place states) receivers
    → OfRefusal f (IsRefusedAt told states place) → OfRefusal f (IsReceiversRefusal told states)
first_refused told states place receivers f within say is =
    of_refusal_map f (λ r refused. record {
      place = place;
      within = within;
      receivers = receivers;
      receivers_are = say;
      refused = refused;
    }) is

-- ---- of one place, whatever is said of it

-- what is said of a source that is used where it stands
pub set_so : {S : Type 0} (P : S × S → Type 0) (xs : List S) (place : ℕ) (none now : S)
    → place < length xs → P (get_or xs place none, now)
    → (s : S) → P (get_or xs place s, get_or (set xs place now) place s)
set_so {S} P xs place none now within so s =
    subst (λ (y : S). P (get_or xs place s, y)) (sym (get_or-set_same xs place now s within))
    (subst (λ (x : S). P (x, now)) (same_at xs place none s within) so)

-- what is said of the source at a place that nothing changed before
pub one_so : {S : Type 0} (P : S × S → Type 0) (first mid last : List S) (place : ℕ) (d : S × S)
    → length last ≡ length first → place < length first
    → ((s : S) → get_or mid place s ≡ get_or first place s)
    → ((s : S) → P (get_or mid place s, get_or last place s))
    → P (get_or (zip first last) place d)
one_so {S} P first mid last place d len within same so =
    let some : place < length last = omega (arith, len, within) in
    subst P (sym (zip_at first last place d len within))
    (subst (λ (t : S). P (get_or first place d.0, t)) (same_at last place d.0 d.1 some)
    (subst (λ (s : S). P (s, get_or last place d.0)) (same d.0) (so d.0)))

-- what is refused whatever stands for none
pub refused_each : {S : Type 0} (f : Fault) (P : S → Refusal → Type 0)
    → ((s : S) → OfRefusal f (P s)) → OfRefusal f (λ r. (s : S) → P s r)
refused_each (fault.Refused r) P is = is
refused_each fault.Device P is = tt
refused_each fault.Memory P is = tt
