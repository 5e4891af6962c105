-- Chains of a list of events and one event more.
use Rattle.std.proofs.Common.{◌≡◌, ◌↔◌, ℕ, ◌<◌, ◌≤◌, ◌⊎◌, inl, inr, List, [], ◌∷◌, ◌++◌, length}
use Rattle.std.proofs.Common.{take, Some, sym, ap, ◌∙◌, subst, arith, length-append}
use Rattle.std.proofs.lemmas.List.{take-append-le, take_all}
use Rattle.std.specs.Prelude.{slice_get}
use Rattle.path_merge.specs.declared.schedule.event.Event.{Event}
use Rattle.path_merge.specs.declared.schedule.event.Event.TheVariants.{Arrive, Merge}
use Rattle.path_merge.specs.Stays.{Stay, Lasts}
use Rattle.path_merge.specs.Reached.{Chain, Arrived, Merged, LastStep, By_arrive, By_merge}
use Rattle.path_merge.proofs.Places.{get_left, get_back, get_below, last_get, below_or_at}

lasts_more : (w : List ℕ) (es fs : List Event) (stay : Stay) (place : ℕ) → place ≤ length es
    → Lasts stay w (take place es) → Lasts stay w (take place (es ++ fs))
lasts_more w es fs stay place le h =
    subst (λ (xs : List Event). Lasts stay w xs) (sym (take-append-le place es fs le)) h

lasts_back : (w : List ℕ) (es fs : List Event) (stay : Stay) (place : ℕ) → place ≤ length es
    → Lasts stay w (take place (es ++ fs)) → Lasts stay w (take place es)
lasts_back w es fs stay place le h =
    subst (λ (xs : List Event). Lasts stay w xs) (take-append-le place es fs le) h

at_once : (n m : ℕ) → n < m → n ≤ m
at_once n m h = omega arith

-- a chain stands in its list
pub chain_below : (w : List ℕ) (es : List Event) (n : ℕ) (stay : Stay) (place : ℕ)
    → Chain w es n stay place → place < length es
chain_below w es n stay place (Arrived p path s is lasts) =
    get_below es p (Arrive s.receiver path n) is
chain_below w es n stay place (Merged earlier p from s chain lt is from_lasts lasts same) =
    get_below es p (Merge s.receiver from.receiver) is

-- A chain stays one, whatever comes later.
pub chain_more : (w : List ℕ) (es fs : List Event) (n : ℕ) (stay : Stay) (place : ℕ)
    → Chain w es n stay place → Chain w (es ++ fs) n stay place
chain_more w es fs n stay place (Arrived p path s is lasts) =
    let below : p < length es = get_below es p (Arrive s.receiver path n) is in
    Arrived p path s (get_left es fs p (Arrive s.receiver path n) is)
    (lasts_more w es fs s p (at_once _ _ below) lasts)
chain_more w es fs n stay place (Merged earlier p from s chain lt is from_lasts lasts same) =
    let below : p < length es = get_below es p (Merge s.receiver from.receiver) is in
    Merged earlier p from s (chain_more w es fs n from earlier chain) lt
    (get_left es fs p (Merge s.receiver from.receiver) is)
    (lasts_more w es fs from p (at_once _ _ below) from_lasts)
    (lasts_more w es fs s p (at_once _ _ below) lasts) same

-- A chain whose last place is in the first part of a list is a chain of that part.
pub chain_back : (w : List ℕ) (es fs : List Event) (n : ℕ) (stay : Stay) (place : ℕ)
    → Chain w (es ++ fs) n stay place → place < length es → Chain w es n stay place
chain_back w es fs n stay place (Arrived p path s is lasts) below =
    Arrived p path s (get_back es fs p (Arrive s.receiver path n) below is)
    (lasts_back w es fs s p (at_once _ _ below) lasts)
chain_back w es fs n stay place (Merged earlier p from s chain lt is from_lasts lasts same) below =
    Merged earlier p from s (chain_back w es fs n from earlier chain (omega arith)) lt
    (get_back es fs p (Merge s.receiver from.receiver) below is)
    (lasts_back w es fs from p (at_once _ _ below) from_lasts)
    (lasts_back w es fs s p (at_once _ _ below) lasts) same

last_is : (es : List Event) (e f : Event) (place : ℕ) → place ≡ length es
    → slice_get (es ++ e ∷ []) place ≡ Some f → e ≡ f
last_is es e f place at is =
    let h : slice_get (es ++ e ∷ []) (length es) ≡ Some f =
    subst (λ (p : ℕ). slice_get (es ++ e ∷ []) p ≡ Some f) at is in
    let g : slice_get (es ++ e ∷ []) (length es) ≡ Some e = last_get es e in
    same_some e f (sym g ∙ h)
  where
    same_some : {X : Type 0} (x y : X) → Some x ≡ Some y → x ≡ y
    same_some x y h = cc

lasts_all : (w : List ℕ) (es : List Event) (e : Event) (stay : Stay) (place : ℕ)
    → place ≡ length es → Lasts stay w (take place (es ++ e ∷ [])) → Lasts stay w es
lasts_all w es e stay place at h =
    let g : Lasts stay w (take place es) =
    lasts_back w es (e ∷ []) stay place (omega (arith, at)) h in
    subst (λ (xs : List Event). Lasts stay w xs) (take_all place es (omega (arith, at))) g

-- A chain of a list and one event more is one of the list, or has that event for its last step.
cases_at : (w : List ℕ) (es : List Event) (e : Event) (n : ℕ) (stay : Stay) (place : ℕ)
    → (place < length es) ⊎ (place ≡ length es) → Chain w (es ++ e ∷ []) n stay place
    → Chain w es n stay place ⊎ LastStep w es e n stay
cases_at w es e n stay place (inl below) chain =
    inl (chain_back w es (e ∷ []) n stay place chain below)
cases_at w es e n stay place (inr at) (Arrived p path s is lasts) =
    inr (By_arrive path (last_is es e (Arrive s.receiver path n) p at is)
    (lasts_all w es e s p at lasts))
cases_at w es e n stay place (inr at) (Merged earlier p from s chain lt is from_lasts lasts same) =
    inr (By_merge from earlier (last_is es e (Merge s.receiver from.receiver) p at is)
    (lasts_all w es e from p at from_lasts) (lasts_all w es e s p at lasts) same
    (chain_back w es (e ∷ []) n from earlier chain (omega (arith, at))))

pub chain_cases : (w : List ℕ) (es : List Event) (e : Event) (n : ℕ) (stay : Stay) (place : ℕ)
    → Chain w (es ++ e ∷ []) n stay place → Chain w es n stay place ⊎ LastStep w es e n stay
chain_cases w es e n stay place chain =
    let below : place < length (es ++ e ∷ []) = chain_below w (es ++ e ∷ []) n stay place chain in
    cases_at w es e n stay place
    (below_or_at place (length es) (omega (arith, below, length-append es (e ∷ [])))) chain

lasts_now : (w : List ℕ) (es : List Event) (e : Event) (stay : Stay) → Lasts stay w es
    → Lasts stay w (take (length es) (es ++ e ∷ []))
lasts_now w es e stay h =
    subst (λ (xs : List Event). Lasts stay w xs)
    (sym (take-append-le (length es) es (e ∷ []) (omega arith)
    ∙ take_all (length es) es (omega arith))) h

-- Such a last step makes a chain.
pub chain_last : (w : List ℕ) (es : List Event) (e : Event) (n : ℕ) (stay : Stay)
    → LastStep w es e n stay → Chain w (es ++ e ∷ []) n stay (length es)
chain_last w es e n stay (By_arrive path is lasts) =
    Arrived (length es) path stay (last_get es e ∙ ap Some is) (lasts_now w es e stay lasts)
chain_last w es e n stay (By_merge from earlier is from_lasts lasts same chain) =
    Merged earlier (length es) from stay (chain_more w es (e ∷ []) n from earlier chain)
    (chain_below w es n from earlier chain) (last_get es e ∙ ap Some is)
    (lasts_now w es e from from_lasts) (lasts_now w es e stay lasts) same

-- in one equivalence
pub one_event_more : (w : List ℕ) (es : List Event) (e : Event) (n : ℕ) (stay : Stay) (place : ℕ)
    → Chain w (es ++ e ∷ []) n stay place
    ↔ (Chain w es n stay place ⊎ ((place ≡ length es) × LastStep w es e n stay))
one_event_more w es e n stay place = (there, back)
  where
    by_place : (place < length es) ⊎ (place ≡ length es) → Chain w (es ++ e ∷ []) n stay place
        → Chain w es n stay place ⊎ ((place ≡ length es) × LastStep w es e n stay)
    by_place (inl below) chain = inl (chain_back w es (e ∷ []) n stay place chain below)
    by_place (inr at) chain =
        elim (chain_cases w es e n stay place chain) [
          | inl old ↦ inl old
          | inr last ↦ inr
              (at, last)
        ]

    there : Chain w (es ++ e ∷ []) n stay place
        → Chain w es n stay place ⊎ ((place ≡ length es) × LastStep w es e n stay)
    there chain =
        let below : place < length (es ++ e ∷ []) =
        chain_below w (es ++ e ∷ []) n stay place chain in
        by_place (below_or_at place (length es)
        (omega (arith, below, length-append es (e ∷ [])))) chain

    back : Chain w es n stay place ⊎ ((place ≡ length es) × LastStep w es e n stay)
        → Chain w (es ++ e ∷ []) n stay place
    back (inl old) = chain_more w es (e ∷ []) n stay place old
    back (inr last) =
        subst (λ (p : ℕ). Chain w (es ++ e ∷ []) n stay p) (sym last.0)
        (chain_last w es e n stay last.1)
