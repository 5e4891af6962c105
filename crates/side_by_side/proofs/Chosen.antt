-- The one that goes first, and the files that are not chosen.
use Rattle.std.proofs.Common.{◌≡◌, ℕ, ◌+◌, ◌<◌, Bool, true, false, List, [], ◌∷◌}
use Rattle.std.proofs.Common.{Option, None, Some, refl, sym, ap, subst, arith, add-one, cond}
use Rattle.std.proofs.Common.{get_or, length}
use Rattle.std.specs.Prelude.{IfSome, ◌≤◌}
use Rattle.side_by_side.specs.Going.{first_place, goes, is_later, one_on}
use Rattle.side_by_side.specs.declared.going.Going.{Going}

-- the one of a place goes so
pub record IsChosen (ws : List Going) (k : ℕ) (w d : Going) : Type 0 where
  pub within : k < length ws
  pub at : get_or ws k d ≡ w
  pub does : goes w ≡ true

chosen_behind : (v : Going) (ws : List Going) (k : ℕ) (w d : Going) → IsChosen ws k w d
    → IsChosen (v ∷ ws) (k + 1) w d
chosen_behind v ws k w d is =
    subst (λ (n : ℕ). IsChosen (v ∷ ws) n w d) (sym (add-one k)) (record {
      within = omega (arith, is.within);
      at = is.at;
      does = is.does;
    })

-- behind a first one
chosen_on : (v : Going) (ws : List Going) (later : Option (ℕ × Going)) (k : ℕ) (w d : Going)
    → one_on later ≡ Some (k, w)
    → ((j : ℕ) (u : Going) → later ≡ Some (j, u) → IsChosen ws j u d) → IsChosen (v ∷ ws) k w d
chosen_on v ws None k w d is rest =
    let other : None ≡ Some (k, w) = is in absurd cc
chosen_on v ws (Some x) k w d is rest =
    let same : Some (x.0 + 1, x.1) ≡ Some (k, w) = is in
    let pair : (x.0 + 1, x.1) ≡ (k, w) = cc in
    let place : x.0 + 1 ≡ k = ap (λ (p : ℕ × Going). p.0) pair in
    let going : x.1 ≡ w = ap (λ (p : ℕ × Going). p.1) pair in
    subst (λ (n : ℕ). IsChosen (v ∷ ws) n w d) place
    (subst (λ (u : Going). IsChosen (v ∷ ws) (x.0 + 1) u d) going
    (chosen_behind v ws x.0 x.1 d (rest x.0 x.1 refl)))

-- the first one itself
chosen_here : (v : Going) (ws : List Going) (k : ℕ) (w d : Going) → goes v ≡ true
    → (let first : ℕ × Going = (0, v) in Some first ≡ Some (k, w)) → IsChosen (v ∷ ws) k w d
chosen_here v ws k w d does is =
    let pair : (0, v) ≡ (k, w) = cc in
    let place : 0 ≡ k = ap (λ (p : ℕ × Going). p.0) pair in
    let going : v ≡ w = ap (λ (p : ℕ × Going). p.1) pair in
    subst (λ (n : ℕ). IsChosen (v ∷ ws) n w d) place
    (subst (λ (u : Going). IsChosen (v ∷ ws) 0 u d) going
    (record { within = omega arith; at = refl; does = does }))

chosen_by : (v : Going) (ws : List Going) (later : Option (ℕ × Going)) (b c : Bool) (k : ℕ)
    (w d : Going) → goes v ≡ b → is_later v later ≡ c
    → cond b (cond c (one_on later) (Some (0, v))) (one_on later) ≡ Some (k, w)
    → ((j : ℕ) (u : Going) → later ≡ Some (j, u) → IsChosen ws j u d) → IsChosen (v ∷ ws) k w d
chosen_by v ws later true true k w d does is_late is rest = chosen_on v ws later k w d is rest
chosen_by v ws later true false k w d does is_late is rest = chosen_here v ws k w d does is
chosen_by v ws later false c k w d does is_late is rest = chosen_on v ws later k w d is rest

pub chosen : (ws : List Going) (k : ℕ) (w d : Going) → first_place ws ≡ Some (k, w)
    → IsChosen ws k w d
chosen [] k w d is = let other : None ≡ Some (k, w) = is in absurd cc
chosen (v ∷ ws) k w d is =
    chosen_by v ws (first_place ws) (goes v) (is_later v (first_place ws)) k w d refl refl is
    (λ j u at. chosen ws j u d at)

-- the place of the one that goes first is one of theirs
place_fits_by : (later : Option (ℕ × Going)) (ws : List Going) (count : ℕ)
    → ((j : ℕ) (u : Going) → later ≡ Some (j, u) → j < length ws) → length ws + 1 ≡ count
    → IfSome later (λ x. x.0 + 1 ≤ count)
place_fits_by None ws count is fits = tt
place_fits_by (Some x) ws count is fits =
    let within = is x.0 x.1 refl in omega (arith, within, fits)

pub place_fits : (ws : List Going) (d : Going) (count : ℕ) → length ws + 1 ≡ count
    → IfSome (first_place ws) (λ x. x.0 + 1 ≤ count)
place_fits ws d count fits =
    place_fits_by (first_place ws) ws count (λ j u at. (chosen ws j u d at).within) fits

-- none goes: each is at its end, or isn't read
none_on : (later : Option (ℕ × Going)) → one_on later ≡ None → later ≡ None
none_on None is = refl
none_on (Some x) is = absurd cc

pub record NoneGoes (v : Going) (later : Option (ℕ × Going)) : Type 0 where
  pub stays : goes v ≡ false
  pub rest : later ≡ None

pub none_first : (v : Going) (later : Option (ℕ × Going)) (b c : Bool) → goes v ≡ b
    → is_later v later ≡ c
    → cond b (cond c (one_on later) (Some (0, v))) (one_on later) ≡ None → NoneGoes v later
none_first v None true true stays late is = absurd cc
none_first v (Some x) true true stays late is = absurd cc
none_first v later true false stays late is = absurd cc
none_first v later false c stays late is = record { stays = stays; rest = none_on later is }
