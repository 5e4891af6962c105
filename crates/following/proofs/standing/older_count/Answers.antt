use Rattle.std.proofs.Common.{◌≡◌, ℕ, zero, suc, ◌+◌, ◌<◌, Bool, cond, List, [], ◌∷◌, length, drop}
use Rattle.std.proofs.Common.{get_or, ap, sym, arith}
use Rattle.std.proofs.lemmas.List.{drop_all}
use Rattle.following.specs.Serial.{is_newer}
use Rattle.following.specs.Standing.{place_in}
use Rattle.following.proofs.standing.older_count.Goals as goal

-- one more
at_place : (ts i : ℕ) (w : List ℕ) (b : Bool) → i < length w → b ≡ is_newer ts (get_or w i 0)
    → place_in ts (drop i w) ≡ cond b (suc (place_in ts (drop (suc i) w))) 0
at_place ts i [] b lt e = absurd (omega (arith, lt))
at_place ts zero (t ∷ w) b lt e = ap (λ (x : Bool). cond x (suc (place_in ts w)) 0) (sym e)
at_place ts (suc i) (t ∷ w) b lt e = at_place ts i w b (omega (arith, lt)) e

pub loop-place-init : goal.loop-place-init
loop-place-init c = omega arith

pub returns-then-not-newer-clause-place : goal.returns-then-not-newer-clause-place
returns-then-not-newer-clause-place c =
    let e = at_place c.args.timestamp c.loop-place.place c.args.window.now _
    c.loop-place-test.true c.if-not-newer.ensures in
    omega (arith, c.loop-place.invariant, e)

pub loop-place-preserved : goal.loop-place-preserved
loop-place-preserved c =
    let w : List ℕ = c.args.window.now in
    let ts : ℕ = c.args.timestamp in
    let i : ℕ = c.loop-place.place in
    let e = at_place ts i w _ c.loop-place-test.true c.if-not-newer.ensures in
    let n : place_in ts (drop (suc i) w) ≡ place_in ts (drop (i + 1) w) =
    ap (λ (k : ℕ). place_in ts (drop k w)) (next i) in
    omega (arith, c.loop-place.invariant, e, n)
  where
    next : (i : ℕ) → suc i ≡ i + 1
    next i = omega arith

pub returns-clause-place : goal.returns-clause-place
returns-clause-place c =
    let w : List ℕ = c.args.window.now in
    let ts : ℕ = c.args.timestamp in
    let i : ℕ = c.loop-place.place in
    let e : place_in ts (drop i w) ≡ 0 =
    ap (λ (xs : List ℕ). place_in ts xs) (drop_all i w (omega arith)) in
    omega (arith, c.loop-place.invariant, e)
