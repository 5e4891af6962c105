-- The frames of a receiver, each told by a call on it.
use Rattle.std.proofs.Common.{◌≡◌, ℕ, zero, suc, ◌+◌, ◌<◌, Bool, false, cond, eqb, List, []}
use Rattle.std.proofs.Common.{◌∷◌, length, take, get_or, Option, Some, sym, ap, ◌∙◌, subst, arith}
use Rattle.std.specs.List.{AllByRecursion}
use Rattle.std.proofs.lemmas.Bool.{eq-eqb, ne_eqb}
use Rattle.st_format.specs.Member.{IsMember}
use Rattle.st_format.specs.Raster.{Raster}
use Rattle.path_receiver.specs.Frames.{IsReceiver, State, frame_at}
use Rattle.path_receiver.specs.Opening.{AreDifferent}
use Rattle.receiver_file.specs.Saved.{IsFilled}
use Rattle.receiver_file.proofs.KeptRuns.{member_of}

abbrev found_if : Raster → List ℕ → List Raster → ℕ → Bool → Option Raster
found_if r w rs ts b = cond b (Some r) (frame_at w rs ts)

-- one frame more
filled_more : (w : List ℕ) (rs : List Raster) (i t : ℕ) (r : Raster) → AreDifferent w
    → length rs ≡ length w → i < length w → t ≡ get_or w i 0 → frame_at w rs t ≡ Some r → IsFilled r
    → AllByRecursion IsFilled (take i rs) → AllByRecursion IsFilled (take (suc i) rs)
filled_more [] rs i t r diff e lt at is told all = absurd (omega (arith, lt))
filled_more (u ∷ w) [] i t r diff e lt at is told all = absurd (omega (arith, e))
filled_more (u ∷ w) (q ∷ rs) zero t r diff e lt at is told all =
    let first : Some q ≡ Some r = sym (ap (found_if q w rs t) (eq-eqb t u at)) ∙ is in
    let same : q ≡ r = cc in
    (subst IsFilled (sym same) told, tt)
filled_more (u ∷ w) (q ∷ rs) (suc i) t r diff e lt at is told all =
    let inside : IsMember t w
    = subst (λ (k : ℕ). IsMember k w) (sym at) (member_of w i (omega (arith, lt))) in
    let other : eqb t u ≡ false
    = ne_eqb t u (λ (same : t ≡ u). diff.0 (subst (λ (k : ℕ). IsMember k w) same inside)) in
    let rest : frame_at w rs t ≡ Some r = sym (ap (found_if q w rs t) other) ∙ is in
    let len : length rs ≡ length w = omega (arith, e) in
    (all.0, filled_more w rs i t r diff.1 len (omega (arith, lt)) at rest told all.1)

pub filled_next : (s : State) (i t : ℕ) (r : Raster) → IsReceiver s → i < length s.opening.window
    → t ≡ get_or s.opening.window i 0 → frame_at s.opening.window s.frames t ≡ Some r → IsFilled r
    → AllByRecursion IsFilled (take i s.frames) → AllByRecursion IsFilled (take (i + 1) s.frames)
filled_next s i t r is lt at found told all =
    let e : suc i ≡ i + 1 = omega arith in
    let w : List ℕ = s.opening.window in
    subst (λ (n : ℕ). AllByRecursion IsFilled (take n s.frames)) e
    (filled_more w s.frames i t r is.window.different is.one_each lt at found told all)
