-- The frames of a receiver are of its format.
use Rattle.std.proofs.Common.{◌≡◌, ℕ, Bool, true, false, cond, ◌==◌, List, [], ◌∷◌, All, Option}
use Rattle.std.proofs.Common.{Some}
use Rattle.std.proofs.lemmas.List.Elements.{All-head, All-tail}
use Rattle.st_format.specs.declared.format.Format.{Format}
use Rattle.st_format.specs.Raster.{Raster}
use Rattle.path_receiver.specs.Frames.{State, IsReceiver, frame_at}

abbrev IsOf : Format → Raster → Type 0
IsOf f r = r.format ≡ f

chosen_like : (b : Bool) (f : Format) (q r : Raster) (other : Option Raster) → IsOf f q
    → (other ≡ Some r → IsOf f r) → cond b (Some q) other ≡ Some r → IsOf f r
chosen_like true f q r other is rest e = cc
chosen_like false f q r other is rest e = rest e

like : (f : Format) (w : List ℕ) (rs : List Raster) (ts : ℕ) (r : Raster) → All (IsOf f) rs
    → frame_at w rs ts ≡ Some r → IsOf f r
like f [] rs ts r all e = absurd cc
like f (t ∷ w) [] ts r all e = absurd cc
like f (t ∷ w) (q ∷ rs) ts r all e =
    chosen_like (ts == t) f q r (frame_at w rs ts) (All-head (IsOf f) q rs all)
    (like f w rs ts r (All-tail (IsOf f) q rs all)) e

pub frame_like : (s : State) (ts : ℕ) (r : Raster) → IsReceiver s
    → frame_at s.opening.window s.frames ts ≡ Some r → r.format ≡ s.opening.format
frame_like s ts r is e = like s.opening.format s.opening.window s.frames ts r is.of_format e
