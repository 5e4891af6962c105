-- What `follow` opens.
use Rattle.std.proofs.Common.{◌≡◌, ℕ, List, [], ◌∷◌, ◌++◌, Option, subst, sym}
use Rattle.std.specs.List.{AllByRecursion}
use Rattle.side_by_side.specs.Side.{closed_side}
use Rattle.side_by_side.specs.declared.side.Side.{Side}
use Rattle.follow_runs.specs.Followed.{AreNewSides}
use Rattle.follow_runs.specs.Pictured.{HasSoundFill, IsFillGiven}
use Rattle.capture_runs.specs.Replayed.{replayed_gave}
use Rattle.capture_runs.specs.declared.replayed.Replayed.{Replayed}

all_more : {X : Type 0} (P : X → Type 0) (xs : List X) (x : X) → AllByRecursion P xs → P x
    → AllByRecursion P (xs ++ x ∷ [])
all_more P [] x all is = (is, tt)
all_more P (y ∷ ys) x all is = (all.0, all_more P ys x all.1 is)

pub new_more : {A : Type 0} (sides : List (Side A Replayed)) (x : Side A Replayed) (r : Replayed)
    → AreNewSides sides → replayed_gave r ≡ [] → x ≡ closed_side r
    → AreNewSides (sides ++ x ∷ [])
new_more sides x r are none is =
    subst (λ (y : Side _ Replayed). AreNewSides (sides ++ y ∷ [])) (sym is)
    (all_more _ sides (closed_side r) are.0 tt, all_more _ sides (closed_side r) are.1 none)

-- a fill that was read
pub says_fill : (text values : Option (List ℕ)) → IsFillGiven text values → HasSoundFill text
says_fill text values is = (values, is)
