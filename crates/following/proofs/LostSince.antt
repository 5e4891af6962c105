-- Since when only datagrams came that were late or too far ahead.
use Rattle.std.proofs.Common.{◌≡◌, ◌⊎◌, ℕ, inl, inr, true, false, List, [], ◌∷◌}
use Rattle.std.proofs.Common.{Option, None, Some, Result, Ok, Err, refl, ap}
use Rattle.path_receiver.specs.declared.answer.Refusal.{Refusal}
use Rattle.following.specs.declared.answer.Followed.{Followed}
use Rattle.following.specs.declared.answer.Followed.TheVariants.{Kept, Due, Late, Far}
use Rattle.following.specs.Restarts.{AreLostSince, NoneKept, Reply, first_lost, is_kept}
use Rattle.following.specs.Restarts.{lost_behind, lost_since}
use Rattle.following.specs.Turned.{is_lost}

abbrev told : ℕ → Result Followed Refusal → Reply
told timestamp answer = record { timestamp = timestamp; answer = answer }

-- so it was before these, and none of them was kept; or since one of them
abbrev Since : Option ℕ → List Reply → ℕ → Type 0
Since before xs since = ((before ≡ Some since) × NoneKept xs) ⊎ AreLostSince xs since

one_before : (x : Reply) (xs : List Reply) (since : ℕ) → AreLostSince xs since
    → AreLostSince (x ∷ xs) since
one_before x xs since is = record {
  before = x ∷ is.before;
  answer = is.answer;
  after = is.after;
  parts = ap (λ (l : List Reply). x ∷ l) is.parts;
  lost = is.lost;
  none_kept = is.none_kept;
}

-- the first of them was lost
here : (t : ℕ) (a : Result Followed Refusal) (xs : List Reply) (since : ℕ) → is_lost a ≡ true
    → t ≡ since → NoneKept xs → AreLostSince (told t a ∷ xs) since
here t a xs since lost at none = record {
  before = [];
  answer = a;
  after = xs;
  parts = ap (λ (n : ℕ). told n a ∷ xs) at;
  lost = lost;
  none_kept = none;
}

-- one that is neither kept nor lost
passed : (before : Option ℕ) (t : ℕ) (a : Result Followed Refusal) (xs : List Reply) (since : ℕ)
    → is_kept a ≡ false → Since before xs since → Since before (told t a ∷ xs) since
passed before t a xs since unkept (inl is) = inl (is.0, (unkept, is.1))
passed before t a xs since unkept (inr is) = inr (one_before (told t a) xs since is)

-- one that is lost
dropped : (before : Option ℕ) (t : ℕ) (a : Result Followed Refusal) (xs : List Reply) (since : ℕ)
    → is_kept a ≡ false → is_lost a ≡ true
    → Since (first_lost before t) xs since
    → Since before (told t a ∷ xs) since
dropped None t a xs since unkept lost (inl is) =
    let same : Some t ≡ Some since = is.0 in
    let at : t ≡ since = cc in inr (here t a xs since lost at is.1)
dropped None t a xs since unkept lost (inr is) = inr (one_before (told t a) xs since is)
dropped (Some u) t a xs since unkept lost (inl is) = inl (is.0, (unkept, is.1))
dropped (Some u) t a xs since unkept lost (inr is) = inr (one_before (told t a) xs since is)

-- one that is kept
kept : (before : Option ℕ) (t : ℕ) (a : Result Followed Refusal) (xs : List Reply) (since : ℕ)
    → Since None xs since → Since before (told t a ∷ xs) since
kept before t a xs since (inl is) = let no : None ≡ Some since = is.0 in absurd cc
kept before t a xs since (inr is) = inr (one_before (told t a) xs since is)

by_answer : (before : Option ℕ) (t : ℕ) (a : Result Followed Refusal) (xs : List Reply) (since : ℕ)
    → Since (lost_since before t a) xs since → Since before (told t a ∷ xs) since
by_answer before t (Ok (Kept number)) xs since is = kept before t (Ok (Kept number)) xs since is
by_answer before t (Ok Due) xs since is = passed before t (Ok Due) xs since refl is
by_answer before t (Ok Late) xs since is = dropped before t (Ok Late) xs since refl refl is
by_answer before t (Ok Far) xs since is = dropped before t (Ok Far) xs since refl refl is
by_answer before t (Err e) xs since is = passed before t (Err e) xs since refl is

since_one : (before : Option ℕ) (xs : List Reply) (since : ℕ)
    → lost_behind before xs ≡ Some since → Since before xs since
since_one before [] since is = inl (is, tt)
since_one before (x ∷ xs) since is =
    by_answer before x.timestamp x.answer xs since
    (since_one (lost_since before x.timestamp x.answer) xs since is)

none_before : (xs : List Reply) (since : ℕ) → Since None xs since → AreLostSince xs since
none_before xs since (inl is) = let no : None ≡ Some since = is.0 in absurd cc
none_before xs since (inr is) = is

pub lost_one : (xs : List Reply) (since : ℕ) → lost_behind None xs ≡ Some since
    → AreLostSince xs since
lost_one xs since is = none_before xs since (since_one None xs since is)
