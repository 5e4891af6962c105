-- What was read of some sources and of one more.
use Rattle.std.proofs.Common.{◌≡◌, ℕ, suc, List, [], ◌∷◌, ◌++◌, length, refl, ap}
use Rattle.std.specs.List.{AllZip}

-- the octets of some sources and of one more
pub record Split {S : Type 0} (f : S → List ℕ → Type 0) (xs : List S) (x : S)
    (octets : List (List ℕ)) : Type 0 where
  pub front : List (List ℕ)
  pub last : List ℕ
  pub whole : octets ≡ front ++ last ∷ []
  pub counted : length front ≡ length xs
  pub tell : AllZip f xs front
  pub one : f x last

pub split_tell : {S : Type 0} (f : S → List ℕ → Type 0) (xs : List S) (x : S)
    (octets : List (List ℕ)) → AllZip f (xs ++ x ∷ []) octets → Split f xs x octets
split_tell f [] x [] tell = absurd tell
split_tell f [] x (p ∷ []) tell = record {
  front = [];
  last = p;
  whole = refl;
  counted = refl;
  tell = tt;
  one = tell.0;
}
split_tell f [] x (p ∷ (q ∷ ps)) tell = absurd tell.1
split_tell f (y ∷ xs) x [] tell = absurd tell
split_tell f (y ∷ xs) x (p ∷ ps) tell =
    let rest : Split f xs x ps = split_tell f xs x ps tell.1 in
    record {
      front = p ∷ rest.front;
      last = rest.last;
      whole = ap (λ (l : List (List ℕ)). p ∷ l) rest.whole;
      counted = ap suc rest.counted;
      tell = (tell.0, rest.tell);
      one = rest.one;
    }
