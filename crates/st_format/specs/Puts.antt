-- Datagrams put into a sink one after the other, by what a call does to it (own).
use Rattle.std.specs.Prelude.{◌≡◌, ℕ, List, [], ◌∷◌, take, drop}

-- A sink took datagrams, in this order: each call does what `takes` says.
abbrev pub TakesEach : {S : Type 0} → (S → List ℕ → S → Type 0) → S → List (List ℕ) → S → Type 0
TakesEach {S} takes old [] new = new ≡ old
TakesEach {S} takes old (d ∷ ds) new = (next : S) × takes old d next × TakesEach takes next ds new

-- A sink took the first of some datagrams, so many, and failed at the next.
pub record FailsAt {S : Type 0} (takes fails : S → List ℕ → S → Type 0) (old : S)
    (datagrams : List (List ℕ)) (count : ℕ) (new : S) : Type 0 where
  pub last : S
  pub datagram : List ℕ
  pub more : List (List ℕ)
  pub behind : drop count datagrams ≡ datagram ∷ more
  pub taken : TakesEach takes old (take count datagrams) last
  pub failed : fails last datagram new
