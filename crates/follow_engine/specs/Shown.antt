-- Frames that are shown (own).
use Rattle.std.specs.Prelude.{◌≡◌, ◌⊎◌, ℕ, List, [], ◌∷◌, ◌++◌, Option, None, Some}
use Rattle.following.specs.Following.{Handed}

-- a sink took frames, one after the other
abbrev pub TakesEachFrame : {K : Type 0} → (K → Handed → K → Type 0) → K → List Handed → K → Type 0
TakesEachFrame takes old [] new = new ≡ old
TakesEachFrame takes old (h ∷ hs) new =
    (mid : _) × takes old h mid × TakesEachFrame takes mid hs new

-- a sink that may be none took a frame: where there is none it stays so
abbrev pub TakesIn : {K : Type 0} → (K → Handed → K → Type 0) → Option K → Handed → Option K
    → Type 0
TakesIn takes None h l = l ≡ None
TakesIn takes (Some k) h None = ⊥
TakesIn takes (Some k) h (Some l) = takes k h l

-- and so where it failed at one, which none does
abbrev pub FailsIn : {K : Type 0} → (K → Handed → K → Type 0) → Option K → Handed → Option K
    → Type 0
FailsIn fails None h l = ⊥
FailsIn fails (Some k) h None = ⊥
FailsIn fails (Some k) h (Some l) = fails k h l

-- A history grew by some first part of these octets: none of them, all, or what is between.
pub record GrowsSome (old new octets : List ℕ) : Type 0 where
  pub part : List ℕ
  pub rest : List ℕ
  pub parts : octets ≡ part ++ rest
  pub grown : new ≡ old ++ part

-- behind the frames that a sink took it stays as it is, or it failed at the next one
abbrev pub IsCutAtFrame : {K : Type 0} → (K → Handed → K → Type 0) → K → List Handed → K → Type 0
IsCutAtFrame fails mid [] new = new ≡ mid
IsCutAtFrame fails mid (h ∷ hs) new = (new ≡ mid) ⊎ fails mid h new

-- A sink took some first of these frames: none of them, all, or what is between; and no more, but
-- that it may have failed at the next one.
pub record TakesSome {K : Type 0} (takes fails : K → Handed → K → Type 0) (old : K)
    (frames : List Handed) (new : K) : Type 0 where
  pub shown : List Handed
  pub rest : List Handed
  pub parts : frames ≡ shown ++ rest
  pub mid : K
  pub taken : TakesEachFrame takes old shown mid
  pub cut : IsCutAtFrame fails mid rest new
