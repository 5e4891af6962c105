-- What a fault says of three devices: files, pictures and the output.
use Rattle.std.proofs.Common.{◌≡◌, ◌∙◌, ◌<◌, ℕ, suc, Bool, true, false, not, inl, inr, List, []}
use Rattle.std.proofs.Common.{◌∷◌, OnOk, Result, Ok, Err, ap, arith, eqb, length, refl}
use Rattle.std.proofs.Common.{subst, sym}
use Rattle.std.proofs.lemmas.Bool.{eq-eqb, eqb-true}
use Rattle.recording_reader.specs.declared.fault.ReadingFault.{ReadingFault}
use Rattle.run_outcome.specs.Fault.{Accounts, Blames, counts}
use Rattle.run_outcome.specs.declared.fault.Fault.{Fault}
use Rattle.run_outcome.specs.declared.fault.Fault.TheVariants.{Refused, Device, Memory}
use Rattle.run_outcome.specs.LowerFaults.{reading_fault}
use Rattle.recording_engines.proofs.Blames.{blames_second}

-- the first of three alone
pub blames_files : (f : Fault) (a a' b c : ℕ) → Blames (counts a a' ∷ []) f
    → Blames (counts a a' ∷ counts b b ∷ counts c c ∷ []) f
blames_files (Refused r) a a' b c is = (is, (refl, refl))
blames_files Device a a' b c is = inl is
blames_files Memory a a' b c is = (is, (refl, refl))

-- no device, where the first stayed as it was
pub blames_none : (f : Fault) (a a' b c : ℕ) → a' ≡ a → Blames [] f
    → Blames (counts a a' ∷ counts b b ∷ counts c c ∷ []) f
blames_none (Refused r) a a' b c same is = (same, (refl, refl))
blames_none Device a a' b c same is = absurd is
blames_none Memory a a' b c same is = (same, (refl, refl))

-- any, where the first stayed as it was until then
pub blames_from : (f : Fault) (a m a' b b' c c' : ℕ) → m ≡ a
    → Blames (counts m a' ∷ counts b b' ∷ counts c c' ∷ []) f
    → Blames (counts a a' ∷ counts b b' ∷ counts c c' ∷ []) f
blames_from f a m a' b b' c c' same is =
    subst (λ (n : ℕ). Blames (counts n a' ∷ counts b b' ∷ counts c c' ∷ []) f) same is

-- the last two, where all stayed as they were until then
blames_rest : (f : Fault) (a a' b b' c c' : ℕ) → a' ≡ a
    → Blames (counts b b' ∷ counts c c' ∷ []) f
    → Blames (counts a a' ∷ counts b b' ∷ counts c c' ∷ []) f
blames_rest (Refused r) a a' b b' c c' same is = (same, (is.0, is.1))
blames_rest Device a a' b b' c c' same is = inr is
blames_rest Memory a a' b b' c c' same is = (same, (is.0, is.1))

pub blames_end : (f : Fault) (a a' b m b' c n c' : ℕ) → a' ≡ a → m ≡ b → n ≡ c
    → Blames (counts m b' ∷ counts n c' ∷ []) f
    → Blames (counts a a' ∷ counts b b' ∷ counts c c' ∷ []) f
blames_end f a a' b m b' c n c' first second third is =
    blames_rest f a a' b b' c c' first
    (subst (λ (x : ℕ). Blames (counts x b' ∷ counts c c' ∷ []) f) second
    (subst (λ (x : ℕ). Blames (counts m b' ∷ counts x c' ∷ []) f) third is))

-- the first alone, where the last two stayed as they were
blames_first : (f : Fault) (a a' b b' c c' : ℕ) → b' ≡ b → c' ≡ c → Blames (counts a a' ∷ []) f
    → Blames (counts a a' ∷ counts b b' ∷ counts c c' ∷ []) f
blames_first (Refused r) a a' b b' c c' second third is = (is, (second, third))
blames_first Device a a' b b' c c' second third is = inl is
blames_first Memory a a' b b' c c' second third is = (is, (second, third))

-- so a fault of a file
pub fails_by : (f : Fault) (reading : ReadingFault) (a m a' b b' c c' : ℕ)
    → f ≡ reading_fault reading → m ≡ a → b' ≡ b → c' ≡ c
    → Blames (counts m a' ∷ []) (reading_fault reading)
    → Blames (counts a a' ∷ counts b b' ∷ counts c c' ∷ []) f
fails_by f reading a m a' b b' c c' told first second third is =
    subst (λ (x : Fault). Blames (counts a a' ∷ counts b b' ∷ counts c c' ∷ []) x) (sym told)
    (blames_first (reading_fault reading) a a' b b' c c' second third
    (subst (λ (n : ℕ). Blames (counts n a' ∷ []) (reading_fault reading)) first is))

-- ---- of two, pictures and the output

-- the second of two, where both stayed as they were until then
pub blames_later : (f : Fault) (a a' b m b' : ℕ) → a' ≡ a → m ≡ b → Blames (counts m b' ∷ []) f
    → Blames (counts a a' ∷ counts b b' ∷ []) f
blames_later f a a' b m b' first second is =
    blames_second f a a' b b' first (subst (λ (n : ℕ). Blames (counts n b' ∷ []) f) second is)

-- the first of two alone
pub blames_pictures : (f : Fault) (a a' b : ℕ) → Blames (counts a a' ∷ []) f
    → Blames (counts a a' ∷ counts b b ∷ []) f
blames_pictures (Refused r) a a' b is = (is, refl)
blames_pictures Device a a' b is = inl is
blames_pictures Memory a a' b is = (is, refl)

-- both, where they stayed as they were until then
pub blames_both : (f : Fault) (a m a' b n b' : ℕ) → m ≡ a → n ≡ b
    → Blames (counts m a' ∷ counts n b' ∷ []) f → Blames (counts a a' ∷ counts b b' ∷ []) f
blames_both f a m a' b n b' first second is =
    subst (λ (x : ℕ). Blames (counts x a' ∷ counts b b' ∷ []) f) first
    (subst (λ (x : ℕ). Blames (counts m a' ∷ counts x b' ∷ []) f) second is)

-- the same of what a call came to
pub accounts_both : {V : Type 0} (r : Result V Fault) (a m a' b n b' : ℕ) → m ≡ a → n ≡ b
    → Accounts r (counts m a' ∷ counts n b' ∷ []) → Accounts r (counts a a' ∷ counts b b' ∷ [])
accounts_both r a m a' b n b' first second is =
    subst (λ (x : ℕ). Accounts r (counts x a' ∷ counts b b' ∷ [])) first
    (subst (λ (x : ℕ). Accounts r (counts m a' ∷ counts x b' ∷ [])) second is)

pub accounts_output : {V : Type 0} (r : Result V Fault) (a a' b b' : ℕ) → a' ≡ a
    → Accounts r (counts b b' ∷ []) → Accounts r (counts a a' ∷ counts b b' ∷ [])
accounts_output (Ok v) a a' b b' same is = (same, is)
accounts_output (Err f) a a' b b' same is = blames_second f a a' b b' same is

-- ---- a list that may be empty

pub none_of : {X : Type 0} (xs : List X) (b : Bool) → b ≡ true → b ≡ eqb (length xs) 0 → xs ≡ []
none_of [] b is_so is = refl
none_of (x ∷ xs) b is_so is =
    absurd (more (length xs) (eqb-true (suc (length xs)) 0 (sym is ∙ is_so)))
  where
    more : (n : ℕ) → suc n ≡ 0 → ⊥
    more n e = omega (arith, e)

pub some_of : {X : Type 0} (xs : List X) (b : Bool) → b ≡ false → b ≡ eqb (length xs) 0
    → 0 < length xs
some_of [] b is_not is = let both : true ≡ false = sym is ∙ is_not in absurd cc
some_of (x ∷ xs) b is_not is = omega arith

-- ---- so of octets

pub some_octets : (octets : List ℕ) (b : Bool) → b ≡ false → b ≡ eqb (length octets) 0
    → octets ≡ [] → ⊥
some_octets octets b is_not is none =
    let is_so : b ≡ true = is ∙ ap (λ (l : List ℕ). eqb (length l) 0) none ∙ eq-eqb 0 0 refl in
    let both : true ≡ false = sym is_so ∙ is_not in
    absurd cc

-- the second, where both stayed as they were until then
pub accounts_later : {V : Type 0} (r : Result V Fault) (a a' b m b' : ℕ) → a' ≡ a → m ≡ b
    → Accounts r (counts m b' ∷ []) → Accounts r (counts a a' ∷ counts b b' ∷ [])
accounts_later r a a' b m b' first second is =
    accounts_output r a a' b b' first
    (subst (λ (n : ℕ). Accounts r (counts n b' ∷ [])) second is)

-- the same where it is told the other way round
pub some_octets_at : (octets : List ℕ) (b : Bool) → b ≡ eqb (length octets) 0 → not b ≡ true
    → 0 < length octets
some_octets_at octets true is is_so = absurd cc
some_octets_at [] false is is_so =
    let both : false ≡ true = is ∙ eq-eqb 0 0 refl in absurd cc
some_octets_at (x ∷ octets) false is is_so = omega arith

pub no_octets_at : (octets : List ℕ) (b : Bool) → b ≡ eqb (length octets) 0 → not b ≡ false
    → octets ≡ []
no_octets_at octets true is is_not = none_of octets true refl is
no_octets_at octets false is is_not = absurd cc

-- what holds in any case holds behind a call that succeeded
pub whenever_ok : {V E : Type 0} (r : Result V E) (P : Type 0) → P → OnOk r P
whenever_ok (Ok v) P p = p
whenever_ok (Err e) P p = tt
