-- What a fault says of devices, of which it blames one.
use Rattle.std.proofs.Common.{◌≡◌, ℕ, inl, inr, [], ◌∷◌, subst}
use Rattle.run_outcome.specs.Fault.{Blames, counts}
use Rattle.run_outcome.specs.declared.fault.Fault.{Fault}
use Rattle.run_outcome.specs.declared.fault.Fault.TheVariants.{Refused, Device, Memory}

-- one of two devices stays as it was
pub blames_first : (f : Fault) (a a' b b' : ℕ) → Blames (counts a a' ∷ []) f → b' ≡ b
    → Blames (counts a a' ∷ counts b b' ∷ []) f
blames_first (Refused r) a a' b b' is same = (is, same)
blames_first Device a a' b b' is same = inl is
blames_first Memory a a' b b' is same = (is, same)

pub blames_second : (f : Fault) (a a' b b' : ℕ) → a' ≡ a → Blames (counts b b' ∷ []) f
    → Blames (counts a a' ∷ counts b b' ∷ []) f
blames_second (Refused r) a a' b b' same is = (same, is)
blames_second Device a a' b b' same is = inr is
blames_second Memory a a' b b' same is = (same, is)

-- the second of four does, while files are opened
pub blames_files : (f : Fault) (a a' b b' c c' d d' : ℕ) → a' ≡ a → Blames (counts b b' ∷ []) f
    → c' ≡ c → d' ≡ d
    → Blames (counts a a' ∷ counts b b' ∷ counts c c' ∷ counts d d' ∷ []) f
blames_files (Refused r) a a' b b' c c' d d' first is third fourth = (first, (is, (third, fourth)))
blames_files Device a a' b b' c c' d d' first is third fourth = inr (inl is)
blames_files Memory a a' b b' c c' d d' first is third fourth = (first, (is, (third, fourth)))

-- the last of four does, while the counts are printed
pub blames_output : (f : Fault) (a a' b b' c c' d d' : ℕ) → a' ≡ a → b' ≡ b → c' ≡ c
    → Blames (counts d d' ∷ []) f
    → Blames (counts a a' ∷ counts b b' ∷ counts c c' ∷ counts d d' ∷ []) f
blames_output (Refused r) a a' b b' c c' d d' first second third is = (first, (second, (third, is)))
blames_output Device a a' b b' c c' d d' first second third is = inr (inr (inr is))
blames_output Memory a a' b b' c c' d d' first second third is = (first, (second, (third, is)))

-- one of the two in the middle does
blames_between : (f : Fault) (a a' b b' c c' d d' : ℕ) → a' ≡ a
    → Blames (counts b b' ∷ counts c c' ∷ []) f → d' ≡ d
    → Blames (counts a a' ∷ counts b b' ∷ counts c c' ∷ counts d d' ∷ []) f
blames_between (Refused r) a a' b b' c c' d d' first is fourth = (first, (is.0, (is.1, fourth)))
blames_between Device a a' b b' c c' d d' first (inl is) fourth = inr (inl is)
blames_between Device a a' b b' c c' d d' first (inr is) fourth = inr (inr (inl is))
blames_between Memory a a' b b' c c' d d' first is fourth = (first, (is.0, (is.1, fourth)))

-- so it is while files are joined, that were opened, behind the front of the capture
pub blames_joined : (f : Fault) (a a' b opened b' c front c' d d' : ℕ) → a' ≡ a → opened ≡ b
    → front ≡ c → Blames (counts opened b' ∷ counts front c' ∷ []) f → d' ≡ d
    → Blames (counts a a' ∷ counts b b' ∷ counts c c' ∷ counts d d' ∷ []) f
blames_joined f a a' b opened b' c front c' d d' first second third is fourth =
    blames_between f a a' b b' c c' d d' first
    (subst (λ (n : ℕ). Blames (counts n b' ∷ counts c c' ∷ []) f) second
    (subst (λ (n : ℕ). Blames (counts opened b' ∷ counts n c' ∷ []) f) third is)) fourth
