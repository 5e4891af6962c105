-- A chain of tests tells the first fault in the order of numbers.
use Rattle.std.proofs.Common.{◌≡◌, ℕ, ◌+◌, ◌<◌, Bool, true, false, Option, Some, None, Result, Ok}
use Rattle.std.proofs.Common.{Err, refl, ap, subst, ◌∙◌, sym, arith, lit<, inl, inr}
use Rattle.std.specs.Prelude.{◌==◌, if◌then◌else◌}
use Rattle.std.proofs.lemmas.Bool.{cases_lt}
use Rattle.sdp_format.specs.declared.fault.SdpFault.{SdpFault}
use Rattle.sdp_format.specs.declared.fault.SdpFault.TheVariants.{NoMemory, NoVideo, TooManyLegs}
use Rattle.sdp_format.specs.declared.fault.SdpFault.TheVariants.{BadMediaLine, NoRtpmap}
use Rattle.sdp_format.specs.declared.fault.SdpFault.TheVariants.{NotRaw90000, NoFmtp, BadParameter}
use Rattle.sdp_format.specs.declared.fault.SdpFault.TheVariants.{DoubleParameter, MissingParameter}
use Rattle.sdp_format.specs.declared.fault.SdpFault.TheVariants.{UnsupportedSampling}
use Rattle.sdp_format.specs.declared.fault.SdpFault.TheVariants.{UnsupportedDepth, Interlaced}
use Rattle.sdp_format.specs.declared.fault.SdpFault.TheVariants.{UnsupportedPacking, BadSsn}
use Rattle.sdp_format.specs.declared.fault.SdpFault.TheVariants.{BadFormat, LegsDiffer}
use Rattle.sdp_format.specs.Faults.{sdp_fault_number}
use Rattle.sdp_format.specs.Reading.{value_or_fault, fault_where}
use Rattle.st_format.specs.Reading.{◌>>=◌}

fault_at : ℕ → SdpFault
fault_at n =
    if n == 1 then NoMemory
    else (if n == 2 then NoVideo
    else (if n == 3 then TooManyLegs else (if n == 4 then BadMediaLine else
    (if n == 5 then NoRtpmap
    else (if n == 6 then NotRaw90000
    else (if n == 7 then NoFmtp else (if n == 8 then BadParameter else
    (if n == 9 then DoubleParameter
    else (if n == 10 then MissingParameter else (if n == 11 then UnsupportedSampling else
    (if n == 12 then UnsupportedDepth
    else (if n == 13 then Interlaced else (if n == 14 then UnsupportedPacking else
    (if n == 15 then BadSsn else (if n == 16 then BadFormat else LegsDiffer)))))))))))))))

numbered : (f : SdpFault) → fault_at (sdp_fault_number f) ≡ f
unfolding fault_at
numbered NoMemory = refl
numbered NoVideo = refl
numbered TooManyLegs = refl
numbered BadMediaLine = refl
numbered NoRtpmap = refl
numbered NotRaw90000 = refl
numbered NoFmtp = refl
numbered BadParameter = refl
numbered DoubleParameter = refl
numbered MissingParameter = refl
numbered UnsupportedSampling = refl
numbered UnsupportedDepth = refl
numbered Interlaced = refl
numbered UnsupportedPacking = refl
numbered BadSsn = refl
numbered BadFormat = refl
numbered LegsDiffer = refl

-- no two faults have one number
pub number_same : (f g : SdpFault) → sdp_fault_number f ≡ sdp_fault_number g → f ≡ g
number_same f g e = sym (numbered f) ∙ ap fault_at e ∙ numbered g

pub number_small : (f : SdpFault) → sdp_fault_number f < 18
number_small NoMemory = lit< tt
number_small NoVideo = lit< tt
number_small TooManyLegs = lit< tt
number_small BadMediaLine = lit< tt
number_small NoRtpmap = lit< tt
number_small NotRaw90000 = lit< tt
number_small NoFmtp = lit< tt
number_small BadParameter = lit< tt
number_small DoubleParameter = lit< tt
number_small MissingParameter = lit< tt
number_small UnsupportedSampling = lit< tt
number_small UnsupportedDepth = lit< tt
number_small Interlaced = lit< tt
number_small UnsupportedPacking = lit< tt
number_small BadSsn = lit< tt
number_small BadFormat = lit< tt
number_small LegsDiffer = lit< tt

-- No condition with a smaller number holds
pub record Below (C : SdpFault → Type 0) (n : ℕ) : Type 0 where
  pub none : (g : SdpFault) → sdp_fault_number g < n → C g → ⊥

-- one condition more that does not hold
pub more : (C : SdpFault → Type 0) (f : SdpFault) (n : ℕ) → n ≡ sdp_fault_number f + 1
    → Below C (sdp_fault_number f) → (C f → ⊥) → Below C n
more C f n e b fails = record {
  none = λ g less c. elim (cases_lt (sdp_fault_number g) (sdp_fault_number f)) [
    | inl h ↦ b.none g h c
    | inr h ↦ let same : sdp_fault_number g ≡ sdp_fault_number f =
        omega arith in fails (subst C (number_same g f same) c)
  ];
}

pub none_at_all : (C : SdpFault → Type 0) → Below C 18 → (g : SdpFault) → C g → ⊥
none_at_all C b g c = b.none g (number_small g) c

-- What is read is so, and no condition below n holds; or the condition of the fault that is told
-- holds, and none before it
abbrev pub Told : {X : Type 0} → ℕ → (SdpFault → Type 0) → (X → Type 0) → Result X SdpFault → Type 0
Told n C R (Ok x) = R x × Below C n
Told n C R (Err f) = C f × Below C (sdp_fault_number f)

pub refuse : {X : Type 0} (n : ℕ) (C : SdpFault → Type 0) (R : X → Type 0) (f : SdpFault) (t : Bool)
    (k : Unit {0} → Result X SdpFault) → Below C (sdp_fault_number f)
    → (t ≡ true → C f) → (t ≡ false → C f → ⊥)
    → (t ≡ false → Below C (sdp_fault_number f + 1) → Told n C R (k tt))
    → Told n C R (fault_where f t >>= k)
refuse n C R f true k b holds fails rest = (holds refl, b)
refuse n C R f false k b holds fails rest =
    rest refl (more C f (sdp_fault_number f + 1) refl b (fails refl))

pub want : {A X : Type 0} (n : ℕ) (C : SdpFault → Type 0) (R : X → Type 0) (f : SdpFault)
    (o : Option A) (k : A → Result X SdpFault) → Below C (sdp_fault_number f)
    → (o ≡ None → C f) → ((x : A) → o ≡ Some x → C f → ⊥)
    → ((x : A) → o ≡ Some x → Below C (sdp_fault_number f + 1) → Told n C R (k x))
    → Told n C R (value_or_fault f o >>= k)
want n C R f None k b holds fails rest = (holds refl, b)
want n C R f (Some x) k b holds fails rest =
    rest x refl (more C f (sdp_fault_number f + 1) refl b (fails x refl))

-- a value that is there for another reason
pub there : {A X : Type 0} (n : ℕ) (C : SdpFault → Type 0) (R : X → Type 0) (f : SdpFault)
    (o : Option A) (k : A → Result X SdpFault)
    → (o ≡ None → ⊥) → ((x : A) → o ≡ Some x → Told n C R (k x))
    → Told n C R (value_or_fault f o >>= k)
there n C R f None k some rest = absurd (some refl)
there n C R f (Some x) k some rest = rest x refl

pub follow : {X Y : Type 0} (m n : ℕ) (C : SdpFault → Type 0) (Q : X → Type 0) (R : Y → Type 0)
    (r : Result X SdpFault) (k : X → Result Y SdpFault)
    → Told m C Q r → ((x : X) → Q x → Below C m → Told n C R (k x)) → Told n C R (r >>= k)
follow m n C Q R (Ok x) k told rest = rest x told.0 told.1
follow m n C Q R (Err f) k told rest = told
