-- A refusal, whatever else a call could have given.
use Rattle.std.proofs.Common.{◌≡◌, ◌≢◌, ◌↔◌, ℕ, List, Result, Ok, Err, IfErr, IfOk}
use Rattle.std.proofs.Common.{length, refl, arith, ap, inl, inr, subst, sym, ◌∙◌}
use Rattle.std.specs.Result.{IsErrAnd}
use Rattle.st_format.specs.declared.format.Format.{Format}
use Rattle.key_mix.specs.Jobs.{IsFault, IsRefusal, IsSoundJob, inputs_of}
use Rattle.key_mix.specs.declared.WipeShape.{WipeShape}
use Rattle.key_mix.specs.declared.Job.{Job}
use Rattle.key_mix.specs.declared.Job.TheVariants.{Limit, Gain, ToYcc444, ToYcc422, Wipe, Key}
use Rattle.key_mix.specs.declared.faults.JobFault.{JobFault}
use Rattle.key_mix.specs.declared.faults.JobFault.TheVariants.{NoMemory, WrongInputCount}

-- results of a type that is named
abbrev pub err : (T : Type 0) → {E : Type 0} → E → Result T E
err T e = Err e

abbrev pub ok : {T : Type 0} → (E : Type 0) → T → Result T E
ok E x = Ok x

abbrev pub fault_of : {T E : Type 0} → E → Result T E → E
fault_of d (Ok x) = d
fault_of d (Err e) = e

pub other_err : {T U E A : Type 0} → (e d : E) → (err T e ≡ err T d) ↔ A
    → (err U e ≡ err U d) ↔ A
other_err {T} {U} e d when = (
  λ h. when.0 (ap (λ (r : Result U _). err T (fault_of e r)) h),
  λ a. ap (λ (r : Result T _). err U (fault_of e r)) (when.1 a),
)

-- what a `?` gives back is no value
pub no_value : {T E : Type 0} (P : T → Type 0) (Q : E → Type 0) (r : Result T E) → IsErrAnd r Q
    → IfOk r P
no_value P Q (Ok x) h = absurd h
no_value P Q (Err e) h = tt

-- it is the refusal of a test, or want of memory where nothing speaks against the job
pub refused : {T : Type 0} (r : Result T JobFault) (e : JobFault) (j : Job) (fs gs : List Format)
    → fs ≡ gs → IsErrAnd r (λ x. x ≡ e) → IsRefusal e j fs → IfErr r (λ x. IsFault x j gs)
refused (Ok x) e j fs gs same h is = absurd h
refused (Err x) e j fs gs same h is =
    inr (subst (λ y. IsRefusal y j gs) (sym h) (subst (IsRefusal e j) same is))

pub fault_is : {T : Type 0} (r : Result T JobFault) (e : JobFault) (j k : Job) (fs : List Format)
    → k ≡ j → IsErrAnd r (λ x. x ≡ e) → IsFault e j fs → IfErr r (λ x. IsFault x k fs)
fault_is (Ok x) e j k fs same h is = absurd h
fault_is (Err x) e j k fs same h is =
    subst (λ i. IsFault x i fs) (sym same) (subst (λ y. IsFault y j fs) (sym h) is)

pub no_memory_left : {T : Type 0} (r : Result T JobFault) (j : Job) (fs gs : List Format) → fs ≡ gs
    → IsErrAnd r (λ x. x ≡ NoMemory) → IsSoundJob j fs → IfErr r (λ x. IsFault x j gs)
no_memory_left (Ok x) j fs gs same h is = absurd h
no_memory_left (Err x) j fs gs same h is = inl (h, subst (IsSoundJob j) same is)

pub no_fault : {T E : Type 0} (x : T) (e : E) → ok E x ≡ err T e → ⊥
no_fault x e h = cc

-- where a test gave no fault, one that the test alone gives doesn't come later
pub never_later : {T U A : Type 0} (x : T) (d : JobFault) (r : Result U JobFault)
    → IsErrAnd r (λ y. y ≡ NoMemory) → (NoMemory ≡ d → ⊥)
    → (ok JobFault x ≡ err T d) ↔ A → (r ≡ err U d) ↔ A
never_later x d (Ok y) h apart when = absurd h
never_later x d (Err e) h apart when = (
  λ is. absurd (apart (sym h ∙ ap (fault_of e) is)),
  λ a. absurd (no_fault x d (when.1 a)),
)

pub never_ok : {T U A : Type 0} (x : T) (d : JobFault) (y : U) → (ok JobFault x ≡ err T d) ↔ A
    → (ok JobFault y ≡ err U d) ↔ A
never_ok x d y when =
    (λ is. absurd (no_fault y d is), λ a. absurd (no_fault x d (when.1 a)))

-- a job of another number of pictures
pub wrong_count : (j : Job) (fs : List Format) → length fs ≢ inputs_of j
    → IsFault WrongInputCount j fs
wrong_count j fs not =
    inr (record { is = not; first = λ other before against. absurd (omega (arith, before)) })

two_not_one : ◌≢◌ {A = ℕ} 2 1
two_not_one h = absurd (omega (arith, h))

two_not_three : ◌≢◌ {A = ℕ} 2 3
two_not_three h = absurd (omega (arith, h))

three_not_one : ◌≢◌ {A = ℕ} 3 1
three_not_one h = absurd (omega (arith, h))

pub not_two : (j : Job) → ((w : WipeShape) → j ≡ Wipe w → ⊥) → 2 ≢ inputs_of j
not_two (Limit range) not h = two_not_one h
not_two (Gain gain) not h = two_not_one h
not_two ToYcc444 not h = two_not_one h
not_two ToYcc422 not h = two_not_one h
not_two (Wipe w) not h = absurd (not w refl)
not_two Key not h = two_not_three h

pub not_three : (j : Job) → (j ≡ Key → ⊥) → 3 ≢ inputs_of j
not_three (Limit range) not h = three_not_one h
not_three (Gain gain) not h = three_not_one h
not_three ToYcc444 not h = three_not_one h
not_three ToYcc422 not h = three_not_one h
not_three (Wipe w) not h = two_not_three (sym h)
not_three Key not h = absurd (not refl)
