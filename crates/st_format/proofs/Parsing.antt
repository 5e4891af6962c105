-- One reading after another.
use Rattle.std.proofs.Common.{◌≡◌, ℕ, ◌<◌, ◌≤◌, Bool, false, cond, ltb, List, ◌++◌, length, take}
use Rattle.std.proofs.Common.{drop, Option, None, Some, Result, Ok, Err, append-nil, sym, ap, ◌∙◌}
use Rattle.std.proofs.Common.{subst, arith}
use Rattle.std.specs.Io.KnownBytes.{Consumes, IsAtEnd}
use Rattle.std.proofs.lemmas.Bool.{lt-ltb, le-ltb}
use Rattle.std.proofs.lemmas.List.{length-append, take_all, take_at, drop_at}
use Rattle.st_format.specs.Given.{FailsBy, Leaves, Origin, Takes, field_by, with_rest}
use Rattle.st_format.specs.Reading.{◌>>=◌}
use Rattle.st_format.proofs.Origins.{if_content, if_content_weaker}

abbrev Reading : Type 0 → Type 0 → Type 0
Reading F X = List ℕ → Result (X × List ℕ) F

abbrev pub then_reads : {F A B : Type 0} → Reading F A → (A → Reading F B) → Reading F B
then_reads first next octets = first octets >>= λ x. next x.0 x.1

pub gives_then : {F A B : Type 0} (first : Reading F A) (next : A → Reading F B)
    (old mid new : Option (List ℕ)) (x : A) (y : B) → Takes first old mid x
    → Takes (next x) mid new y → Takes (then_reads first next) old new y
gives_then first next None mid new x y p q = tt
gives_then first next (Some o) None new x y p q = absurd p
gives_then {F} {A} {B} first next (Some o) (Some m) new x y p q =
    subst (λ (r : Result (A × List ℕ) F). Leaves (r >>= λ z. next z.0 z.1) y new) (sym p) q

pub fails_first : {F A B : Type 0} (origin : F → Origin) (first : Reading F A)
    (next : A → Reading F B) (old : Option (List ℕ)) (f : F) → FailsBy origin first old f
    → FailsBy origin (then_reads first next) old f
fails_first origin first next None f p = tt
fails_first {F} {A} {B} origin first next (Some o) f p =
    if_content_weaker origin f (first o ≡ Err f) (then_reads first next o ≡ Err f)
    (λ e. ap (λ (r : Result (A × List ℕ) F). r >>= λ z. next z.0 z.1) e) p

pub fails_then : {F A B : Type 0} (origin : F → Origin) (first : Reading F A)
    (next : A → Reading F B) (old mid : Option (List ℕ)) (x : A) (f : F) → Takes first old mid x
    → FailsBy origin (next x) mid f → FailsBy origin (then_reads first next) old f
fails_then origin first next None mid x f p q = tt
fails_then origin first next (Some o) None x f p q = absurd p
fails_then {F} {A} {B} origin first next (Some o) (Some m) x f p q =
    if_content_weaker origin f (next x m ≡ Err f) (then_reads first next o ≡ Err f)
    (λ e. ap (λ (r : Result (A × List ℕ) F). r >>= λ z. next z.0 z.1) p ∙ e) q

-- what is made of values that were read takes no octet
pub gives_pure : {F A : Type 0} (r : Result A F) (known : Option (List ℕ)) (x : A) → r ≡ Ok x
    → Takes (with_rest r) known known x
gives_pure r None x e = tt
gives_pure {F} {A} r (Some o) x e = ap (λ (q : Result A F). with_rest q o) e

pub fails_pure : {F A : Type 0} (origin : F → Origin) (r : Result A F) (known : Option (List ℕ))
    (f : F) → r ≡ Err f → FailsBy origin (with_rest r) known f
fails_pure origin r None f e = tt
fails_pure {F} {A} origin r (Some o) f e =
    if_content origin f (with_rest r o ≡ Err f) (ap (λ (q : Result A F). with_rest q o) e)

-- a field that a source gave whole
pub gives_field : {F : Type 0} (cut : F) (n : ℕ) (old new : Option (List ℕ)) (given : List ℕ)
    → length given ≡ n → Consumes old new given → Takes (field_by cut n) old new given
unfolding field_by
gives_field cut n None new given len p = tt
gives_field cut n (Some o) None given len p = absurd p
gives_field {F} cut n (Some o) (Some rest) given len p =
    let short : Result (List ℕ × List ℕ) F = Err cut in
    let long : ltb (length o) n ≡ false =
    le-ltb (length o) n (omega (arith, ap length p, length-append given rest)) in
    ap (λ (b : Bool). cond b short (Ok (take n o, drop n o))) long
    ∙ ap (λ (xs : List ℕ). let r : Result (List ℕ × List ℕ) F = Ok (xs, drop n o) in r)
    (ap (take n) p ∙ take_at given rest n len)
    ∙ ap (λ (xs : List ℕ). let r : Result (List ℕ × List ℕ) F = Ok (given, xs) in r)
    (ap (drop n) p ∙ drop_at given rest n len)

-- one that isn't whole
pub fails_field : {F : Type 0} (origin : F → Origin) (cut : F) (n : ℕ) (old new : Option (List ℕ))
    (given : List ℕ) → length given < n → Consumes old new given → IsAtEnd new
    → FailsBy origin (field_by cut n) old cut
unfolding field_by
fails_field origin cut n None new given short p e = tt
fails_field origin cut n (Some o) None given short p e = absurd p
fails_field {F} origin cut n (Some o) (Some rest) given short p e =
    let all : o ≡ given = p ∙ ap (λ (xs : List ℕ). given ++ xs) e ∙ append-nil given in
    let r : Result (List ℕ × List ℕ) F = Err cut in
    if_content origin cut (field_by cut n o ≡ Err cut)
    (ap (λ (b : Bool). cond b r (Ok (take n o, drop n o)))
    (lt-ltb (length o) n (omega (arith, ap length all))))

-- a source gave all of a list
pub gave_all : (old new : Option (List ℕ)) (n : ℕ) (given : List ℕ)
    → Consumes old new (take n given) → length given ≤ n → Consumes old new given
gave_all old new n given p le = subst (Consumes old new) (take_all n given le) p
