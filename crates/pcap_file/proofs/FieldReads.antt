-- A field of so many octets, and what is made of it.
use Rattle.std.proofs.Common.{◌≡◌, ℕ, ◌+◌, ◌<◌, ◌≤◌, Bool, true, false, cond, ltb, List, length}
use Rattle.std.proofs.Common.{take, drop, Option, None, Some, Result, Ok, Err, refl, sym, ap, ◌∙◌}
use Rattle.std.proofs.Common.{arith, subst}
use Rattle.std.specs.Prelude.{IfOk, IfErr}
use Rattle.std.proofs.lemmas.Bool.{ltb-true, ltb-false, lt-ltb, le-ltb}
use Rattle.std.proofs.lemmas.List.{drop-drop, length-drop}
use Rattle.st_format.specs.Reading.{◌>>=◌}
use Rattle.pcap_file.specs.declared.fault.RecordingFault.{RecordingFault}
use Rattle.pcap_file.specs.declared.fault.RecordingFault.TheVariants.{Truncated}
use Rattle.pcap_file.specs.Fields.{Fails, field_at, recording_fault_origin}
use Rattle.st_format.specs.Given.{Takes, with_rest, field_by}
use Rattle.pcap_file.specs.NgReading.{skip_at}
use Rattle.st_format.proofs.Origins.{if_content, if_content_weaker}
use Rattle.st_format.proofs.Parsing.{fails_first, fails_pure, fails_then, gives_pure, gives_then}
use Rattle.st_format.proofs.Parsing.{then_reads}

-- ---- a field, and a function of it

abbrev pub made_of : {X : Type 0} → ℕ → (List ℕ → Result X RecordingFault) → List ℕ
    → Result (X × List ℕ) RecordingFault
made_of n pure = then_reads (field_at n) (λ front rest. with_rest (pure front) rest)

pub made_cut : {X : Type 0} (n : ℕ) (pure : List ℕ → Result X RecordingFault)
    (old : Option (List ℕ)) (f : RecordingFault) → Fails (field_at n) old f
    → Fails (made_of n pure) old f
made_cut n pure old f fails =
    fails_first recording_fault_origin (field_at n) (λ front rest. with_rest (pure front) rest) old
    f fails

pub made_gives : {X : Type 0} (n : ℕ) (pure : List ℕ → Result X RecordingFault)
    (old new : Option (List ℕ)) (front : List ℕ) (r : Result X RecordingFault)
    → Takes (field_at n) old new front → r ≡ pure front
    → IfOk r (λ x. Takes (made_of n pure) old new x)
made_gives n pure old new front (Ok x) takes e =
    gives_then (field_at n) (λ front rest. with_rest (pure front) rest) old new new front x takes
    (gives_pure (pure front) new x (sym e))
made_gives n pure old new front (Err f) takes e = tt

pub made_fails : {X : Type 0} (n : ℕ) (pure : List ℕ → Result X RecordingFault)
    (old new : Option (List ℕ)) (front : List ℕ) (r : Result X RecordingFault)
    → Takes (field_at n) old new front → r ≡ pure front
    → IfErr r (λ f. Fails (made_of n pure) old f)
made_fails n pure old new front (Ok x) takes e = tt
made_fails n pure old new front (Err f) takes e =
    fails_then recording_fault_origin (field_at n) (λ front rest. with_rest (pure front) rest) old
    new front f takes
    (fails_pure recording_fault_origin (pure front) new f (sym e))

-- ---- octets that are passed over

abbrev pub cut : Result (Unit {0} × List ℕ) RecordingFault
cut = Err Truncated

abbrev pub gone : List ℕ → Result (Unit {0} × List ℕ) RecordingFault
gone rest = Ok (tt, rest)

abbrev field_cut : Result (List ℕ × List ℕ) RecordingFault
field_cut = Err Truncated

abbrev field_ok : List ℕ × List ℕ → Result (List ℕ × List ℕ) RecordingFault
field_ok x = Ok x

pub skipped : (n : ℕ) (o : List ℕ) → n ≤ length o → skip_at n o ≡ gone (drop n o)
unfolding skip_at
skipped n o long =
    ap (λ (b : Bool). cond b cut (gone (drop n o))) (le-ltb (length o) n long)

pub skip_none : (known : Option (List ℕ)) → Takes (skip_at 0) known known tt
skip_none None = tt
skip_none (Some o) = skipped 0 o (omega arith)

pub record WasSkipped (n : ℕ) (o rest : List ℕ) : Type 0 where
  pub long : n ≤ length o
  pub rest_is : rest ≡ drop n o

abbrev went : Unit {0} × List ℕ → Result (Unit {0} × List ℕ) RecordingFault
went x = Ok x

same_went : (a b : Unit {0} × List ℕ) → went a ≡ went b → a.1 ≡ b.1
same_went a b e =
    let same : a ≡ b = cc in ap (λ (x : Unit {0} × List ℕ). x.1) same

same_gone : (a b : List ℕ) → gone a ≡ gone b → a ≡ b
same_gone a b e = same_went (tt, a) (tt, b) e

was_skipped_at : (n : ℕ) (o rest : List ℕ) (b : Bool) → ltb (length o) n ≡ b
    → cond b cut (gone (drop n o)) ≡ gone rest → WasSkipped n o rest
was_skipped_at n o rest true e h = absurd cc
was_skipped_at n o rest false e h =
    record { long = ltb-false (length o) n e; rest_is = sym (same_gone (drop n o) rest h) }

pub was_skipped : (n : ℕ) (o rest : List ℕ) → skip_at n o ≡ gone rest → WasSkipped n o rest
unfolding skip_at
was_skipped n o rest h = was_skipped_at n o rest (ltb (length o) n) refl h

record WasField (n : ℕ) (o xs rest : List ℕ) : Type 0 where
  pub long : n ≤ length o
  pub rest_is : rest ≡ drop n o

same_rest : (a b : List ℕ × List ℕ) → field_ok a ≡ field_ok b → a.1 ≡ b.1
same_rest a b e = let same : a ≡ b = cc in ap (λ (x : List ℕ × List ℕ). x.1) same

was_field_at : (n : ℕ) (o xs rest : List ℕ) (b : Bool) → ltb (length o) n ≡ b
    → cond b field_cut (field_ok (take n o, drop n o)) ≡ field_ok (xs, rest)
    → WasField n o xs rest
was_field_at n o xs rest true e h = absurd cc
was_field_at n o xs rest false e h =
    record {
      long = ltb-false (length o) n e;
      rest_is = sym (same_rest (take n o, drop n o) (xs, rest) h);
    }

was_field : (n : ℕ) (o xs rest : List ℕ) → field_at n o ≡ field_ok (xs, rest)
    → WasField n o xs rest
unfolding field_by
was_field n o xs rest h = was_field_at n o xs rest (ltb (length o) n) refl h

pub skip_more : (d n : ℕ) (old mid new : Option (List ℕ)) (xs : List ℕ)
    → Takes (skip_at d) old mid tt → Takes (field_at n) mid new xs
    → Takes (skip_at (d + n)) old new tt
skip_more d n None mid new xs p q = tt
skip_more d n (Some o) None new xs p q = absurd p
skip_more d n (Some o) (Some m) None xs p q = absurd q
skip_more d n (Some o) (Some m) (Some r) xs p q =
    let s = was_skipped d o m p in
    let f = was_field n m xs r q in
    let count : length m ≡ length (drop d o) = ap (λ (x : List ℕ). length x) s.rest_is in
    skipped (d + n) o (omega (arith, s.long, f.long, length-drop d o))
    ∙ ap gone (sym (f.rest_is ∙ ap (drop n) s.rest_is ∙ drop-drop n d o))

no_field_at : (n : ℕ) (o : List ℕ) (f : RecordingFault) (b : Bool) → ltb (length o) n ≡ b
    → cond b field_cut (field_ok (take n o, drop n o))
    ≡ (let r : Result (List ℕ × List ℕ) RecordingFault = Err f in r)
    → (length o < n) × (f ≡ Truncated)
no_field_at n o f true e h = (ltb-true (length o) n e, cc)
no_field_at n o f false e h = absurd cc

no_field : (n : ℕ) (o : List ℕ) (f : RecordingFault) → field_at n o ≡ Err f
    → (length o < n) × (f ≡ Truncated)
unfolding field_by
no_field n o f h = no_field_at n o f (ltb (length o) n) refl h

no_skip : (n : ℕ) (o : List ℕ) (f : RecordingFault) → length o < n → f ≡ Truncated
    → skip_at n o ≡ Err f
unfolding skip_at
no_skip n o f short is =
    ap (λ (b : Bool). cond b cut (gone (drop n o))) (lt-ltb (length o) n short)
    ∙ ap (λ (x : RecordingFault). let r : Result (Unit {0} × List ℕ) RecordingFault = Err x in r)
    (sym is)

pub skip_cut : (d n count : ℕ) (old mid : Option (List ℕ)) (f : RecordingFault)
    → d + n ≤ count → Takes (skip_at d) old mid tt → Fails (field_at n) mid f
    → Fails (skip_at count) old f
skip_cut d n count None mid f fits p q = tt
skip_cut d n count (Some o) None f fits p q = absurd p
skip_cut d n count (Some o) (Some m) f fits p q =
    let s = was_skipped d o m p in
    let count_m : length m ≡ length (drop d o) = ap (λ (x : List ℕ). length x) s.rest_is in
    if_content_weaker recording_fault_origin f (field_at n m ≡ Err f) (skip_at count o ≡ Err f)
    (λ e. let h = no_field n m f e in
    no_skip count o f (omega (arith, h.0, length-drop d o)) h.1) q

-- ---- a reading, and another behind it

pub two_gives : {A B : Type 0} (first : List ℕ → Result (A × List ℕ) RecordingFault)
    (next : A → List ℕ → Result (B × List ℕ) RecordingFault) (old mid new : Option (List ℕ)) (x : A)
    (r : Result B RecordingFault) → Takes first old mid x → IfOk r (λ y. Takes (next x) mid new y)
    → IfOk r (λ y. Takes (then_reads first next) old new y)
two_gives first next old mid new x (Ok y) p q = gives_then first next old mid new x y p q
two_gives first next old mid new x (Err f) p q = tt

pub two_fails : {A B : Type 0} (first : List ℕ → Result (A × List ℕ) RecordingFault)
    (next : A → List ℕ → Result (B × List ℕ) RecordingFault) (old mid : Option (List ℕ)) (x : A)
    (r : Result B RecordingFault) → Takes first old mid x → IfErr r (λ f. Fails (next x) mid f)
    → IfErr r (λ f. Fails (then_reads first next) old f)
two_fails first next old mid x (Ok y) p q = tt
two_fails first next old mid x (Err f) p q =
    fails_then recording_fault_origin first next old mid x f p q

-- ---- a value that takes no octets, and a reading by it

abbrev pub pure_reads : {A B : Type 0} → Result A RecordingFault
    → (A → List ℕ → Result (B × List ℕ) RecordingFault) → List ℕ
    → Result (B × List ℕ) RecordingFault
pure_reads r next o = r >>= λ x. next x o

pub pure_cut : {A B : Type 0} (r : Result A RecordingFault)
    (next : A → List ℕ → Result (B × List ℕ) RecordingFault) (old : Option (List ℕ))
    (f : RecordingFault) → r ≡ Err f → Fails (pure_reads r next) old f
pure_cut r next None f e = tt
pure_cut {A} {B} r next (Some o) f e =
    if_content recording_fault_origin f (pure_reads r next o ≡ Err f)
    (ap (λ (q : Result A RecordingFault). q >>= λ x. next x o) e)

pub pure_gives : {A B : Type 0} (r : Result A RecordingFault)
    (next : A → List ℕ → Result (B × List ℕ) RecordingFault) (old new : Option (List ℕ)) (x : A)
    (y : B) → r ≡ Ok x → Takes (next x) old new y → Takes (pure_reads r next) old new y
pure_gives r next None new x y e p = tt
pure_gives r next (Some o) None x y e p = absurd p
pure_gives {A} {B} r next (Some o) (Some rest) x y e p =
    ap (λ (q : Result A RecordingFault). q >>= λ z. next z o) e ∙ p

pub pure_fails : {A B : Type 0} (r : Result A RecordingFault)
    (next : A → List ℕ → Result (B × List ℕ) RecordingFault) (old : Option (List ℕ)) (x : A)
    (f : RecordingFault) → r ≡ Ok x → Fails (next x) old f → Fails (pure_reads r next) old f
pure_fails r next None x f e p = tt
pure_fails {A} {B} r next (Some o) x f e p =
    if_content_weaker recording_fault_origin f (next x o ≡ Err f) (pure_reads r next o ≡ Err f)
    (λ h. ap (λ (q : Result A RecordingFault). q >>= λ z. next z o) e ∙ h) p

pub pure_gives_if : {A B C : Type 0} (view : C → B) (r : Result A RecordingFault)
    (next : A → List ℕ → Result (B × List ℕ) RecordingFault) (old new : Option (List ℕ)) (x : A)
    (q : Result C RecordingFault) → r ≡ Ok x → IfOk q (λ y. Takes (next x) old new (view y))
    → IfOk q (λ y. Takes (pure_reads r next) old new (view y))
pure_gives_if view r next old new x (Ok y) e p = pure_gives r next old new x (view y) e p
pure_gives_if view r next old new x (Err f) e p = tt

pub pure_fails_if : {A B C : Type 0} (r : Result A RecordingFault)
    (next : A → List ℕ → Result (B × List ℕ) RecordingFault) (old : Option (List ℕ)) (x : A)
    (q : Result C RecordingFault) → r ≡ Ok x → IfErr q (λ f. Fails (next x) old f)
    → IfErr q (λ f. Fails (pure_reads r next) old f)
pure_fails_if r next old x (Ok y) e p = tt
pure_fails_if r next old x (Err f) e p = pure_fails r next old x f e p

-- ---- a value that is made of one that was read

abbrev pub mapped : {A B : Type 0} → (A → B) → (List ℕ → Result (A × List ℕ) RecordingFault)
    → List ℕ → Result (B × List ℕ) RecordingFault
mapped make first = then_reads first (λ x rest. Ok (make x, rest))

pub mapped_gives : {A B : Type 0} (make : A → B)
    (first : List ℕ → Result (A × List ℕ) RecordingFault) (old new : Option (List ℕ)) (x : A)
    → Takes first old new x → Takes (mapped make first) old new (make x)
mapped_gives make first None new x p = tt
mapped_gives make first (Some o) None x p = absurd p
mapped_gives {A} {B} make first (Some o) (Some rest) x p =
    ap (λ (q : Result (A × List ℕ) RecordingFault). q >>= λ z.
    (let r : Result (B × List ℕ) RecordingFault = Ok (make z.0, z.1) in r)) p

pub mapped_fails : {A B : Type 0} (make : A → B)
    (first : List ℕ → Result (A × List ℕ) RecordingFault) (old : Option (List ℕ))
    (f : RecordingFault) → Fails first old f → Fails (mapped make first) old f
mapped_fails make first old f p =
    fails_first recording_fault_origin first (λ x rest. Ok (make x, rest)) old f p

-- a field of as many octets
pub field_as : (m n : ℕ) (old new : Option (List ℕ)) (given : List ℕ) → m ≡ n
    → Takes (field_at m) old new given → Takes (field_at n) old new given
field_as m n old new given e p = subst (λ (k : ℕ). Takes (field_at k) old new given) e p
