-- One reading after another, of what a source was to give and of what it gave.
use Rattle.std.proofs.Common.{◌≡◌, ℕ, ◌+◌, ◌<◌, ◌≤◌, Bool, false, cond, ltb, List, []}
use Rattle.std.proofs.Common.{◌++◌, length, take, drop, Option, None, Some, Result, Ok, Err}
use Rattle.std.proofs.Common.{append_assoc, append-nil, sym, ap, ◌∙◌, arith}
use Rattle.std.specs.Prelude.{IfErr, IfOk}
use Rattle.std.proofs.KnownBytes.{Consumes-nil, Consumes-trans}
use Rattle.std.proofs.lemmas.Bool.{lt-ltb, le-ltb}
use Rattle.std.proofs.lemmas.List.{length-append, take_at, drop_at}
use Rattle.st_format.specs.Given.{GavePart, GaveValue, Takes, field_by, with_rest}
use Rattle.st_format.specs.Reading.{◌>>=◌}
use Rattle.picture_forms.specs.declared.fault.FormFault.{FormFault}
use Rattle.picture_forms.specs.declared.fault.FormFault.TheVariants.{NoMemory, Device, BadMagic}
use Rattle.picture_forms.specs.declared.fault.FormFault.TheVariants.{BadHeader, UnsupportedForm}
use Rattle.picture_forms.specs.declared.fault.FormFault.TheVariants.{BadFormat, Truncated}
use Rattle.picture_forms.specs.declared.fault.FormFault.TheVariants.{ValueTooLarge}
use Rattle.picture_forms.specs.Faults.{IfContent, IsShown}
use Rattle.picture_forms.specs.Walks.{Fails, GaveFault, Gives, IsCut, IsFaultIn, IsNoValue, IsShort}
use Rattle.picture_forms.specs.Walks.{Reads, Refuses, field_at}

abbrev pub Reading : Type 0 → Type 0
Reading X = List ℕ → Result (X × List ℕ) FormFault

abbrev pub then_reads : {X Y : Type 0} → Reading X → (X → Reading Y) → Reading Y
then_reads first next octets = first octets >>= λ x. next x.0 x.1

-- ---- what was given

pub gives_none : (o : Option (List ℕ)) (l : List ℕ) → Gives o o l l []
gives_none o l = record { given = Consumes-nil o; grown = sym (append-nil l) }

pub gives_both : (w m l : Option (List ℕ)) (a b c xs ys : List ℕ) → Gives w m a b xs
    → Gives m l b c ys → Gives w l a c (xs ++ ys)
gives_both w m l a b c xs ys p q = record {
  given = Consumes-trans w m l xs ys p.given q.given;
  grown = q.grown ∙ ap (λ (t : List ℕ). t ++ ys) p.grown ∙ append_assoc a xs ys;
}

-- ---- a value

-- of octets that were given
pub reads_of : {X : Type 0} (r : Reading X) (w l : Option (List ℕ)) (a b octets : List ℕ) (x : X)
    → Gives w l a b octets → ((behind : List ℕ) → r (octets ++ behind) ≡ Ok (x, behind))
    → Reads r w l a b x
reads_of r w l a b octets x p says = record { part = octets; gives = p; says = says }

-- of two readings
pub reads_then : {X Y : Type 0} (first : Reading X) (next : X → Reading Y)
    (w m l : Option (List ℕ)) (a b c : List ℕ) (x : X) (y : Y) → Reads first w m a b x
    → Reads (next x) m l b c y → Reads (then_reads first next) w l a c y
reads_then {X} {Y} first next w m l a b c x y p q = record {
  part = p.part ++ q.part;
  gives = gives_both w m l a b c p.part q.part p.gives q.gives;
  says = λ behind.
      ap (then_reads first next) (append_assoc p.part q.part behind)
      ∙ ap (λ (r : Result (X × List ℕ) FormFault). r >>= λ z. next z.0 z.1)
      (p.says (q.part ++ behind))
      ∙ q.says behind;
}

-- of a value that was made of what was read
pub reads_pure : {X : Type 0} (r : Result X FormFault) (o : Option (List ℕ)) (l : List ℕ) (x : X)
    → r ≡ Ok x → Reads (with_rest r) o o l l x
reads_pure {X} r o l x e = record {
  part = [];
  gives = gives_none o l;
  says = λ behind. ap (λ (q : Result X FormFault). with_rest q behind) e;
}

-- ---- a fault

finds_first : {X Y : Type 0} (first : Reading X) (next : X → Reading Y) (f : FormFault)
    (part : List ℕ) (l : Option (List ℕ)) (e : Type 0) → IsFaultIn first f part l e
    → IsFaultIn (then_reads first next) f part l e
finds_first {X} {Y} first next f part l e p = by f p
  where
    on : (o : List ℕ) (g : FormFault) → first o ≡ Err g → then_reads first next o ≡ Err g
    on o g is = ap (λ (r : Result (X × List ℕ) FormFault). r >>= λ z. next z.0 z.1) is

    by : (f : FormFault) → IsFaultIn first f part l e → IsFaultIn (then_reads first next) f part l e
    by NoMemory p = (p.0, on part p.0 p.1)
    by Device p = (p.0, on part p.0 p.1)
    by BadMagic p = λ behind. on (part ++ behind) BadMagic (p behind)
    by BadHeader p = λ behind. on (part ++ behind) BadHeader (p behind)
    by UnsupportedForm p = λ behind. on (part ++ behind) UnsupportedForm (p behind)
    by BadFormat p = λ behind. on (part ++ behind) BadFormat (p behind)
    by Truncated p = (p.0, (p.1.0, on part Truncated p.1.1))
    by ValueTooLarge p = λ behind. on (part ++ behind) ValueTooLarge (p behind)

pub refuses_first : {X Y : Type 0} (first : Reading X) (next : X → Reading Y)
    (w l : Option (List ℕ)) (a b : List ℕ) (e : Type 0) (f : FormFault)
    → Refuses first w l a b e f → Refuses (then_reads first next) w l a b e f
refuses_first first next w l a b e f p = record {
  part = p.part;
  gives = p.gives;
  finds = finds_first first next f p.part l e p.finds;
}

-- a fault behind octets that were given, of which another reading tells
finds_behind : {X Y : Type 0} (r : Reading X) (s : Reading Y) (front part : List ℕ)
    (f : FormFault) (l : Option (List ℕ)) (e : Type 0)
    → ((o : List ℕ) (g : FormFault) → r o ≡ Err g → s (front ++ o) ≡ Err g)
    → IsFaultIn r f part l e → IsFaultIn s f (front ++ part) l e
finds_behind {X} {Y} r s front part f l e step p = by f p
  where
    on : (g : FormFault) (behind : List ℕ) → r (part ++ behind) ≡ Err g
        → s ((front ++ part) ++ behind) ≡ Err g
    on g behind is =
        ap s (append_assoc front part behind) ∙ step (part ++ behind) g is

    by : (f : FormFault) → IsFaultIn r f part l e → IsFaultIn s f (front ++ part) l e
    by NoMemory p = (p.0, step part p.0 p.1)
    by Device p = (p.0, step part p.0 p.1)
    by BadMagic p = λ behind. on BadMagic behind (p behind)
    by BadHeader p = λ behind. on BadHeader behind (p behind)
    by UnsupportedForm p = λ behind. on UnsupportedForm behind (p behind)
    by BadFormat p = λ behind. on BadFormat behind (p behind)
    by Truncated p = (p.0, (p.1.0, step part Truncated p.1.1))
    by ValueTooLarge p = λ behind. on ValueTooLarge behind (p behind)

pub refuses_behind : {X Y : Type 0} (r : Reading X) (s : Reading Y) (w m l : Option (List ℕ))
    (a b c front : List ℕ) (e : Type 0) (f : FormFault) → Gives w m a b front
    → ((o : List ℕ) (g : FormFault) → r o ≡ Err g → s (front ++ o) ≡ Err g)
    → Refuses r m l b c e f → Refuses s w l a c e f
refuses_behind r s w m l a b c front e f p step q = record {
  part = front ++ q.part;
  gives = gives_both w m l a b c front q.part p q.gives;
  finds = finds_behind r s front q.part f l e step q.finds;
}

-- of the second of two readings
pub refuses_then : {X Y : Type 0} (first : Reading X) (next : X → Reading Y)
    (w m l : Option (List ℕ)) (a b c : List ℕ) (e : Type 0) (x : X) (f : FormFault)
    → Reads first w m a b x → Refuses (next x) m l b c e f
    → Refuses (then_reads first next) w l a c e f
refuses_then {X} {Y} first next w m l a b c e x f p q =
    refuses_behind (next x) (then_reads first next) w m l a b c p.part e f p.gives
    (λ o g is. ap (λ (r : Result (X × List ℕ) FormFault). r >>= λ z. next z.0 z.1) (p.says o)
    ∙ is) q

-- what octets show by themselves
finds_shown : {X : Type 0} (r : Reading X) (part : List ℕ) (l : Option (List ℕ)) (e : Type 0)
    (f : FormFault) → IsShown f → ((behind : List ℕ) → r (part ++ behind) ≡ Err f)
    → IsFaultIn r f part l e
finds_shown r part l e NoMemory is p = absurd is
finds_shown r part l e Device is p = absurd is
finds_shown r part l e BadMagic is p = p
finds_shown r part l e BadHeader is p = p
finds_shown r part l e UnsupportedForm is p = p
finds_shown r part l e BadFormat is p = p
finds_shown r part l e Truncated is p = absurd is
finds_shown r part l e ValueTooLarge is p = p

pub refuses_of : {X : Type 0} (r : Reading X) (w l : Option (List ℕ)) (a b octets : List ℕ)
    (e : Type 0) (f : FormFault) → IsShown f → Gives w l a b octets
    → ((behind : List ℕ) → r (octets ++ behind) ≡ Err f) → Refuses r w l a b e f
refuses_of r w l a b octets e f is p says = record {
  part = octets;
  gives = p;
  finds = finds_shown r octets l e f is says;
}

pub refuses_pure : {X : Type 0} (r : Result X FormFault) (o : Option (List ℕ)) (l : List ℕ)
    (e : Type 0) (f : FormFault) → IsShown f → r ≡ Err f → Refuses (with_rest r) o o l l e f
refuses_pure {X} r o l e f is err =
    refuses_of (with_rest r) o o l l [] e f is (gives_none o l)
    (λ behind. ap (λ (q : Result X FormFault). with_rest q behind) err)

-- ---- the same octets, by another name of the reading

pub reads_same : {X : Type 0} (r s : Reading X) (w l : Option (List ℕ)) (a b : List ℕ) (x : X)
    → ((o : List ℕ) → s o ≡ r o) → Reads r w l a b x → Reads s w l a b x
reads_same r s w l a b x same p = record {
  part = p.part;
  gives = p.gives;
  says = λ behind. same (p.part ++ behind) ∙ p.says behind;
}

pub refuses_same : {X : Type 0} (r s : Reading X) (w l : Option (List ℕ)) (a b : List ℕ)
    (e : Type 0) (f : FormFault) → ((o : List ℕ) → s o ≡ r o) → Refuses r w l a b e f
    → Refuses s w l a b e f
refuses_same r s w l a b e f same p =
    refuses_behind r s w w l a a b [] e f (gives_none w a) (λ o g is. same o ∙ is) p

-- ---- a value that is made of what was read

pub pure_reads : {X Y : Type 0} (first : Reading X) (make : X → Result Y FormFault)
    (w l : Option (List ℕ)) (a b : List ℕ) (x : X) (r : Result Y FormFault)
    → Reads first w l a b x → r ≡ make x
    → IfOk r (λ y. Reads (then_reads first (λ z rest. with_rest (make z) rest)) w l a b y)
pure_reads first make w l a b x (Ok y) p is =
    reads_then first (λ z rest. with_rest (make z) rest) w l l a b b x y p
    (reads_pure (make x) l b y (sym is))
pure_reads first make w l a b x (Err f) p is = tt

pub pure_refuses : {X Y : Type 0} (first : Reading X) (make : X → Result Y FormFault)
    (w l : Option (List ℕ)) (a b : List ℕ) (e : Type 0) (x : X) (r : Result Y FormFault)
    → Reads first w l a b x → r ≡ make x → IfErr r IsShown
    → IfErr r (λ f. Refuses (then_reads first (λ z rest. with_rest (make z) rest)) w l a b e f)
pure_refuses first make w l a b e x (Ok y) p is shown = tt
pure_refuses first make w l a b e x (Err f) p is shown =
    refuses_then first (λ z rest. with_rest (make z) rest) w l l a b b e x f p
    (refuses_pure (make x) l b e f shown (sym is))

-- ---- a value and what is behind it

value_in : {X : Type 0} → X × List ℕ → Result (X × List ℕ) FormFault → X × List ℕ
value_in d (Ok z) = z
value_in d (Err f) = d

pub same_value : {X : Type 0} (q : Result (X × List ℕ) FormFault) (x y : X) (left rest : List ℕ)
    → q ≡ Ok (x, left) → q ≡ Ok (y, rest) → (y ≡ x) × (rest ≡ left)
unfolding value_in
same_value {X} q x y left rest a b =
    let e = ap (value_in (x, left)) (sym b ∙ a) in
    (ap (λ (z : X × List ℕ). z.0) e, ap (λ (z : X × List ℕ). z.1) e)

-- ---- fields

abbrev pub cut : Result (List ℕ × List ℕ) FormFault
cut = Err Truncated

pub field_again : (n : ℕ) (octets behind : List ℕ) → length octets ≡ n
    → field_at n (octets ++ behind) ≡ Ok (octets, behind)
unfolding field_by
field_again n octets behind long =
    let all : List ℕ = octets ++ behind in
    let enough : ltb (length all) n ≡ false =
    le-ltb (length all) n (omega (arith, length-append octets behind)) in
    ap (λ (b : Bool). cond b cut (Ok (take n all, drop n all))) enough
    ∙ ap (λ (xs : List ℕ). let r : Result (List ℕ × List ℕ) FormFault = Ok (xs, drop n all) in r)
    (take_at octets behind n long)
    ∙ ap (λ (xs : List ℕ). let r : Result (List ℕ × List ℕ) FormFault = Ok (octets, xs) in r)
    (drop_at octets behind n long)

pub field_cut : (n : ℕ) (octets : List ℕ) → length octets < n → field_at n octets ≡ Err Truncated
unfolding field_by
field_cut n octets lt =
    ap (λ (b : Bool). cond b cut (Ok (take n octets, drop n octets))) (lt-ltb (length octets) n lt)

pub field_reads : (n : ℕ) (w l : Option (List ℕ)) (a b octets : List ℕ) → length octets ≡ n
    → Gives w l a b octets → Reads (field_at n) w l a b octets
field_reads n w l a b octets long p =
    reads_of (field_at n) w l a b octets octets p (λ behind. field_again n octets behind long)

pub field_refuses : (f : FormFault) (n : ℕ) (w l : Option (List ℕ)) (a b : List ℕ) (e : Type 0)
    → IsCut f n w l a b e → Refuses (field_at n) w l a b e f
field_refuses f n w l a b e p = record {
  part = p.part;
  gives = p.gives;
  finds = by f p.short;
}
  where
    by : (f : FormFault) → IsShort f n p.part l e → IsFaultIn (field_at n) f p.part l e
    by NoMemory s = absurd s
    by Device s = (Truncated, field_cut n p.part s)
    by BadMagic s = absurd s
    by BadHeader s = absurd s
    by UnsupportedForm s = absurd s
    by BadFormat s = absurd s
    by Truncated s = (s.1.0, (s.1.1, field_cut n p.part s.0))
    by ValueTooLarge s = absurd s

-- what is cut behind some octets is cut
pub cut_behind : (f : FormFault) (w m l : Option (List ℕ)) (a b c given : List ℕ) (e : Type 0)
    (n total : ℕ) → Gives w m a b given → length given + n ≤ total → IsCut f n m l b c e
    → IsCut f total w l a c e
cut_behind f w m l a b c given e n total p le q = record {
  part = given ++ q.part;
  gives = gives_both w m l a b c given q.part p q.gives;
  short = by f q.short;
}
  where
    by : (f : FormFault) → IsShort f n q.part l e → IsShort f total (given ++ q.part) l e
    by NoMemory s = absurd s
    by Device s =
        let lt : length q.part < n = s in
        omega (arith, le, lt, length-append given q.part)
    by BadMagic s = absurd s
    by BadHeader s = absurd s
    by UnsupportedForm s = absurd s
    by BadFormat s = absurd s
    by Truncated s =
        let lt : length q.part < n = s.0 in
        (omega (arith, le, lt, length-append given q.part), s.1)
    by ValueTooLarge s = absurd s

-- ---- what is seen of a source that tells what it is to give, and of each

pub reads_takes : {X : Type 0} (r : Reading X) (w l : Option (List ℕ)) (a b : List ℕ) (x : X)
    → Reads r w l a b x → Takes r w l x
reads_takes r None l a b x p = tt
reads_takes r (Some o) None a b x p = absurd p.gives.given
reads_takes r (Some o) (Some rest) a b x p = ap r p.gives.given ∙ p.says rest

pub reads_gave : {X : Type 0} (r : Reading X) (w l : Option (List ℕ)) (a b : List ℕ) (x : X)
    → Reads r w l a b x → GaveValue r a b x
reads_gave r w l a b x p =
    record { part = p.part; grown = p.gives.grown; says = p.says }

pub refuses_fails : {X : Type 0} (r : Reading X) (w l : Option (List ℕ)) (a b : List ℕ)
    (e : Type 0) (f : FormFault) → Refuses r w l a b e f → Fails r w f
refuses_fails r None l a b e f p = tt
refuses_fails r (Some o) None a b e f p = absurd p.gives.given
refuses_fails r (Some o) (Some rest) a b e f p = by f p.finds
  where
    is : o ≡ p.part ++ rest
    is = p.gives.given

    by : (f : FormFault) → IsFaultIn r f p.part (Some rest) e → IfContent f (r o ≡ Err f)
    by NoMemory q = tt
    by Device q = tt
    by BadMagic q = ap r is ∙ q rest
    by BadHeader q = ap r is ∙ q rest
    by UnsupportedForm q = ap r is ∙ q rest
    by BadFormat q = ap r is ∙ q rest
    by Truncated q =
        ap r (is ∙ ap (λ (t : List ℕ). p.part ++ t) q.1.0 ∙ append-nil p.part) ∙ q.1.1
    by ValueTooLarge q = ap r is ∙ q rest

pub refuses_gave : {X : Type 0} (r : Reading X) (w l : Option (List ℕ)) (a b : List ℕ)
    (e : Type 0) (f : FormFault) → Refuses r w l a b e f → GaveFault r a b e f
refuses_gave r w l a b e f p = record {
  part = p.part;
  grown = p.gives.grown;
  says = λ behind all. by f p.finds behind all;
}
  where
    by : (f : FormFault) → IsFaultIn r f p.part l e → (behind : List ℕ) → (e → behind ≡ [])
        → IfContent f (r (p.part ++ behind) ≡ Err f)
    by NoMemory q behind all = tt
    by Device q behind all = tt
    by BadMagic q behind all = q behind
    by BadHeader q behind all = q behind
    by UnsupportedForm q behind all = q behind
    by BadFormat q behind all = q behind
    by Truncated q behind all =
        ap r (ap (λ (t : List ℕ). p.part ++ t) (all q.0) ∙ append-nil p.part) ∙ q.1.1
    by ValueTooLarge q behind all = q behind

-- what was given makes no value by itself
pub refuses_part : {X : Type 0} (r : Reading X) (w l : Option (List ℕ)) (a b : List ℕ)
    (e : Type 0) (f : FormFault) → Refuses r w l a b e f → GavePart r a b
refuses_part r w l a b e f p =
    let none : IsNoValue (r p.part) = by f p.finds in
    record { part = p.part; grown = p.gives.grown; fault = none.0; none = none.1 }
  where
    alone : (g : FormFault) → r (p.part ++ []) ≡ Err g → IsNoValue (r p.part)
    alone g is = (g, ap r (sym (append-nil p.part)) ∙ is)

    by : (f : FormFault) → IsFaultIn r f p.part l e → IsNoValue (r p.part)
    by NoMemory q = q
    by Device q = q
    by BadMagic q = alone BadMagic (q [])
    by BadHeader q = alone BadHeader (q [])
    by UnsupportedForm q = alone UnsupportedForm (q [])
    by BadFormat q = alone BadFormat (q [])
    by Truncated q = (Truncated, q.1.1)
    by ValueTooLarge q = alone ValueTooLarge (q [])
