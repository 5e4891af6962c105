-- An interface is read exactly where a body describes it.
use Rattle.std.proofs.Common.{◌≡◌, ℕ, ◌≤◌, inl, inr, Bool, true, false, cond, not, eqb, ltb}
use Rattle.std.proofs.Common.{List, [], ◌∷◌, length, get_or, take, drop, Option, Some, None, Result}
use Rattle.std.proofs.Common.{Ok, Err, refl, sym, ap, ◌∙◌, subst, arith}
use Rattle.std.specs.Prelude.{IfOk}
use Rattle.std.specs.Int.{w64}
use Rattle.std.proofs.lemmas.Bool.{eq-eqb, eqb-true, le-ltb, ltb-false}
use Rattle.std.proofs.lemmas.List.{length-append, length-take-le, take-append-drop, take_at}
use Rattle.std.proofs.lemmas.List.{drop_at}
use Rattle.st_format.specs.Reading.{◌>>=◌}
use Rattle.st_format.proofs.Readings.{bind_ok}
use Rattle.interface_name.specs.declared.name.InterfaceName.{InterfaceName}
use Rattle.pcap_file.specs.declared.blocks.Interface.{Interface}
use Rattle.pcap_file.specs.declared.fault.RecordingFault.{RecordingFault}
use Rattle.pcap_file.specs.declared.fault.RecordingFault.TheVariants.{BadBlock, BadInterface}
use Rattle.pcap_file.specs.declared.order.ByteOrder.{ByteOrder}
use Rattle.pcap_file.specs.Orders.{long_at, number_by, short_at}
use Rattle.pcap_file.specs.Blocks.{HasOption, IsInterface, IsNamed, IsOffset, IsUnit, LacksOption}
use Rattle.pcap_file.specs.Blocks.{per_second_of}
use Rattle.pcap_file.specs.BlockReading.{interface_by, interface_of, name_by, offset_of, option_at}
use Rattle.pcap_file.specs.BlockReading.{per_second_by, resolution_of}
use Rattle.pcap_file.proofs.OptionRelation.{Says, has_again, lacks_again, said}
use Rattle.pcap_file.proofs.Options.{Found, found}

abbrev number : ℕ → Result ℕ RecordingFault
number n = Ok n

abbrev no_number : Result ℕ RecordingFault
no_number = Err BadInterface

same_number : (a b : ℕ) → number a ≡ number b → a ≡ b
same_number a b e = cc

two : ◌≡◌ {A = ℕ} 2 0 → ⊥
two e = absurd (omega arith)

nine : ◌≡◌ {A = ℕ} 9 0 → ⊥
nine e = absurd (omega arith)

fourteen : ◌≡◌ {A = ℕ} 14 0 → ⊥
fourteen e = absurd (omega arith)

one_octet : (v : List ℕ) → length v ≡ 1 → v ≡ get_or v 0 0 ∷ []
one_octet [] e = absurd (omega arith)
one_octet (x ∷ []) e = refl
one_octet (x ∷ y ∷ ys) e = absurd (omega arith)

sized : (b : Bool) (r : Result ℕ RecordingFault) (n : ℕ) → cond (not b) no_number r ≡ number n
    → (b ≡ true) × (r ≡ number n)
sized true r n e = (refl, e)
sized false r n e = absurd cc

per_is : (o : Option ℕ) (n : ℕ) → per_second_by o ≡ number n → o ≡ Some n
per_is None n e = absurd cc
per_is (Some m) n e =
    ap (λ (x : ℕ). let r : Option ℕ = Some x in r) (same_number m n e)

module _ (order : ByteOrder) (options : List ℕ) where
  lacks : (code : ℕ) → (code ≡ 0 → ⊥) → option_at order code options ≡ Ok None
      → LacksOption order code options
  lacks code some e = subst (Says order code some options) e (said order code some options)

  has : (code : ℕ) → (code ≡ 0 → ⊥) → (v : List ℕ) → option_at order code options ≡ Ok (Some v)
      → HasOption order code options v
  has code some v e = subst (Says order code some options) e (said order code some options)

  unit_is : (r : Option (List ℕ)) (per : ℕ) → option_at order 9 options ≡ found r
      → resolution_of r ≡ number per → IsUnit order options per
  unit_is None per e h = inl (lacks 9 nine e, sym (same_number 1000000 per h))
  unit_is (Some v) per e h =
      let s = sized (eqb (length v) 1) (per_second_by (per_second_of (get_or v 0 0))) per h in
      inr (
        get_or v 0 0,
        subst (HasOption order 9 options) (one_octet v (eqb-true (length v) 1 s.0))
            (has 9 nine v e),
        per_is (per_second_of (get_or v 0 0)) per s.1,
      )

  offset_is : (r : Option (List ℕ)) (n : ℕ) → option_at order 14 options ≡ found r
      → offset_of order r ≡ number n → IsOffset order options n
  offset_is None n e h = inl (lacks 14 fourteen e, sym (same_number 0 n h))
  offset_is (Some v) n e h =
      let s = sized (eqb (length v) 8) (number (number_by order w64 v)) n h in
      inr (
        v,
        has 14 fourteen v e,
        eqb-true (length v) 8 s.0,
        sym (same_number (number_by order w64 v) n s.1),
      )

  name_is : (r : Option (List ℕ)) → option_at order 2 options ≡ found r
      → IsNamed order options (name_by r)
  name_is None e = inl (lacks 2 two e, refl)
  name_is (Some v) e = inr (v, has 2 two v e, refl)

  -- what an option is read as
  record ReadAs (code : ℕ) (of : Option (List ℕ) → Result ℕ RecordingFault) (n : ℕ) : Type 0 where
    value : Option (List ℕ)
    is : option_at order code options ≡ found value
    gives : of value ≡ number n

  unit_again : (per : ℕ) → IsUnit order options per → ReadAs 9 resolution_of per
  unit_again per (inl u) =
      record {
        value = None;
        is = lacks_again order 9 nine options u.0;
        gives = ap number (sym u.1);
      }
  unit_again per (inr u) =
      record {
        value = Some (u.0 ∷ []);
        is = has_again order 9 nine options (u.0 ∷ []) u.1;
        gives = ap (λ (o : Option ℕ). per_second_by o) u.2;
      }

  offset_again : (n : ℕ) → IsOffset order options n → ReadAs 14 (offset_of order) n
  offset_again n (inl u) =
      record {
        value = None;
        is = lacks_again order 14 fourteen options u.0;
        gives = ap number (sym u.1);
      }
  offset_again n (inr u) =
      record {
        value = Some u.0;
        is = has_again order 14 fourteen options u.0 u.1;
        gives =
            ap (λ (b : Bool). cond (not b) no_number (number (number_by order w64 u.0)))
            (eq-eqb (length u.0) 8 u.2) ∙ ap number (sym u.3);
      }

  -- the option of the name is read so
  record ReadName (name : Option InterfaceName) : Type 0 where
    value : Option (List ℕ)
    is : option_at order 2 options ≡ found value
    gives : name_by value ≡ name

  name_again : (name : Option InterfaceName) → IsNamed order options name → ReadName name
  name_again name (inl u) =
      record {
        value = None;
        is = lacks_again order 2 two options u.0;
        gives = sym u.1;
      }
  name_again name (inr u) =
      record {
        value = Some u.0;
        is = has_again order 2 two options u.0 u.1;
        gives = sym u.2;
      }

abbrev Read : Type 0
Read = Result Interface RecordingFault

abbrev read : Interface → Read
read i = Ok i

abbrev interface : ℕ → ℕ → ℕ → ℕ → Option InterfaceName → Interface
interface link snap per_second offset name =
    record { link = link; snap = snap; per_second = per_second; offset = offset; name = name }

same_interface : (a b c d k l m n : ℕ) (e o : Option InterfaceName) → a ≡ k → b ≡ l → c ≡ m
    → d ≡ n → e ≡ o → interface a b c d e ≡ interface k l m n o
same_interface a b c d k l m n e o p q r s t =
    ap (λ (x : ℕ). interface x b c d e) p ∙ ap (λ (x : ℕ). interface k x c d e) q
    ∙ ap (λ (x : ℕ). interface k l x d e) r ∙ ap (λ (x : ℕ). interface k l m x e) s
    ∙ ap (interface k l m n) t

same_read : (i j : Interface) → read i ≡ read j → i ≡ j
same_read i j e = cc

whole : (b : Bool) (r : Read) (i : Interface)
    → cond b (let q : Read = Err BadBlock in q) r ≡ read i → (b ≡ false) × (r ≡ read i)
whole true r i e = absurd cc
whole false r i e = (refl, e)

-- what is read behind each value
module _ (order : ByteOrder) (options : List ℕ) (link snap : ℕ) where
  abbrev behind_offset : ℕ → ℕ → Read
  behind_offset per off =
      option_at order 2 options >>= λ n. read (interface link snap per off (name_by n))

  abbrev behind_unit : ℕ → Read
  behind_unit per =
      option_at order 14 options >>= λ o. offset_of order o >>= λ off. behind_offset per off

pub interface_takes : (order : ByteOrder) (body : List ℕ) (i : Interface)
    → interface_of order body ≡ Ok i → IsInterface order body i
unfolding interface_of
interface_takes order body i e =
    let fixed : List ℕ = take 8 body in
    let options : List ℕ = drop 8 body in
    let w = whole (ltb (length body) 8) (interface_by order fixed options) i e in
    let link : ℕ = short_at order 0 fixed in
    let snap : ℕ = long_at order 4 fixed in
    let a =
    bind_ok (option_at order 9 options)
    (λ r. resolution_of r >>= λ per. behind_unit order options link snap per) i w.1 in
    let b = bind_ok (resolution_of a.0) (λ per. behind_unit order options link snap per) i a.2 in
    let c =
    bind_ok (option_at order 14 options)
    (λ o. offset_of order o >>= λ off. behind_offset order options link snap b.0 off) i b.2 in
    let d =
    bind_ok (offset_of order c.0) (λ off. behind_offset order options link snap b.0 off) i c.2 in
    let n =
    bind_ok (option_at order 2 options)
    (λ n. read (interface link snap b.0 d.0 (name_by n))) i d.2 in
    let is : Interface = interface link snap b.0 d.0 (name_by n.0) in
    let same : is ≡ i = same_read is i n.2 in
    let made : IsInterface order body is = record {
      fixed = fixed;
      options = options;
      fixed_octets = length-take-le 8 body (ltb-false (length body) 8 w.0);
      link = refl;
      snap = refl;
      unit = unit_is order options a.0 b.0 a.1 b.1;
      offset = offset_is order options c.0 d.0 c.1 d.1;
      name = name_is order options n.0 n.1;
      whole = sym (take-append-drop 8 body);
    } in
    subst (IsInterface order body) same made

pub interface_again : (order : ByteOrder) (body : List ℕ) (i : Interface)
    → IsInterface order body i → interface_of order body ≡ Ok i
unfolding interface_of
interface_again order body i is =
    let fixed : List ℕ = is.fixed in
    let options : List ℕ = is.options in
    let link : ℕ = short_at order 0 fixed in
    let snap : ℕ = long_at order 4 fixed in
    let long : 8 ≤ length body =
    omega (
      arith,
      ap (λ (x : List ℕ). length x) is.whole,
      length-append fixed options,
      is.fixed_octets,
    ) in
    let front : take 8 body ≡ fixed =
    ap (take 8) is.whole ∙ take_at fixed options 8 is.fixed_octets in
    let back : drop 8 body ≡ options =
    ap (drop 8) is.whole ∙ drop_at fixed options 8 is.fixed_octets in
    let u = unit_again order options i.per_second is.unit in
    let o = offset_again order options i.offset is.offset in
    let n = name_again order options i.name is.name in
    ap (λ (b : Bool). cond b (let q : Read = Err BadBlock in q)
    (interface_by order (take 8 body) (drop 8 body))) (le-ltb (length body) 8 long)
    ∙ ap (λ (x : List ℕ). interface_by order x (drop 8 body)) front
    ∙ ap (interface_by order fixed) back
    ∙ ap
    (λ (q : Found). q >>= λ r. resolution_of r >>= λ per. behind_unit order options link snap per)
    u.is
    ∙ ap
    (λ (q : Result ℕ RecordingFault). q >>= λ per. behind_unit order options link snap per) u.gives
    ∙ ap
    (λ (q : Found). q >>= λ p. offset_of order p >>=
    λ off. behind_offset order options link snap i.per_second off) o.is
    ∙ ap
    (λ (q : Result ℕ RecordingFault). q >>=
    λ off. behind_offset order options link snap i.per_second off) o.gives
    ∙ ap
    (λ (q : Found). q >>= λ v. read (interface link snap i.per_second i.offset (name_by v))) n.is
    ∙ ap read
    (same_interface link snap i.per_second i.offset i.link i.snap i.per_second i.offset
    (name_by n.value) i.name (sym is.link) (sym is.snap) refl refl n.gives)

pub interface_found : (order : ByteOrder) (body : List ℕ) (r : Read) → r ≡ interface_of order body
    → IfOk r (IsInterface order body)
interface_found order body (Ok i) e = interface_takes order body i (sym e)
interface_found order body (Err f) e = tt
