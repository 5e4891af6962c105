-- What stands before all packets is read behind its first four octets as what it is.
use Rattle.std.proofs.Common.{◌≡◌, ℕ, ◌+◌, Bool, true, false, cond, not, eqb, ltb, List, ◌++◌}
use Rattle.std.proofs.Common.{length, take, drop, Option, None, Some, Result, Ok, Err, append_assoc}
use Rattle.std.proofs.Common.{refl, sym, ap, ◌∙◌, subst, arith}
use Rattle.std.specs.Prelude.{IfOk, IfErr, OnOk}
use Rattle.std.specs.Int.{w32, from_be_bytes}
use Rattle.std.proofs.lemmas.Bool.{eq-eqb, eqb-true, lt-ltb, ltb-false, ltb-true, ne_eqb}
use Rattle.std.proofs.lemmas.List.{length-append, length-take-le, take-append-drop, take_all}
use Rattle.std.proofs.lemmas.List.{take_at}
use Rattle.st_format.specs.Reading.{◌>>=◌}
use Rattle.pcap_file.specs.declared.fault.RecordingFault.{RecordingFault}
use Rattle.pcap_file.specs.declared.fault.RecordingFault.TheVariants.{Truncated}
use Rattle.pcap_file.specs.declared.order.ByteOrder.{ByteOrder}
use Rattle.pcap_file.specs.declared.order.ByteOrder.TheVariants.{Big}
use Rattle.pcap_file.specs.declared.pcap.PcapHead.{PcapHead}
use Rattle.pcap_file.specs.Orders.{long_at}
use Rattle.pcap_file.specs.Fields.{Fails, GaveFault, field_at, recording_fault_origin}
use Rattle.st_format.specs.Given.{GaveValue, Takes, with_rest, field_by}
use Rattle.pcap_file.specs.NgReading.{section_at}
use Rattle.pcap_file.specs.NgSteps.{Known, first_at, first_by, fresh, section_type}
use Rattle.pcap_file.specs.Openings.{behind_at, blocks_laid, laid_behind, pcap_laid, pcap_laid_if}
use Rattle.pcap_file.specs.Pcap.{foreign_of, magic_of, pcap_head_of}
use Rattle.pcap_file.specs.PcapReading.{pcap_at}
use Rattle.pcap_file.specs.Runs.{InBlocks, InPcap, Laid, blocks_begun, laid_by, opened_at}
use Rattle.pcap_file.specs.Runs.{pcap_begun, pcap_if}
use Rattle.pcap_file.proofs.FieldReads.{mapped, mapped_fails, mapped_gives}
use Rattle.pcap_file.proofs.Recordings.{Cuts, Field, cuts, field, field_whole}
use Rattle.st_format.proofs.Gave.{fault_one, gave_one}
use Rattle.st_format.proofs.Origins.{if_content, if_content_weaker}
use Rattle.st_format.proofs.Parsing.{fails_first, fails_then, gives_then}

abbrev Laying : Type 0
Laying = Result (Laid × List ℕ) RecordingFault

abbrev laid_ok : Laid × List ℕ → Laying
laid_ok x = Ok x

abbrev no_laying : RecordingFault → Laying
no_laying f = Err f

abbrev cut : Field
cut = Err Truncated

abbrev Front : Type 0
Front = Result PcapHead RecordingFault

-- ---- a field, and one behind it, is a field

abbrev with_front : List ℕ → Field → Field
with_front front r = r >>= λ x. field (front ++ x.0, x.1)

behind_by : (a b n : ℕ) (front m : List ℕ) (c : Bool) → length front ≡ a → n ≡ a + b
    → ltb (length m) b ≡ c → field_at n (front ++ m) ≡ behind_at front b m
unfolding field_by behind_at
behind_by a b n front m true count total e =
    ap (λ (x : Bool). cond x cut (field (take n (front ++ m), drop n (front ++ m))))
    (lt-ltb (length (front ++ m)) n
    (omega (arith, length-append front m, ltb-true (length m) b e)))
    ∙ sym (ap (λ (x : Bool). with_front front (cond x cut (field (take b m, drop b m)))) e)
behind_by a b n front m false count total e =
    ap (λ (x : List ℕ). field_at n (front ++ x)) (sym (take-append-drop b m))
    ∙ ap (λ (x : List ℕ). field_at n x) (sym (append_assoc front (take b m) (drop b m)))
    ∙ field_whole n (front ++ take b m) (drop b m)
    (omega (
      arith,
      length-append front (take b m),
      length-take-le b m (ltb-false (length m) b e),
    ))
    ∙ sym (ap (λ (x : Bool). with_front front (cond x cut (field (take b m, drop b m)))) e)

field_behind : (a b n : ℕ) (o front m : List ℕ) → Cuts a o front m → n ≡ a + b
    → field_at n o ≡ behind_at front b m
field_behind a b n o front m c total =
    ap (λ (x : List ℕ). field_at n x) c.parts
    ∙ behind_by a b n front m (ltb (length m) b) c.count total refl

-- ---- the layouts

head_joined : (h : Front) (rest : List ℕ)
    → (with_rest h rest >>= λ z. laid_ok (InPcap z.0, z.1))
    ≡ (h >>= λ file. laid_ok (InPcap file, rest))
head_joined (Ok h) rest = refl
head_joined (Err f) rest = refl

pcap_joined : (r : Field)
    → ((r >>= λ x. with_rest (pcap_head_of x.0) x.1) >>= λ z. laid_ok (InPcap z.0, z.1))
    ≡ (r >>= λ x. pcap_head_of x.0 >>= λ file. laid_ok (InPcap file, x.1))
pcap_joined (Ok x) = head_joined (pcap_head_of x.0) x.1
pcap_joined (Err f) = refl

abbrev Opened : Type 0
Opened = Result (PcapHead × List ℕ) RecordingFault

abbrev heads : Field → Opened
heads r = r >>= λ x. with_rest (pcap_head_of x.0) x.1

pcap_same : (o four m : List ℕ) → Cuts 4 o four m → pcap_begun (pcap_at o) ≡ pcap_laid four m
unfolding pcap_at pcap_laid
pcap_same o four m c =
    ap (λ (r : Field). heads r >>= λ z. laid_ok (InPcap z.0, z.1))
    (field_behind 4 20 24 o four m c refl) ∙ pcap_joined (behind_at four 20 m)

abbrev Order : Type 0
Order = Result (ByteOrder × List ℕ) RecordingFault

abbrev First : Type 0
First = Result (Known × List ℕ) RecordingFault

abbrev first_ok : Known × List ℕ → First
first_ok x = Ok x

abbrev no_first : RecordingFault → First
no_first f = Err f

abbrev begun : First → Laying
begun r = r >>= λ z. laid_ok (InBlocks z.0, z.1)

order_joined : (r : Order) → begun (r >>= λ y. first_ok (fresh y.0, y.1))
    ≡ (r >>= λ y. laid_ok (InBlocks (fresh y.0), y.1))
order_joined (Ok y) = refl
order_joined (Err f) = refl

same_type : (four more : List ℕ) → length four ≡ 4
    → long_at Big 0 (four ++ more) ≡ long_at Big 0 four
same_type four more count =
    ap (λ (x : List ℕ). from_be_bytes w32 x)
    (take_at four more 4 count ∙ sym (take_all 4 four (omega (arith, count))))

blocks_joined : (four : List ℕ) (r : Field) → length four ≡ 4 → long_at Big 0 four ≡ section_type
    → begun (with_front four r >>= λ x. first_by x.0 x.1)
    ≡ (with_front four r >>= λ x. section_at x.0 x.1 >>=
    λ y. laid_ok (InBlocks (fresh y.0), y.1))
blocks_joined four (Err f) count is = refl
blocks_joined four (Ok x) count is =
    let front : List ℕ = four ++ x.0 in
    ap (λ (b : Bool). begun (cond (not b) (no_first (foreign_of front))
    (section_at front x.1 >>= λ y. first_ok (fresh y.0, y.1))))
    (eq-eqb (long_at Big 0 front) section_type (same_type four x.0 count ∙ is))
    ∙ order_joined (section_at front x.1)

blocks_same : (o four m : List ℕ) → Cuts 4 o four m → long_at Big 0 four ≡ section_type
    → blocks_begun (first_at o) ≡ blocks_laid four m
unfolding first_at blocks_laid behind_at
blocks_same o four m c is =
    ap (λ (r : Field). begun (r >>= λ x. first_by x.0 x.1)) (field_behind 4 4 8 o four m c refl)
    ∙ blocks_joined four (field_at 4 m) c.count is

laid_same : (o four m : List ℕ) (b : Bool) (k : Option (ByteOrder × Bool)) → Cuts 4 o four m
    → eqb (long_at Big 0 four) section_type ≡ b
    → cond b (blocks_begun (first_at o)) (pcap_if k four o)
    ≡ cond b (blocks_laid four m) (pcap_laid_if k four m)
laid_same o four m true k c e =
    blocks_same o four m c (eqb-true (long_at Big 0 four) section_type e)
laid_same o four m false None c e = refl
laid_same o four m false (Some kind) c e = pcap_same o four m c

pub opened_same : (o four m : List ℕ) → field_at 4 o ≡ field (four, m)
    → opened_at o ≡ laid_behind four m
unfolding opened_at laid_behind
opened_same o four m e =
    ap (λ (r : Field). r >>= λ x. laid_by x.0 o) e
    ∙ laid_same o four m (eqb (long_at Big 0 four) section_type) (magic_of four)
    (cuts 4 o four m e) refl

-- ---- the first four octets, and what is behind them

pub opened_cut : (was : Option (List ℕ)) (f : RecordingFault) → Fails (field_at 4) was f
    → Fails opened_at was f
unfolding opened_at
opened_cut None f p = tt
opened_cut (Some o) f p =
    if_content_weaker recording_fault_origin f (field_at 4 o ≡ Err f) (opened_at o ≡ no_laying f)
    (λ e. ap (λ (r : Field). r >>= λ x. laid_by x.0 o) e) p

pub opened_gives : (four : List ℕ) (laid : Laid) (was mid left : Option (List ℕ))
    → Takes (field_at 4) was mid four → Takes (laid_behind four) mid left laid
    → Takes opened_at was left laid
opened_gives four laid None mid left p q = tt
opened_gives four laid (Some o) None left p q = absurd p
opened_gives four laid (Some o) (Some m) None p q = absurd q
opened_gives four laid (Some o) (Some m) (Some rest) p q = opened_same o four m p ∙ q

pub opened_fails : (four : List ℕ) (f : RecordingFault) (was mid : Option (List ℕ))
    → Takes (field_at 4) was mid four → Fails (laid_behind four) mid f → Fails opened_at was f
opened_fails four f None mid p q = tt
opened_fails four f (Some o) None p q = absurd p
opened_fails four f (Some o) (Some m) p q =
    if_content_weaker recording_fault_origin f (laid_behind four m ≡ no_laying f)
    (opened_at o ≡ no_laying f)
    (λ e. opened_same o four m p ∙ e) q

-- ---- by the first four octets

module _ (four : List ℕ) where
  pub as_blocks : (o : List ℕ) → long_at Big 0 four ≡ section_type
      → laid_behind four o ≡ blocks_laid four o
  unfolding laid_behind
  as_blocks o is =
      ap (λ (b : Bool). cond b (blocks_laid four o) (pcap_laid_if (magic_of four) four o))
      (eq-eqb (long_at Big 0 four) section_type is)

  pub as_magic : (o : List ℕ) (k : Option (ByteOrder × Bool))
      → (long_at Big 0 four ≡ section_type → ⊥) → magic_of four ≡ k
      → laid_behind four o ≡ pcap_laid_if k four o
  unfolding laid_behind
  as_magic o k other is =
      ap (λ (b : Bool). cond b (blocks_laid four o) (pcap_laid_if (magic_of four) four o))
      (ne_eqb (long_at Big 0 four) section_type other)
      ∙ ap (λ (x : Option (ByteOrder × Bool)). pcap_laid_if x four o) is

  pub foreign_fails : (f : RecordingFault) → f ≡ foreign_of four
      → (long_at Big 0 four ≡ section_type → ⊥) → magic_of four ≡ None → (was : Option (List ℕ))
      → Fails (laid_behind four) was f
  foreign_fails f e other is None = tt
  foreign_fails f e other is (Some o) =
      if_content recording_fault_origin f (laid_behind four o ≡ no_laying f)
      (as_magic o None other is ∙ ap (λ (x : RecordingFault). no_laying x) (sym e))

-- the same reading of what a source gave
pub gave_like : {C X : Type 0} (p r : List ℕ → Result (X × List ℕ) RecordingFault) (v : C → X)
    (a b : List ℕ) (q : Result C RecordingFault) → ((o : List ℕ) → r o ≡ p o)
    → IfOk q (λ y. GaveValue p a b (v y)) → IfOk q (λ y. GaveValue r a b (v y))
gave_like p r v a b (Ok y) same g = record {
  part = g.part;
  grown = g.grown;
  says = λ behind. same (g.part ++ behind) ∙ g.says behind;
}
gave_like p r v a b (Err f) same g = tt

pub fault_like : {C X : Type 0} (p r : List ℕ → Result (X × List ℕ) RecordingFault)
    (a b : List ℕ) (ended : Type 0) (q : Result C RecordingFault) → ((o : List ℕ) → r o ≡ p o)
    → IfErr q (λ f. GaveFault p a b ended f) → IfErr q (λ f. GaveFault r a b ended f)
fault_like p r a b ended (Ok y) same g = tt
fault_like p r a b ended (Err f) same g = record {
  part = g.part;
  grown = g.grown;
  says = λ behind all.
      if_content_weaker recording_fault_origin f (p (g.part ++ behind) ≡ Err f)
      (r (g.part ++ behind) ≡ Err f)
      (λ e. same (g.part ++ behind) ∙ e) (g.says behind all);
}

-- ---- the classic layout

module _ (four : List ℕ) where
  abbrev heading : List ℕ → List ℕ → Laying
  heading front rest = pcap_head_of front >>= λ file. laid_ok (InPcap file, rest)

  pub pcap_cut : (f : RecordingFault) (was : Option (List ℕ)) → Fails (behind_at four 20) was f
      → Fails (pcap_laid four) was f
  unfolding pcap_laid
  pcap_cut f was p = fails_first recording_fault_origin (behind_at four 20) heading was f p

  head_gives : (front : List ℕ) (h : PcapHead) (known : Option (List ℕ)) → pcap_head_of front ≡ Ok h
      → Takes (heading front) known known (InPcap h)
  head_gives front h None e = tt
  head_gives front h (Some o) e = ap (λ (r : Front). r >>= λ file. laid_ok (InPcap file, o)) e

  head_fails : (front : List ℕ) (f : RecordingFault) (known : Option (List ℕ))
      → pcap_head_of front ≡ Err f → Fails (heading front) known f
  head_fails front f None e = tt
  head_fails front f (Some o) e =
      if_content_weaker recording_fault_origin f (pcap_head_of front ≡ Err f)
      (heading front o ≡ no_laying f)
      (λ e. ap (λ (r : Front). r >>= λ file. laid_ok (InPcap file, o)) e)
      (if_content recording_fault_origin f (pcap_head_of front ≡ Err f) e)

  pub pcap_gives : (front : List ℕ) (h : PcapHead) (was left : Option (List ℕ))
      → pcap_head_of front ≡ Ok h → Takes (behind_at four 20) was left front
      → Takes (pcap_laid four) was left (InPcap h)
  unfolding pcap_laid
  pcap_gives front h was left e p =
      gives_then (behind_at four 20) heading was left left front (InPcap h) p
      (head_gives front h left e)

  pub pcap_fails : (front : List ℕ) (f : RecordingFault) (was left : Option (List ℕ))
      → pcap_head_of front ≡ Err f → Takes (behind_at four 20) was left front
      → Fails (pcap_laid four) was f
  unfolding pcap_laid
  pcap_fails front f was left e p =
      fails_then recording_fault_origin (behind_at four 20) heading was left front f p
      (head_fails front f left e)

-- ---- blocks

module _ (four : List ℕ) where
  abbrev begins : List ℕ → List ℕ → Laying
  begins front = mapped (λ (order : ByteOrder). InBlocks (fresh order)) (section_at front)

  pub blocks_cut : (f : RecordingFault) (was : Option (List ℕ)) → Fails (behind_at four 4) was f
      → Fails (blocks_laid four) was f
  unfolding blocks_laid
  blocks_cut f was p = fails_first recording_fault_origin (behind_at four 4) begins was f p

  pub blocks_gives : (front : List ℕ) (order : ByteOrder) (k : Known)
      (was mid left : Option (List ℕ)) → k ≡ fresh order → Takes (behind_at four 4) was mid front
      → Takes (section_at front) mid left order → Takes (blocks_laid four) was left (InBlocks k)
  unfolding blocks_laid
  blocks_gives front order k was mid left same p q =
      subst (λ (x : Known). Takes (blocks_laid four) was left (InBlocks x)) (sym same)
      (gives_then (behind_at four 4) begins was mid left front (InBlocks (fresh order)) p
      (mapped_gives (λ (o : ByteOrder). InBlocks (fresh o)) (section_at front) mid left order q))

  pub blocks_fails : (front : List ℕ) (f : RecordingFault) (was mid : Option (List ℕ))
      → Takes (behind_at four 4) was mid front → Fails (section_at front) mid f
      → Fails (blocks_laid four) was f
  unfolding blocks_laid
  blocks_fails front f was mid p q =
      fails_then recording_fault_origin (behind_at four 4) begins was mid front f p
      (mapped_fails (λ (o : ByteOrder). InBlocks (fresh o)) (section_at front) mid f q)

-- ---- four octets, and those behind them

pub behind_gives : (four xs : List ℕ) (n : ℕ) (was left : Option (List ℕ))
    → Takes (field_at n) was left xs → Takes (behind_at four n) was left (four ++ xs)
unfolding behind_at
behind_gives four xs n was left p =
    mapped_gives (λ (x : List ℕ). four ++ x) (field_at n) was left xs p

pub behind_fails : (four : List ℕ) (n : ℕ) (f : RecordingFault) (was : Option (List ℕ))
    → Fails (field_at n) was f → Fails (behind_at four n) was f
unfolding behind_at
behind_fails four n f was p = mapped_fails (λ (x : List ℕ). four ++ x) (field_at n) was f p

-- of what a source gave
pub behind_gave : (four front xs : List ℕ) (m n : ℕ) (a b : List ℕ)
    (q : Result (Unit {0}) RecordingFault) → m ≡ n → front ≡ four
    → OnOk q (GaveValue (field_at m) a b xs)
    → OnOk q (GaveValue (behind_at four n) a b (front ++ xs))
behind_gave four front xs m n a b (Ok u) e same g =
    subst (λ (k : ℕ). GaveValue (behind_at four k) a b (front ++ xs)) e
    (subst (λ (l : List ℕ). GaveValue (behind_at four m) a b (l ++ xs)) (sym same)
    (gave_one (field_at m) (behind_at four m) xs (four ++ xs) a b (behind_gives four xs m) g))
behind_gave four front xs m n a b (Err f) e same g = tt

pub behind_gave_wrong : (four : List ℕ) (m n : ℕ) (a b : List ℕ) (ended : Type 0)
    (q : Result (Unit {0}) RecordingFault) → m ≡ n
    → IfErr q (λ f. GaveFault (field_at m) a b ended f)
    → IfErr q (λ f. GaveFault (behind_at four n) a b ended f)
behind_gave_wrong four m n a b ended (Ok u) e g = tt
behind_gave_wrong four m n a b ended (Err f) e g =
    subst (λ (k : ℕ). GaveFault (behind_at four k) a b ended f) e
    (fault_one recording_fault_origin (field_at m) (behind_at four m) a b ended f
    (behind_fails four m f) g)

-- as many octets
pub behind_as : (four xs : List ℕ) (m n : ℕ) (a b : List ℕ) → m ≡ n
    → GaveValue (behind_at four m) a b xs → GaveValue (behind_at four n) a b xs
behind_as four xs m n a b e g = subst (λ (k : ℕ). GaveValue (behind_at four k) a b xs) e g

pub behind_wrong_as : (four : List ℕ) (m n : ℕ) (a b : List ℕ) (ended : Type 0)
    (f : RecordingFault) → m ≡ n → GaveFault (behind_at four m) a b ended f
    → GaveFault (behind_at four n) a b ended f
behind_wrong_as four m n a b ended f e g =
    subst (λ (k : ℕ). GaveFault (behind_at four k) a b ended f) e g
