-- What a step of reading blocks read is the next block.
use Rattle.std.proofs.Common.{◌≡◌, ◌≢◌, ℕ, ◌+◌, ◌-◌, ◌<◌, ◌≤◌, inl, inr, Bool, true, false, cond}
use Rattle.std.proofs.Common.{not, eqb, ltb, ◌||◌, ◌&&◌, List, [], ◌∷◌, ◌++◌, length, take, drop}
use Rattle.std.proofs.Common.{Option, None, Some, Result, Ok, Err, refl, sym, ap, ◌∙◌, subst, arith}
use Rattle.std.specs.Int.{w32, from_be_bytes, from_le_bytes}
use Rattle.std.proofs.lemmas.Bool.{eq-eqb, eqb-true, ltb-false, ltb-true}
use Rattle.std.proofs.lemmas.List.{take-append-le, take_at}
use Rattle.st_format.specs.Device.{AreOctets}
use Rattle.st_format.specs.Reading.{◌>>=◌}
use Rattle.st_format.proofs.Octets.{AreOctets-take}
use Rattle.st_format.proofs.Readings.{bind_ok}
use Rattle.pcap_file.specs.declared.fault.RecordingFault.{RecordingFault}
use Rattle.pcap_file.specs.declared.fault.RecordingFault.TheVariants.{BadBlock, BadMagic}
use Rattle.pcap_file.specs.declared.fault.RecordingFault.TheVariants.{BadVersion}
use Rattle.pcap_file.specs.declared.fault.RecordingFault.TheVariants.{TooManyInterfaces}
use Rattle.pcap_file.specs.declared.order.ByteOrder.{ByteOrder}
use Rattle.pcap_file.specs.declared.order.ByteOrder.TheVariants.{Big, Little}
use Rattle.pcap_file.specs.Orders.{long_at, number_by, short_at}
use Rattle.pcap_file.specs.Blocks.{IsSection, IsSectionBlock, IsTotal, long_number}
use Rattle.pcap_file.specs.Blocks.{order_number, short_number}
use Rattle.pcap_file.specs.BlockReading.{body_of_total, enhanced_of, interface_of, obsolete_of}
use Rattle.pcap_file.specs.BlockReading.{order_of, section_of, simple_of}
use Rattle.pcap_file.specs.Fields.{field_at}
use Rattle.st_format.specs.Given.{with_rest}
use Rattle.pcap_file.specs.NgReading.{block_at, front_at, is_read, order_at, order_or}
use Rattle.pcap_file.specs.NgReading.{passed_at, section_at}
use Rattle.pcap_file.specs.NgReading.{section_by, section_count, section_rest_at, version_at}
use Rattle.pcap_file.specs.NgSteps.{Known, Stepped, body_read, enter_of, entered}
use Rattle.pcap_file.specs.NgSteps.{first_at, first_by, fresh, other_step}
use Rattle.pcap_file.specs.NgSteps.{most_interfaces, section_step, section_type, step_at, step_by}
use Rattle.pcap_file.specs.NgSteps.{with_interface, with_packet}
use Rattle.pcap_file.specs.Pcap.{foreign_of}
use Rattle.pcap_file.specs.PcapReading.{Recorded}
use Rattle.pcap_file.specs.Recording.{Describes, Does, HasEnhanced, HasObsolete, HasSimple, IsNext}
use Rattle.pcap_file.specs.Recording.{recorded}
use Rattle.pcap_file.proofs.BlockSteps.{block_takes, body_ok, front_takes, number, passed_takes}
use Rattle.pcap_file.proofs.BlockSteps.{step, total_takes, went}
use Rattle.pcap_file.proofs.InterfaceRelation.{interface_takes}
use Rattle.pcap_file.proofs.Packets.{simple_takes, stamped_takes}
use Rattle.pcap_file.proofs.Recordings.{cuts}
use Rattle.pcap_file.proofs.SectionSteps.{order_ok}

abbrev Found : Type 0
Found = Result (Known × Stepped) RecordingFault

abbrev found_ok : Known × Stepped → Found
found_ok x = Ok x

abbrev found : Known → Option Recorded → Found
found k s = found_ok (k, Some s)

same_found_ok : (a b : Known × Stepped) → found_ok a ≡ found_ok b → a ≡ b
same_found_ok a b e = cc

same_stepped : (s t : Option Recorded) → (let x : Stepped = Some s in x) ≡ Some t → s ≡ t
same_stepped s t e = cc

record Same (k l : Known) (s t : Option Recorded) : Type 0 where
  known : k ≡ l
  packet : s ≡ t

same_found : (k l : Known) (s t : Option Recorded) → found k s ≡ found l t → Same k l s t
same_found k l s t e =
    let pair = same_found_ok (k, Some s) (l, Some t) e in
    record {
      known = ap (λ (x : Known × Stepped). x.0) pair;
      packet = same_stepped s t (ap (λ (x : Known × Stepped). x.1) pair);
    }

-- ---- what a body does

described_by : (b : Bool) (x after : Known) (s : Option Recorded)
    → cond b (found x None) (let r : Found = Err TooManyInterfaces in r) ≡ found after s
    → (b ≡ true) × Same x after None s
described_by true x after s e = (refl, same_found x after None s e)
described_by false x after s e = absurd cc

describes : (k after : Known) (body : List ℕ) (s : Option Recorded)
    → enter_of k 1 body ≡ found after s → Describes k body after s
unfolding enter_of
describes k after body s e =
    let b =
    bind_ok (interface_of k.order body) (λ i. with_interface k i) (after, Some s) e in
    let next : Known = record { order = k.order; interfaces = k.interfaces ++ b.0 ∷ [] } in
    let d =
    described_by (ltb (length k.interfaces) most_interfaces) next after s b.2 in
    record {
      interface = b.0;
      is = interface_takes k.order body b.0 b.1;
      room = ltb-true (length k.interfaces) most_interfaces d.0;
      after_is = sym d.1.known;
      none = sym d.1.packet;
    }

obsolete : (k after : Known) (body : List ℕ) (s : Option Recorded)
    → enter_of k 2 body ≡ found after s → HasObsolete k body after s
unfolding enter_of
obsolete k after body s e =
    let b =
    bind_ok (obsolete_of k.order k.interfaces body) (λ p. with_packet k 20 body p)
    (after, Some s) e in
    let octets : List ℕ = take b.0.captured (drop 20 body) in
    let d = same_found k after (recorded b.0 octets) s b.2 in
    record {
      head = b.0;
      octets = octets;
      is = stamped_takes (short_number k.order) k.order k.interfaces body b.0 b.1;
      after_is = sym d.known;
      packet = sym d.packet;
    }

simple : (k after : Known) (body : List ℕ) (s : Option Recorded)
    → enter_of k 3 body ≡ found after s → HasSimple k body after s
unfolding enter_of
simple k after body s e =
    let b =
    bind_ok (simple_of k.order k.interfaces body) (λ p. with_packet k 4 body p) (after, Some s) e in
    let octets : List ℕ = take b.0.captured (drop 4 body) in
    let d = same_found k after (recorded b.0 octets) s b.2 in
    record {
      head = b.0;
      octets = octets;
      is = simple_takes k.order k.interfaces body b.0 b.1;
      after_is = sym d.known;
      packet = sym d.packet;
    }

enhanced : (k after : Known) (body : List ℕ) (s : Option Recorded)
    → enter_of k 6 body ≡ found after s → HasEnhanced k body after s
unfolding enter_of
enhanced k after body s e =
    let b =
    bind_ok (enhanced_of k.order k.interfaces body) (λ p. with_packet k 20 body p)
    (after, Some s) e in
    let octets : List ℕ = take b.0.captured (drop 20 body) in
    let d = same_found k after (recorded b.0 octets) s b.2 in
    record {
      head = b.0;
      octets = octets;
      is = stamped_takes (long_number k.order) k.order k.interfaces body b.0 b.1;
      after_is = sym d.known;
      packet = sym d.packet;
    }

abbrev read_if : Bool → List ℕ → Option (List ℕ)
read_if b body = cond b (Some body) None

abbrev Enters : Known → Known → List ℕ → Option Recorded → ℕ → Type 0
Enters k after body s type = entered k type (body_read type body) ≡ found after s

unread : (a b c d : Bool) → a ≡ false → b ≡ false → c ≡ false → d ≡ false
    → (a || b || c || d) ≡ false
unread true b c d ea eb ec ed = absurd cc
unread false true c d ea eb ec ed = absurd cc
unread false false true d ea eb ec ed = absurd cc
unread false false false true ea eb ec ed = absurd cc
unread false false false false ea eb ec ed = refl

does_by : (k after : Known) (type : ℕ) (body : List ℕ) (s : Option Recorded) (a b c d : Bool)
    → eqb type 1 ≡ a → eqb type 2 ≡ b → eqb type 3 ≡ c → eqb type 6 ≡ d
    → Enters k after body s type → Does k type body after s
does_by k after type body s true b c d ea eb ec ed e =
    let is : type ≡ 1 = eqb-true type 1 ea in
    inl (is, describes k after body s (subst (Enters k after body s) is e))
does_by k after type body s false true c d ea eb ec ed e =
    let is : type ≡ 2 = eqb-true type 2 eb in
    inr (inl (is, obsolete k after body s (subst (Enters k after body s) is e)))
does_by k after type body s false false true d ea eb ec ed e =
    let is : type ≡ 3 = eqb-true type 3 ec in
    inr (inr (inl (is, simple k after body s (subst (Enters k after body s) is e))))
does_by k after type body s false false false true ea eb ec ed e =
    let is : type ≡ 6 = eqb-true type 6 ed in
    inr (inr (inr (inl (is, enhanced k after body s (subst (Enters k after body s) is e)))))
does_by k after type body s false false false false ea eb ec ed e =
    let none : is_read type ≡ false =
    unread (eqb type 1) (eqb type 2) (eqb type 3) (eqb type 6) ea eb ec ed in
    let d =
    same_found k after None s
    (sym (ap (λ (b : Bool). entered k type (read_if b body)) none) ∙ e) in
    inr (inr (inr (inr (none, sym d.known, sym d.packet))))

does_takes : (k after : Known) (type : ℕ) (body : List ℕ) (s : Option Recorded)
    → Enters k after body s type → Does k type body after s
does_takes k after type body s e =
    does_by k after type body s (eqb type 1) (eqb type 2) (eqb type 3) (eqb type 6) refl refl refl
    refl e

-- ---- the block of a section

-- its type
abbrev type_octets : List ℕ
type_octets = 0x0a ∷ 0x0d ∷ 0x0d ∷ 0x0a ∷ []

type_number : (a b c d : ℕ) → a < 256 → b < 256 → c < 256 → d < 256
    → from_be_bytes w32 (a ∷ b ∷ c ∷ d ∷ []) ≡ section_type → a ∷ b ∷ c ∷ d ∷ [] ≡ type_octets
type_number a b c d fa fb fc fd e =
    let ia : a ≡ 10 = omega (arith, fa, fb, fc, fd, e) in
    let ib : b ≡ 13 = omega (arith, fa, fb, fc, fd, e) in
    let ic : c ≡ 13 = omega (arith, fa, fb, fc, fd, e) in
    let id : d ≡ 10 = omega (arith, fa, fb, fc, fd, e) in
    ap (λ (x : ℕ). x ∷ b ∷ c ∷ d ∷ []) ia ∙ ap (λ (x : ℕ). 10 ∷ x ∷ c ∷ d ∷ []) ib
    ∙ ap (λ (x : ℕ). 10 ∷ 13 ∷ x ∷ d ∷ []) ic ∙ ap (λ (x : ℕ). 10 ∷ 13 ∷ 13 ∷ x ∷ []) id

type_number_little : (a b c d : ℕ) → a < 256 → b < 256 → c < 256 → d < 256
    → from_le_bytes w32 (a ∷ b ∷ c ∷ d ∷ []) ≡ section_type → a ∷ b ∷ c ∷ d ∷ [] ≡ type_octets
type_number_little a b c d fa fb fc fd e =
    let ia : a ≡ 10 = omega (arith, fa, fb, fc, fd, e) in
    let ib : b ≡ 13 = omega (arith, fa, fb, fc, fd, e) in
    let ic : c ≡ 13 = omega (arith, fa, fb, fc, fd, e) in
    let id : d ≡ 10 = omega (arith, fa, fb, fc, fd, e) in
    ap (λ (x : ℕ). x ∷ b ∷ c ∷ d ∷ []) ia ∙ ap (λ (x : ℕ). 10 ∷ x ∷ c ∷ d ∷ []) ib
    ∙ ap (λ (x : ℕ). 10 ∷ 13 ∷ x ∷ d ∷ []) ic ∙ ap (λ (x : ℕ). 10 ∷ 13 ∷ 13 ∷ x ∷ []) id

pub type_takes : (order : ByteOrder) (front : List ℕ) → AreOctets front → length front ≡ 8
    → long_at order 0 front ≡ section_type → take 4 front ≡ type_octets
type_takes order [] fit count e = absurd (omega arith)
type_takes order (a ∷ []) fit count e = absurd (omega arith)
type_takes order (a ∷ b ∷ []) fit count e = absurd (omega arith)
type_takes order (a ∷ b ∷ c ∷ []) fit count e = absurd (omega arith)
type_takes Big (a ∷ b ∷ c ∷ d ∷ xs) fit count e =
    type_number a b c d (fit 0) (fit 1) (fit 2) (fit 3) e
type_takes Little (a ∷ b ∷ c ∷ d ∷ xs) fit count e =
    type_number_little a b c d (fit 0) (fit 1) (fit 2) (fit 3) e

-- its order
record Ordered (o : List ℕ) (order : ByteOrder) (rest : List ℕ) : Type 0 where
  four : List ℕ
  count : length four ≡ 4
  is : long_at order 0 four ≡ order_number
  parts : o ≡ four ++ rest

abbrev order_answer : ByteOrder → Result ByteOrder RecordingFault
order_answer order = Ok order

same_answer : (a b : ByteOrder) → order_answer a ≡ order_answer b → a ≡ b
same_answer a b e = cc

same_order : (a b : ByteOrder × List ℕ) → order_ok a ≡ order_ok b → a ≡ b
same_order a b e = cc

no_order : (order : ByteOrder)
    → (let r : Result ByteOrder RecordingFault = Err BadMagic in r) ≡ order_answer order → ⊥
no_order order e = cc

order_by : (four : List ℕ) (order : ByteOrder) (a b : Bool)
    → eqb (long_at Big 0 four) order_number ≡ a → eqb (long_at Little 0 four) order_number ≡ b
    → order_or (cond a (Some Big) (cond b (Some Little) None)) ≡ order_answer order
    → long_at order 0 four ≡ order_number
order_by four order true b ea eb e =
    subst (λ (x : ByteOrder). long_at x 0 four ≡ order_number) (same_answer Big order e)
    (eqb-true (long_at Big 0 four) order_number ea)
order_by four order false true ea eb e =
    subst (λ (x : ByteOrder). long_at x 0 four ≡ order_number) (same_answer Little order e)
    (eqb-true (long_at Little 0 four) order_number eb)
order_by four order false false ea eb e = absurd (no_order order e)

order_takes : (o : List ℕ) (order : ByteOrder) (rest : List ℕ)
    → order_at o ≡ order_ok (order, rest) → Ordered o order rest
unfolding order_at
order_takes o order rest e =
    let b =
    bind_ok (field_at 4 o) (λ x. with_rest (order_or (order_of x.0)) x.1) (order, rest) e in
    let four : List ℕ = b.0.0 in
    let c = cuts 4 o four b.0.1 b.1 in
    let d = bind_ok (order_or (order_of four)) (λ x. order_ok (x, b.0.1)) (order, rest) b.2 in
    let same = same_order (d.0, b.0.1) (order, rest) d.2 in
    let same_x : d.0 ≡ order = ap (λ (x : ByteOrder × List ℕ). x.0) same in
    let same_rest : b.0.1 ≡ rest = ap (λ (x : ByteOrder × List ℕ). x.1) same in
    record {
      four = four;
      count = c.count;
      is =
          subst (λ (x : ByteOrder). long_at x 0 four ≡ order_number) same_x
          (order_by four d.0 (eqb (long_at Big 0 four) order_number)
          (eqb (long_at Little 0 four) order_number) refl refl d.1);
      parts = c.parts ∙ ap (λ (x : List ℕ). four ++ x) same_rest;
    }

-- its version
abbrev Nothing : Type 0
Nothing = Unit {0}

same_went : (a b : Nothing × List ℕ) → went a ≡ went b → a.1 ≡ b.1
same_went a b e = let same : a ≡ b = cc in ap (λ (x : Nothing × List ℕ). x.1) same

record Versioned (order : ByteOrder) (o rest : List ℕ) : Type 0 where
  version : List ℕ
  count : length version ≡ 12
  is : IsSection order version
  parts : o ≡ version ++ rest

version_by : (order : ByteOrder) (v rest left : List ℕ) (u : Nothing) (a b c : Bool)
    → eqb (short_at order 0 v) 1 ≡ a → eqb (short_at order 2 v) 0 ≡ b
    → eqb (short_at order 2 v) 2 ≡ c
    → with_rest (cond (not a || (not b && not c))
    (let r : Result Nothing RecordingFault = Err BadVersion in r) (Ok tt)) rest ≡ went (u, left)
    → IsSection order v × (rest ≡ left)
version_by order v rest left u false b c ea eb ec e = absurd cc
version_by order v rest left u true false false ea eb ec e = absurd cc
version_by order v rest left u true true c ea eb ec e = (
  record {
    major = eqb-true (short_at order 0 v) 1 ea;
    minor = inl (eqb-true (short_at order 2 v) 0 eb);
  },
  same_went (tt, rest) (u, left) e,
)
version_by order v rest left u true false true ea eb ec e = (
  record {
    major = eqb-true (short_at order 0 v) 1 ea;
    minor = inr (eqb-true (short_at order 2 v) 2 ec);
  },
  same_went (tt, rest) (u, left) e,
)

version_takes : (order : ByteOrder) (o rest : List ℕ) (u : Nothing)
    → version_at order o ≡ went (u, rest) → Versioned order o rest
unfolding version_at
version_takes order o rest u e =
    let b = bind_ok (field_at 12 o) (λ x. with_rest (section_of order x.0) x.1) (u, rest) e in
    let v : List ℕ = b.0.0 in
    let c = cuts 12 o v b.0.1 b.1 in
    let d =
    version_by order v b.0.1 rest u (eqb (short_at order 0 v) 1) (eqb (short_at order 2 v) 0)
    (eqb (short_at order 2 v) 2) refl refl refl b.2 in
    record {
      version = v;
      count = c.count;
      is = d.0;
      parts = c.parts ∙ ap (λ (x : List ℕ). v ++ x) d.1;
    }

-- how many octets of options it has
same_number : (a b : ℕ) → number a ≡ number b → a ≡ b
same_number a b e = cc

count_by : (count n : ℕ) (b : Bool) → ltb count 16 ≡ b
    → cond b (let q : Result ℕ RecordingFault = Err BadBlock in q) (number (count - 16)) ≡ number n
    → count ≡ 16 + n
count_by count n true e h = absurd cc
count_by count n false e h =
    let long : 16 ≤ count = ltb-false count 16 e in
    let same : count - 16 ≡ n = same_number (count - 16) n h in
    omega arith

count_takes : (total n : ℕ) → section_count total ≡ number n → IsTotal total (16 + n)
count_takes total n e =
    let b =
    bind_ok (body_of_total total)
    (λ count. cond (ltb count 16) (let q : Result ℕ RecordingFault = Err BadBlock in q)
    (number (count - 16))) n e in
    subst (λ (x : ℕ). IsTotal total x) (count_by b.0 n (ltb b.0 16) refl b.2)
    (total_takes total b.0 b.1)

section_takes : (front o rest : List ℕ) (order : ByteOrder) → length front ≡ 8
    → take 4 front ≡ type_octets → section_at front o ≡ order_ok (order, rest)
    → IsSectionBlock (front ++ o) order rest
unfolding section_at section_by section_rest_at
section_takes front o rest order eight type e =
    let b =
    bind_ok (order_at o) (λ x. section_by x.0 front x.1 >>= λ y. order_ok (x.0, y.1)) (order, rest)
    e in
    let c =
    bind_ok (section_by b.0.0 front b.0.1) (λ y. order_ok (b.0.0, y.1)) (order, rest) b.2 in
    let same = same_order (b.0.0, c.0.1) (order, rest) c.2 in
    let same_x : b.0.0 ≡ order = ap (λ (x : ByteOrder × List ℕ). x.0) same in
    let same_rest : c.0.1 ≡ rest = ap (λ (x : ByteOrder × List ℕ). x.1) same in
    let total : ℕ = long_at b.0.0 4 front in
    let d =
    bind_ok (section_count total) (λ count. section_rest_at b.0.0 total count b.0.1) c.0 c.1 in
    let f = bind_ok (version_at b.0.0 b.0.1) (λ x. passed_at b.0.0 total d.0 x.1) c.0 d.2 in
    let x = order_takes o b.0.0 b.0.1 b.1 in
    let v = version_takes b.0.0 b.0.1 f.0.1 f.0.0 f.1 in
    let p = passed_takes b.0.0 total d.0 f.0.1 c.0.1 c.0.0 f.2 in
    let t = count_takes total d.0 d.1 in
    let options : List ℕ = take d.0 f.0.1 in
    let is : IsSectionBlock (front ++ o) b.0.0 c.0.1 = record {
      front = front;
      four = x.four;
      version = v.version;
      options = options;
      trailer = p.four;
      front_octets = eight;
      four_octets = x.count;
      version_octets = v.count;
      trailer_octets = p.four_octets;
      type_is = type;
      order_is = x.is;
      is = v.is;
      total = subst (λ (n : ℕ). IsTotal total (16 + n)) (sym p.body_octets) t;
      again = p.same;
      whole =
          ap (λ (l : List ℕ). front ++ l)
          (x.parts ∙ ap (λ (l : List ℕ). x.four ++ l)
          (v.parts ∙ ap (λ (l : List ℕ). v.version ++ l) p.parts));
    } in
    subst (λ (y : ByteOrder). IsSectionBlock (front ++ o) y rest) same_x
    (subst (λ (l : List ℕ). IsSectionBlock (front ++ o) b.0.0 l) same_rest is)

-- ---- the next block

abbrev Steps : Type 0
Steps = Result ((Known × Stepped) × List ℕ) RecordingFault

same_step : (a b : (Known × Stepped) × List ℕ) → step a ≡ step b → a ≡ b
same_step a b e = cc

no_step : (s : Option Recorded) → (let x : Stepped = None in x) ≡ Some s → ⊥
no_step s e = cc

some_front : (xs : List ℕ) → (let x : Option (List ℕ) = Some xs in x) ≡ None → ⊥
some_front xs e = cc

same_body : (a b : Option (List ℕ) × List ℕ) → body_ok a ≡ body_ok b → a ≡ b
same_body a b e = cc

differ : (let b : Bool = false in b) ≡ true → ⊥
differ e = cc

abbrev either : ℕ → Known → List ℕ → Bool → List ℕ → Steps
either room k front b o = cond b (section_step front o) (other_step room k front o)

begun_takes : (front r rest : List ℕ) (after : Known) (s : Option Recorded) → length front ≡ 8
    → take 4 front ≡ type_octets → section_step front r ≡ step ((after, Some s), rest)
    → (order : ByteOrder) × IsSectionBlock (front ++ r) order rest × (after ≡ fresh order)
    × (s ≡ None)
unfolding section_step
begun_takes front r rest after s eight type e =
    let b =
    bind_ok (section_at front r) (λ x. step ((fresh x.0, Some None), x.1)) ((after, Some s), rest)
    e in
    let same = same_step ((fresh b.0.0, Some None), b.0.1) ((after, Some s), rest) b.2 in
    let known : fresh b.0.0 ≡ after = ap (λ (x : (Known × Stepped) × List ℕ). x.0.0) same in
    let packet =
    same_stepped None s (ap (λ (x : (Known × Stepped) × List ℕ). x.0.1) same) in
    let rest_same : b.0.1 ≡ rest = ap (λ (x : (Known × Stepped) × List ℕ). x.1) same in (
      b.0.0,
      subst (λ (l : List ℕ). IsSectionBlock (front ++ r) b.0.0 l) rest_same
          (section_takes front r b.0.1 b.0.0 eight type b.1),
      sym known,
      sym packet,
    )

begins_by : (room : ℕ) (k : Known) (o : List ℕ) (front : Option (List ℕ)) (r : List ℕ)
    (after : Known) (s : Option Recorded) (rest : List ℕ) → AreOctets o
    → front_at o ≡ body_ok (front, r)
    → step_by room k front r ≡ step ((after, Some s), rest)
    → long_at k.order 0 o ≡ section_type → IsNext k o after s rest
begins_by room k o None r after s rest fit begins e is =
    absurd (no_step s (ap (λ (y : (Known × Stepped) × List ℕ). y.0.1)
    (same_step ((k, None), r) ((after, Some s), rest) e)))
begins_by room k o (Some front) r after s rest fit begins e is =
    let c = front_takes o front r begins in
    let four : long_at k.order 0 o ≡ long_at k.order 0 front =
    ap (λ (y : List ℕ). long_at k.order 0 y) c.parts
    ∙ ap (λ (y : List ℕ). number_by k.order w32 y)
    (take-append-le 4 front r (omega (arith, c.count))) in
    let type : long_at k.order 0 front ≡ section_type = sym four ∙ is in
    let at : section_step front r ≡ step ((after, Some s), rest) =
    ap (λ (b : Bool). either room k front b r)
    (sym (eq-eqb (long_at k.order 0 front) section_type type)) ∙ e in
    let fit_front : AreOctets front =
    subst AreOctets (ap (λ (y : List ℕ). take 8 y) c.parts ∙ take_at front r 8 c.count)
    (AreOctets-take 8 o fit) in
    let d =
    begun_takes front r rest after s c.count (type_takes k.order front fit_front c.count type) at in
    inl (record {
      order = d.0;
      is = subst (λ (y : List ℕ). IsSectionBlock y d.0 rest) (sym c.parts) d.1;
      after_is = d.2;
      none = d.3;
    })

next_by : (room : ℕ) (k after : Known) (o rest : List ℕ) (s : Option Recorded) (b : Bool)
    → eqb (long_at k.order 0 o) section_type ≡ b → AreOctets o
    → step_at room k o ≡ step ((after, Some s), rest) → IsNext k o after s rest
unfolding step_at
next_by room k after o rest s true h fit e =
    let b = bind_ok (front_at o) (λ z. step_by room k z.0 z.1) ((after, Some s), rest) e in
    begins_by room k o b.0.0 b.0.1 after s rest fit b.1 b.2
    (eqb-true (long_at k.order 0 o) section_type h)
next_by room k after o rest s false h fit e =
    let other : long_at k.order 0 o ≢ section_type =
    λ is. differ (sym h ∙ eq-eqb (long_at k.order 0 o) section_type is) in
    let t = block_takes room k o after s rest e other in
    inr (record {
      type = long_at k.order 0 o;
      body = t.body;
      is = t.is;
      other = other;
      does = does_takes k after (long_at k.order 0 o) t.body s t.enters;
    })

pub next_takes : (room : ℕ) (k after : Known) (o rest : List ℕ) (s : Option Recorded)
    → AreOctets o → step_at room k o ≡ Ok ((after, Some s), rest) → IsNext k o after s rest
next_takes room k after o rest s fit e =
    next_by room k after o rest s (eqb (long_at k.order 0 o) section_type) refl fit e

-- ---- the end

some_step : (s : Option Recorded) → (let x : Stepped = Some s in x) ≡ None → ⊥
some_step s e = cc

goes_on : (k after : Known) (s : Option Recorded) → found k s ≡ found_ok (after, None) → ⊥
goes_on k after s e =
    some_step s
    (ap (λ (x : Known × Stepped). x.1) (same_found_ok (k, Some s) (after, None) e))

kept_by : (b : Bool) (k after : Known)
    → cond b (found k None) (let r : Found = Err TooManyInterfaces in r) ≡ found_ok (after, None)
    → ⊥
kept_by true k after e = goes_on k after None e
kept_by false k after e = absurd cc

no_octets : (o r : List ℕ) → front_at o ≡ body_ok (None, r) → o ≡ []
unfolding front_at
no_octets [] r e = refl
no_octets (x ∷ xs) r e =
    let b = bind_ok (field_at 8 (x ∷ xs)) (λ y. body_ok (Some y.0, y.1)) (None, r) e in
    absurd (some_front b.0.0 (ap (λ (y : Option (List ℕ) × List ℕ). y.0)
    (same_body (Some b.0.0, b.0.1) (None, r) b.2)))

enter_by : (k after : Known) (type : ℕ) (body : List ℕ) (a b c d : Bool)
    → cond a (interface_of k.order body >>= λ i. with_interface k i)
    (cond b (obsolete_of k.order k.interfaces body >>= λ p. with_packet k 20 body p)
    (cond c (simple_of k.order k.interfaces body >>= λ p. with_packet k 4 body p)
    (cond d (enhanced_of k.order k.interfaces body >>= λ p. with_packet k 20 body p)
    (found k None)))) ≡ found_ok (after, None) → ⊥
enter_by k after type body true b c d e =
    let x =
    bind_ok (interface_of k.order body) (λ i. with_interface k i) (after, None) e in
    kept_by (ltb (length k.interfaces) most_interfaces)
    (record { order = k.order; interfaces = k.interfaces ++ x.0 ∷ [] }) after x.2
enter_by k after type body false true c d e =
    let x =
    bind_ok (obsolete_of k.order k.interfaces body) (λ p. with_packet k 20 body p) (after, None)
    e in
    goes_on k after (recorded x.0 (take x.0.captured (drop 20 body))) x.2
enter_by k after type body false false true d e =
    let x =
    bind_ok (simple_of k.order k.interfaces body) (λ p. with_packet k 4 body p) (after, None) e in
    goes_on k after (recorded x.0 (take x.0.captured (drop 4 body))) x.2
enter_by k after type body false false false true e =
    let x =
    bind_ok (enhanced_of k.order k.interfaces body) (λ p. with_packet k 20 body p) (after, None)
    e in
    goes_on k after (recorded x.0 (take x.0.captured (drop 20 body))) x.2
enter_by k after type body false false false false e = goes_on k after None e

enter_goes_on : (k after : Known) (type : ℕ) (body : Option (List ℕ))
    → entered k type body ≡ found_ok (after, None) → ⊥
unfolding enter_of
enter_goes_on k after type None e = goes_on k after None e
enter_goes_on k after type (Some body) e =
    enter_by k after type body (eqb type 1) (eqb type 2) (eqb type 3) (eqb type 6) e

other_goes_on : (room : ℕ) (k after : Known) (front o rest : List ℕ)
    → other_step room k front o ≡ step ((after, None), rest) → ⊥
unfolding other_step
other_goes_on room k after front o rest e =
    let type : ℕ = long_at k.order 0 front in
    let b =
    bind_ok (block_at k.order room front o) (λ x. with_rest (entered k type x.0) x.1)
    ((after, None), rest) e in
    let c =
    bind_ok (entered k type b.0.0) (λ x. step (x, b.0.1)) ((after, None), rest) b.2 in
    let same : c.0 ≡ (after, None) =
    ap (λ (x : (Known × Stepped) × List ℕ). x.0)
    (same_step (c.0, b.0.1) ((after, None), rest) c.2) in
    enter_goes_on k after type b.0.0 (c.1 ∙ ap (λ (x : Known × Stepped). found_ok x) same)

section_goes_on : (after : Known) (front o rest : List ℕ)
    → section_step front o ≡ step ((after, None), rest) → ⊥
unfolding section_step
section_goes_on after front o rest e =
    let b =
    bind_ok (section_at front o) (λ x. step ((fresh x.0, Some None), x.1)) ((after, None), rest)
    e in
    some_step None (ap (λ (x : (Known × Stepped) × List ℕ). x.0.1)
    (same_step ((fresh b.0.0, Some None), b.0.1) ((after, None), rest) b.2))

front_by : (room : ℕ) (k after : Known) (front o rest : List ℕ) (b : Bool)
    → either room k front b o ≡ step ((after, None), rest) → ⊥
front_by room k after front o rest true e = section_goes_on after front o rest e
front_by room k after front o rest false e = other_goes_on room k after front o rest e

ends_by : (room : ℕ) (k after : Known) (front : Option (List ℕ)) (o r rest : List ℕ)
    → front_at o ≡ body_ok (front, r) → step_by room k front r ≡ step ((after, None), rest)
    → o ≡ []
ends_by room k after None o r rest begins e = no_octets o r begins
ends_by room k after (Some front) o r rest begins e =
    absurd (front_by room k after front r rest (eqb (long_at k.order 0 front) section_type) e)

pub blocks_end : (room : ℕ) (k after : Known) (o rest : List ℕ)
    → step_at room k o ≡ Ok ((after, None), rest) → o ≡ []
unfolding step_at
blocks_end room k after o rest e =
    let b = bind_ok (front_at o) (λ z. step_by room k z.0 z.1) ((after, None), rest) e in
    ends_by room k after b.0.0 o b.0.1 rest b.1 b.2

-- ---- the first section

abbrev First : Type 0
First = Result (Known × List ℕ) RecordingFault

abbrev first_ok : Known × List ℕ → First
first_ok x = Ok x

same_first : (a b : Known × List ℕ) → first_ok a ≡ first_ok b → a ≡ b
same_first a b e = cc

first_if : (b : Bool) (front o : List ℕ) (k : Known) (rest : List ℕ)
    → cond (not b) (let r : First = Err (foreign_of front) in r)
    (section_at front o >>= λ x. first_ok (fresh x.0, x.1)) ≡ first_ok (k, rest)
    → (b ≡ true) × ((section_at front o >>= λ x. first_ok (fresh x.0, x.1)) ≡ first_ok (k, rest))
first_if true front o k rest e = (refl, e)
first_if false front o k rest e = absurd cc

pub first_takes : (o rest : List ℕ) (k : Known) → AreOctets o → first_at o ≡ Ok (k, rest)
    → (order : ByteOrder) × IsSectionBlock o order rest × (k ≡ fresh order)
unfolding first_at
first_takes o rest k fit e =
    let b = bind_ok (field_at 8 o) (λ x. first_by x.0 x.1) (k, rest) e in
    let front : List ℕ = b.0.0 in
    let c = cuts 8 o front b.0.1 b.1 in
    let fit_front : AreOctets front =
    subst AreOctets (ap (λ (y : List ℕ). take 8 y) c.parts ∙ take_at front b.0.1 8 c.count)
    (AreOctets-take 8 o fit) in
    let d =
    first_if (eqb (long_at Big 0 front) section_type) front b.0.1 k rest b.2 in
    let type : long_at Big 0 front ≡ section_type =
    eqb-true (long_at Big 0 front) section_type d.0 in
    let f = bind_ok (section_at front b.0.1) (λ x. first_ok (fresh x.0, x.1)) (k, rest) d.1 in
    let same = same_first (fresh f.0.0, f.0.1) (k, rest) f.2 in
    let rest_same : f.0.1 ≡ rest = ap (λ (x : Known × List ℕ). x.1) same in
    let known : fresh f.0.0 ≡ k = ap (λ (x : Known × List ℕ). x.0) same in
    let is =
    section_takes front b.0.1 f.0.1 f.0.0 c.count
    (type_takes Big front fit_front c.count type) f.1 in (
      f.0.0,
      subst (λ (y : List ℕ). IsSectionBlock y f.0.0 rest) (sym c.parts)
          (subst (λ (l : List ℕ). IsSectionBlock (front ++ b.0.1) f.0.0 l) rest_same is),
      sym known,
    )
