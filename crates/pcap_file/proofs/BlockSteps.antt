-- A step of reading blocks gives what a block does, just where a block stands.
use Rattle.std.proofs.Common.{◌≡◌, ℕ, ◌-◌, ◌%◌, ◌≤◌, Bool, true, false, cond, not, eqb}
use Rattle.std.proofs.Common.{ltb, ◌||◌, List, [], ◌∷◌, ◌++◌, length, take, Option, None, Some}
use Rattle.std.proofs.Common.{Result, Ok, Err, refl, sym, ap, ◌∙◌, subst, arith}
use Rattle.std.specs.Int.{w32}
use Rattle.std.proofs.lemmas.Bool.{eq-eqb, eqb-true, le-ltb, ltb-false, ne_eqb, or_from}
use Rattle.std.proofs.lemmas.List.{length-append, length-take-le, take-append-drop}
use Rattle.std.proofs.lemmas.List.{take-append-le, drop_at}
use Rattle.st_format.specs.Reading.{◌>>=◌}
use Rattle.st_format.proofs.Readings.{bind_ok}
use Rattle.pcap_file.specs.declared.fault.RecordingFault.{RecordingFault}
use Rattle.pcap_file.specs.declared.fault.RecordingFault.TheVariants.{BadBlock, PacketTooLong}
use Rattle.pcap_file.specs.declared.order.ByteOrder.{ByteOrder}
use Rattle.pcap_file.specs.Orders.{long_at, number_by}
use Rattle.pcap_file.specs.Blocks.{IsBlock, IsTotal, most_octets}
use Rattle.pcap_file.specs.BlockReading.{body_of_total}
use Rattle.pcap_file.specs.Fields.{field_at}
use Rattle.st_format.specs.Given.{with_rest}
use Rattle.pcap_file.specs.PcapReading.{Recorded}
use Rattle.pcap_file.specs.NgReading.{again_of, block_at, block_by, body_at, front_at, is_read}
use Rattle.pcap_file.specs.NgReading.{kept_at, passed_at, skip_at, trailer_at}
use Rattle.pcap_file.specs.NgSteps.{Known, Stepped, body_read, entered, other_step, section_step}
use Rattle.pcap_file.specs.NgSteps.{section_type, step_at, step_by}
use Rattle.pcap_file.proofs.FieldReads.{gone, skipped, was_skipped}
use Rattle.pcap_file.proofs.Recordings.{Cuts, Field, cuts, field, field_whole}

abbrev pub Nothing : Type 0
Nothing = Unit {0}

abbrev pub Went : Type 0
Went = Result (Nothing × List ℕ) RecordingFault

abbrev pub went : Nothing × List ℕ → Went
went x = Ok x

abbrev pub Body : Type 0
Body = Result (Option (List ℕ) × List ℕ) RecordingFault

abbrev pub body_ok : Option (List ℕ) × List ℕ → Body
body_ok x = Ok x

abbrev pub Found : Type 0
Found = Known × Stepped

abbrev pub Step : Type 0
Step = Result (Found × List ℕ) RecordingFault

abbrev pub step : Found × List ℕ → Step
step x = Ok x

abbrev pub number : ℕ → Result ℕ RecordingFault
number n = Ok n

-- ---- what stands there is read

pub total_again : (t n : ℕ) → IsTotal t n → body_of_total t ≡ number n
total_again t n is =
    let less : t - 12 ≡ n = omega (arith, is.counted) in
    ap (λ (b : Bool). cond b (let r : Result ℕ RecordingFault = Err BadBlock in r)
    (number (t - 12)))
    (or_from (ltb t 12 || not (eqb (t % 4) 0)) (ltb most_octets t)
    (or_from (ltb t 12) (not (eqb (t % 4) 0)) (le-ltb t 12 (omega (arith, is.counted)))
    (ap not (eq-eqb (t % 4) 0 is.fours))) (le-ltb most_octets t is.few))
    ∙ ap number less

trailer_again : (order : ByteOrder) (total : ℕ) (four rest : List ℕ) → length four ≡ 4
    → long_at order 0 four ≡ total → trailer_at order total (four ++ rest) ≡ went (tt, rest)
unfolding trailer_at
trailer_again order total four rest count same =
    ap (λ (r : Field). r >>= λ x. with_rest (again_of order total x.0) x.1)
    (field_whole 4 four rest count)
    ∙ ap (λ (b : Bool). with_rest
    (cond b (let r : Result Nothing RecordingFault = Ok tt in r) (Err BadBlock)) rest)
    (eq-eqb (long_at order 0 four) total same)

skip_again : (body rest : List ℕ) → skip_at (length body) (body ++ rest) ≡ gone rest
skip_again body rest =
    skipped (length body) (body ++ rest) (omega (arith, length-append body rest))
    ∙ ap gone (drop_at body rest (length body) refl)

body_again : (room : ℕ) (body rest : List ℕ) → length body ≤ room
    → body_at room (length body) (body ++ rest) ≡ field (body, rest)
unfolding body_at
body_again room body rest fits =
    ap (λ (b : Bool). cond b (let r : Field = Err PacketTooLong in r)
    (field_at (length body) (body ++ rest))) (le-ltb room (length body) fits)
    ∙ field_whole (length body) body rest refl

module _ (order : ByteOrder) (type total room : ℕ) (body four rest : List ℕ)
    (count : length four ≡ 4)
    (same : long_at order 0 four ≡ total) where
  kept_again : length body ≤ room
      → kept_at order total room (length body) (body ++ (four ++ rest)) ≡ field (body, rest)
  unfolding kept_at
  kept_again fits =
      ap (λ (r : Field). r >>= λ x. trailer_at order total x.1 >>= λ y. field (x.0, y.1))
      (body_again room body (four ++ rest) fits)
      ∙ ap (λ (r : Went). r >>= λ y. field (body, y.1))
      (trailer_again order total four rest count same)

  pub passed_again : passed_at order total (length body) (body ++ (four ++ rest)) ≡ went (tt, rest)
  unfolding passed_at
  passed_again =
      ap (λ (r : Went). r >>= λ x. trailer_at order total x.1) (skip_again body (four ++ rest))
      ∙ trailer_again order total four rest count same

  by_again : (b : Bool) → is_read type ≡ b → (b ≡ true → length body ≤ room)
      → block_by order type total room (length body) (body ++ (four ++ rest))
      ≡ body_ok (cond b (Some body) None, rest)
  unfolding block_by
  by_again true e fits =
      ap (λ (b : Bool). cond b
      (kept_at order total room (length body) (body ++ (four ++ rest)) >>=
      λ x. body_ok (Some x.0, x.1))
      (passed_at order total (length body) (body ++ (four ++ rest)) >>= λ x. body_ok (None, x.1))) e
      ∙ ap (λ (r : Field). r >>= λ x. body_ok (Some x.0, x.1)) (kept_again (fits refl))
  by_again false e fits =
      ap (λ (b : Bool). cond b
      (kept_at order total room (length body) (body ++ (four ++ rest)) >>=
      λ x. body_ok (Some x.0, x.1))
      (passed_at order total (length body) (body ++ (four ++ rest)) >>= λ x. body_ok (None, x.1))) e
      ∙ ap (λ (r : Went). r >>= λ x. body_ok (None, x.1)) passed_again

pub front_again : (front rest : List ℕ) → length front ≡ 8
    → front_at (front ++ rest) ≡ body_ok (Some front, rest)
unfolding front_at
front_again [] rest count = absurd (omega arith)
front_again (x ∷ xs) rest count =
    ap (λ (r : Field). r >>= λ y. body_ok (Some y.0, y.1)) (field_whole 8 (x ∷ xs) rest count)

other_again : (room : ℕ) (k : Known) (octets body rest : List ℕ) (type : ℕ) (x : Found)
    → (is : IsBlock k.order octets type body rest) → (is_read type ≡ true → length body ≤ room)
    → entered k type (body_read type body) ≡ Ok x
    → other_step room k is.front (body ++ (is.trailer ++ rest)) ≡ step (x, rest)
unfolding other_step block_at
other_again room k octets body rest type x is fits enters =
    let total : ℕ = long_at k.order 4 is.front in
    let o : List ℕ = body ++ (is.trailer ++ rest) in
    let kind : ℕ = long_at k.order 0 is.front in
    let at : block_by k.order kind total room (length body) o
    ≡ body_ok (body_read type body, rest) =
    ap (λ (n : ℕ). block_by k.order n total room (length body) o) (sym is.type_is)
    ∙ by_again k.order type total room body is.trailer rest is.trailer_octets is.again
    (is_read type) refl fits in
    ap (λ (r : Result ℕ RecordingFault). r >>= (λ n. block_by k.order kind total room n o) >>=
    λ z. with_rest (entered k kind z.0) z.1) (total_again total (length body) is.total)
    ∙ ap (λ (r : Body). r >>= λ z. with_rest (entered k kind z.0) z.1) at
    ∙ ap (λ (n : ℕ). with_rest (entered k n (body_read type body)) rest) (sym is.type_is)
    ∙ ap (λ (r : Result Found RecordingFault). with_rest r rest) enters

pub block_again : (room : ℕ) (k : Known) (octets body rest : List ℕ) (type : ℕ) (x : Found)
    → IsBlock k.order octets type body rest → (type ≡ section_type → ⊥)
    → (is_read type ≡ true → length body ≤ room) → entered k type (body_read type body) ≡ Ok x
    → step_at room k octets ≡ Ok (x, rest)
unfolding step_at
block_again room k octets body rest type x is other fits enters =
    let o : List ℕ = body ++ (is.trailer ++ rest) in
    ap (λ (y : List ℕ). front_at y >>= λ z. step_by room k z.0 z.1) is.whole
    ∙ ap (λ (r : Body). r >>= λ z. step_by room k z.0 z.1) (front_again is.front o is.front_octets)
    ∙ ap (λ (b : Bool). cond b (section_step is.front o) (other_step room k is.front o))
    (ne_eqb (long_at k.order 0 is.front) section_type (λ e. other (is.type_is ∙ e)))
    ∙ other_again room k octets body rest type x is fits enters

-- ---- what is read stands there

same_went : (a b : Nothing × List ℕ) → went a ≡ went b → a.1 ≡ b.1
same_went a b e = let same : a ≡ b = cc in ap (λ (x : Nothing × List ℕ). x.1) same

same_field : (a b : List ℕ × List ℕ) → field a ≡ field b → a ≡ b
same_field a b e = cc

same_body : (a b : Option (List ℕ) × List ℕ) → body_ok a ≡ body_ok b → a ≡ b
same_body a b e = cc

same_step : (a b : Found × List ℕ) → step a ≡ step b → a ≡ b
same_step a b e = cc

same_number : (a b : ℕ) → number a ≡ number b → a ≡ b
same_number a b e = cc

total_by : (t n : ℕ) (a b c : Bool) → ltb t 12 ≡ a → eqb (t % 4) 0 ≡ b → ltb most_octets t ≡ c
    → cond (a || not b || c) (let r : Result ℕ RecordingFault = Err BadBlock in r) (number (t - 12))
    ≡ number n → IsTotal t n
total_by t n true b c ea eb ec e = absurd cc
total_by t n false false c ea eb ec e = absurd cc
total_by t n false true true ea eb ec e = absurd cc
total_by t n false true false ea eb ec e =
    let same : t - 12 ≡ n = same_number (t - 12) n e in
    let long : 12 ≤ t = ltb-false t 12 ea in
    record {
      counted = omega arith;
      fours = eqb-true (t % 4) 0 eb;
      few = ltb-false most_octets t ec;
    }

pub total_takes : (t n : ℕ) → body_of_total t ≡ number n → IsTotal t n
total_takes t n e =
    total_by t n (ltb t 12) (eqb (t % 4) 0) (ltb most_octets t) refl refl refl e

-- a block's length again
record Trailed (order : ByteOrder) (total : ℕ) (o rest : List ℕ) : Type 0 where
  four : List ℕ
  count : length four ≡ 4
  same : long_at order 0 four ≡ total
  parts : o ≡ four ++ rest

again_by : (b : Bool) (rest left : List ℕ) (u : Nothing)
    → with_rest (cond b (let r : Result Nothing RecordingFault = Ok tt in r) (Err BadBlock)) rest
    ≡ went (u, left) → (b ≡ true) × (rest ≡ left)
again_by true rest left u e = (refl, same_went (tt, rest) (u, left) e)
again_by false rest left u e = absurd cc

trailer_takes : (order : ByteOrder) (total : ℕ) (o rest : List ℕ) (u : Nothing)
    → trailer_at order total o ≡ went (u, rest) → Trailed order total o rest
unfolding trailer_at
trailer_takes order total o rest u e =
    let b =
    bind_ok (field_at 4 o) (λ x. with_rest (again_of order total x.0) x.1) (u, rest) e in
    let c = cuts 4 o b.0.0 b.0.1 b.1 in
    let g = again_by (eqb (long_at order 0 b.0.0) total) b.0.1 rest u b.2 in
    record {
      four = b.0.0;
      count = c.count;
      same = eqb-true (long_at order 0 b.0.0) total g.0;
      parts = c.parts ∙ ap (λ (x : List ℕ). b.0.0 ++ x) g.1;
    }

body_by : (b : Bool) (r : Field) (y : List ℕ × List ℕ)
    → cond b (let q : Field = Err PacketTooLong in q) r ≡ field y → r ≡ field y
body_by true r y e = absurd cc
body_by false r y e = e

body_takes : (room count : ℕ) (o xs rest : List ℕ) → body_at room count o ≡ field (xs, rest)
    → Cuts count o xs rest
unfolding body_at
body_takes room count o xs rest e =
    cuts count o xs rest (body_by (ltb room count) (field_at count o) (xs, rest) e)

-- a body, and the block's length again
pub record Framed (order : ByteOrder) (total count : ℕ) (o body rest : List ℕ) : Type 0 where
  pub four : List ℕ
  pub body_octets : length body ≡ count
  pub four_octets : length four ≡ 4
  pub same : long_at order 0 four ≡ total
  pub parts : o ≡ body ++ (four ++ rest)

kept_takes : (order : ByteOrder) (total room count : ℕ) (o body rest : List ℕ)
    → kept_at order total room count o ≡ field (body, rest) → Framed order total count o body rest
unfolding kept_at
kept_takes order total room count o body rest e =
    let b =
    bind_ok (body_at room count o)
    (λ x. trailer_at order total x.1 >>= λ y. field (x.0, y.1)) (body, rest) e in
    let c = bind_ok (trailer_at order total b.0.1) (λ y. field (b.0.0, y.1)) (body, rest) b.2 in
    let x = body_takes room count o b.0.0 b.0.1 b.1 in
    let t = trailer_takes order total b.0.1 c.0.1 c.0.0 c.1 in
    let same : (b.0.0, c.0.1) ≡ (body, rest) = same_field (b.0.0, c.0.1) (body, rest) c.2 in
    let same_xs : b.0.0 ≡ body = ap (λ (y : List ℕ × List ℕ). y.0) same in
    let same_rest : c.0.1 ≡ rest = ap (λ (y : List ℕ × List ℕ). y.1) same in
    record {
      four = t.four;
      body_octets = ap (λ (y : List ℕ). length y) (sym same_xs) ∙ x.count;
      four_octets = t.count;
      same = t.same;
      parts =
          x.parts ∙ ap (λ (y : List ℕ). y ++ b.0.1) same_xs
          ∙ ap (λ (y : List ℕ). body ++ y)
          (t.parts ∙ ap (λ (y : List ℕ). t.four ++ y) same_rest);
    }

pub passed_takes : (order : ByteOrder) (total count : ℕ) (o rest : List ℕ) (u : Nothing)
    → passed_at order total count o ≡ went (u, rest)
    → Framed order total count o (take count o) rest
unfolding passed_at
passed_takes order total count o rest u e =
    let b =
    bind_ok (skip_at count o) (λ x. trailer_at order total x.1) (u, rest) e in
    let s = was_skipped count o b.0.1 b.1 in
    let t = trailer_takes order total b.0.1 rest u b.2 in
    record {
      four = t.four;
      body_octets = length-take-le count o s.long;
      four_octets = t.count;
      same = t.same;
      parts =
          sym (take-append-drop count o)
          ∙ ap (λ (y : List ℕ). take count o ++ y) (sym s.rest_is ∙ t.parts);
    }

-- and what is read of the body
record Blocked (order : ByteOrder) (type total count : ℕ) (o : List ℕ) (read : Option (List ℕ))
    (rest : List ℕ) : Type 0 where
  body : List ℕ
  framed : Framed order total count o body rest
  read_is : read ≡ body_read type body

by_takes : (order : ByteOrder) (type total room count : ℕ) (o : List ℕ) (read : Option (List ℕ))
    (rest : List ℕ) (b : Bool) → is_read type ≡ b
    → cond b (kept_at order total room count o >>= λ x. body_ok (Some x.0, x.1))
    (passed_at order total count o >>= λ x. body_ok (None, x.1)) ≡ body_ok (read, rest)
    → Blocked order type total count o read rest
by_takes order type total room count o read rest true e h =
    let b =
    bind_ok (kept_at order total room count o) (λ x. body_ok (Some x.0, x.1)) (read, rest) h in
    let same : (Some b.0.0, b.0.1) ≡ (read, rest) =
    same_body (Some b.0.0, b.0.1) (read, rest) b.2 in
    let read_same : Some b.0.0 ≡ read = ap (λ (y : Option (List ℕ) × List ℕ). y.0) same in
    let rest_same : b.0.1 ≡ rest = ap (λ (y : Option (List ℕ) × List ℕ). y.1) same in
    record {
      body = b.0.0;
      framed =
          subst (Framed order total count o b.0.0) rest_same
          (kept_takes order total room count o b.0.0 b.0.1 b.1);
      read_is =
          sym read_same
          ∙ ap (λ (x : Bool). cond x (let r : Option (List ℕ) = Some b.0.0 in r) None) (sym e);
    }
by_takes order type total room count o read rest false e h =
    let b =
    bind_ok (passed_at order total count o) (λ x. body_ok (None, x.1)) (read, rest) h in
    let same : (None, b.0.1) ≡ (read, rest) = same_body (None, b.0.1) (read, rest) b.2 in
    let read_same : None ≡ read = ap (λ (y : Option (List ℕ) × List ℕ). y.0) same in
    let rest_same : b.0.1 ≡ rest = ap (λ (y : Option (List ℕ) × List ℕ). y.1) same in
    record {
      body = take count o;
      framed =
          subst (Framed order total count o (take count o)) rest_same
          (passed_takes order total count o b.0.1 b.0.0 b.1);
      read_is =
          sym read_same
          ∙ ap (λ (x : Bool). cond x (let r : Option (List ℕ) = Some (take count o) in r) None)
          (sym e);
    }

-- a block, by its first eight octets and the rest
pub record StepsOver (k : Known) (octets : List ℕ) (type : ℕ) (x : Found)
    (rest : List ℕ) : Type 0 where
  pub body : List ℕ
  pub is : IsBlock k.order octets type body rest
  pub enters : entered k type (body_read type body) ≡ Ok x

with_rest_takes : (r : Result Found RecordingFault) (rest left : List ℕ) (x : Found)
    → with_rest r rest ≡ step (x, left) → (r ≡ Ok x) × (rest ≡ left)
with_rest_takes (Ok y) rest left x e =
    let same : (y, rest) ≡ (x, left) = same_step (y, rest) (x, left) e in (
      ap (λ (z : Found × List ℕ). let q : Result Found RecordingFault = Ok z.0 in q) same,
      ap (λ (z : Found × List ℕ). z.1) same,
    )
with_rest_takes (Err f) rest left x e = absurd cc

other_takes : (room : ℕ) (k : Known) (front o : List ℕ) (x : Found) (rest : List ℕ)
    → length front ≡ 8 → other_step room k front o ≡ step (x, rest)
    → StepsOver k (front ++ o) (long_at k.order 0 front) x rest
unfolding other_step block_at block_by
other_takes room k front o x rest eight e =
    let type : ℕ = long_at k.order 0 front in
    let total : ℕ = long_at k.order 4 front in
    let a =
    bind_ok (block_at k.order room front o) (λ z. with_rest (entered k type z.0) z.1) (x, rest) e in
    let n =
    bind_ok (body_of_total total) (λ count. block_by k.order type total room count o) a.0 a.1 in
    let b = by_takes k.order type total room n.0 o a.0.0 a.0.1 (is_read type) refl n.2 in
    let w = with_rest_takes (entered k type a.0.0) a.0.1 rest x a.2 in
    let t = total_takes total n.0 n.1 in
    record {
      body = b.body;
      is = record {
        front = front;
        trailer = b.framed.four;
        front_octets = eight;
        trailer_octets = b.framed.four_octets;
        type_is = refl;
        total = subst (IsTotal total) (sym b.framed.body_octets) t;
        again = b.framed.same;
        whole =
            ap (λ (y : List ℕ). front ++ y)
            (b.framed.parts
            ∙ ap (λ (y : List ℕ). b.body ++ (b.framed.four ++ y)) w.1);
      };
      enters = ap (λ (y : Option (List ℕ)). entered k type y) (sym b.read_is) ∙ w.0;
    }

no_front : (xs : List ℕ) → (let x : Option (List ℕ) = None in x) ≡ Some xs → ⊥
no_front xs e = cc

same_front : (a b : List ℕ) → (let x : Option (List ℕ) = Some a in x) ≡ Some b → a ≡ b
same_front a b e = cc

no_step : (s : Option Recorded) → (let x : Stepped = None in x) ≡ Some s → ⊥
no_step s e = cc

-- the first eight octets of a block
pub front_takes : (o front rest : List ℕ) → front_at o ≡ body_ok (Some front, rest)
    → Cuts 8 o front rest
unfolding front_at
front_takes [] front rest e =
    absurd (no_front front (ap (λ (y : Option (List ℕ) × List ℕ). y.0)
    (same_body (None, []) (Some front, rest) e)))
front_takes (x ∷ xs) front rest e =
    let b =
    bind_ok (field_at 8 (x ∷ xs)) (λ y. body_ok (Some y.0, y.1)) (Some front, rest) e in
    let same : (Some b.0.0, b.0.1) ≡ (Some front, rest) =
    same_body (Some b.0.0, b.0.1) (Some front, rest) b.2 in
    let front_same : b.0.0 ≡ front =
    same_front b.0.0 front (ap (λ (y : Option (List ℕ) × List ℕ). y.0) same) in
    let rest_same : b.0.1 ≡ rest = ap (λ (y : Option (List ℕ) × List ℕ). y.1) same in
    let c = cuts 8 (x ∷ xs) b.0.0 b.0.1 b.1 in
    record {
      count = ap (λ (y : List ℕ). length y) (sym front_same) ∙ c.count;
      parts =
          c.parts ∙ ap (λ (y : List ℕ). y ++ b.0.1) front_same
          ∙ ap (λ (y : List ℕ). front ++ y) rest_same;
    }

abbrev either : ℕ → Known → List ℕ → Bool → List ℕ → Step
either room k front b o = cond b (section_step front o) (other_step room k front o)

by_front : (room : ℕ) (k : Known) (o : List ℕ) (front : Option (List ℕ)) (r : List ℕ)
    (after : Known) (s : Option Recorded) (rest : List ℕ) → front_at o ≡ body_ok (front, r)
    → step_by room k front r ≡ step ((after, Some s), rest)
    → (long_at k.order 0 o ≡ section_type → ⊥)
    → StepsOver k o (long_at k.order 0 o) (after, Some s) rest
by_front room k o None r after s rest begins e other =
    absurd (no_step s (ap (λ (y : Found × List ℕ). y.0.1)
    (same_step ((k, None), r) ((after, Some s), rest) e)))
by_front room k o (Some front) r after s rest begins e other =
    let c = front_takes o front r begins in
    let four : long_at k.order 0 o ≡ long_at k.order 0 front =
    ap (λ (y : List ℕ). long_at k.order 0 y) c.parts
    ∙ ap (λ (y : List ℕ). number_by k.order w32 y)
    (take-append-le 4 front r (omega (arith, c.count))) in
    let at : other_step room k front r ≡ step ((after, Some s), rest) =
    ap (λ (b : Bool). either room k front b r)
    (sym (ne_eqb (long_at k.order 0 front) section_type (λ h. other (four ∙ h)))) ∙ e in
    let made = other_takes room k front r (after, Some s) rest c.count at in
    subst (λ (t : ℕ). StepsOver k o t (after, Some s) rest) (sym four)
    (subst (λ (y : List ℕ). StepsOver k y (long_at k.order 0 front) (after, Some s) rest)
    (sym c.parts) made)

pub block_takes : (room : ℕ) (k : Known) (o : List ℕ) (after : Known) (s : Option Recorded)
    (rest : List ℕ) → step_at room k o ≡ Ok ((after, Some s), rest)
    → (long_at k.order 0 o ≡ section_type → ⊥)
    → StepsOver k o (long_at k.order 0 o) (after, Some s) rest
unfolding step_at
block_takes room k o after s rest e other =
    let b = bind_ok (front_at o) (λ z. step_by room k z.0 z.1) ((after, Some s), rest) e in
    by_front room k o b.0.0 b.0.1 after s rest b.1 b.2 other
