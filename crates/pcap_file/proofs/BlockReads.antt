-- Parts of blocks read from a source.
use Rattle.std.proofs.Common.{◌≡◌, ℕ, ◌<◌, ◌≤◌, Bool, true, false, cond, List, [], ◌∷◌}
use Rattle.std.proofs.Common.{length, Option, None, Some, Result, Ok, Err, refl, sym, ap}
use Rattle.std.proofs.Common.{◌∙◌, subst, arith}
use Rattle.std.specs.Io.KnownBytes.{Consumes, IsAtEnd}
use Rattle.std.proofs.lemmas.List.{length-append}
use Rattle.std.specs.Prelude.{IfOk, IfErr, OnOk}
use Rattle.std.proofs.lemmas.Bool.{lt-ltb, le-ltb}
use Rattle.pcap_file.specs.declared.fault.RecordingFault.{RecordingFault}
use Rattle.pcap_file.specs.declared.fault.RecordingFault.TheVariants.{PacketTooLong, Truncated}
use Rattle.pcap_file.specs.declared.order.ByteOrder.{ByteOrder}
use Rattle.pcap_file.specs.Fields.{Fails, field_at, recording_fault_origin}
use Rattle.st_format.specs.Given.{Takes}
use Rattle.pcap_file.specs.NgReading.{block_at, block_by, body_at, body_in, front_at, is_read}
use Rattle.pcap_file.specs.NgReading.{kept_at, order_at, passed_at, section_at, section_by}
use Rattle.pcap_file.specs.NgReading.{section_count, section_rest_at, trailer_at}
use Rattle.pcap_file.specs.BlockReading.{body_of_total}
use Rattle.pcap_file.specs.Orders.{long_at}
use Rattle.pcap_file.proofs.FieldReads.{mapped, mapped_fails, mapped_gives, pure_cut, pure_fails_if}
use Rattle.pcap_file.proofs.FieldReads.{pure_gives_if}
use Rattle.st_format.proofs.Origins.{if_content_weaker}
use Rattle.st_format.proofs.Parsing.{fails_field, fails_first, fails_then, gives_field, gives_then}
use Rattle.st_format.proofs.Parsing.{then_reads}

body_fit : (room count : ℕ) (o : List ℕ) → count ≤ room → body_at room count o ≡ field_at count o
unfolding body_at
body_fit room count o fits =
    ap (λ (b : Bool). cond b
    (let r : Result (List ℕ × List ℕ) RecordingFault = Err PacketTooLong in r)
    (field_at count o)) (le-ltb room count fits)

body_gives : (room n count : ℕ) (old new : Option (List ℕ)) (xs : List ℕ) → count ≤ room
    → n ≡ count → Takes (field_at n) old new xs → Takes (body_at room count) old new xs
body_gives room n count None new xs fits is takes = tt
body_gives room n count (Some o) None xs fits is takes = absurd takes
body_gives room n count (Some o) (Some rest) xs fits is takes =
    body_fit room count o fits ∙ ap (λ (k : ℕ). field_at k o) (sym is) ∙ takes

body_fails : (room n count : ℕ) (old : Option (List ℕ)) (f : RecordingFault) → count ≤ room
    → n ≡ count → Fails (field_at n) old f → Fails (body_at room count) old f
body_fails room n count None f fits is fails = tt
body_fails room n count (Some o) f fits is fails =
    if_content_weaker recording_fault_origin f (field_at n o ≡ Err f) (body_at room count o ≡ Err f)
    (λ e. body_fit room count o fits ∙ ap (λ (k : ℕ). field_at k o) (sym is) ∙ e) fails

pub body_gives_if : (room n count : ℕ) (old new : Option (List ℕ)) (xs ys : List ℕ)
    (r : Result (Unit {0}) RecordingFault) → count ≤ room → n ≡ count → xs ≡ ys
    → OnOk r (Takes (field_at n) old new xs) → OnOk r (Takes (body_at room count) old new ys)
body_gives_if room n count old new xs ys (Ok u) fits is same takes =
    subst (Takes (body_at room count) old new) same
    (body_gives room n count old new xs fits is takes)
body_gives_if room n count old new xs ys (Err f) fits is same takes = tt

pub body_fails_if : (room n count : ℕ) (old : Option (List ℕ))
    (r : Result (Unit {0}) RecordingFault) → count ≤ room → n ≡ count
    → IfErr r (λ f. Fails (field_at n) old f) → IfErr r (λ f. Fails (body_at room count) old f)
body_fails_if room n count old (Ok u) fits is fails = tt
body_fails_if room n count old (Err f) fits is fails = body_fails room n count old f fits is fails

pub body_long : (room count : ℕ) (old : Option (List ℕ)) → room < count
    → Fails (body_at room count) old PacketTooLong
unfolding body_at
body_long room count None long = tt
body_long room count (Some o) long =
    ap (λ (b : Bool). cond b
    (let r : Result (List ℕ × List ℕ) RecordingFault = Err PacketTooLong in r)
    (field_at count o)) (lt-ltb room count long)

-- ---- a body and the length again

module _ (order : ByteOrder) (total room count : ℕ) where
  abbrev with_body : List ℕ → Unit {0} → List ℕ → Result (List ℕ × List ℕ) RecordingFault
  with_body body u rest = Ok (body, rest)

  abbrev behind : List ℕ → List ℕ → Result (List ℕ × List ℕ) RecordingFault
  behind body = then_reads (trailer_at order total) (with_body body)

  body_so : (body : List ℕ) (u : Unit {0}) (known : Option (List ℕ))
      → Takes (with_body body u) known known body
  body_so body u None = tt
  body_so body u (Some o) = refl

  pub kept_cut : (old : Option (List ℕ)) (f : RecordingFault) → Fails (body_at room count) old f
      → Fails (kept_at order total room count) old f
  unfolding kept_at
  kept_cut old f fails = fails_first recording_fault_origin (body_at room count) behind old f fails

  pub kept_gives : (old mid new : Option (List ℕ)) (body : List ℕ)
      (r : Result (Unit {0}) RecordingFault) → Takes (body_at room count) old mid body
      → IfOk r (λ u. Takes (trailer_at order total) mid new u)
      → OnOk r (Takes (kept_at order total room count) old new body)
  unfolding kept_at
  kept_gives old mid new body (Ok u) p q =
      gives_then (body_at room count) behind old mid new body body p
      (gives_then (trailer_at order total) (with_body body) mid new new u body q
      (body_so body u new))
  kept_gives old mid new body (Err f) p q = tt

  pub kept_fails : (old mid : Option (List ℕ)) (body : List ℕ)
      (r : Result (Unit {0}) RecordingFault) → Takes (body_at room count) old mid body
      → IfErr r (λ f. Fails (trailer_at order total) mid f)
      → IfErr r (λ f. Fails (kept_at order total room count) old f)
  unfolding kept_at
  kept_fails old mid body (Ok u) p q = tt
  kept_fails old mid body (Err f) p q =
      fails_then recording_fault_origin (body_at room count) behind old mid body f p
      (fails_first recording_fault_origin (trailer_at order total) (with_body body) mid f q)

-- ---- a section's block

module _ (order : ByteOrder) (front : List ℕ) where
  abbrev rest_by : ℕ → ℕ → List ℕ → Result (Unit {0} × List ℕ) RecordingFault
  rest_by total count = section_rest_at order total count

  pub section_gives : (t : ℕ) (old new : Option (List ℕ)) (count : ℕ)
      (q : Result (Unit {0}) RecordingFault) → t ≡ long_at order 4 front
      → section_count t ≡ Ok count → IfOk q (λ v. Takes (section_rest_at order t count) old new v)
      → IfOk q (λ v. Takes (section_by order front) old new v)
  unfolding section_by
  section_gives t old new count q e =
      let base : section_count (long_at order 4 front) ≡ Ok count
      → IfOk q (λ v. Takes (section_rest_at order (long_at order 4 front) count) old new v)
      → IfOk q (λ v. Takes (section_by order front) old new v) =
      λ a b. pure_gives_if (λ (u : Unit {0}). u) (section_count (long_at order 4 front))
      (rest_by (long_at order 4 front)) old new count q a b in
      subst (λ (k : ℕ). section_count k ≡ Ok count
      → IfOk q (λ v. Takes (section_rest_at order k count) old new v)
      → IfOk q (λ v. Takes (section_by order front) old new v)) (sym e) base

  pub section_fails : (t : ℕ) (old : Option (List ℕ)) (count : ℕ)
      (q : Result (Unit {0}) RecordingFault) → t ≡ long_at order 4 front
      → section_count t ≡ Ok count → IfErr q (λ f. Fails (section_rest_at order t count) old f)
      → IfErr q (λ f. Fails (section_by order front) old f)
  unfolding section_by
  section_fails t old count q e =
      let base : section_count (long_at order 4 front) ≡ Ok count
      → IfErr q (λ f. Fails (section_rest_at order (long_at order 4 front) count) old f)
      → IfErr q (λ f. Fails (section_by order front) old f) =
      λ a b. pure_fails_if (section_count (long_at order 4 front))
      (rest_by (long_at order 4 front)) old count q a b in
      subst (λ (k : ℕ). section_count k ≡ Ok count
      → IfErr q (λ f. Fails (section_rest_at order k count) old f)
      → IfErr q (λ f. Fails (section_by order front) old f)) (sym e) base

  pub section_bad : (t : ℕ) (old : Option (List ℕ)) (f : RecordingFault)
      → t ≡ long_at order 4 front → section_count t ≡ Err f → Fails (section_by order front) old f
  unfolding section_by
  section_bad t old f e is =
      pure_cut (section_count (long_at order 4 front)) (rest_by (long_at order 4 front)) old f
      (ap (λ (k : ℕ). section_count k) (sym e) ∙ is)

module _ (front : List ℕ) where
  abbrev of_order : ByteOrder → Unit {0} → ByteOrder
  of_order order u = order

  abbrev behind_order : ByteOrder → List ℕ → Result (ByteOrder × List ℕ) RecordingFault
  behind_order order = mapped (of_order order) (section_by order front)

  pub order_cut : (old : Option (List ℕ)) (f : RecordingFault) → Fails order_at old f
      → Fails (section_at front) old f
  unfolding section_at
  order_cut old f p = fails_first recording_fault_origin order_at behind_order old f p

  pub order_fails : (old mid : Option (List ℕ)) (order : ByteOrder) (f : RecordingFault)
      → Takes order_at old mid order → Fails (section_by order front) mid f
      → Fails (section_at front) old f
  unfolding section_at
  order_fails old mid order f p q =
      fails_then recording_fault_origin order_at behind_order old mid order f p
      (mapped_fails (of_order order) (section_by order front) mid f q)

  pub order_gives : (old mid new : Option (List ℕ)) (order : ByteOrder)
      → Takes order_at old mid order → Takes (section_by order front) mid new tt
      → Takes (section_at front) old new order
  unfolding section_at
  order_gives old mid new order p q =
      gives_then order_at behind_order old mid new order order p
      (mapped_gives (of_order order) (section_by order front) mid new tt q)

-- ---- another block

module _ (order : ByteOrder) (kind total room count : ℕ) where
  abbrev Body : Type 0
  Body = Option (List ℕ)

  abbrev some_body : List ℕ → Body
  some_body xs = Some xs

  abbrev no_body : Unit {0} → Body
  no_body u = None

  abbrev kept : List ℕ → Result (Body × List ℕ) RecordingFault
  kept = mapped some_body (kept_at order total room count)

  abbrev passed : List ℕ → Result (Body × List ℕ) RecordingFault
  passed = mapped no_body (passed_at order total count)

  abbrev either : Bool → List ℕ → Result (Body × List ℕ) RecordingFault
  either b o = cond b (kept o) (passed o)

  pub by_kept : (old new : Option (List ℕ)) (xs : List ℕ) → is_read kind ≡ true
      → Takes (kept_at order total room count) old new xs
      → Takes (block_by order kind total room count) old new (Some xs)
  unfolding block_by
  by_kept old new xs e p =
      subst (λ (b : Bool). Takes (either b) old new (some_body xs)) (sym e)
      (mapped_gives some_body (kept_at order total room count) old new xs p)

  pub by_passed : (old new : Option (List ℕ)) → is_read kind ≡ false
      → Takes (passed_at order total count) old new tt
      → Takes (block_by order kind total room count) old new None
  unfolding block_by
  by_passed old new e p =
      subst (λ (b : Bool). Takes (either b) old new (no_body tt)) (sym e)
      (mapped_gives no_body (passed_at order total count) old new tt p)

  pub by_kept_fails : (old : Option (List ℕ)) (f : RecordingFault) → is_read kind ≡ true
      → Fails (kept_at order total room count) old f
      → Fails (block_by order kind total room count) old f
  unfolding block_by
  by_kept_fails old f e p =
      subst (λ (b : Bool). Fails (either b) old f) (sym e)
      (mapped_fails some_body (kept_at order total room count) old f p)

  pub by_passed_fails : (old : Option (List ℕ)) (f : RecordingFault) → is_read kind ≡ false
      → Fails (passed_at order total count) old f
      → Fails (block_by order kind total room count) old f
  unfolding block_by
  by_passed_fails old f e p =
      subst (λ (b : Bool). Fails (either b) old f) (sym e)
      (mapped_fails no_body (passed_at order total count) old f p)

module _ (order : ByteOrder) (room : ℕ) (front buf : List ℕ) where
  abbrev kind_of : ℕ
  kind_of = long_at order 0 front

  abbrev total_of : ℕ
  total_of = long_at order 4 front

  abbrev blocks : ℕ → List ℕ → Result (Option (List ℕ) × List ℕ) RecordingFault
  blocks count = block_by order kind_of total_of room count

  abbrev in_buffer : Option ℕ → Option (List ℕ)
  in_buffer r = body_in r buf

  pub block_gives : (k t : ℕ) (old new : Option (List ℕ)) (count : ℕ)
      (q : Result (Option ℕ) RecordingFault) → k ≡ long_at order 0 front
      → t ≡ long_at order 4 front → body_of_total t ≡ Ok count
      → IfOk q (λ r. Takes (block_by order k t room count) old new (body_in r buf))
      → IfOk q (λ r. Takes (block_at order room front) old new (body_in r buf))
  unfolding block_at
  block_gives k t old new count q ek et =
      let base : body_of_total total_of ≡ Ok count
      → IfOk q (λ r. Takes (block_by order kind_of total_of room count) old new (body_in r buf))
      → IfOk q (λ r. Takes (block_at order room front) old new (body_in r buf)) =
      λ a b. pure_gives_if in_buffer (body_of_total total_of) blocks old new count q a b in
      subst (λ (n : ℕ). body_of_total t ≡ Ok count
      → IfOk q (λ r. Takes (block_by order n t room count) old new (body_in r buf))
      → IfOk q (λ r. Takes (block_at order room front) old new (body_in r buf))) (sym ek)
      (subst (λ (n : ℕ). body_of_total n ≡ Ok count
      → IfOk q (λ r. Takes (block_by order kind_of n room count) old new (body_in r buf))
      → IfOk q (λ r. Takes (block_at order room front) old new (body_in r buf))) (sym et) base)

  pub block_fails : (k t : ℕ) (old : Option (List ℕ)) (count : ℕ)
      (q : Result (Option ℕ) RecordingFault) → k ≡ long_at order 0 front
      → t ≡ long_at order 4 front → body_of_total t ≡ Ok count
      → IfErr q (λ f. Fails (block_by order k t room count) old f)
      → IfErr q (λ f. Fails (block_at order room front) old f)
  unfolding block_at
  block_fails k t old count q ek et =
      let base : body_of_total total_of ≡ Ok count
      → IfErr q (λ f. Fails (block_by order kind_of total_of room count) old f)
      → IfErr q (λ f. Fails (block_at order room front) old f) =
      λ a b. pure_fails_if (body_of_total total_of) blocks old count q a b in
      subst (λ (n : ℕ). body_of_total t ≡ Ok count
      → IfErr q (λ f. Fails (block_by order n t room count) old f)
      → IfErr q (λ f. Fails (block_at order room front) old f)) (sym ek)
      (subst (λ (n : ℕ). body_of_total n ≡ Ok count
      → IfErr q (λ f. Fails (block_by order kind_of n room count) old f)
      → IfErr q (λ f. Fails (block_at order room front) old f)) (sym et) base)

  pub block_bad : (t : ℕ) (old : Option (List ℕ)) (f : RecordingFault)
      → t ≡ long_at order 4 front → body_of_total t ≡ Err f
      → Fails (block_at order room front) old f
  unfolding block_at
  block_bad t old f e is =
      pure_cut (body_of_total total_of) blocks old f
      (ap (λ (k : ℕ). body_of_total k) (sym e) ∙ is)

-- ---- the first eight octets

abbrev some_front : List ℕ → Option (List ℕ)
some_front xs = Some xs

abbrev fronts : List ℕ → Result (Option (List ℕ) × List ℕ) RecordingFault
fronts = mapped some_front (field_at 8)

front_some : (o : List ℕ) → 0 < length o → front_at o ≡ fronts o
unfolding front_at
front_some [] some = absurd (omega arith)
front_some (x ∷ xs) some = refl

abbrev ended : List ℕ → Result (Option (List ℕ) × List ℕ) RecordingFault
ended rest = Ok (None, rest)

pub front_end : (old new : Option (List ℕ)) (given : List ℕ) → length given ≡ 0
    → Consumes old new given → IsAtEnd new → Takes front_at old new None
unfolding front_at
front_end None new given none p e = tt
front_end (Some o) None given none p e = absurd p
front_end (Some o) (Some rest) [] none p e = ap front_at (p ∙ e) ∙ ap ended (sym e)
front_end (Some o) (Some rest) (x ∷ xs) none p e = absurd (omega arith)

pub front_gives : (old new : Option (List ℕ)) (given : List ℕ) → length given ≡ 8
    → Consumes old new given → Takes front_at old new (Some given)
front_gives None new given eight p = tt
front_gives (Some o) None given eight p = absurd p
front_gives (Some o) (Some rest) given eight p =
    front_some o (omega (arith, ap (λ (x : List ℕ). length x) p, length-append given rest))
    ∙ mapped_gives some_front (field_at 8) (Some o) (Some rest) given
    (gives_field Truncated 8 (Some o) (Some rest) given eight p)

pub front_cut : (old new : Option (List ℕ)) (given : List ℕ) → 0 < length given
    → length given < 8 → Consumes old new given → IsAtEnd new → Fails front_at old Truncated
front_cut None new given some short p e = tt
front_cut (Some o) None given some short p e = absurd p
front_cut (Some o) (Some rest) given some short p e =
    front_some o (omega (arith, ap (λ (x : List ℕ). length x) p, length-append given rest))
    ∙ mapped_fails some_front (field_at 8) (Some o) Truncated
    (fails_field recording_fault_origin Truncated 8 (Some o) (Some rest) given short p e)
