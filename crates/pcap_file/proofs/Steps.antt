-- A recording in blocks, one block after another.
use Rattle.std.proofs.Common.{◌≡◌, ℕ, ◌+◌, ◌-◌, ◌≤◌, Bool, false, cond, not, List, length, take}
use Rattle.std.proofs.Common.{drop, Option, None, Some, Result, Ok, Err, refl, sym, ap, ◌∙◌, subst}
use Rattle.std.proofs.Common.{arith}
use Rattle.std.specs.Prelude.{IfOk, IfErr}
use Rattle.std.proofs.lemmas.Bool.{eq-eqb, ne_eqb}
use Rattle.std.proofs.lemmas.List.{drop-take, length-take, take-take}
use Rattle.pcap_file.specs.declared.fault.RecordingFault.{RecordingFault}
use Rattle.pcap_file.specs.declared.fault.RecordingFault.TheVariants.{Device, Truncated, BadMagic}
use Rattle.pcap_file.specs.declared.fault.RecordingFault.TheVariants.{BadVersion, BadBlock}
use Rattle.pcap_file.specs.declared.fault.RecordingFault.TheVariants.{BadInterface, BadTime}
use Rattle.pcap_file.specs.declared.fault.RecordingFault.TheVariants.{TooManyInterfaces}
use Rattle.pcap_file.specs.declared.fault.RecordingFault.TheVariants.{PacketTooLong, Packed}
use Rattle.pcap_file.specs.declared.fault.RecordingFault.TheVariants.{TooManyBlocks}
use Rattle.pcap_file.specs.declared.order.ByteOrder.{ByteOrder}
use Rattle.pcap_file.specs.declared.section.Step.{Step}
use Rattle.pcap_file.specs.declared.section.Step.TheVariants.{End, Passed, Packet}
use Rattle.pcap_file.specs.Fields.{CountsDevice, CountsFault, Fails, IsContent}
use Rattle.pcap_file.specs.Fields.{recording_fault_origin}
use Rattle.st_format.specs.Given.{GaveValue, Takes, with_rest}
use Rattle.pcap_file.specs.Fields.{field_at}
use Rattle.pcap_file.specs.Orders.{long_at}
use Rattle.pcap_file.specs.Pcap.{foreign_of}
use Rattle.pcap_file.specs.NgReading.{block_at, front_at, section_at}
use Rattle.pcap_file.specs.declared.order.ByteOrder.TheVariants.{Big}
use Rattle.pcap_file.specs.NgSteps.{GaveStep, GoesOn}
use Rattle.pcap_file.specs.NgSteps.{IsPacketWithin, Known, Stepped, enter_of, entered, first_at}
use Rattle.pcap_file.specs.NgSteps.{first_by}
use Rattle.pcap_file.specs.NgSteps.{fresh}
use Rattle.pcap_file.specs.NgSteps.{other_step}
use Rattle.pcap_file.specs.NgSteps.{section_step, section_type, step_at, step_by}
use Rattle.pcap_file.specs.NgSteps.{step_seen}
use Rattle.pcap_file.proofs.FieldReads.{mapped, mapped_fails, mapped_gives}
use Rattle.st_format.proofs.Origins.{if_content}
use Rattle.st_format.proofs.Parsing.{fails_first, fails_pure, fails_then, gives_pure, gives_then}
use Rattle.st_format.proofs.Parsing.{then_reads}

-- a fault that is the recording's is no failure of the device
pub counts_content : (f : RecordingFault) (old new : ℕ) → IsContent f → new ≡ old
    → CountsFault f old new
counts_content Device old new is e = absurd is
counts_content Truncated old new is e = e
counts_content BadMagic old new is e = e
counts_content BadVersion old new is e = e
counts_content BadBlock old new is e = e
counts_content BadInterface old new is e = e
counts_content TooManyInterfaces old new is e = e
counts_content BadTime old new is e = e
counts_content PacketTooLong old new is e = e
counts_content Packed old new is e = e
counts_content TooManyBlocks old new is e = e

pub counts_pure : {V : Type 0} (r : Result V RecordingFault) (old new : ℕ) → IfErr r IsContent
    → new ≡ old → CountsDevice old new r
counts_pure (Ok v) old new is e = e
counts_pure (Err f) old new is e = counts_content f old new is e

abbrev Found : Type 0
Found = Known × Stepped

-- ---- a section

module _ (front : List ℕ) where
  abbrev begun : ByteOrder → Found
  begun order = (fresh order, Some None)

  pub section_cut : (old : Option (List ℕ)) (f : RecordingFault) → Fails (section_at front) old f
      → Fails (section_step front) old f
  unfolding section_step
  section_cut old f p = mapped_fails begun (section_at front) old f p

  pub section_begins : (old new : Option (List ℕ)) (order : ByteOrder) (k : Known)
      → k ≡ fresh order → Takes (section_at front) old new order
      → Takes (section_step front) old new (k, Some None)
  unfolding section_step
  section_begins old new order k e p =
      subst (λ (x : Known). Takes (mapped begun (section_at front)) old new (x, Some None)) (sym e)
      (mapped_gives begun (section_at front) old new order p)

-- ---- another block

-- a packet's octets are at the same place in a buffer as in its front
seen_front : (s : Step) (count : ℕ) (buf : List ℕ) → IsPacketWithin s (length (take count buf))
    → step_seen s (take count buf) ≡ step_seen s buf
seen_front End count buf w = refl
seen_front Passed count buf w = refl
seen_front (Packet p at) count buf w =
    let more : at + (count - at) ≡ count = omega (arith, length-take count buf) in
    let fits : p.captured ≤ count - at = omega (arith, length-take count buf) in
    let same : take p.captured (drop at (take count buf)) ≡ take p.captured (drop at buf) =
    ap (λ (n : ℕ). take p.captured (drop at (take n buf))) (sym more)
    ∙ ap (λ (x : List ℕ). take p.captured x) (drop-take at (count - at) buf)
    ∙ take-take p.captured (count - at) (drop at buf) fits in
    ap (λ (x : List ℕ). let r : Stepped = Some (Some (record { head = p; octets = x })) in r) same

module _ (room : ℕ) (k : Known) (front : List ℕ) where
  abbrev type_of : ℕ
  type_of = long_at k.order 0 front

  abbrev entering : Option (List ℕ) → List ℕ → Result (Found × List ℕ) RecordingFault
  entering body rest = with_rest (entered k type_of body) rest

  pub other_cut : (old : Option (List ℕ)) (f : RecordingFault)
      → Fails (block_at k.order room front) old f → Fails (other_step room k front) old f
  unfolding other_step
  other_cut old f p =
      fails_first recording_fault_origin (block_at k.order room front) entering old f p

  pub other_none : (old new : Option (List ℕ)) → Takes (block_at k.order room front) old new None
      → Takes (other_step room k front) old new (k, Some None)
  unfolding other_step
  other_none old new p =
      gives_then (block_at k.order room front) entering old new new None (k, Some None) p
      (gives_pure (entered k type_of None) new (k, Some None) refl)

  pub other_gives : (old new : Option (List ℕ)) (type count : ℕ) (buf : List ℕ)
      (q : Result Step RecordingFault) (after : Known) → type ≡ long_at k.order 0 front
      → Takes (block_at k.order room front) old new (Some (take count buf))
      → IfOk q (λ s. enter_of k type (take count buf) ≡ Ok (after, step_seen s (take count buf)))
      → IfOk q (λ s. IsPacketWithin s (length (take count buf)))
      → IfOk q (λ s. Takes (other_step room k front) old new (after, step_seen s buf))
  unfolding other_step
  other_gives old new type count buf (Ok s) after e p is within =
      subst (λ (x : Stepped). Takes (other_step room k front) old new (after, x))
      (seen_front s count buf within)
      (gives_then (block_at k.order room front) entering old new new (Some (take count buf))
      (after, step_seen s (take count buf)) p
      (gives_pure (enter_of k type_of (take count buf)) new
      (after, step_seen s (take count buf))
      (ap (λ (n : ℕ). enter_of k n (take count buf)) (sym e) ∙ is)))
  other_gives old new type count buf (Err f) after e p is within = tt

  pub other_fails : (old new : Option (List ℕ)) (type : ℕ) (body : List ℕ)
      (q : Result Step RecordingFault) → type ≡ long_at k.order 0 front
      → Takes (block_at k.order room front) old new (Some body)
      → IfErr q (λ f. enter_of k type body ≡ Err f)
      → IfErr q (λ f. Fails (other_step room k front) old f)
  unfolding other_step
  other_fails old new type body (Ok s) e p is = tt
  other_fails old new type body (Err f) e p is =
      fails_then recording_fault_origin (block_at k.order room front) entering old new (Some body) f
      p
      (fails_pure recording_fault_origin (enter_of k type_of body) new f
      (ap (λ (n : ℕ). enter_of k n body) (sym e) ∙ is))

-- ---- a step

module _ (room : ℕ) (k : Known) where
  pub step_cut : (old : Option (List ℕ)) (f : RecordingFault) → Fails front_at old f
      → Fails (step_at room k) old f
  unfolding step_at
  step_cut old f p = fails_first recording_fault_origin front_at (step_by room k) old f p

  ends_so : (new : Option (List ℕ)) → Takes (step_by room k None) new new (k, None)
  ends_so None = tt
  ends_so (Some o) = refl

  pub step_end : (old new : Option (List ℕ)) → Takes front_at old new None
      → Takes (step_at room k) old new (k, None)
  unfolding step_at
  step_end old new p =
      gives_then front_at (step_by room k) old new new None (k, None) p (ends_so new)

  abbrev either : List ℕ → Bool → List ℕ → Result (Found × List ℕ) RecordingFault
  either front b o = cond b (section_step front o) (other_step room k front o)

  pub step_section : (front : List ℕ) (old mid new : Option (List ℕ)) (buf : List ℕ) (after : Known)
      (q : Result Step RecordingFault) → long_at k.order 0 front ≡ section_type
      → Takes front_at old mid (Some front)
      → IfOk q (λ s. Takes (section_step front) mid new (after, step_seen s buf))
      → IfOk q (λ s. Takes (step_at room k) old new (after, step_seen s buf))
  unfolding step_at
  step_section front old mid new buf after (Ok s) e p is =
      gives_then front_at (step_by room k) old mid new (Some front) (after, step_seen s buf) p
      (subst (λ (b : Bool). Takes (either front b) mid new (after, step_seen s buf))
      (sym (eq-eqb (long_at k.order 0 front) section_type e)) is)
  step_section front old mid new buf after (Err f) e p is = tt

  pub step_other : (front : List ℕ) (old mid new : Option (List ℕ)) (buf : List ℕ) (after : Known)
      (q : Result Step RecordingFault) → (long_at k.order 0 front ≡ section_type → ⊥)
      → Takes front_at old mid (Some front)
      → IfOk q (λ s. Takes (other_step room k front) mid new (after, step_seen s buf))
      → IfOk q (λ s. Takes (step_at room k) old new (after, step_seen s buf))
  unfolding step_at
  step_other front old mid new buf after (Ok s) e p is =
      gives_then front_at (step_by room k) old mid new (Some front) (after, step_seen s buf) p
      (subst (λ (b : Bool). Takes (either front b) mid new (after, step_seen s buf))
      (sym (ne_eqb (long_at k.order 0 front) section_type e)) is)
  step_other front old mid new buf after (Err f) e p is = tt

  pub step_section_fails : (front : List ℕ) (old mid : Option (List ℕ))
      (q : Result Step RecordingFault) → long_at k.order 0 front ≡ section_type
      → Takes front_at old mid (Some front) → IfErr q (λ f. Fails (section_step front) mid f)
      → IfErr q (λ f. Fails (step_at room k) old f)
  unfolding step_at
  step_section_fails front old mid (Ok s) e p is = tt
  step_section_fails front old mid (Err f) e p is =
      fails_then recording_fault_origin front_at (step_by room k) old mid (Some front) f p
      (subst (λ (b : Bool). Fails (either front b) mid f)
      (sym (eq-eqb (long_at k.order 0 front) section_type e)) is)

  pub step_other_fails : (front : List ℕ) (old mid : Option (List ℕ))
      (q : Result Step RecordingFault) → (long_at k.order 0 front ≡ section_type → ⊥)
      → Takes front_at old mid (Some front) → IfErr q (λ f. Fails (other_step room k front) mid f)
      → IfErr q (λ f. Fails (step_at room k) old f)
  unfolding step_at
  step_other_fails front old mid (Ok s) e p is = tt
  step_other_fails front old mid (Err f) e p is =
      fails_then recording_fault_origin front_at (step_by room k) old mid (Some front) f p
      (subst (λ (b : Bool). Fails (either front b) mid f)
      (sym (ne_eqb (long_at k.order 0 front) section_type e)) is)

-- ---- the first section

abbrev no_first : RecordingFault → Result (Known × List ℕ) RecordingFault
no_first f = Err f

abbrev begins : List ℕ → List ℕ → Result (Known × List ℕ) RecordingFault
begins front = mapped (λ (order : ByteOrder). fresh order) (section_at front)

abbrev chosen : List ℕ → Bool → List ℕ → Result (Known × List ℕ) RecordingFault
chosen front b o = cond (not b) (no_first (foreign_of front)) (begins front o)

pub first_cut : (old : Option (List ℕ)) (f : RecordingFault) → Fails (field_at 8) old f
    → Fails first_at old f
unfolding first_at
first_cut old f p = fails_first recording_fault_origin (field_at 8) first_by old f p

-- the fault of octets that begin no recording, by whether gzip has packed them
abbrev pub by_packed : Bool → RecordingFault
by_packed packed = cond packed Packed BadMagic

bad_at : (front : List ℕ) (known : Option (List ℕ)) (f : RecordingFault) → foreign_of front ≡ f
    → Fails (chosen front false) known f
bad_at front None f e = tt
bad_at front (Some o) f e =
    if_content recording_fault_origin f (no_first (foreign_of front) ≡ no_first f) (ap no_first e)

pub first_other : (old mid : Option (List ℕ)) (front : List ℕ) (f : RecordingFault)
    → foreign_of front ≡ f → (long_at Big 0 front ≡ section_type → ⊥)
    → Takes (field_at 8) old mid front → Fails first_at old f
unfolding first_at
first_other old mid front f is e p =
    fails_then recording_fault_origin (field_at 8) first_by old mid front f p
    (subst (λ (b : Bool). Fails (chosen front b) mid f)
    (sym (ne_eqb (long_at Big 0 front) section_type e)) (bad_at front mid f is))

pub first_fails : (old mid : Option (List ℕ)) (front : List ℕ) (f : RecordingFault)
    → long_at Big 0 front ≡ section_type → Takes (field_at 8) old mid front
    → Fails (section_at front) mid f → Fails first_at old f
unfolding first_at
first_fails old mid front f e p q =
    fails_then recording_fault_origin (field_at 8) first_by old mid front f p
    (subst (λ (b : Bool). Fails (chosen front b) mid f)
    (sym (eq-eqb (long_at Big 0 front) section_type e))
    (mapped_fails (λ (order : ByteOrder). fresh order) (section_at front) mid f q))

pub first_gives : (old mid new : Option (List ℕ)) (front : List ℕ) (order : ByteOrder) (k : Known)
    → k ≡ fresh order → long_at Big 0 front ≡ section_type → Takes (field_at 8) old mid front
    → Takes (section_at front) mid new order → Takes first_at old new k
unfolding first_at
first_gives old mid new front order k same e p q =
    subst (λ (x : Known). Takes (then_reads (field_at 8) first_by) old new x) (sym same)
    (gives_then (field_at 8) first_by old mid new front (fresh order) p
    (subst (λ (b : Bool). Takes (chosen front b) mid new (fresh order))
    (sym (eq-eqb (long_at Big 0 front) section_type e))
    (mapped_gives (λ (o : ByteOrder). fresh o) (section_at front) mid new order q)))

-- ---- a step of what a source gave

-- one that isn't the end is there whatever is behind it
pub gave_goes_on : (r : List ℕ → Result (Found × List ℕ) RecordingFault) (k : Known)
    (a b : List ℕ) (ended : Type 0) (buf : List ℕ) (q : Result Step RecordingFault)
    → IfOk q (λ s. GoesOn s) → IfOk q (λ s. GaveValue r a b (k, step_seen s buf))
    → IfOk q (λ s. GaveStep r a b ended k (step_seen s buf))
gave_goes_on r k a b ended buf (Ok End) on h = absurd on
gave_goes_on r k a b ended buf (Ok Passed) on h = h
gave_goes_on r k a b ended buf (Ok (Packet p at)) on h = h
gave_goes_on r k a b ended buf (Err f) on h = tt
