-- A step of reading blocks begins a section just where a section's block stands.
use Rattle.std.proofs.Common.{◌≡◌, ℕ, ◌+◌, ◌-◌, ◌⊎◌, inl, inr, Bool, false, cond}
use Rattle.std.proofs.Common.{not, eqb, ltb, ◌&&◌, List, [], ◌∷◌, ◌++◌, length, take, drop, Option}
use Rattle.std.proofs.Common.{None, Some, Result, Ok, Err, ap, ◌∙◌, subst}
use Rattle.std.proofs.Common.{arith}
use Rattle.std.specs.Int.{w32, from_be_bytes, from_le_bytes}
use Rattle.std.proofs.lemmas.Bool.{and_left, and_right, eq-eqb, le-ltb, ne_eqb}
use Rattle.std.proofs.lemmas.Bool.{or_from}
use Rattle.std.proofs.lemmas.List.{drop_at, take_at}
use Rattle.st_format.specs.Device.{AreOctets}
use Rattle.st_format.specs.Reading.{◌>>=◌}
use Rattle.st_format.proofs.Octets.{AreOctets-drop, AreOctets-take}
use Rattle.pcap_file.specs.declared.fault.RecordingFault.{RecordingFault}
use Rattle.pcap_file.specs.declared.fault.RecordingFault.TheVariants.{BadBlock, BadVersion}
use Rattle.pcap_file.specs.declared.order.ByteOrder.{ByteOrder}
use Rattle.pcap_file.specs.declared.order.ByteOrder.TheVariants.{Big, Little}
use Rattle.pcap_file.specs.Orders.{long_at, short_at}
use Rattle.pcap_file.specs.Blocks.{IsSection, IsSectionBlock, IsTotal, order_number}
use Rattle.pcap_file.specs.BlockReading.{order_of, section_of}
use Rattle.st_format.specs.Given.{with_rest}
use Rattle.pcap_file.specs.NgReading.{order_at, order_or, passed_at, section_at, section_by}
use Rattle.pcap_file.specs.NgReading.{section_count, section_rest_at, version_at, front_at}
use Rattle.pcap_file.specs.NgSteps.{Known, fresh, other_step, section_step, section_type}
use Rattle.pcap_file.specs.NgSteps.{step_at, step_by}
use Rattle.pcap_file.proofs.BlockSteps.{Body, Went, front_again, passed_again, total_again}
use Rattle.pcap_file.proofs.BlockSteps.{number, step, went}
use Rattle.pcap_file.proofs.Recordings.{Field, field_whole}

-- ---- the type and the order

pub typed : (order : ByteOrder) (front : List ℕ) → take 4 front ≡ 0x0a ∷ 0x0d ∷ 0x0d ∷ 0x0a ∷ []
    → long_at order 0 front ≡ section_type
typed Big front e = ap (λ (x : List ℕ). from_be_bytes w32 x) e
typed Little front e = ap (λ (x : List ℕ). from_le_bytes w32 x) e

abbrev orders : Bool → Bool → Option ByteOrder
orders a b = cond a (Some Big) (cond b (Some Little) None)

-- no four octets are the number in both orders
apart : (t : List ℕ) → AreOctets t → from_be_bytes w32 t ≡ order_number
    → from_le_bytes w32 t ≡ order_number → ⊥
apart t fit e f = omega (arith, fit 0, fit 1, fit 2, fit 3)

order_again : (order : ByteOrder) (four : List ℕ) → AreOctets four
    → long_at order 0 four ≡ order_number → order_of four ≡ Some order
order_again Big four fit e =
    ap (λ (a : Bool). orders a (eqb (long_at Little 0 four) order_number))
    (eq-eqb (long_at Big 0 four) order_number e)
order_again Little four fit e =
    ap (λ (a : Bool). orders a (eqb (long_at Little 0 four) order_number))
    (ne_eqb (long_at Big 0 four) order_number
    (λ f. apart (take 4 four) (AreOctets-take 4 four fit) f e))
    ∙ ap (λ (b : Bool). orders false b) (eq-eqb (long_at Little 0 four) order_number e)

minor_again : (n : ℕ) → (n ≡ 0) ⊎ (n ≡ 2) → (not (eqb n 0) && not (eqb n 2)) ≡ false
minor_again n (inl e) = and_left (not (eqb n 0)) (not (eqb n 2)) (ap not (eq-eqb n 0 e))
minor_again n (inr e) = and_right (not (eqb n 0)) (not (eqb n 2)) (ap not (eq-eqb n 2 e))

section_again : (order : ByteOrder) (version : List ℕ) → IsSection order version
    → section_of order version ≡ Ok tt
section_again order version is =
    ap (λ (b : Bool). cond b (let r : Result (Unit {0}) RecordingFault = Err BadVersion in r)
    (Ok tt))
    (or_from (not (eqb (short_at order 0 version) 1))
    (not (eqb (short_at order 2 version) 0) && not (eqb (short_at order 2 version) 2))
    (ap not (eq-eqb (short_at order 0 version) 1 is.major))
    (minor_again (short_at order 2 version) is.minor))

-- ---- what stands there is read

abbrev pub Order : Type 0
Order = Result (ByteOrder × List ℕ) RecordingFault

abbrev pub order_ok : ByteOrder × List ℕ → Order
order_ok x = Ok x

count_again : (total n : ℕ) → IsTotal total (16 + n) → section_count total ≡ number n
count_again total n is =
    let less : (16 + n) - 16 ≡ n = omega arith in
    ap (λ (r : Result ℕ RecordingFault). r >>= λ count. cond (ltb count 16)
    (let q : Result ℕ RecordingFault = Err BadBlock in q) (number (count - 16)))
    (total_again total (16 + n) is)
    ∙ ap (λ (b : Bool). cond b (let q : Result ℕ RecordingFault = Err BadBlock in q)
    (number ((16 + n) - 16))) (le-ltb (16 + n) 16 (omega arith))
    ∙ ap number less

order_read : (order : ByteOrder) (four rest : List ℕ) → length four ≡ 4 → AreOctets four
    → long_at order 0 four ≡ order_number → order_at (four ++ rest) ≡ order_ok (order, rest)
unfolding order_at
order_read order four rest count fit e =
    ap (λ (r : Field). r >>= λ x. with_rest (order_or (order_of x.0)) x.1)
    (field_whole 4 four rest count)
    ∙ ap (λ (o : Option ByteOrder). with_rest (order_or o) rest) (order_again order four fit e)

version_read : (order : ByteOrder) (version rest : List ℕ) → length version ≡ 12
    → IsSection order version → version_at order (version ++ rest) ≡ went (tt, rest)
unfolding version_at
version_read order version rest count is =
    ap (λ (r : Field). r >>= λ x. with_rest (section_of order x.0) x.1)
    (field_whole 12 version rest count)
    ∙ ap (λ (r : Result (Unit {0}) RecordingFault). with_rest r rest)
    (section_again order version is)

pub section_read : (octets rest : List ℕ) (order : ByteOrder) →
    (is : IsSectionBlock octets order rest)
    → AreOctets is.four
    → section_at is.front (is.four ++ (is.version ++ (is.options ++ (is.trailer ++ rest))))
    ≡ order_ok (order, rest)
unfolding section_at section_by section_rest_at
section_read octets rest order is fit =
    let total : ℕ = long_at order 4 is.front in
    let later : List ℕ = is.options ++ (is.trailer ++ rest) in
    let behind : List ℕ = is.version ++ later in
    ap (λ (r : Order). r >>= λ x. section_by x.0 is.front x.1 >>= λ y. order_ok (x.0, y.1))
    (order_read order is.four behind is.four_octets fit is.order_is)
    ∙ ap
    (λ (r : Result ℕ RecordingFault). r >>= (λ n. section_rest_at order total n behind) >>=
    λ y. order_ok (order, y.1)) (count_again total (length is.options) is.total)
    ∙ ap
    (λ (r : Went). r >>= (λ x. passed_at order total (length is.options) x.1) >>=
    λ y. order_ok (order, y.1)) (version_read order is.version later is.version_octets is.is)
    ∙ ap (λ (r : Went). r >>= λ y. order_ok (order, y.1))
    (passed_again order 0 total 0 is.options is.trailer rest is.trailer_octets is.again)

pub section_step_again : (room : ℕ) (k : Known) (octets rest : List ℕ) (order : ByteOrder)
    → AreOctets octets → IsSectionBlock octets order rest
    → step_at room k octets ≡ Ok ((fresh order, Some None), rest)
unfolding step_at section_step
section_step_again room k octets rest order fit is =
    let o : List ℕ = is.four ++ (is.version ++ (is.options ++ (is.trailer ++ rest))) in
    let behind : drop 8 octets ≡ o =
    ap (drop 8) is.whole ∙ drop_at is.front o 8 is.front_octets in
    let four : take 4 (drop 8 octets) ≡ is.four =
    ap (take 4) behind
    ∙ take_at is.four (is.version ++ (is.options ++ (is.trailer ++ rest))) 4 is.four_octets in
    let fit_four : AreOctets is.four =
    subst AreOctets four (AreOctets-take 4 (drop 8 octets) (AreOctets-drop 8 octets fit)) in
    ap (λ (y : List ℕ). front_at y >>= λ z. step_by room k z.0 z.1) is.whole
    ∙ ap (λ (r : Body). r >>= λ z. step_by room k z.0 z.1) (front_again is.front o is.front_octets)
    ∙ ap (λ (b : Bool). cond b (section_step is.front o) (other_step room k is.front o))
    (eq-eqb (long_at k.order 0 is.front) section_type (typed k.order is.front is.type_is))
    ∙ ap (λ (r : Order). r >>= λ x. step ((fresh x.0, Some None), x.1))
    (section_read octets rest order is fit_four)
