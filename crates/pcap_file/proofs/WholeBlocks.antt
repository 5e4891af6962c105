-- What is a recording in blocks is read, block by block, as what it is, from its front to its end.
use Rattle.std.proofs.Common.{◌≡◌, ℕ, ◌≤◌, inl, inr, Bool, cond, not, List, [], ◌∷◌}
use Rattle.std.proofs.Common.{◌++◌, length, take, drop, Option, None, Result, Ok, Err, refl}
use Rattle.std.proofs.Common.{ap, ◌∙◌, subst, arith}
use Rattle.std.proofs.lemmas.Bool.{eq-eqb}
use Rattle.std.proofs.lemmas.List.{take_at, drop_at}
use Rattle.st_format.specs.Device.{AreOctets}
use Rattle.st_format.specs.Reading.{◌>>=◌}
use Rattle.st_format.proofs.Octets.{AreOctets-drop, AreOctets-take}
use Rattle.pcap_file.specs.declared.fault.RecordingFault.{RecordingFault}
use Rattle.pcap_file.specs.declared.order.ByteOrder.{ByteOrder}
use Rattle.pcap_file.specs.declared.order.ByteOrder.TheVariants.{Big}
use Rattle.pcap_file.specs.Orders.{long_at}
use Rattle.pcap_file.specs.Fields.{field_at}
use Rattle.pcap_file.specs.Pcap.{foreign_of}
use Rattle.pcap_file.specs.PcapReading.{Recorded}
use Rattle.pcap_file.specs.Blocks.{IsBlock, IsSectionBlock, most_octets}
use Rattle.pcap_file.specs.NgReading.{front_at, section_at}
use Rattle.pcap_file.specs.NgSteps.{Known, first_at, first_by, fresh, section_type, step_at}
use Rattle.pcap_file.specs.Recording.{AreBlocks, GivesBlocks, GivesSteps, IsBlocks, IsNext}
use Rattle.pcap_file.proofs.Recordings.{Field, field_whole}
use Rattle.pcap_file.proofs.NextSteps.{next_again}
use Rattle.pcap_file.proofs.SectionSteps.{Order, section_read, typed}

abbrev First : Type 0
First = Result (Known × List ℕ) RecordingFault

abbrev first : Known × List ℕ → First
first x = Ok x

-- ---- octets behind others

octets_behind : (xs ys : List ℕ) → AreOctets (xs ++ ys) → AreOctets ys
octets_behind xs ys fit =
    subst AreOctets (drop_at xs ys (length xs) refl) (AreOctets-drop (length xs) (xs ++ ys) fit)

pub block_behind : (order : ByteOrder) (o : List ℕ) (type : ℕ) (body rest : List ℕ)
    → IsBlock order o type body rest → AreOctets o → AreOctets rest
block_behind order o type body rest is fit =
    octets_behind is.trailer rest
    (octets_behind body (is.trailer ++ rest)
    (octets_behind is.front (body ++ (is.trailer ++ rest)) (subst AreOctets is.whole fit)))

pub section_behind : (o : List ℕ) (order : ByteOrder) (rest : List ℕ) → IsSectionBlock o order rest
    → AreOctets o → AreOctets rest
section_behind o order rest is fit =
    octets_behind is.trailer rest
    (octets_behind is.options (is.trailer ++ rest)
    (octets_behind is.version (is.options ++ (is.trailer ++ rest))
    (octets_behind is.four (is.version ++ (is.options ++ (is.trailer ++ rest)))
    (octets_behind is.front (is.four ++ (is.version ++ (is.options ++ (is.trailer ++ rest))))
    (subst AreOctets is.whole fit)))))

pub next_behind : (k after : Known) (o rest : List ℕ) (s : Option Recorded)
    → IsNext k o after s rest
    → AreOctets o → AreOctets rest
next_behind k after o rest s (inl b) fit = section_behind o b.order rest b.is fit
next_behind k after o rest s (inr b) fit = block_behind k.order o b.type b.body rest b.is fit

-- ---- the steps

pub no_more : (room : ℕ) (k : Known) → step_at room k [] ≡ Ok ((k, None), [])
unfolding step_at front_at
no_more room k = refl

fits_in : (room : ℕ) (order : ByteOrder) (o rest : List ℕ) → most_octets ≤ room → (type : ℕ)
    (body : List ℕ) → IsBlock order o type body rest → length body ≤ room
fits_in room order o rest large type body is =
    omega (arith, is.total.counted, is.total.few)

pub steps_again : (room : ℕ) (k : Known) (o : List ℕ) (ss : List (Option Recorded))
    → most_octets ≤ room → AreOctets o → AreBlocks k o ss → GivesSteps room k o ss
steps_again room k o [] large fit is = ap (step_at room k) is ∙ no_more room k
steps_again room k o (s ∷ ss) large fit is = (
  is.0,
  is.1,
  next_again room k is.0 o is.1 s fit (fits_in room k.order o is.1 large) is.2,
  steps_again room is.0 is.1 ss large (next_behind k is.0 o is.1 s is.2 fit) is.3,
)

-- ---- the whole

pub first_again : (o : List ℕ) (order : ByteOrder) (rest : List ℕ) → AreOctets o
    → IsSectionBlock o order rest → first_at o ≡ Ok (fresh order, rest)
unfolding first_at
first_again octets order rest fit is =
    let o : List ℕ = is.four ++ (is.version ++ (is.options ++ (is.trailer ++ rest))) in
    let behind : drop 8 octets ≡ o =
    ap (drop 8) is.whole ∙ drop_at is.front o 8 is.front_octets in
    let four : take 4 (drop 8 octets) ≡ is.four =
    ap (take 4) behind
    ∙ take_at is.four (is.version ++ (is.options ++ (is.trailer ++ rest))) 4 is.four_octets in
    let fit_four : AreOctets is.four =
    subst AreOctets four (AreOctets-take 4 (drop 8 octets) (AreOctets-drop 8 octets fit)) in
    ap (λ (y : List ℕ). field_at 8 y >>= λ x. first_by x.0 x.1) is.whole
    ∙ ap (λ (r : Field). r >>= λ x. first_by x.0 x.1) (field_whole 8 is.front o is.front_octets)
    ∙ ap (λ (b : Bool). cond (not b) (let r : First = Err (foreign_of is.front) in r)
    (section_at is.front o >>= λ x. first (fresh x.0, x.1)))
    (eq-eqb (long_at Big 0 is.front) section_type (typed Big is.front is.type_is))
    ∙ ap (λ (r : Order). r >>= λ x. first (fresh x.0, x.1))
    (section_read octets rest order is fit_four)

pub blocks_again : (room : ℕ) (o : List ℕ) (ps : List Recorded) → most_octets ≤ room
    → AreOctets o → IsBlocks o ps → GivesBlocks room o ps
blocks_again room o ps large fit is = (
  is.order,
  is.rest,
  is.found,
  first_again o is.order is.rest fit is.begins,
  steps_again room (fresh is.order) is.rest is.found large
      (section_behind o is.order is.rest is.begins fit) is.blocks,
  is.packets_are,
)
