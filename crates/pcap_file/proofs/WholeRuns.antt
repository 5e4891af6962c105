-- What is a recording is read whole, in either layout, from its front to its end.
use Rattle.std.proofs.Common.{◌≡◌, ℕ, zero, suc, ◌<◌, ◌≤◌, ◌^◌, inl, inr, Bool, true, false, cond}
use Rattle.std.proofs.Common.{List, [], ◌∷◌, ◌++◌, length, take, drop, Option, None, Some, Result}
use Rattle.std.proofs.Common.{Ok, refl, sym, ap, ◌∙◌, arith}
use Rattle.std.specs.Int.{w32, from_be_bytes, from_le_bytes}
use Rattle.std.specs.List.{filter_map}
use Rattle.std.proofs.lemmas.Bool.{eq-eqb, ne_eqb}
use Rattle.std.proofs.lemmas.List.{length-append, length-take-le, take-append-drop, take-append-le}
use Rattle.std.proofs.lemmas.List.{take-take}
use Rattle.st_format.specs.Device.{AreOctets}
use Rattle.st_format.specs.Reading.{◌>>=◌}
use Rattle.st_format.proofs.Octets.{AreOctets-take}
use Rattle.pcap_file.specs.declared.fault.RecordingFault.{RecordingFault}
use Rattle.pcap_file.specs.declared.order.ByteOrder.{ByteOrder}
use Rattle.pcap_file.specs.declared.order.ByteOrder.TheVariants.{Big, Little}
use Rattle.pcap_file.specs.declared.pcap.PcapHead.{PcapHead}
use Rattle.pcap_file.specs.Orders.{long_at}
use Rattle.pcap_file.specs.Blocks.{IsBlock, IsSectionBlock, most_octets}
use Rattle.pcap_file.specs.Fields.{field_at}
use Rattle.pcap_file.specs.NgSteps.{Known, Stepped, first_at, fresh, section_type, step_at}
use Rattle.pcap_file.specs.Pcap.{magic_number, magic_of}
use Rattle.pcap_file.specs.PcapReading.{AreRecords, GivesPackets, GivesPcap, HaveRoom, IsPcap}
use Rattle.pcap_file.specs.PcapReading.{Recorded, pcap_at, record_at}
use Rattle.pcap_file.specs.Recording.{AreBlocks, GivesSteps, IsBlocks, IsNext}
use Rattle.pcap_file.specs.Recording.{IsRecording}
use Rattle.pcap_file.specs.Runs.{InBlocks, InPcap, Laid, Run, blocks_begun, fault_in, laid_by}
use Rattle.pcap_file.specs.Runs.{laid_step, led_by, most_blocks, opened_at, packets_in, pcap_begun}
use Rattle.pcap_file.specs.Runs.{pcap_if, run_at, run_behind, step_of}
use Rattle.pcap_file.proofs.Pcaps.{some_magic}
use Rattle.pcap_file.proofs.Recordings.{Field, field, field_whole}
use Rattle.pcap_file.proofs.Runs.{Laying, packets_of, run_ends, run_passes, stepping}
use Rattle.pcap_file.proofs.SectionSteps.{typed}
use Rattle.pcap_file.proofs.WholeBlocks.{first_again, section_behind, steps_again}
use Rattle.pcap_file.proofs.WholePcap.{pcap_again}

-- packets, and no fault
abbrev pub all_of : List Recorded → Run
all_of packets = record { packets = packets; fault = None }

-- ---- records

abbrev Records : Type 0
Records = Result (Option Recorded × List ℕ) RecordingFault

pub pcap_step : (room : ℕ) (file : PcapHead) (o rest : List ℕ) (s : Option Recorded)
    → record_at room file o ≡ Ok (s, rest)
    → laid_step room (InPcap file) o ≡ stepping ((InPcap file, step_of s), rest)
unfolding laid_step
pcap_step room file o rest s e =
    ap (λ (r : Records). r >>= λ x. stepping ((InPcap file, step_of x.0), x.1)) e

records_run : (n room : ℕ) (file : PcapHead) (o : List ℕ) (ps : List Recorded) → length ps < n
    → GivesPackets room file o ps → run_at n room (InPcap file) o ≡ all_of ps
records_run zero room file o ps few g = absurd (omega (arith, few))
records_run (suc n) room file o [] few g =
    run_ends n room (InPcap file) (InPcap file) o [] (pcap_step room file o [] None g)
records_run (suc n) room file o (p ∷ ps) few g =
    run_passes n room (InPcap file) (InPcap file) o g.0 (Some p)
    (pcap_step room file o g.0 (Some p) g.1)
    ∙ ap (led_by (p ∷ [])) (records_run n room file g.0 ps (omega (arith, few)) g.2)

-- a record has octets
records_few : (file : PcapHead) (o : List ℕ) (ps : List Recorded) → AreRecords file o ps
    → length ps ≤ length o
records_few file o [] is = omega arith
records_few file o (p ∷ ps) is =
    let text : List ℕ = is.0 in
    let rest : List ℕ = is.1 in
    let record_is = is.2 in
    omega (
      arith,
      records_few file rest ps is.4,
      ap (λ (x : List ℕ). length x) is.3,
      length-append text rest,
      ap (λ (x : List ℕ). length x) record_is.whole,
      length-append record_is.front p.octets,
      record_is.front_octets,
    )

-- ---- blocks

abbrev Steps : Type 0
Steps = Result ((Known × Stepped) × List ℕ) RecordingFault

pub block_step : (room : ℕ) (k after : Known) (o rest : List ℕ) (s : Stepped)
    → step_at room k o ≡ Ok ((after, s), rest)
    → laid_step room (InBlocks k) o ≡ stepping ((InBlocks after, s), rest)
unfolding laid_step
block_step room k after o rest s e =
    ap (λ (r : Steps). r >>= λ x. stepping ((InBlocks x.0.0, x.0.1), x.1)) e

abbrev pub found_in : List (Option Recorded) → List Recorded
found_in ss = filter_map (λ s. s) ss

pub found_more : (s : Option Recorded) (ss : List (Option Recorded))
    → packets_of s ++ found_in ss ≡ found_in (s ∷ ss)
found_more None ss = refl
found_more (Some p) ss = refl

blocks_run : (n room : ℕ) (k : Known) (o : List ℕ) (ss : List (Option Recorded)) → length ss < n
    → GivesSteps room k o ss → run_at n room (InBlocks k) o ≡ all_of (found_in ss)
blocks_run zero room k o ss few g = absurd (omega (arith, few))
blocks_run (suc n) room k o [] few g =
    run_ends n room (InBlocks k) (InBlocks k) o [] (block_step room k k o [] None g)
blocks_run (suc n) room k o (s ∷ ss) few g =
    run_passes n room (InBlocks k) (InBlocks g.0) o g.1 s
    (block_step room k g.0 o g.1 (Some s) g.2)
    ∙ ap (led_by (packets_of s)) (blocks_run n room g.0 g.1 ss (omega (arith, few)) g.3)
    ∙ ap (λ (ps : List Recorded). all_of ps) (found_more s ss)

-- a block has octets
section_shorter : (o : List ℕ) (order : ByteOrder) (rest : List ℕ) → IsSectionBlock o order rest
    → length rest < length o
section_shorter o order rest is =
    let a : List ℕ = is.trailer ++ rest in
    let b : List ℕ = is.options ++ a in
    let c : List ℕ = is.version ++ b in
    let d : List ℕ = is.four ++ c in
    omega (
      arith,
      ap (λ (x : List ℕ). length x) is.whole,
      length-append is.front d,
      length-append is.four c,
      length-append is.version b,
      length-append is.options a,
      length-append is.trailer rest,
      is.front_octets,
    )

block_shorter : (order : ByteOrder) (o : List ℕ) (type : ℕ) (body rest : List ℕ)
    → IsBlock order o type body rest → length rest < length o
block_shorter order o type body rest is =
    let a : List ℕ = is.trailer ++ rest in
    let b : List ℕ = body ++ a in
    omega (
      arith,
      ap (λ (x : List ℕ). length x) is.whole,
      length-append is.front b,
      length-append body a,
      length-append is.trailer rest,
      is.front_octets,
    )

next_shorter : (k after : Known) (o rest : List ℕ) (s : Option Recorded) → IsNext k o after s rest
    → length rest < length o
next_shorter k after o rest s (inl b) = section_shorter o b.order rest b.is
next_shorter k after o rest s (inr b) = block_shorter k.order o b.type b.body rest b.is

blocks_few : (k : Known) (o : List ℕ) (ss : List (Option Recorded)) → AreBlocks k o ss
    → length ss ≤ length o
blocks_few k o [] is = omega arith
blocks_few k o (s ∷ ss) is =
    let few : length ss ≤ length is.1 = blocks_few is.0 is.1 ss is.3 in
    let less : length is.1 < length o = next_shorter k is.0 o is.1 s is.2 in
    omega (arith, few, less)

-- ---- the first four octets

four_at : (o : List ℕ) → 4 ≤ length o → field_at 4 o ≡ field (take 4 o, drop 4 o)
four_at o long =
    ap (field_at 4) (sym (take-append-drop 4 o))
    ∙ field_whole 4 (take 4 o) (drop 4 o) (length-take-le 4 o long)

same_long : (order : ByteOrder) (xs ys : List ℕ) → take 4 xs ≡ take 4 ys
    → long_at order 0 xs ≡ long_at order 0 ys
same_long Big xs ys e = ap (λ (x : List ℕ). from_be_bytes w32 x) e
same_long Little xs ys e = ap (λ (x : List ℕ). from_le_bytes w32 x) e

-- the first four octets of what begins so
same_four : (o front rest : List ℕ) → o ≡ front ++ rest → 4 ≤ length front
    → take 4 (take 4 o) ≡ take 4 front
same_four o front rest parts long =
    take-take 4 4 o (omega arith) ∙ ap (λ (x : List ℕ). take 4 x) parts
    ∙ take-append-le 4 front rest long

-- what begins the classic layout begins no section
apart : (t : List ℕ) (n : Bool) → AreOctets t → from_le_bytes w32 t ≡ magic_number n
    → from_be_bytes w32 t ≡ section_type → ⊥
apart t true fit e f = omega (arith, fit 0, fit 1, fit 2, fit 3)
apart t false fit e f = omega (arith, fit 0, fit 1, fit 2, fit 3)

no_section : (o : List ℕ) (order : ByteOrder) (n : Bool) → AreOctets o
    → long_at order 0 o ≡ magic_number n → long_at Big 0 o ≡ section_type → ⊥
no_section o Big true fit e f = omega (arith, e, f)
no_section o Big false fit e f = omega (arith, e, f)
no_section o Little n fit e f = apart (take 4 o) n (AreOctets-take 4 o fit) e f

abbrev laying : Laid × List ℕ → Laying
laying x = Ok x

abbrev Heads : Type 0
Heads = Result (PcapHead × List ℕ) RecordingFault

abbrev Firsts : Type 0
Firsts = Result (Known × List ℕ) RecordingFault

pcap_opens : (o : List ℕ) (ps : List Recorded) (file : PcapHead) (rest : List ℕ) → AreOctets o
    → IsPcap o ps → pcap_at o ≡ Ok (file, rest) → opened_at o ≡ laying (InPcap file, rest)
unfolding opened_at
pcap_opens o ps file rest fit is e =
    let four : List ℕ = take 4 o in
    let order : ByteOrder = is.file.order in
    let long : 4 ≤ length o =
    omega (
      arith,
      ap (λ (x : List ℕ). length x) is.whole,
      length-append is.front is.rest,
      is.front_octets,
    ) in
    let fit_four : AreOctets four = AreOctets-take 4 o fit in
    let magic : long_at order 0 four ≡ magic_number is.file.nanoseconds =
    same_long order four is.front
    (same_four o is.front is.rest is.whole (omega (arith, is.front_octets))) ∙ is.is.magic in
    ap (λ (r : Field). r >>= λ x. laid_by x.0 o) (four_at o long)
    ∙ ap (λ (b : Bool). cond b (blocks_begun (first_at o)) (pcap_if (magic_of four) four o))
    (ne_eqb (long_at Big 0 four) section_type
    (no_section four order is.file.nanoseconds fit_four magic))
    ∙ ap (λ (k : Option (ByteOrder × Bool)). pcap_if k four o)
    (some_magic four order is.file.nanoseconds fit_four magic)
    ∙ ap (λ (r : Heads). pcap_begun r) e

blocks_open : (o : List ℕ) (order : ByteOrder) (rest : List ℕ) → IsSectionBlock o order rest
    → first_at o ≡ Ok (fresh order, rest) → opened_at o ≡ laying (InBlocks (fresh order), rest)
unfolding opened_at
blocks_open o order rest is e =
    let four : List ℕ = take 4 o in
    let behind : List ℕ = is.four ++ (is.version ++ (is.options ++ (is.trailer ++ rest))) in
    let long : 4 ≤ length o =
    omega (
      arith,
      ap (λ (x : List ℕ). length x) is.whole,
      length-append is.front behind,
      is.front_octets,
    ) in
    let type : long_at Big 0 four ≡ section_type =
    typed Big four
    (same_four o is.front behind is.whole (omega (arith, is.front_octets)) ∙ is.type_is) in
    ap (λ (r : Field). r >>= λ x. laid_by x.0 o) (four_at o long)
    ∙ ap (λ (b : Bool). cond b (blocks_begun (first_at o)) (pcap_if (magic_of four) four o))
    (eq-eqb (long_at Big 0 four) section_type type)
    ∙ ap (λ (r : Firsts). blocks_begun r) e

-- ---- the whole

runs : (room : ℕ) (o rest : List ℕ) (laid : Laid) (ps : List Recorded)
    → opened_at o ≡ laying (laid, rest) → run_at most_blocks room laid rest ≡ all_of ps
    → (packets_in room o ≡ ps) × (fault_in room o ≡ None)
runs room o rest laid ps e run = (
  ap (λ (r : Laying). (run_behind room r).packets) e ∙ ap (λ (r : Run). r.packets) run,
  ap (λ (r : Laying). (run_behind room r).fault) e ∙ ap (λ (r : Run). r.fault) run,
)

pcap_whole : (room : ℕ) (o : List ℕ) (ps : List Recorded) → AreOctets o → length o < 2 ^ 64
    → IsPcap o ps → HaveRoom room ps → (packets_in room o ≡ ps) × (fault_in room o ≡ None)
pcap_whole room o ps fit few is fits =
    let g : GivesPcap room o ps = pcap_again room o ps fit is fits in
    let count : length ps ≤ length is.rest = records_few is.file is.rest ps is.records in
    let less : length ps < most_blocks =
    omega (
      arith,
      few,
      count,
      ap (λ (x : List ℕ). length x) is.whole,
      length-append is.front is.rest,
      is.front_octets,
    ) in
    runs room o g.1 (InPcap g.0) ps (pcap_opens o ps g.0 g.1 fit is g.2)
    (records_run most_blocks room g.0 g.1 ps less g.3)

blocks_whole : (room : ℕ) (o : List ℕ) (ps : List Recorded) → AreOctets o → length o < 2 ^ 64
    → IsBlocks o ps → most_octets ≤ room → (packets_in room o ≡ ps) × (fault_in room o ≡ None)
blocks_whole room o ps fit few is large =
    let begin : first_at o ≡ Ok (fresh is.order, is.rest) =
    first_again o is.order is.rest fit is.begins in
    let steps : GivesSteps room (fresh is.order) is.rest is.found =
    steps_again room (fresh is.order) is.rest is.found large
    (section_behind o is.order is.rest is.begins fit) is.blocks in
    let count : length is.found ≤ length is.rest = blocks_few (fresh is.order) is.rest is.found
    is.blocks in
    let shorter : length is.rest < length o = section_shorter o is.order is.rest is.begins in
    let less : length is.found < most_blocks = omega (arith, few, count, shorter) in
    runs room o is.rest (InBlocks (fresh is.order)) ps
    (blocks_open o is.order is.rest is.begins begin)
    (blocks_run most_blocks room (fresh is.order) is.rest is.found less steps
    ∙ ap (λ (x : List Recorded). all_of x) (sym is.packets_are))

pub whole_again : (room : ℕ) (o : List ℕ) (ps : List Recorded) → most_octets ≤ room
    → HaveRoom room ps → AreOctets o → length o < 2 ^ 64 → IsRecording o ps
    → (packets_in room o ≡ ps) × (fault_in room o ≡ None)
whole_again room o ps large fits fit few (inl is) = pcap_whole room o ps fit few is fits
whole_again room o ps large fits fit few (inr is) = blocks_whole room o ps fit few is large
