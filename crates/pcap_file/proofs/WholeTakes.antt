-- What is read without a fault is a recording of the packets that are read.
use Rattle.std.proofs.Common.{◌≡◌, ℕ, zero, suc, ◌⊎◌, inl, inr, Bool, true, false, cond, eqb, List}
use Rattle.std.proofs.Common.{[], ◌∷◌, ◌++◌, Option, None, Some, Result, Ok, Err, refl, sym, ap}
use Rattle.std.proofs.Common.{◌∙◌, subst}
use Rattle.st_format.specs.Device.{AreOctets}
use Rattle.st_format.specs.Reading.{◌>>=◌}
use Rattle.st_format.proofs.Readings.{bind_ok}
use Rattle.pcap_file.specs.declared.fault.RecordingFault.{RecordingFault}
use Rattle.pcap_file.specs.declared.fault.RecordingFault.TheVariants.{TooManyBlocks}
use Rattle.pcap_file.specs.declared.order.ByteOrder.{ByteOrder}
use Rattle.pcap_file.specs.declared.order.ByteOrder.TheVariants.{Big}
use Rattle.pcap_file.specs.declared.pcap.PcapHead.{PcapHead}
use Rattle.pcap_file.specs.Orders.{long_at}
use Rattle.pcap_file.specs.Fields.{field_at}
use Rattle.pcap_file.specs.NgSteps.{Known, Stepped, first_at, fresh, section_type, step_at}
use Rattle.pcap_file.specs.Pcap.{magic_of}
use Rattle.pcap_file.specs.PcapReading.{GivesPackets, Recorded, pcap_at, record_at}
use Rattle.pcap_file.specs.Recording.{AreBlocks, GivesSteps, IsRecording}
use Rattle.pcap_file.specs.Runs.{InBlocks, InPcap, Laid, Run, blocks_begun, fault_in, laid_by}
use Rattle.pcap_file.specs.Runs.{laid_step, led_by, most_blocks, opened_at, packets_in}
use Rattle.pcap_file.specs.Runs.{pcap_if, run_at, run_behind, step_of, stopped_by}
use Rattle.pcap_file.proofs.NextTakes.{blocks_end, first_takes, next_takes}
use Rattle.pcap_file.proofs.Runs.{Laying, no_step, packets_of, run_ends, run_fails, run_none}
use Rattle.pcap_file.proofs.Runs.{run_passes, stepping}
use Rattle.pcap_file.proofs.WholeBlocks.{next_behind, no_more, section_behind}
use Rattle.pcap_file.proofs.WholePcap.{end_at, ends, pcap_takes}
use Rattle.pcap_file.proofs.WholeRuns.{all_of, block_step, found_in, found_more, pcap_step}

-- ---- runs without a fault

no_fault : (f : RecordingFault) → (let x : Option RecordingFault = Some f in x) ≡ None → ⊥
no_fault f e = cc

faulty : (f : RecordingFault) (ps : List Recorded) → stopped_by (Some f) ≡ all_of ps → ⊥
faulty f ps e = no_fault f (ap (λ (r : Run). r.fault) e)

run_all : (r : Run) → r.fault ≡ None → r ≡ all_of r.packets
run_all r e =
    ap (λ (f : Option RecordingFault).
    (let x : Run = record { packets = r.packets; fault = f } in x)) e

-- ---- records

abbrev Records : Type 0
Records = Result (Option Recorded × List ℕ) RecordingFault

pcap_stops : (room : ℕ) (file : PcapHead) (o : List ℕ) (f : RecordingFault)
    → record_at room file o ≡ Err f → laid_step room (InPcap file) o ≡ no_step f
unfolding laid_step
pcap_stops room file o f e =
    ap (λ (r : Records). r >>= λ x. stepping ((InPcap file, step_of x.0), x.1)) e

records_by : (n room : ℕ) (file : PcapHead) (o : List ℕ) (ps : List Recorded) (r : Records)
    → ((rest : List ℕ) (qs : List Recorded) → run_at n room (InPcap file) rest ≡ all_of qs
    → GivesPackets room file rest qs)
    → record_at room file o ≡ r → run_at (suc n) room (InPcap file) o ≡ all_of ps
    → GivesPackets room file o ps
records_by n room file o ps (Err f) later is e =
    absurd (faulty f ps
    (sym (run_fails n room (InPcap file) o f (pcap_stops room file o f is)) ∙ e))
records_by n room file o ps (Ok (None, rest)) later is e =
    let run =
    run_ends n room (InPcap file) (InPcap file) o rest (pcap_step room file o rest None is) in
    subst (GivesPackets room file o) (ap (λ (r : Run). r.packets) (sym run ∙ e))
    (ap (record_at room file) (ends room file o rest is) ∙ end_at room file)
records_by n room file o ps (Ok (Some p, rest)) later is e =
    let more : Run = run_at n room (InPcap file) rest in
    let led : led_by (p ∷ []) more ≡ all_of ps =
    sym (run_passes n room (InPcap file) (InPcap file) o rest (Some p)
    (pcap_step room file o rest (Some p) is)) ∙ e in
    subst (GivesPackets room file o) (ap (λ (r : Run). r.packets) led)
    (rest, is, later rest more.packets (run_all more (ap (λ (r : Run). r.fault) led)))

records_from : (n room : ℕ) (file : PcapHead) (o : List ℕ) (ps : List Recorded)
    → run_at n room (InPcap file) o ≡ all_of ps → GivesPackets room file o ps
records_from zero room file o ps e =
    absurd (faulty TooManyBlocks ps (sym (run_none room (InPcap file) o) ∙ e))
records_from (suc n) room file o ps e =
    records_by n room file o ps (record_at room file o)
    (λ rest qs h. records_from n room file rest qs h) refl e

-- ---- blocks

abbrev Steps : Type 0
Steps = Result ((Known × Stepped) × List ℕ) RecordingFault

record GaveSteps (room : ℕ) (k : Known) (o : List ℕ) (ps : List Recorded) : Type 0 where
  found : List (Option Recorded)
  gives : GivesSteps room k o found
  packets_are : ps ≡ found_in found

block_stops : (room : ℕ) (k : Known) (o : List ℕ) (f : RecordingFault)
    → step_at room k o ≡ Err f → laid_step room (InBlocks k) o ≡ no_step f
unfolding laid_step
block_stops room k o f e =
    ap (λ (r : Steps). r >>= λ x. stepping ((InBlocks x.0.0, x.0.1), x.1)) e

steps_by : (n room : ℕ) (k : Known) (o : List ℕ) (ps : List Recorded) (r : Steps)
    → ((next : Known) (rest : List ℕ) (qs : List Recorded)
    → run_at n room (InBlocks next) rest ≡ all_of qs → GaveSteps room next rest qs)
    → step_at room k o ≡ r → run_at (suc n) room (InBlocks k) o ≡ all_of ps
    → GaveSteps room k o ps
steps_by n room k o ps (Err f) later is e =
    absurd (faulty f ps (sym (run_fails n room (InBlocks k) o f (block_stops room k o f is)) ∙ e))
steps_by n room k o ps (Ok ((next, None), rest)) later is e =
    let run =
    run_ends n room (InBlocks k) (InBlocks next) o rest (block_step room k next o rest None is) in
    record {
      found = [];
      gives = ap (step_at room k) (blocks_end room k next o rest is) ∙ no_more room k;
      packets_are = sym (ap (λ (r : Run). r.packets) (sym run ∙ e));
    }
steps_by n room k o ps (Ok ((next, Some s), rest)) later is e =
    let more : Run = run_at n room (InBlocks next) rest in
    let led : led_by (packets_of s) more ≡ all_of ps =
    sym (run_passes n room (InBlocks k) (InBlocks next) o rest s
    (block_step room k next o rest (Some s) is)) ∙ e in
    let g = later next rest more.packets (run_all more (ap (λ (r : Run). r.fault) led)) in
    record {
      found = s ∷ g.found;
      gives = (next, rest, is, g.gives);
      packets_are =
          sym (ap (λ (r : Run). r.packets) led)
          ∙ ap (λ (qs : List Recorded). packets_of s ++ qs) g.packets_are
          ∙ found_more s g.found;
    }

steps_from : (n room : ℕ) (k : Known) (o : List ℕ) (ps : List Recorded)
    → run_at n room (InBlocks k) o ≡ all_of ps → GaveSteps room k o ps
steps_from zero room k o ps e =
    absurd (faulty TooManyBlocks ps (sym (run_none room (InBlocks k) o) ∙ e))
steps_from (suc n) room k o ps e =
    steps_by n room k o ps (step_at room k o) (λ next rest qs h. steps_from n room next rest qs h)
    refl e

pub steps_take : (room : ℕ) (k : Known) (o : List ℕ) (ss : List (Option Recorded)) → AreOctets o
    → GivesSteps room k o ss → AreBlocks k o ss
steps_take room k o [] fit g = blocks_end room k k o [] g
steps_take room k o (s ∷ ss) fit g =
    let is = next_takes room k g.0 o g.1 s fit g.2 in
    (g.0, g.1, is, steps_take room g.0 g.1 ss (next_behind k g.0 o g.1 s is fit) g.3)

-- ---- the beginning

abbrev laying : Laid × List ℕ → Laying
laying x = Ok x

same_laying : (a b : Laid × List ℕ) → laying a ≡ laying b → a ≡ b
same_laying a b e = cc

abbrev Opened : List ℕ → Laid → List ℕ → Type 0
Opened o laid rest =
    ((file : PcapHead) × (pcap_at o ≡ Ok (file, rest)) × (laid ≡ InPcap file))
    ⊎ ((k : Known) × (first_at o ≡ Ok (k, rest)) × (laid ≡ InBlocks k))

abbrev Heads : Type 0
Heads = Result (PcapHead × List ℕ) RecordingFault

abbrev Firsts : Type 0
Firsts = Result (Known × List ℕ) RecordingFault

opened_by : (four o : List ℕ) (b : Bool) (kind : Option (ByteOrder × Bool)) (laid : Laid)
    (rest : List ℕ)
    → cond b (blocks_begun (first_at o)) (pcap_if kind four o) ≡ laying (laid, rest)
    → Opened o laid rest
opened_by four o true kind laid rest e =
    let b = bind_ok (first_at o) (λ x. laying (InBlocks x.0, x.1)) (laid, rest) e in
    let same = same_laying (InBlocks b.0.0, b.0.1) (laid, rest) b.2 in
    let rest_same : b.0.1 ≡ rest = ap (λ (x : Laid × List ℕ). x.1) same in
    inr (
      b.0.0,
      b.1 ∙ ap (λ (l : List ℕ). (let r : Firsts = Ok (b.0.0, l) in r)) rest_same,
      sym (ap (λ (x : Laid × List ℕ). x.0) same),
    )
opened_by four o false None laid rest e = absurd cc
opened_by four o false (Some kind) laid rest e =
    let b = bind_ok (pcap_at o) (λ x. laying (InPcap x.0, x.1)) (laid, rest) e in
    let same = same_laying (InPcap b.0.0, b.0.1) (laid, rest) b.2 in
    let rest_same : b.0.1 ≡ rest = ap (λ (x : Laid × List ℕ). x.1) same in
    inl (
      b.0.0,
      b.1 ∙ ap (λ (l : List ℕ). (let r : Heads = Ok (b.0.0, l) in r)) rest_same,
      sym (ap (λ (x : Laid × List ℕ). x.0) same),
    )

opened : (o : List ℕ) (laid : Laid) (rest : List ℕ) → opened_at o ≡ laying (laid, rest)
    → Opened o laid rest
unfolding opened_at
opened o laid rest e =
    let b = bind_ok (field_at 4 o) (λ x. laid_by x.0 o) (laid, rest) e in
    opened_by b.0.0 o (eqb (long_at Big 0 b.0.0) section_type) (magic_of b.0.0) laid rest b.2

-- ---- the whole

is_recording : (room : ℕ) (o rest : List ℕ) (laid : Laid) (ps : List Recorded) → AreOctets o
    → run_at most_blocks room laid rest ≡ all_of ps → Opened o laid rest → IsRecording o ps
is_recording room o rest laid ps fit run (inl x) =
    let gives : GivesPackets room x.0 rest ps =
    records_from most_blocks room x.0 rest ps
    (ap (λ (l : Laid). run_at most_blocks room l rest) (sym x.2) ∙ run) in
    inl (pcap_takes room o ps (x.0, rest, x.1, gives))
is_recording room o rest laid ps fit run (inr x) =
    let f = first_takes o rest x.0 fit x.1 in
    let order : ByteOrder = f.0 in
    let same : laid ≡ InBlocks (fresh order) = x.2 ∙ ap (λ (k : Known). InBlocks k) f.2 in
    let g =
    steps_from most_blocks room (fresh order) rest ps
    (ap (λ (l : Laid). run_at most_blocks room l rest) (sym same) ∙ run) in
    inr (record {
      order = order;
      rest = rest;
      found = g.found;
      begins = f.1;
      blocks =
          steps_take room (fresh order) rest g.found (section_behind o order rest f.1 fit) g.gives;
      packets_are = g.packets_are;
    })

whole_by : (room : ℕ) (o : List ℕ) (ps : List Recorded) (r : Laying) → AreOctets o
    → opened_at o ≡ r → packets_in room o ≡ ps → fault_in room o ≡ None → IsRecording o ps
whole_by room o ps (Err f) fit is packets fault =
    absurd (no_fault f (sym (ap (λ (x : Laying). (run_behind room x).fault) is) ∙ fault))
whole_by room o ps (Ok (laid, rest)) fit is packets fault =
    let run : Run = run_at most_blocks room laid rest in
    let none : run.fault ≡ None =
    sym (ap (λ (x : Laying). (run_behind room x).fault) is) ∙ fault in
    let all : run.packets ≡ ps =
    sym (ap (λ (x : Laying). (run_behind room x).packets) is) ∙ packets in
    is_recording room o rest laid ps fit
    (run_all run none ∙ ap (λ (qs : List Recorded). all_of qs) all) (opened o laid rest is)

pub whole_takes : (room : ℕ) (o : List ℕ) (ps : List Recorded) → AreOctets o
    → packets_in room o ≡ ps → fault_in room o ≡ None → IsRecording o ps
whole_takes room o ps fit packets fault =
    whole_by room o ps (opened_at o) fit refl packets fault
