-- What a run over a source has made of what the source gave, step by step.
use Rattle.std.proofs.Common.{◌≡◌, ℕ, suc, List, [], ◌∷◌, ◌++◌, Option, None, Some}
use Rattle.std.proofs.Common.{Result, Ok, Err, append_assoc, append-nil, refl, sym, ap, subst, ◌∙◌}
use Rattle.std.specs.Prelude.{IfOk, IfErr}
use Rattle.pcap_file.specs.declared.fault.RecordingFault.{RecordingFault}
use Rattle.pcap_file.specs.declared.fault.RecordingFault.TheVariants.{TooManyBlocks}
use Rattle.pcap_file.specs.declared.pcap.PacketHead.{PacketHead}
use Rattle.pcap_file.specs.declared.pcap.PcapHead.{PcapHead}
use Rattle.pcap_file.specs.declared.recording.Layout.{Layout}
use Rattle.pcap_file.specs.declared.section.Step.{Step}
use Rattle.pcap_file.specs.declared.section.Step.TheVariants.{End, Passed, Packet}
use Rattle.pcap_file.specs.Fields.{Fails, GaveFault, IfContent, recording_fault_origin}
use Rattle.st_format.specs.Given.{GaveValue, GaveWhole, Takes}
use Rattle.pcap_file.specs.NgSteps.{GaveStep, Known, Stepped, recorded_at, step_at, step_seen}
use Rattle.pcap_file.specs.PcapReading.{Recorded, record_at, recorded_in}
use Rattle.pcap_file.specs.Runs.{HasFailed, HasRead, HasReadAll, InBlocks, InPcap, Laid, ReadsToEnd}
use Rattle.pcap_file.specs.Runs.{ReadsFault, ReadsOn, ReadsPacket, ReadsStep, Run, Seen}
use Rattle.pcap_file.specs.Runs.{fault_behind}
use Rattle.pcap_file.specs.Runs.{fault_in, in_blocks, in_pcap, laid_step, layout_seen, led_by}
use Rattle.pcap_file.specs.Runs.{most_blocks}
use Rattle.pcap_file.specs.Runs.{opened_at, packets_behind, packets_in, run_at, run_behind, run_by}
use Rattle.pcap_file.specs.Runs.{step_of, stopped_by}
use Rattle.pcap_file.proofs.FieldReads.{mapped_fails, mapped_gives}
use Rattle.pcap_file.proofs.Gave.{whole_one}
use Rattle.st_format.proofs.Gave.{fault_one, gave_one, grew_twice}
use Rattle.st_format.proofs.Origins.{if_content_weaker}

abbrev pub Laying : Type 0
Laying = Result (Laid × List ℕ) RecordingFault

abbrev pub Stepping : Type 0
Stepping = Result ((Laid × Stepped) × List ℕ) RecordingFault

abbrev pub stepping : (Laid × Stepped) × List ℕ → Stepping
stepping x = Ok x

abbrev pub no_step : RecordingFault → Stepping
no_step f = Err f

abbrev seen_as : Laid → ℕ → Seen
seen_as laid left = record { laid = laid; left = left }

-- ---- the beginning

pub has_opened : (room : ℕ) (a b : List ℕ) (seen : Seen) → seen.left ≡ most_blocks
    → GaveValue opened_at a b seen.laid → HasRead room a b seen []
has_opened room a b seen most g = record {
  part = g.part;
  grown = g.grown;
  packets_are = λ behind.
      ap (λ (r : Laying). (run_behind room r).packets) (g.says behind)
      ∙ ap (λ (n : ℕ). (run_at n room seen.laid behind).packets) (sym most);
  fault_is = λ behind.
      ap (λ (r : Laying). (run_behind room r).fault) (g.says behind)
      ∙ ap (λ (n : ℕ). (run_at n room seen.laid behind).fault) (sym most);
}

pub has_not_opened : (room : ℕ) (a b : List ℕ) (ended : Type 0) (f : RecordingFault)
    → GaveFault opened_at a b ended f → HasFailed room a b ended f []
has_not_opened room a b ended f g = record {
  part = g.part;
  grown = g.grown;
  begins = λ behind. (packets_in room (g.part ++ behind), refl);
  says = λ behind all.
      if_content_weaker recording_fault_origin f (opened_at (g.part ++ behind) ≡ Err f)
      ((packets_in room (g.part ++ behind) ≡ []) × (fault_in room (g.part ++ behind) ≡ Some f))
      (λ e. (
        ap (λ (r : Laying). (run_behind room r).packets) e,
        ap (λ (r : Laying). (run_behind room r).fault) e,
      )) (g.says behind all);
}

pub has_opened_if : (room : ℕ) (a b : List ℕ) (q : Result Layout RecordingFault)
    → IfOk q (λ l. (layout_seen l).left ≡ most_blocks)
    → IfOk q (λ l. GaveValue opened_at a b (layout_seen l).laid)
    → IfOk q (λ l. HasRead room a b (layout_seen l) [])
has_opened_if room a b (Ok l) most g = has_opened room a b (layout_seen l) most g
has_opened_if room a b (Err f) most g = tt

pub has_not_opened_if : (room : ℕ) (a b : List ℕ) (ended : Type 0)
    (q : Result Layout RecordingFault) → IfErr q (λ f. GaveFault opened_at a b ended f)
    → IfErr q (λ f. HasFailed room a b ended f [])
has_not_opened_if room a b ended (Ok l) g = tt
has_not_opened_if room a b ended (Err f) g = has_not_opened room a b ended f g

-- ---- a step

pub run_next : (n room : ℕ) (laid : Laid) (o : List ℕ) (r : Stepping) → laid_step room laid o ≡ r
    → run_at (suc n) room laid o ≡ run_by r (λ l rest. run_at n room l rest)
unfolding run_at
run_next n room laid o r e = ap (λ (x : Stepping). run_by x (λ l rest. run_at n room l rest)) e

pub run_none : (room : ℕ) (laid : Laid) (o : List ℕ)
    → run_at 0 room laid o ≡ stopped_by (Some TooManyBlocks)
unfolding run_at
run_none room laid o = refl

-- packets that a step has
abbrev pub packets_of : Option Recorded → List Recorded
packets_of None = []
packets_of (Some p) = p ∷ []

pub run_passes : (n room : ℕ) (laid next : Laid) (o rest : List ℕ) (s : Option Recorded)
    → laid_step room laid o ≡ stepping ((next, Some s), rest)
    → run_at (suc n) room laid o ≡ led_by (packets_of s) (run_at n room next rest)
run_passes n room laid next o rest None e =
    run_next n room laid o (stepping ((next, Some None), rest)) e
run_passes n room laid next o rest (Some p) e =
    run_next n room laid o (stepping ((next, Some (Some p)), rest)) e

pub run_ends : (n room : ℕ) (laid next : Laid) (o rest : List ℕ)
    → laid_step room laid o ≡ stepping ((next, None), rest)
    → run_at (suc n) room laid o ≡ stopped_by None
run_ends n room laid next o rest e = run_next n room laid o (stepping ((next, None), rest)) e

pub run_fails : (n room : ℕ) (laid : Laid) (o : List ℕ) (f : RecordingFault)
    → laid_step room laid o ≡ no_step f → run_at (suc n) room laid o ≡ stopped_by (Some f)
run_fails n room laid o f e = run_next n room laid o (no_step f) e

-- what was read, and what is behind it
module _ (room : ℕ) (before a : List ℕ) (seen : Seen) (packets : List Recorded)
    (h : HasRead room before a seen packets) where
  packets_more : (xs behind : List ℕ) → packets_in room ((h.part ++ xs) ++ behind)
      ≡ packets ++ packets_behind room seen (xs ++ behind)
  packets_more xs behind =
      ap (λ (o : List ℕ). packets_in room o) (append_assoc h.part xs behind)
      ∙ h.packets_are (xs ++ behind)

  fault_more : (xs behind : List ℕ) → fault_in room ((h.part ++ xs) ++ behind)
      ≡ fault_behind room seen (xs ++ behind)
  fault_more xs behind =
      ap (λ (o : List ℕ). fault_in room o) (append_assoc h.part xs behind)
      ∙ h.fault_is (xs ++ behind)

  -- the fault that a run has behind what was read
  failed : (b xs : List ℕ) (ended : Type 0) (f : RecordingFault) → b ≡ a ++ xs
      → ((behind : List ℕ) → (ended → behind ≡ [])
      → IfContent f (run_at seen.left room seen.laid (xs ++ behind) ≡ stopped_by (Some f)))
      → HasFailed room before b ended f packets
  failed b xs ended f grown says = record {
    part = h.part ++ xs;
    grown = grew_twice before a b h.part xs h.grown grown;
    begins = λ behind. (packets_behind room seen (xs ++ behind), packets_more xs behind);
    says = λ behind all.
        if_content_weaker recording_fault_origin f
        (run_at seen.left room seen.laid (xs ++ behind) ≡ stopped_by (Some f))
        ((packets_in room ((h.part ++ xs) ++ behind) ≡ packets)
        × (fault_in room ((h.part ++ xs) ++ behind) ≡ Some f))
        (λ e. (
          packets_more xs behind ∙ ap (λ (r : Run). packets ++ r.packets) e
              ∙ append-nil packets,
          fault_more xs behind ∙ ap (λ (r : Run). r.fault) e,
        )) (says behind all);
  }

-- a record or a block that goes on
has_passed : (n room : ℕ) (laid next : Laid) (before a b : List ℕ) (packets : List Recorded)
    (s : Option Recorded) → HasRead room before a (seen_as laid (suc n)) packets
    → GaveValue (laid_step room laid) a b (next, Some s)
    → HasRead room before b (seen_as next n) (packets ++ packets_of s)
has_passed n room laid next before a b packets s h g =
    let was : Seen = seen_as laid (suc n) in
    record {
      part = h.part ++ g.part;
      grown = grew_twice before a b h.part g.part h.grown g.grown;
      packets_are = λ behind.
          packets_more room before a was packets h g.part behind
          ∙ ap (λ (r : Run). packets ++ r.packets)
          (run_passes n room laid next (g.part ++ behind) behind s (g.says behind))
          ∙ sym (append_assoc packets (packets_of s) (packets_behind room (seen_as next n) behind));
      fault_is = λ behind.
          fault_more room before a was packets h g.part behind
          ∙ ap (λ (r : Run). r.fault)
          (run_passes n room laid next (g.part ++ behind) behind s (g.says behind));
    }

has_ended : (n room : ℕ) (laid next : Laid) (before a b : List ℕ) (ended : Type 0)
    (packets : List Recorded) → HasRead room before a (seen_as laid (suc n)) packets
    → GaveWhole (laid_step room laid) a b ended (next, None)
    → HasReadAll room before b ended packets
has_ended n room laid next before a b ended packets h g =
    record {
      part = h.part ++ g.part;
      grown = grew_twice before a b h.part g.part h.grown g.grown;
      over = g.over;
      packets_are =
          h.packets_are g.part
          ∙ ap (λ (r : Run). packets ++ r.packets) (run_ends n room laid next g.part [] g.says)
          ∙ append-nil packets;
      none =
          h.fault_is g.part
          ∙ ap (λ (r : Run). r.fault) (run_ends n room laid next g.part [] g.says);
    }

-- ---- from what a call did to what a run has read

pub reads_fault : (m n room : ℕ) (laid : Laid) (a b : List ℕ) (ended : Type 0)
    (f : RecordingFault) → m ≡ suc n → GaveFault (laid_step room laid) a b ended f
    → ReadsFault room a b ended (seen_as laid m) f
reads_fault m n room laid a b ended f is g = λ before packets h.
    failed room before a (seen_as laid m) packets h b g.part ended f g.grown
    (λ behind all.
    if_content_weaker recording_fault_origin f (laid_step room laid (g.part ++ behind) ≡ no_step f)
    (run_at m room laid (g.part ++ behind) ≡ stopped_by (Some f))
    (λ e. ap (λ (k : ℕ). run_at k room laid (g.part ++ behind)) is
    ∙ run_fails n room laid (g.part ++ behind) f e) (g.says behind all))

-- as many as are counted were there
pub reads_too_many : (m room : ℕ) (laid : Laid) (a b : List ℕ) (ended : Type 0) → m ≡ 0 → b ≡ a
    → ReadsFault room a b ended (seen_as laid m) TooManyBlocks
reads_too_many m room laid a b ended is same = λ before packets h.
    failed room before a (seen_as laid m) packets h b [] ended TooManyBlocks
    (same ∙ sym (append-nil a))
    (λ behind all. ap (λ (k : ℕ). run_at k room laid behind) is ∙ run_none room laid behind)

reads_end : (m n room : ℕ) (laid next : Laid) (a b : List ℕ) (ended : Type 0) → m ≡ suc n
    → GaveWhole (laid_step room laid) a b ended (next, None)
    → ReadsToEnd room a b ended (seen_as laid m)
reads_end m n room laid next a b ended is g = λ before packets h.
    has_ended n room laid next before a b ended packets
    (subst (λ (k : ℕ). HasRead room before a (seen_as laid k) packets) is h) g

reads_packet : (m n room : ℕ) (laid next : Laid) (a b : List ℕ) (p : Recorded) → m ≡ suc n
    → GaveValue (laid_step room laid) a b (next, Some (Some p))
    → ReadsPacket room a b (seen_as laid m) (seen_as next n) p
reads_packet m n room laid next a b p is g = λ before packets h.
    has_passed n room laid next before a b packets (Some p)
    (subst (λ (k : ℕ). HasRead room before a (seen_as laid k) packets) is h) g

reads_on : (m n room : ℕ) (laid next : Laid) (a b : List ℕ) → m ≡ suc n
    → GaveValue (laid_step room laid) a b (next, Some None)
    → ReadsOn room a b (seen_as laid m) (seen_as next n)
reads_on m n room laid next a b is g = λ before packets h.
    subst (λ (ps : List Recorded). HasRead room before b (seen_as next n) ps) (append-nil packets)
    (has_passed n room laid next before a b packets None
    (subst (λ (k : ℕ). HasRead room before a (seen_as laid k) packets) is h) g)

-- ---- the classic layout

module _ (room : ℕ) (file : PcapHead) where
  abbrev in_file : Option Recorded → Laid × Stepped
  in_file p = (InPcap file, step_of p)

  pcap_gives : (p : Option Recorded) (was left : Option (List ℕ))
      → Takes (record_at room file) was left p
      → Takes (laid_step room (InPcap file)) was left (in_file p)
  unfolding laid_step
  pcap_gives p was left t = mapped_gives in_file (record_at room file) was left p t

  pcap_fails : (f : RecordingFault) (was : Option (List ℕ)) → Fails (record_at room file) was f
      → Fails (laid_step room (InPcap file)) was f
  unfolding laid_step
  pcap_fails f was t = mapped_fails in_file (record_at room file) was f t

  pub pcap_reads : (m n : ℕ) (p : PacketHead) (a b buf : List ℕ) → m ≡ suc n
      → GaveValue (record_at room file) a b (Some (recorded_in p buf))
      → ReadsPacket room a b (in_pcap file m) (in_pcap file n) (recorded_at p 0 buf)
  pcap_reads m n p a b buf is g =
      reads_packet m n room (InPcap file) (InPcap file) a b (recorded_in p buf) is
      (gave_one (record_at room file) (laid_step room (InPcap file)) (Some (recorded_in p buf))
      (in_file (Some (recorded_in p buf))) a b (pcap_gives (Some (recorded_in p buf))) g)

  pub pcap_ends : (m n : ℕ) (a b : List ℕ) (ended : Type 0) → m ≡ suc n
      → GaveWhole (record_at room file) a b ended None
      → ReadsToEnd room a b ended (in_pcap file m)
  pcap_ends m n a b ended is g =
      reads_end m n room (InPcap file) (InPcap file) a b ended is
      (whole_one (record_at room file) (laid_step room (InPcap file)) None (in_file None) a b
      ended (pcap_gives None) g)

  pub pcap_fault : (m n : ℕ) (a b : List ℕ) (ended : Type 0) (f : RecordingFault) → m ≡ suc n
      → GaveFault (record_at room file) a b ended f
      → ReadsFault room a b ended (in_pcap file m) f
  pcap_fault m n a b ended f is g =
      reads_fault m n room (InPcap file) a b ended f is
      (fault_one recording_fault_origin (record_at room file) (laid_step room (InPcap file)) a b
      ended f
      (pcap_fails f) g)

-- ---- blocks

module _ (room : ℕ) (k : Known) where
  abbrev in_section : Known × Stepped → Laid × Stepped
  in_section x = (InBlocks x.0, x.1)

  block_gives : (x : Known × Stepped) (was left : Option (List ℕ))
      → Takes (step_at room k) was left x
      → Takes (laid_step room (InBlocks k)) was left (in_section x)
  unfolding laid_step
  block_gives x was left t = mapped_gives in_section (step_at room k) was left x t

  block_fails : (f : RecordingFault) (was : Option (List ℕ)) → Fails (step_at room k) was f
      → Fails (laid_step room (InBlocks k)) was f
  unfolding laid_step
  block_fails f was t = mapped_fails in_section (step_at room k) was f t

  pub block_reads : (m n : ℕ) (next : Known) (a b : List ℕ) (ended : Type 0) (buf : List ℕ)
      (q : Result Step RecordingFault) → m ≡ suc n
      → IfOk q (λ s. GaveStep (step_at room k) a b ended next (step_seen s buf))
      → IfOk q (λ s. ReadsStep room a b ended (in_blocks k m) (in_blocks next n) s buf)
  block_reads m n next a b ended buf (Ok End) is g =
      reads_end m n room (InBlocks k) (InBlocks next) a b ended is
      (whole_one (step_at room k) (laid_step room (InBlocks k)) (next, None)
      (in_section (next, None)) a b ended (block_gives (next, None)) g)
  block_reads m n next a b ended buf (Ok Passed) is g =
      reads_on m n room (InBlocks k) (InBlocks next) a b is
      (gave_one (step_at room k) (laid_step room (InBlocks k)) (next, Some None)
      (in_section (next, Some None)) a b (block_gives (next, Some None)) g)
  block_reads m n next a b ended buf (Ok (Packet p at)) is g =
      let x : Known × Stepped = (next, Some (Some (recorded_at p at buf))) in
      reads_packet m n room (InBlocks k) (InBlocks next) a b (recorded_at p at buf) is
      (gave_one (step_at room k) (laid_step room (InBlocks k)) x (in_section x) a b
      (block_gives x) g)
  block_reads m n next a b ended buf (Err f) is g = tt

  pub block_faults : (m n : ℕ) (a b : List ℕ) (ended : Type 0) (q : Result Step RecordingFault)
      → m ≡ suc n → IfErr q (λ f. GaveFault (step_at room k) a b ended f)
      → IfErr q (λ f. ReadsFault room a b ended (in_blocks k m) f)
  block_faults m n a b ended (Ok s) is g = tt
  block_faults m n a b ended (Err f) is g =
      reads_fault m n room (InBlocks k) a b ended f is
      (fault_one recording_fault_origin (step_at room k) (laid_step room (InBlocks k)) a b ended f
      (block_fails f) g)
