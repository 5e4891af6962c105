-- Passing over packets that have no record.
use Rattle.std.proofs.Common.{◌≡◌, ℕ, List, [], ◌∷◌, ◌++◌, Option, None, Some}
use Rattle.std.proofs.Common.{refl, sym, ap, subst, ◌∙◌, append_assoc, append-nil}
use Rattle.std.proofs.lemmas.List.Elements.{filter_map-append}
use Rattle.std.specs.List.{cons_option}
use Rattle.flow.specs.declared.flows.Flows.{Flows}
use Rattle.recording_counts.specs.LeftOut.{left_out_of}
use Rattle.recording_counts.specs.declared.left_out.LeftOut.{LeftOut}
use Rattle.recording_counts.specs.declared.omission.Omission.{Omission}
use Rattle.media_file.specs.Records.{Entry}
use Rattle.pcap_file.specs.PcapReading.{Recorded}
use Rattle.pcap_file.specs.declared.fault.RecordingFault.{RecordingFault}
use Rattle.pcap_file.specs.declared.recording.Layout.{Layout}
use Rattle.pcap_file.specs.declared.recording.Packet.{Packet}
use Rattle.pcap_file.specs.Runs.{HasRead, ReadsFault, ReadsToEnd, most_packet}
use Rattle.pcap_file.specs.Runs.{ReadsPacket, Seen, layout_seen, packet_seen}
use Rattle.recording_reader.specs.Found.{entry_at}
use Rattle.recording_reader.specs.Reading.{FailsNext, ReadsToNext}
use Rattle.recording_reader.specs.Records.{omission_of, omissions_of, record_of, records_of}
use Rattle.recording_reader.specs.declared.found.Found.{Found}

-- Packets were read that have no record, and they are counted.
pub record HasPassed (flows : Flows) (before now : List ℕ) (seen : Seen) (packets : List Recorded)
    (count : LeftOut) : Type 0 where
  pub more : List Recorded
  pub read : HasRead most_packet before now seen (packets ++ more)
  pub left : count ≡ left_out_of (omissions_of flows (packets ++ more))
  pub none : records_of flows more ≡ []

abbrev pub Passes : Flows → List ℕ → List ℕ → Seen → Seen → LeftOut → LeftOut → Type 0
Passes flows old new was now left left' =
    (before : List ℕ) (packets : List Recorded) → HasRead most_packet before old was packets
    → left ≡ left_out_of (omissions_of flows packets) → HasPassed flows before new now packets left'

-- the records of packets, and of one more
one_more : (flows : Flows) (more : List Recorded) (p : Recorded) (r : Option Entry)
    → record_of flows p ≡ r → records_of flows more ≡ []
    → records_of flows (more ++ p ∷ []) ≡ cons_option r []
one_more flows more p r is none =
    filter_map-append (record_of flows) more (p ∷ [])
    ∙ ap (λ (l : List Entry). l ++ records_of flows (p ∷ [])) none
    ∙ ap (λ (o : Option Entry). let none : List Entry = [] in cons_option o none) is

-- why packets are left out, and one more
left_more : (flows : Flows) (packets more : List Recorded) (p : Recorded) (o : Option Omission)
    → omission_of flows p ≡ o
    → omissions_of flows (packets ++ (more ++ p ∷ []))
    ≡ omissions_of flows (packets ++ more) ++ cons_option o []
left_more flows packets more p o is =
    ap (omissions_of flows) (sym (append_assoc packets more (p ∷ [])))
    ∙ filter_map-append (omission_of flows) (packets ++ more) (p ∷ [])
    ∙ ap (λ (x : Option Omission). let none : List Omission = [] in
    omissions_of flows (packets ++ more) ++ cons_option x none) is

-- one more reason is counted
abbrev pub CountsOmission : Omission → LeftOut → LeftOut → Type 0
CountsOmission w left left' =
    (omissions : List Omission) → left ≡ left_out_of omissions
    → left' ≡ left_out_of (omissions ++ w ∷ [])

pub passed_more : (flows : Flows) (old now new : List ℕ) (was seen seen' : Seen)
    (left left' left'' : LeftOut) (p : Recorded) (w : Omission)
    → Passes flows old now was seen left left' → ReadsPacket most_packet now new seen seen' p
    → record_of flows p ≡ None → omission_of flows p ≡ Some w → CountsOmission w left' left''
    → Passes flows old new was seen' left left''
passed_more flows old now new was seen seen' left left' left'' p w passed reads none why counts before
    packets read is =
    let had = passed before packets read is in
    let same = append_assoc packets had.more (p ∷ []) in
    record {
      more = had.more ++ p ∷ [];
      read = subst (λ (l : List Recorded). HasRead most_packet before new seen' l) same
          (reads before (packets ++ had.more) had.read);
      left = counts (omissions_of flows (packets ++ had.more)) had.left
          ∙ ap left_out_of (sym (left_more flows packets had.more p (Some w) why));
      none = one_more flows had.more p None none had.none;
    }

pub passed_found : (flows : Flows) (old now new : List ℕ) (ended : Type 0) (was seen : Layout)
    (middle : Seen) (left left' : LeftOut) (p : Packet) (f : Found) (buffer : List ℕ)
    → Passes flows old now (layout_seen was) middle left left'
    → ReadsPacket most_packet now new middle (layout_seen seen) (packet_seen p buffer)
    → record_of flows (packet_seen p buffer) ≡ Some (entry_at f buffer)
    → omission_of flows (packet_seen p buffer) ≡ None
    → ReadsToNext flows (Some f) buffer old new ended was seen left left'
passed_found flows old now new ended was seen middle left left' p f buffer passed reads some why before
    packets read is =
    let q = packet_seen p buffer in
    let had = passed before packets read is in
    let same = append_assoc packets had.more (q ∷ []) in
    record {
      more = had.more ++ q ∷ [];
      read = subst (λ (l : List Recorded). HasRead most_packet before new (layout_seen seen) l) same
          (reads before (packets ++ had.more) had.read);
      left_is = had.left
          ∙ ap left_out_of
          (sym (left_more flows packets had.more q None why
          ∙ append-nil (omissions_of flows (packets ++ had.more))));
      records = one_more flows had.more q (Some (entry_at f buffer)) some had.none;
    }

pub passed_end : (flows : Flows) (old now new : List ℕ) (ended : Type 0) (was seen : Layout)
    (middle : Seen) (left left' : LeftOut) (buffer : List ℕ)
    → Passes flows old now (layout_seen was) middle left left'
    → ReadsToEnd most_packet now new ended middle
    → ReadsToNext flows None buffer old new ended was seen left left'
passed_end flows old now new ended was seen middle left left' buffer passed reads before packets read
    is =
    let had = passed before packets read is in
    record {
      more = had.more;
      read = reads before (packets ++ had.more) had.read;
      left_is = had.left;
      records = had.none;
    }

pub passed_fault : (flows : Flows) (old now new : List ℕ) (ended : Type 0) (was : Layout)
    (middle : Seen) (left left' : LeftOut) (f : RecordingFault)
    → Passes flows old now (layout_seen was) middle left left'
    → ReadsFault most_packet now new ended middle f
    → FailsNext flows old new ended was f left left'
passed_fault flows old now new ended was middle left left' f passed reads before packets read is =
    let had = passed before packets read is in
    record {
      more = had.more;
      failed = reads before (packets ++ had.more) had.read;
      left_is = had.left;
      none = had.none;
    }

-- an option that is no Some is None
pub none_left : (o : Option Packet) → ((x : Packet) → o ≡ Some x → ⊥) → o ≡ None
none_left None h = refl
none_left (Some x) h = absurd (h x refl)
