-- What is noted of recordings, and what is told of them (own).
use Rattle.std.specs.Prelude.{◌≡◌, ℕ, Bool, true, false, List, ◌∷◌, ◌++◌, codes, Option, Some}
use Rattle.std.specs.Prelude.{None}
use Rattle.std.specs.Prelude.{if◌then◌else◌}
use Rattle.std.specs.Prelude.{length}
use Rattle.std.specs.Fmt.{decimal}
use Rattle.std.specs.List.{AllZip, flat_map, list_all, list_any}
use Rattle.st_format.specs.History.{IsRead}
use Rattle.recording_counts.specs.FlowCounts.{flow_counts}
use Rattle.recording_counts.specs.Flows.{Arrival}
use Rattle.recording_counts.specs.FlowJson.{count_json}
use Rattle.recording_counts.specs.FlowLines.{count_text}
use Rattle.pcap_file.specs.declared.fault.RecordingFault.{RecordingFault}
use Rattle.pcap_file.specs.declared.fault.RecordingFault.TheVariants.{Truncated}
use Rattle.pcap_file.specs.Fields.{CountsFault, IfContent}
use Rattle.pcap_file.specs.PcapReading.{Recorded}
use Rattle.pcap_file.specs.Runs.{HasFailed, HasRead, HasReadAll, Seen, fault_in, packets_in}
use Rattle.inspect_engine.specs.Arrivals.{arrivals_of, omissions_of}
use Rattle.recording_counts.specs.LeftOut.{left_out_of, left_out_text}
use Rattle.recording_counts.specs.declared.flow_count.FlowCount.{FlowCount}
use Rattle.run_outcome.specs.declared.refusal.Refusal.{Refusal}
use Rattle.run_outcome.specs.declared.refusal.Refusal.TheVariants.{Recording}
use Rattle.recording_counts.specs.declared.left_out.LeftOut.{LeftOut}
use Rattle.recording_counts.specs.declared.omission.Omission.{Omission}
use Rattle.inspect_engine.specs.declared.form.Form.{Form}
use Rattle.inspect_engine.specs.declared.form.Form.TheVariants.{Json, Lines}
use Rattle.inspect_engine.specs.declared.inspection.Inspection.{Inspection}

-- Packets were noted: the flows are then those of the datagrams before and of theirs, and so are
-- the reasons.
pub record NotesEach {A : Type 0} (packets : List Recorded) (old new : Inspection A) : Type 0 where
  pub flows : (arrivals : List Arrival) → old.flows ≡ flow_counts arrivals
      → new.flows ≡ flow_counts (arrivals ++ arrivals_of packets)
  pub left_out : (omissions : List Omission) → old.left_out ≡ left_out_of omissions
      → new.left_out ≡ left_out_of (omissions ++ omissions_of packets)

-- a source gave all of a recording of these packets, or as far as a fault
abbrev pub HasReadUpTo : ℕ → List ℕ → List ℕ → Type 0 → Option RecordingFault → List Recorded
    → Type 0
HasReadUpTo room before now ended None packets = HasReadAll room before now ended packets
HasReadUpTo room before now ended (Some f) packets = HasFailed room before now ended f packets

-- A recording was noted up to its end, or up to its fault: its packets are those of the octets that
-- were read, and so is the fault.
pub record NotesOctets {A : Type 0} (room : ℕ) (told : List ℕ → Type 0)
    (end : Option RecordingFault) (old new : Inspection A) : Type 0 where
  pub noted : (octets : List ℕ) → told octets → NotesEach (packets_in room octets) old new
  pub ends : (octets : List ℕ) → told octets → fault_in room octets ≡ end

-- the same, unless the source failed
abbrev pub NotesUnless : {A : Type 0} → ℕ → (List ℕ → Type 0) → Option RecordingFault
    → Inspection A → Inspection A → Type 0
NotesUnless room told None old new = NotesOctets room told None old new
NotesUnless room told (Some f) old new = IfContent f (NotesOctets room told (Some f) old new)

-- the same of what was read between two moments
abbrev pub NotesRecording : {A : Type 0} → ℕ → List ℕ → List ℕ → Type 0
    → Option RecordingFault → Inspection A → Inspection A → Type 0
NotesRecording room before now ended end old new =
    NotesUnless room (IsRead before now ended) end old new

-- Of a recording of which this was seen, packets were noted, up to its end or up to a fault,
-- whatever was read before.
pub record NotesBehind {A : Type 0} (room : ℕ) (seen : Seen) (read now : List ℕ) (ended : Type 0)
    (end : Option RecordingFault) (old new : Inspection A) : Type 0 where
  pub packets : List Recorded
  pub noted : NotesEach packets old new
  pub stops : (before : List ℕ) (earlier : List Recorded) → HasRead room before read seen earlier
      → HasReadUpTo room before now ended end (earlier ++ packets)

-- a device's fault is one failure more, and any other end none
abbrev pub counts_end : Option RecordingFault → ℕ → ℕ → Type 0
counts_end None old new = new ≡ old
counts_end (Some f) old new = CountsFault f old new

-- how the reading of a recording ended that was told, by whether it was cut short
abbrev pub end_of : Bool → Option RecordingFault
end_of cut = if cut then Some Truncated else None

-- the recording was cut short
abbrev pub is_cut : Option RecordingFault → Bool
is_cut (Some Truncated) = true
is_cut _ = false

-- its reading ended so that the next one is read: at its end, or where it was cut short
abbrev pub is_told : Option RecordingFault → Bool
is_told None = true
is_told f = is_cut f

-- Recordings were noted, one after the other, each up to its end or to where it was cut short; and
-- whether one was cut short.
pub record NotesAll {S A : Type 0} (room : ℕ) (told : S → List ℕ → Type 0) (recordings : List S)
    (cut : Bool) (old new : Inspection A) : Type 0 where
  pub noted : (octets : List (List ℕ)) → AllZip told recordings octets
      → NotesEach (flat_map (packets_in room) octets) old new
  pub ends : (octets : List (List ℕ)) → AllZip told recordings octets
      → list_all (λ o. is_told (fault_in room o)) octets ≡ true
  pub cuts : (octets : List (List ℕ)) → AllZip told recordings octets
      → cut ≡ list_any (λ o. is_cut (fault_in room o)) octets

-- what is told of a flow: lines for a person, or an object of JSON (RFC 8259)
abbrev pub count_told : Form → FlowCount → List ℕ
count_told Lines c = count_text c
count_told Json c = count_json c

-- how many flows there are, and the packets left out, as lines
abbrev pub end_text : ℕ → LeftOut → List ℕ
end_text flows l = codes "flows " ++ (decimal flows ++ left_out_text l)

-- the members of the first three reasons
abbrev pub first_reasons_json : LeftOut → List ℕ
first_reasons_json l =
    codes "\"CutShort\":" ++ (decimal l.cut_short
    ++ (codes ",\"NotIp\":" ++ (decimal l.not_ip
    ++ (codes ",\"BadIpHeader\":" ++ decimal l.bad_ip_header))))

-- the packets left out, by the reason, as an object of JSON
abbrev pub left_out_json : LeftOut → List ℕ
left_out_json l =
    codes "{" ++ (first_reasons_json l
    ++ (codes ",\"NotUdp\":" ++ (decimal l.not_udp
    ++ (codes ",\"Fragment\":" ++ (decimal l.fragment
    ++ (codes ",\"BadUdpLength\":" ++ (decimal l.bad_udp_length ++ codes "}")))))))

-- how many flows there are, and the packets left out, as an object of JSON
abbrev pub end_json : ℕ → LeftOut → List ℕ
end_json flows l =
    codes "{\"flows\":" ++ (decimal flows
    ++ (codes ",\"left_out\":" ++ (left_out_json l ++ codes "}")))

-- the one or the other
abbrev pub end_told : Form → ℕ → LeftOut → List ℕ
end_told Lines flows l = end_text flows l
end_told Json flows l = end_json flows l

-- what is told of a flow, to its end of line
abbrev pub count_lines : Form → FlowCount → List ℕ
count_lines form c = count_told form c ++ codes "\n"

-- what is told at the end, to its end of line
abbrev pub end_lines : Form → List FlowCount → LeftOut → List ℕ
end_lines form counts l = end_told form (length counts) l ++ codes "\n"

-- what is told of flows and of packets left out: of each flow, and then how many flows there are
-- and how many packets are left out, by the reason
abbrev pub inspection_text : Form → List FlowCount → LeftOut → List ℕ
inspection_text form counts l = flat_map (count_lines form) counts ++ end_lines form counts l

-- the refusal of a recording that was read: its first fault, which isn't that it was cut short
abbrev pub IsFaultOf : ℕ → (List ℕ → Type 0) → Refusal → Type 0
IsFaultOf room told (Recording Truncated) = ⊥
IsFaultOf room told (Recording f) =
    (octets : List ℕ) → told octets → fault_in room octets ≡ Some f
IsFaultOf room told r = ⊥

-- The refusal of recordings that were read in turn is that of one of them, and the first: each
-- before it was read to its end, or is cut short.
pub record IsFirstFailed {S : Type 0} (room : ℕ) (told : S → List ℕ → Type 0) (recordings : List S)
    (r : Refusal) : Type 0 where
  pub front : List S
  pub at : S
  pub behind : List S
  pub parts : recordings ≡ front ++ at ∷ behind
  pub whole : (octets : List (List ℕ)) → AllZip told front octets
      → list_all (λ o. is_told (fault_in room o)) octets ≡ true
  pub refused : IsFaultOf room (told at) r
