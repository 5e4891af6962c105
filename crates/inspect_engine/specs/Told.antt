-- What `inspect` prints of the recordings that it read (own).
use Rattle.std.specs.Prelude.{◌≡◌, ℕ, ◌⊎◌, Bool, true, List, ◌++◌}
use Rattle.std.specs.List.{AllZip, flat_map, list_all, list_any}
use Rattle.recording_counts.specs.FlowCounts.{flow_counts}
use Rattle.pcap_file.specs.PcapReading.{Recorded}
use Rattle.pcap_file.specs.Runs.{fault_in, packets_in, most_packet}
use Rattle.pcap_file.specs.declared.fault.RecordingFault.TheVariants.{Truncated}
use Rattle.run_outcome.specs.declared.refusal.Refusal.{Refusal}
use Rattle.run_outcome.specs.declared.refusal.Refusal.TheVariants.{Recording}
use Rattle.inspect_engine.specs.Arrivals.{arrivals_of, omissions_of}
use Rattle.inspect_engine.specs.Inspected.{IsFirstFailed, inspection_text, is_cut, is_told}
use Rattle.inspect_engine.specs.declared.form.Form.{Form}
use Rattle.recording_counts.specs.LeftOut.{left_out_of}

-- what is told of packets: their flows, and the packets without a datagram
abbrev pub told_text : Form → List Recorded → List ℕ
told_text form packets =
    inspection_text form (flow_counts (arrivals_of packets)) (left_out_of (omissions_of packets))

-- What was printed is what is told of all packets of the octets that were read, one recording's
-- behind the other's; each ended, or was cut short; and whether one was.
pub record Tells {S : Type 0} (form : Form) (told : S → List ℕ → Type 0) (recordings : List S)
    (cut : Bool) (shown shown' : List ℕ) : Type 0 where
  pub printed : (octets : List (List ℕ)) → AllZip told recordings octets
      → shown' ≡ shown ++ told_text form (flat_map (packets_in most_packet) octets)
  pub ends : (octets : List (List ℕ)) → AllZip told recordings octets
      → list_all (λ o. is_told (fault_in most_packet o)) octets ≡ true
  pub cuts : (octets : List (List ℕ)) → AllZip told recordings octets
      → cut ≡ list_any (λ o. is_cut (fault_in most_packet o)) octets

-- The refusals of `inspect`: that a recording was cut short, and then all was printed, for none has
-- another fault; the first other fault of the recordings in turn, and then nothing was.
abbrev pub IsInspectRefusal : {S : Type 0} → Form → (S → List ℕ → Type 0) → List S → List ℕ
    → List ℕ → Refusal → Type 0
IsInspectRefusal form told recordings shown shown' r =
    ((r ≡ Recording Truncated) × Tells form told recordings true shown shown')
    ⊎ ((shown' ≡ shown) × IsFirstFailed most_packet told recordings r)
