-- What a file has, by its kind.
use Rattle.std.proofs.Common.{◌≡◌, ℕ, List, [], Bool, true, false, Option, Some, Result, Ok, Err}
use Rattle.std.proofs.Common.{sym, ap, subst, ◌∙◌}
use Rattle.std.specs.Prelude.{if◌then◌else◌}
use Rattle.flow.specs.declared.flows.Flows.{Flows}
use Rattle.recording_counts.specs.declared.omission.Omission.{Omission}
use Rattle.media_file.specs.Fronts.{front_at}
use Rattle.media_file.specs.Reading.{entries_in}
use Rattle.pcap_file.specs.Runs.{Laid, fault_in, most_packet, opened_at, packets_in, run_behind}
use Rattle.pcap_file.specs.declared.fault.RecordingFault.{RecordingFault}
use Rattle.recording_reader.specs.Files.{IsWholeBy, IsWholeFile, capture_records, omissions_by}
use Rattle.recording_reader.specs.Files.{omissions_of_file, records_behind, records_by}
use Rattle.recording_reader.specs.Files.{records_of_file, text_before, text_of_file}
use Rattle.recording_reader.specs.Kinds.{is_recording}
use Rattle.recording_reader.specs.Records.{omissions_of, records_in}

-- ---- a capture

module _ (flows : Option Flows) (octets : List ℕ) (kind : is_recording octets ≡ false) where
  pub capture_omissions : omissions_of_file flows octets ≡ []
  capture_omissions =
      ap (λ (b : Bool). let none : List Omission = [] in
      if b then omissions_by flows octets else none) kind

  module _ (text rest : List ℕ) (front : front_at octets ≡ Ok (text, rest)) where
    pub capture_text : text_of_file octets ≡ text
    capture_text =
        ap (λ (b : Bool). let none : List ℕ = [] in
        if b then none else text_before (front_at octets)) kind
        ∙ ap text_before front

    pub capture_entries : records_of_file flows octets ≡ entries_in rest
    capture_entries =
        ap (λ (b : Bool). if b then records_by flows octets else capture_records octets) kind
        ∙ ap records_behind front

pub capture_whole : (octets : List ℕ) → is_recording octets ≡ false → IsWholeBy false octets
    → IsWholeFile octets
capture_whole octets kind whole = subst (λ (b : Bool). IsWholeBy b octets) (sym kind) whole

-- ---- a recording

module _ (flows : Flows) (octets : List ℕ) (kind : is_recording octets ≡ true) where
  pub recording_text : text_of_file octets ≡ []
  recording_text =
      ap (λ (b : Bool). let none : List ℕ = [] in
      if b then none else text_before (front_at octets)) kind

  pub recording_entries : records_of_file (Some flows) octets ≡ records_in flows octets
  recording_entries =
      ap (λ (b : Bool). if b then records_by (Some flows) octets else capture_records octets) kind

  pub recording_omissions : omissions_of_file (Some flows) octets
      ≡ omissions_of flows (packets_in most_packet octets)
  recording_omissions =
      ap (λ (b : Bool). let none : List Omission = [] in
      if b then omissions_by (Some flows) octets else none) kind

  pub recording_whole : IsWholeBy true octets → IsWholeFile octets
  recording_whole whole = subst (λ (b : Bool). IsWholeBy b octets) (sym kind) whole

-- where its front is at fault it has no packets, and no other fault
module _ (octets : List ℕ) (f : RecordingFault) (wrong : opened_at octets ≡ Err f) where
  pub front_packets : packets_in most_packet octets ≡ []
  front_packets =
      ap (λ (r : Result (Laid × List ℕ) RecordingFault). (run_behind most_packet r).packets) wrong

  pub front_first : fault_in most_packet octets ≡ Some f
  front_first =
      ap (λ (r : Result (Laid × List ℕ) RecordingFault). (run_behind most_packet r).fault) wrong
