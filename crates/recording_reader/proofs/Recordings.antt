-- Where a reader of a recording stands, and what is known of the recording then.
use Rattle.std.proofs.Common.{◌≡◌, ℕ, List, [], ◌∷◌, ◌++◌, true, None, Some}
use Rattle.std.proofs.Common.{append_assoc, append-nil, refl, sym, ap, subst, ◌∙◌}
use Rattle.std.proofs.lemmas.List.Elements.{filter_map-append}
use Rattle.flow.specs.declared.flows.Flows.{Flows}
use Rattle.recording_counts.specs.LeftOut.{left_out_of}
use Rattle.recording_counts.specs.declared.left_out.LeftOut.{LeftOut}
use Rattle.recording_counts.specs.declared.omission.Omission.{Omission}
use Rattle.media_file.specs.Records.{Entry}
use Rattle.pcap_file.specs.Fields.{IfContent, IsContent}
use Rattle.pcap_file.specs.PcapReading.{Recorded}
use Rattle.pcap_file.specs.Runs.{HasRead, fault_in, layout_seen, packets_behind, most_packet}
use Rattle.pcap_file.specs.Runs.{packets_in}
use Rattle.pcap_file.specs.declared.fault.RecordingFault.{RecordingFault}
use Rattle.pcap_file.specs.declared.fault.RecordingFault.TheVariants.{Device, Truncated, BadMagic}
use Rattle.pcap_file.specs.declared.fault.RecordingFault.TheVariants.{BadVersion, BadBlock}
use Rattle.pcap_file.specs.declared.fault.RecordingFault.TheVariants.{BadInterface, BadTime}
use Rattle.pcap_file.specs.declared.fault.RecordingFault.TheVariants.{TooManyInterfaces}
use Rattle.pcap_file.specs.declared.fault.RecordingFault.TheVariants.{PacketTooLong, Packed}
use Rattle.pcap_file.specs.declared.fault.RecordingFault.TheVariants.{TooManyBlocks}
use Rattle.pcap_file.specs.declared.recording.Layout.{Layout}
use Rattle.pcap_file.specs.Fields.{recording_fault_origin}
use Rattle.st_format.proofs.Origins.{if_content_weaker}
use Rattle.st_format.proofs.Gave.{grew_twice}
use Rattle.st_format.specs.History.{GrewFrom, IsRead, since}
use Rattle.st_format.proofs.Histories.{grew_by, since_is}
use Rattle.recording_reader.specs.FileReader.{IsExact, IsKnownBy}
use Rattle.recording_reader.specs.Files.{AreFirst, HasFrontBy, HaveFileRecords, records_of_file}
use Rattle.recording_reader.specs.Files.{text_of_file}
use Rattle.recording_reader.specs.Found.{entry_at}
use Rattle.recording_reader.specs.Kinds.{is_recording}
use Rattle.recording_reader.specs.Reading.{FailsNext, ReadsToNext}
use Rattle.recording_reader.specs.Records.{omissions_of, record_of, records_of}
use Rattle.recording_reader.specs.Ways.{HasBegun, HasReadPackets, RecordingStands}
use Rattle.recording_reader.specs.declared.fault.ReadingFault.TheVariants as fault
use Rattle.recording_reader.specs.declared.found.Found.{Found}
use Rattle.recording_reader.specs.declared.way.Standing.{Standing}
use Rattle.recording_reader.specs.declared.way.Standing.TheVariants.{Reads, Ended, Failed}
use Rattle.recording_reader.proofs.Between.{packets_now}
use Rattle.recording_reader.proofs.Files.{recording_entries, recording_omissions, recording_text}
use Rattle.recording_reader.proofs.Files.{recording_whole}

-- what is said of a fault of the recording's
content_holds : (f : RecordingFault) (P : Type 0) → IsContent f → IfContent f P → P
content_holds Device P content p = absurd content
content_holds Truncated P content p = p
content_holds BadMagic P content p = p
content_holds BadVersion P content p = p
content_holds BadBlock P content p = p
content_holds BadInterface P content p = p
content_holds TooManyInterfaces P content p = p
content_holds BadTime P content p = p
content_holds PacketTooLong P content p = p
content_holds Packed P content p = p
content_holds TooManyBlocks P content p = p

-- ---- that it is one

pub begun_more : (before now new : List ℕ) → HasBegun before now → GrewFrom now new
    → HasBegun before new
begun_more before now new begun more =
    let piece : List ℕ = since now new in
    record {
      part = begun.part ++ piece;
      grown = grew_twice before now new begun.part piece begun.grown more;
      kind = λ behind.
          ap is_recording (append_assoc begun.part piece behind) ∙ begun.kind (piece ++ behind);
      opens = λ behind.
          subst (λ (l : List ℕ). HasFrontBy true l) (sym (append_assoc begun.part piece behind))
          (begun.opens (piece ++ behind));
    }

begun_kind : (before now : List ℕ) (ended : Type 0) (octets : List ℕ) → HasBegun before now
    → IsRead before now ended octets → is_recording octets ≡ true
begun_kind before now ended octets begun read =
    ap is_recording
    (read.parts
    ∙ ap (λ (l : List ℕ). l ++ read.behind) (since_is before now begun.part begun.grown))
    ∙ begun.kind read.behind

-- so its front is without a fault
begun_front : (before now : List ℕ) (ended : Type 0) (octets : List ℕ) → HasBegun before now
    → IsRead before now ended octets → HasFrontBy true octets
begun_front before now ended octets begun read =
    subst (λ (l : List ℕ). HasFrontBy true l)
    (sym (read.parts
    ∙ ap (λ (l : List ℕ). l ++ read.behind) (since_is before now begun.part begun.grown)))
    (begun.opens read.behind)

begun_now : (before now : List ℕ) → HasBegun before now → is_recording (since before now) ≡ true
begun_now before now begun =
    ap is_recording
    (since_is before now begun.part begun.grown ∙ sym (append-nil begun.part))
    ∙ begun.kind []

-- ---- the octets

-- octets that begin with a part that was read
pub read_part : (before now part : List ℕ) (ended : Type 0) (octets : List ℕ)
    → now ≡ before ++ part → (read : IsRead before now ended octets)
    → octets ≡ part ++ read.behind
read_part before now part ended octets grown read =
    read.parts ∙ ap (λ (l : List ℕ). l ++ read.behind) (since_is before now part grown)

-- octets of a recording whose packets are these
have_records : (flows : Flows) (octets : List ℕ) (packets : List Recorded) (records : List Entry)
    (left : LeftOut) → is_recording octets ≡ true → packets_in most_packet octets ≡ packets
    → records ≡ records_of flows packets → left ≡ left_out_of (omissions_of flows packets)
    → HaveFileRecords (Some flows) octets records left
have_records flows octets packets records left kind are is why = record {
  records_are = recording_entries flows octets kind ∙ ap (records_of flows) are ∙ sym is;
  left_is =
      why ∙ ap (λ (ps : List Recorded). left_out_of (omissions_of flows ps)) (sym are)
      ∙ ap (λ (os : List Omission). left_out_of os) (sym (recording_omissions flows octets kind));
}

-- octets of a recording whose packets begin with these
are_first : (flows : Flows) (octets : List ℕ) (packets more : List Recorded)
    (records : List Entry) → is_recording octets ≡ true
    → packets_in most_packet octets ≡ packets ++ more
    → records ≡ records_of flows packets → AreFirst records (records_of_file (Some flows) octets)
are_first flows octets packets more records kind are is = (
  records_of flows more,
  recording_entries flows octets kind ∙ ap (records_of flows) are
      ∙ filter_map-append (record_of flows) packets more
      ∙ ap (λ (l : List Entry). l ++ records_of flows more) (sym is),
)

-- ---- what is known

known_by : (flows : Flows) (standing : Standing) (layout : Layout) (before now : List ℕ)
    (ended : Type 0) (packets : List Recorded) (records : List Entry) (left : LeftOut)
    → HasBegun before now → HasReadPackets standing layout before now ended packets
    → records ≡ records_of flows packets → left ≡ left_out_of (omissions_of flows packets)
    → (octets : List ℕ) → IsRead before now ended octets
    → IsKnownBy (Some flows) standing octets records left
known_by flows Reads layout before now ended packets records left begun read are why octets told =
    let part = read_part before now read.part ended octets read.grown told in
    are_first flows octets packets (packets_behind most_packet (layout_seen layout) told.behind)
    records
    (begun_kind before now ended octets begun told)
    (ap (packets_in most_packet) part ∙ read.packets_are told.behind) are
known_by flows Ended layout before now ended packets records left begun read are why octets told =
    let kind = begun_kind before now ended octets begun told in
    let part : octets ≡ read.part =
    read_part before now read.part ended octets read.grown told
    ∙ ap (λ (l : List ℕ). read.part ++ l) (told.all read.over) ∙ append-nil read.part in (
      have_records flows octets packets records left kind
          (ap (packets_in most_packet) part ∙ read.packets_are) are why,
      recording_whole flows octets kind (ap (fault_in most_packet) part ∙ read.none),
    )
known_by flows (Failed (fault.Capture f)) layout before now ended packets records left begun read are
    why octets told =
    absurd read
known_by flows (Failed (fault.Recording f)) layout before now ended packets records left begun read
    are why octets told =
    let kind = begun_kind before now ended octets begun told in
    let part = read_part before now read.part ended octets read.grown told in
    let begins = read.begins told.behind in (
      are_first flows octets packets begins.0 records kind
          (ap (packets_in most_packet) part ∙ begins.1) are,
      if_content_weaker recording_fault_origin f _ _
          (λ says. (
            have_records flows octets packets records left kind
                (ap (packets_in most_packet) part ∙ says.0) are why,
            (kind, ap (fault_in most_packet) part ∙ says.1),
          )) (read.says told.behind told.all),
    )

-- between packets
read_packets : (standing : Standing) (layout : Layout) (before now : List ℕ) (ended : Type 0)
    (packets : List Recorded) → standing ≡ Reads
    → HasReadPackets standing layout before now ended packets
    → HasRead most_packet before now (layout_seen layout) packets
read_packets standing layout before now ended packets is read =
    subst (λ (s : Standing). HasReadPackets s layout before now ended packets) is read

-- the packets of just what was given
packets_given : (standing : Standing) (layout : Layout) (before now : List ℕ) (ended : Type 0)
    (packets : List Recorded) → IsExact standing
    → HasReadPackets standing layout before now ended packets
    → packets_in most_packet (since before now) ≡ packets
packets_given Reads layout before now ended packets exact read =
    packets_now before now (layout_seen layout) packets read
packets_given Ended layout before now ended packets exact read =
    ap (packets_in most_packet) (since_is before now read.part read.grown) ∙ read.packets_are
packets_given (Failed (fault.Capture f)) layout before now ended packets exact read = absurd read
packets_given (Failed (fault.Recording f)) layout before now ended packets exact read =
    ap (packets_in most_packet)
    (since_is before now read.part read.grown ∙ sym (append-nil read.part))
    ∙ (content_holds f _ exact (read.says [] (λ over. refl))).0

module _ (flows : Flows) (standing : Standing) (layout : Layout) (before now : List ℕ)
    (ended : Type 0) (records : List Entry) (left : LeftOut)
    (s : RecordingStands flows standing layout before now ended records left) where
  pub recording_grew : GrewFrom before now
  recording_grew = grew_by before now s.begun.part s.begun.grown

  pub recording_text_is : text_of_file (since before now) ≡ []
  recording_text_is = recording_text flows (since before now) (begun_now before now s.begun)

  pub recording_has : IsExact standing
      → HaveFileRecords (Some flows) (since before now) records left
  recording_has exact =
      have_records flows (since before now) s.packets records left
      (begun_now before now s.begun)
      (packets_given standing layout before now ended s.packets exact s.read) s.records_are
      s.left_is

  module _ (octets : List ℕ) (read : IsRead before now ended octets) where
    pub recording_kind : is_recording octets ≡ true
    recording_kind = begun_kind before now ended octets s.begun read

    pub recording_front : HasFrontBy true octets
    recording_front = begun_front before now ended octets s.begun read

    pub recording_said : text_of_file octets ≡ []
    recording_said =
        recording_text flows octets (begun_kind before now ended octets s.begun read)

    pub recording_known : IsKnownBy (Some flows) standing octets records left
    recording_known =
        known_by flows standing layout before now ended s.packets records left s.begun s.read
        s.records_are s.left_is octets read

-- ---- one call later

pub recording_first : (flows : Flows) (layout : Layout) (before now : List ℕ) (ended : Type 0)
    (left : LeftOut) → HasBegun before now → HasRead most_packet before now (layout_seen layout) []
    → left ≡ left_out_of [] → RecordingStands flows Reads layout before now ended [] left
recording_first flows layout before now ended left begun read none = record {
  begun = begun;
  packets = [];
  read = read;
  records_are = refl;
  left_is = none;
}

-- the records of packets and of others behind them
records_behind : (flows : Flows) (packets more : List Recorded) (records new : List Entry)
    → records ≡ records_of flows packets → records_of flows more ≡ new
    → records ++ new ≡ records_of flows (packets ++ more)
records_behind flows packets more records new are behind =
    sym (filter_map-append (record_of flows) packets more
    ∙ ap (λ (l : List Entry). l ++ records_of flows more) (sym are)
    ∙ ap (λ (l : List Entry). records ++ l) behind)

records_same : (flows : Flows) (packets more : List Recorded) (records : List Entry)
    → records ≡ records_of flows packets → records_of flows more ≡ []
    → records ≡ records_of flows (packets ++ more)
records_same flows packets more records are none =
    sym (append-nil records) ∙ records_behind flows packets more records [] are none

-- Where it stood, and what a call read.
module _ (flows : Flows) (standing : Standing) (was layout : Layout) (before old new : List ℕ)
    (ended ended' : Type 0) (records : List Entry) (left left' : LeftOut) (reads : standing ≡ Reads)
    (stood : RecordingStands flows standing was before old ended records left)
    (more : GrewFrom old new) where
  had : HasRead most_packet before old (layout_seen was) stood.packets
  had = read_packets standing was before old ended stood.packets reads stood.read

  -- one record more
  pub recording_again : (f : Found) (buffer : List ℕ)
      → ReadsToNext flows (Some f) buffer old new ended' was layout left left'
      → RecordingStands flows standing layout before new ended'
      (records ++ entry_at f buffer ∷ []) left'
  recording_again f buffer next =
      let on = next before stood.packets had stood.left_is in
      record {
        begun = begun_more before old new stood.begun more;
        packets = stood.packets ++ on.more;
        read = subst (λ (s : Standing). HasReadPackets s layout before new ended'
            (stood.packets ++ on.more)) (sym reads) on.read;
        records_are =
            records_behind flows stood.packets on.more records (entry_at f buffer ∷ [])
            stood.records_are on.records;
        left_is = on.left_is;
      }

  -- the end
  pub recording_end : (buffer : List ℕ)
      → ReadsToNext flows None buffer old new ended' was layout left left'
      → RecordingStands flows Ended layout before new ended' records left'
  recording_end buffer next =
      let on = next before stood.packets had stood.left_is in
      record {
        begun = begun_more before old new stood.begun more;
        packets = stood.packets ++ on.more;
        read = on.read;
        records_are =
            records_same flows stood.packets on.more records stood.records_are on.records;
        left_is = on.left_is;
      }

  -- a fault
  pub recording_fails : (f : RecordingFault) → FailsNext flows old new ended' was f left left'
      → RecordingStands flows (Failed (fault.Recording f)) layout before new ended' records left'
  recording_fails f next =
      let on = next before stood.packets had stood.left_is in
      record {
        begun = begun_more before old new stood.begun more;
        packets = stood.packets ++ on.more;
        read = on.failed;
        records_are = records_same flows stood.packets on.more records stood.records_are on.none;
        left_is = on.left_is;
      }
