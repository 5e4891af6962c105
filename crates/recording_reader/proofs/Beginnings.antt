-- What stands before all records of a file, read behind its first four octets.
use Rattle.std.proofs.Common.{◌≡◌, ℕ, ◌<◌, List, [], ◌++◌, Bool, true, false, Option, None, Some}
use Rattle.std.proofs.Common.{Err, append_assoc, append-nil, refl, sym, ap, ◌∙◌}
use Rattle.std.proofs.Common.{length, arith}
use Rattle.flow.specs.declared.flows.Flows.{Flows}
use Rattle.recording_counts.specs.LeftOut.{left_out_of}
use Rattle.media_file.specs.Fields.{GaveFault}
use Rattle.st_format.specs.Given.{GaveValue}
use Rattle.media_file.specs.Fronts.{front_at}
use Rattle.media_file.specs.declared.fault.FileFault.{FileFault}
use Rattle.media_file.specs.declared.fault.FileFault.TheVariants.{Truncated}
use Rattle.media_file.specs.Faults.{file_fault_origin}
use Rattle.pcap_file.specs.Fields.{GaveFault as GaveRecordingFault, recording_fault_origin}
use Rattle.media_file.proofs.FrontBehind.{few_cut}
use Rattle.media_file.proofs.Gave.{fault_read}
use Rattle.pcap_file.specs.Runs.{HasRead, layout_seen, most_packet, opened_at}
use Rattle.pcap_file.specs.declared.fault.RecordingFault.{RecordingFault}
use Rattle.st_format.proofs.Origins.{if_content_weaker}
use Rattle.st_format.proofs.Gave.{grew_twice}
use Rattle.st_format.specs.History.{GrewFrom, IsRead, since}
use Rattle.st_format.proofs.Histories.{since_is}
use Rattle.recording_reader.specs.Files.{IsFrontFault}
use Rattle.recording_reader.specs.Kinds.{is_magic, is_recording}
use Rattle.recording_reader.specs.Opening.{HasGivenFour, StopsOpening}
use Rattle.recording_reader.specs.Ways.{BeginsWay}
use Rattle.recording_reader.specs.declared.fault.FileOpeningFault.TheVariants as opening
use Rattle.recording_reader.specs.declared.fault.ReadingFault.TheVariants as fault
use Rattle.recording_reader.specs.declared.way.Track.{Track}
use Rattle.recording_reader.specs.declared.way.FileKind.TheVariants.{Capture, Recording}
use Rattle.recording_reader.proofs.Captures.{capture_first}
use Rattle.recording_reader.proofs.Magic.{kind_behind, kind_of_few}
use Rattle.recording_reader.proofs.Recordings.{read_part, recording_first}

-- ---- fewer than four octets

pub stops_short : (flows : Option Flows) (before now part : List ℕ) (ended : Type 0)
    → length part < 4 → now ≡ before ++ part → ended
    → StopsOpening flows before now ended (opening.Reading (fault.Capture Truncated))
stops_short flows before now part ended few grown over octets read =
    let same : octets ≡ part =
    read_part before now part ended octets grown read
    ∙ ap (λ (l : List ℕ). part ++ l) (read.all over) ∙ append-nil part in (
      ap is_recording same ∙ kind_of_few part few,
      ap front_at same ∙ few_cut part (omega arith),
    )

-- ---- behind four octets

module _ (before was four : List ℕ) (kind : Bool) (size : length four ≡ 4)
    (magic : is_magic four ≡ kind) (is : was ≡ before ++ four) where
  pub given_four : HasGivenFour before was
  given_four = record { four = four; counted = size; grown = is }

  -- what was read of it is of this kind
  pub kind_read : (now : List ℕ) (ended : Type 0) (octets : List ℕ) → GrewFrom was now
      → IsRead before now ended octets → is_recording octets ≡ kind
  kind_read now ended octets grew read =
      let piece : List ℕ = since was now in
      let whole : now ≡ before ++ (four ++ piece) = grew_twice before was now four piece is grew in
      kind_behind four (piece ++ read.behind) octets kind size magic
      (read_part before now (four ++ piece) ended octets whole read
      ∙ append_assoc four piece read.behind)

  pub kind_given : (now part : List ℕ) → GrewFrom was now → now ≡ before ++ part
      → (behind : List ℕ) → is_recording (part ++ behind) ≡ kind
  kind_given now part grew grown behind =
      let piece : List ℕ = since was now in
      let whole : now ≡ before ++ (four ++ piece) = grew_twice before was now four piece is grew in
      let same : part ≡ four ++ piece =
      sym (since_is before now part grown) ∙ since_is before now (four ++ piece) whole in
      kind_behind four (piece ++ behind) (part ++ behind) kind size magic
      (ap (λ (l : List ℕ). l ++ behind) same ∙ append_assoc four piece behind)

-- ---- a capture

module _ (before was four : List ℕ) (size : length four ≡ 4) (magic : is_magic four ≡ false)
    (is : was ≡ before ++ four) where
  pub capture_no_memory : (flows : Option Flows) (ended : Type 0)
      → StopsOpening flows before was ended opening.NoMemory
  capture_no_memory flows ended = (
    given_four before was four false size magic is,
    λ octets read yes.
        let no = kind_behind four read.behind octets false size magic
        (read_part before was four ended octets is read) in
        let other : true ≡ false = sym yes ∙ no in absurd cc,
  )

  pub capture_stops : (flows : Option Flows) (now : List ℕ) (ended : Type 0) (f : FileFault)
      → GrewFrom was now → GaveFault front_at before now ended f
      → StopsOpening flows before now ended (opening.Reading (fault.Capture f))
  capture_stops flows now ended f grew wrong octets read =
      if_content_weaker file_fault_origin f (front_at octets ≡ Err f)
      (IsFrontFault (fault.Capture f) octets)
      (λ e. (kind_read before was four false size magic is now ended octets grew read, e))
      (fault_read front_at before now ended f octets wrong read)

  pub capture_begins : (flows : Option Flows) (now : List ℕ) (ended : Type 0) (text : List ℕ)
      → GrewFrom was now → GaveValue front_at before now text
      → BeginsWay Capture flows before now ended text
  capture_begins flows now ended text grew gave =
      capture_first before now gave.part text ended
      (record {
        kind = kind_given before was four false size magic is now gave.part grew gave.grown;
        says = gave.says;
      }) gave.grown

-- ---- a recording

module _ (before was four : List ℕ) (size : length four ≡ 4) (magic : is_magic four ≡ true)
    (is : was ≡ before ++ four) where
  pub recording_no_memory : (flows : Flows) (ended : Type 0)
      → StopsOpening (Some flows) before was ended opening.NoMemory
  recording_no_memory flows ended =
      (given_four before was four true size magic is, λ octets read yes. refl)

  pub recording_no_flows : (flows : Option Flows) (ended : Type 0) → flows ≡ None
      → StopsOpening flows before was ended opening.NoFlows
  recording_no_flows flows ended none = (
    given_four before was four true size magic is,
    none,
    λ octets read.
        kind_behind four read.behind octets true size magic
        (read_part before was four ended octets is read),
  )

  pub recording_stops : (flows : Option Flows) (now : List ℕ) (ended : Type 0)
      (f : RecordingFault) → GrewFrom was now → GaveRecordingFault opened_at before now ended f
      → StopsOpening flows before now ended (opening.Reading (fault.Recording f))
  recording_stops flows now ended f grew wrong octets read =
      if_content_weaker recording_fault_origin f (opened_at (wrong.part ++ read.behind) ≡ Err f)
      (IsFrontFault (fault.Recording f) octets)
      (λ e. (
        kind_read before was four true size magic is now ended octets grew read,
        ap opened_at (read_part before now wrong.part ended octets wrong.grown read) ∙ e,
      )) (wrong.says read.behind read.all)

  pub recording_begins : (t : Track) (now : List ℕ) (ended : Type 0) → GrewFrom was now
      → HasRead most_packet before now (layout_seen t.layout) []
      → GaveValue opened_at before now (layout_seen t.layout).laid → t.left_out ≡ left_out_of []
      → BeginsWay (Recording t) (Some t.flows) before now ended []
  recording_begins t now ended grew read gave none = (
    refl,
    refl,
    recording_first t.flows t.layout before now ended t.left_out
        (record {
          part = gave.part;
          grown = gave.grown;
          kind = kind_given before was four true size magic is now gave.part grew gave.grown;
          opens = λ behind. (((layout_seen t.layout).laid, behind), gave.says behind);
        }) read none,
  )

-- ---- by what a call behind the four answered
