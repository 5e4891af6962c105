-- The texts of an inspection, one behind the other.
use Rattle.std.proofs.Common.{◌≡◌, ◌∙◌, ℕ, List, [], ◌++◌, ap, subst}
use Rattle.std.specs.List.{flat_map}
use Rattle.media_file.specs.Records.{Entry}
use Rattle.recording_counts.specs.declared.packet.Packet.{Packet}
use Rattle.recording_counts.specs.Timestamps.{timestamps_of}
use Rattle.recording_counts.specs.declared.timestamp.TimestampCount.{TimestampCount}
use Rattle.stream_inspection.specs.Arrivals.{Arrival, arrivals_of, packets, video_of}
use Rattle.stream_inspection.specs.Inspected.{IsInspected}
use Rattle.stream_inspection.specs.Lines.{counted_line, row_line}
use Rattle.stream_inspection.specs.Numbers.{AreStreams, told_streams}
use Rattle.stream_inspection.specs.Skews.{AreProbes, IsOrderOf, skew_row, skews_in}
use Rattle.stream_inspection.specs.Streams.{stream_lines}
use Rattle.stream_inspection.specs.Timestamps.{timestamps_text, window_of}
use Rattle.stream_inspection.specs.Told.{IsText, refusals_text, window_line}
use Rattle.stream_inspection.specs.declared.inspection.Inspection.{Inspection}
use Rattle.stream_inspection.specs.declared.rows.Row.TheVariants.{Control, Skew}
use Rattle.stream_inspection.specs.declared.target.Target.{Target}
use Rattle.stream_inspection.specs.declared.text.Form.{Form}
use Rattle.stream_inspection.proofs.Pieces.{six}
use Rattle.stream_inspection.proofs.Told.{lines_same}

-- the text of an inspection is that of its records
pub is_text : {A : Type 0} (form : Form) (t : Target) (i : Inspection A) (entries : List Entry)
    (counts : List TimestampCount) (sorted t1 t2 t3 t4 t5 t6 : List ℕ) → counts ≡ i.timestamps
    → IsInspected t i entries
    → ((arrivals : List Arrival) → AreProbes i.probes arrivals
    → IsOrderOf sorted (skews_in arrivals counts))
    → ((ps : List Packet) → AreStreams i.streams ps
    → t1 ≡ flat_map (stream_lines {A = A} form) (told_streams ps))
    → ((arrivals : List Arrival) → AreProbes i.probes arrivals
    → t2 ≡ t1 ++ timestamps_text form t.payload_type arrivals counts)
    → t3 ≡ t2 ++ row_line form (Skew (skew_row sorted))
    → t4 ≡ t3 ++ refusals_text form i.tally.refused
    → t5 ≡ t4 ++ counted_line form (Control i.controls) i.controls
    → t6 ≡ t5 ++ window_line form t.payload_type (window_of counts) → IsText form t entries t6
is_text {A} form t i entries counts sorted t1 t2 t3 t4 t5 t6 are is ordered p q r s u v =
    let video : List Arrival = video_of t entries in
    let all : List Packet = packets (arrivals_of t entries) in
    let stamps : counts ≡ timestamps_of (packets video) = are ∙ is.timestamps in
    let ends : ℕ → List ℕ = λ n. counted_line form (Control n) n in
    record {
      sorted = sorted;
      ordered =
          subst (λ (l : List TimestampCount). IsOrderOf sorted (skews_in video l)) stamps
          (ordered video is.probes);
      tally = i.tally;
      answers = is.tally;
      is =
          six [] t1 t2 t3 t4 t5 t6 (flat_map (stream_lines {A = A} form) (told_streams all))
          (timestamps_text form t.payload_type video counts)
          (row_line form (Skew (skew_row sorted))) (refusals_text form i.tally.refused)
          (ends i.controls) (window_line form t.payload_type (window_of counts))
          (p all is.streams)
          (q video is.probes) r s u v
          ∙ ap (λ (l : List ℕ). l ++ (timestamps_text form t.payload_type video counts
          ++ (row_line form (Skew (skew_row sorted))
          ++ (refusals_text form i.tally.refused
          ++ (ends i.controls ++ window_line form t.payload_type (window_of counts))))))
          (lines_same A form all)
          ∙ ap (λ (l : List TimestampCount). flat_map (stream_lines {A = Unit {0}} form)
          (told_streams all)
          ++ (timestamps_text form t.payload_type video l
          ++ (row_line form (Skew (skew_row sorted))
          ++ (refusals_text form i.tally.refused
          ++ (ends i.controls ++ window_line form t.payload_type (window_of l)))))) stamps
          ∙ ap (λ (n : ℕ). flat_map (stream_lines {A = Unit {0}} form)
          (told_streams all)
          ++ (timestamps_text form t.payload_type video (timestamps_of (packets video))
          ++ (row_line form (Skew (skew_row sorted))
          ++ (refusals_text form i.tally.refused
          ++ (ends n ++ window_line form t.payload_type
          (window_of (timestamps_of (packets video)))))))) is.controls;
    }
