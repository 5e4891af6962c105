-- What is told of files (own).
use Rattle.std.specs.Prelude.{◌≡◌, ℕ, ◌⊎◌, List, [], ◌∷◌, ◌++◌, slice_index, take, Option, None}
use Rattle.std.specs.Prelude.{Some}
use Rattle.std.specs.Prelude.{Result}
use Rattle.std.specs.List.{AllZip, flat_map}
use Rattle.path_receiver.specs.Tallied.{Tallies, slot_of}
use Rattle.path_receiver.specs.declared.tally.Tally.{Tally}
use Rattle.flow.specs.declared.flows.Flows.{Flows}
use Rattle.media_file.specs.Records.{Entry}
use Rattle.path_receiver.specs.declared.answer.Refusal.{Refusal as Reason}
use Rattle.path_receiver.specs.Answers.{all_refusals}
use Rattle.recording_reader.specs.declared.fault.ReadingFault.{ReadingFault}
use Rattle.run_outcome.specs.declared.fault.Fault.TheVariants as outcome
use Rattle.run_outcome.specs.declared.refusal.Refusal.{Refusal}
use Rattle.run_outcome.specs.declared.refusal.Refusal.TheVariants as refusal
use Rattle.run_outcome.specs.LowerFaults.{reading_fault}
use Rattle.recording_counts.specs.Timestamps.{timestamps_of}
use Rattle.recording_counts.specs.declared.stream.StreamCount.{StreamCount}
use Rattle.recording_counts.specs.declared.timestamp.TimestampCount.{TimestampCount}
use Rattle.stream_inspection.specs.Aim.{IsAimed, IsBeginRefusal, IsTarget}
use Rattle.stream_inspection.specs.Arrivals.{Arrival, answers_of, arrivals_of, packets, video_of}
use Rattle.stream_inspection.specs.Columns.{window_column}
use Rattle.stream_inspection.specs.Inspected.{IsInspected, controls_of}
use Rattle.stream_inspection.specs.Json.{window_json}
use Rattle.stream_inspection.specs.Lines.{counted_line, row_line}
use Rattle.stream_inspection.specs.Numbers.{told_streams}
use Rattle.stream_inspection.specs.Read.{HaveRecords, IsFirstFront}
use Rattle.stream_inspection.specs.Skews.{IsOrderOf, skew_row, skews_in}
use Rattle.stream_inspection.specs.Streams.{stream_lines}
use Rattle.stream_inspection.specs.Timestamps.{timestamps_text, window_of}
use Rattle.stream_inspection.specs.declared.inspection.Inspection.{Inspection}
use Rattle.stream_inspection.specs.declared.rows.Row.TheVariants.{Control, Nothing, Refused, Skew}
use Rattle.stream_inspection.specs.declared.target.Target.{Target}
use Rattle.stream_inspection.specs.declared.target.Wanted.{Wanted}
use Rattle.stream_inspection.specs.declared.target.Wanted.TheVariants as wanted
use Rattle.stream_inspection.specs.declared.text.Form.{Form}
use Rattle.stream_inspection.specs.declared.text.Form.TheVariants.{Columns, Json}

-- the line of a refusal that came, by the counts of all
abbrev pub refused_line : Form → List ℕ → Reason → List ℕ
refused_line form counts e =
    counted_line form (Refused e (slice_index counts (slot_of e)))
    (slice_index counts (slot_of e))

-- the lines of the refusals that came, in the order of their numbers
abbrev pub refusals_text : Form → List ℕ → List ℕ
refusals_text form counts = flat_map (refused_line form counts) all_refusals

-- the line of a window, or that there is none
abbrev pub window_line : Form → ℕ → List ℕ → List ℕ
window_line form payload_type [] = row_line form (Nothing payload_type)
window_line Columns payload_type (t ∷ ts) = window_column (t ∷ ts) ++ 10 ∷ []
window_line Json payload_type (t ∷ ts) = window_json (t ∷ ts) ++ 10 ∷ []

-- what is told of streams, of timestamps, of skews in order, of refusals, of RTCP and of the window
abbrev pub told_text : {A : Type 0} → Form → ℕ → List Arrival → List (StreamCount A)
    → List TimestampCount → List ℕ → List ℕ → ℕ → List ℕ
told_text form payload_type video streams counts sorted refused controls =
    flat_map (stream_lines form) streams
    ++ (timestamps_text form payload_type video counts
    ++ (row_line form (Skew (skew_row sorted))
    ++ (refusals_text form refused
    ++ (counted_line form (Control controls) controls
    ++ window_line form payload_type (window_of counts)))))

-- The text of records, by what is looked for: of the streams of all packets, by the numbers that
-- they are told by; of the timestamps of those with the payload type, and their skews in order; and
-- of what a receiver answers.
pub record IsText (form : Form) (t : Target) (records : List Entry) (text : List ℕ)
    : Type 0 where
  pub sorted : List ℕ
  pub ordered : IsOrderOf sorted
      (skews_in (video_of t records) (timestamps_of (packets (video_of t records))))
  pub tally : Tally
  pub answers : Tallies tally (answers_of t records)
  pub is : text ≡ told_text {A = Unit {0}} form t.payload_type (video_of t records)
      (told_streams (packets (arrivals_of t records)))
      (timestamps_of (packets (video_of t records))) sorted tally.refused (controls_of records)

-- What was printed is the text of the records of what was read of files, each taken so, up to this
-- end, for what is looked for.
pub record TellsStreams {S : Type 0} (w : Wanted) (form : Form) (sdp : Option (List ℕ))
    (ways : List (Result Flows Refusal)) (told : S → List ℕ → Type 0) (files : List S)
    (end : Option ReadingFault) (shown shown' : List ℕ) : Type 0 where
  pub printed : (octets : List (List ℕ)) → AllZip told files octets
      → (t : Target) × IsTarget w sdp octets t
      × (records : List Entry) × HaveRecords ways octets records end
      × (text : List ℕ) × IsText form t records text × (shown' ≡ shown ++ text)

-- what is begun with, where something is
abbrev pub begins : Wanted → Option (List ℕ) → Option (Unit {0})
begins (wanted.Given t) sdp = Some tt
begins wanted.Said None = None
begins wanted.Said (Some text) = Some tt

-- The refusals, each the first. Nothing was printed: of the SDP text; that nothing says what is
-- looked for, since there are no files; of the front of a file. All was printed that came before:
-- the fault of a file behind its front, of which those before it are whole.
abbrev pub IsStreamsRefusal : {S : Type 0} → Wanted → Form → Option (List ℕ)
    → List (Result Flows Refusal) → (S → List ℕ → Type 0) → List S → List ℕ → List ℕ → Refusal
    → Type 0
IsStreamsRefusal w form sdp ways told files shown shown' r =
    ((shown' ≡ shown) × (IsBeginRefusal w sdp r
    ⊎ ((begins w sdp ≡ None) × (files ≡ []) × (r ≡ refusal.ReceiveNoSdp))
    ⊎ IsFirstFront (begins w sdp ≡ None) (IsAimed w sdp) ways told files r))
    ⊎ ((f : ReadingFault) × (count : ℕ) × (reading_fault f ≡ outcome.Refused r)
    × TellsStreams w form sdp ways told (take count files) (Some f) shown shown')

-- ---- on the way there

-- the text of an inspection was printed: that of any records that it is of
pub record PrintsText {A : Type 0} (form : Form) (t : Target) (i : Inspection A)
    (shown shown' : List ℕ) : Type 0 where
  pub text : List ℕ
  pub is : (entries : List Entry) → IsInspected t i entries → IsText form t entries text
  pub printed : shown' ≡ shown ++ text

-- the refusal of an end: the fault of a file, and the text was printed
pub record IsEndRefusal {A : Type 0} (form : Form) (t : Target) (i : Inspection A)
    (end : Option ReadingFault) (shown shown' : List ℕ) (r : Refusal) : Type 0 where
  pub fault : ReadingFault
  pub ended : end ≡ Some fault
  pub is : reading_fault fault ≡ outcome.Refused r
  pub printed : PrintsText form t i shown shown'
