-- What is counted of the records of files.
use Rattle.std.specs.Prelude.{◌≡◌, ℕ, List, ◌∷◌, [], ◌++◌}
use Rattle.std.specs.List.{count_by}
use Rattle.media_file.specs.Records.{Entry}
use Rattle.path_receiver.specs.Tallied.{Tallies}
use Rattle.st_format.specs.Device.{capped}
use Rattle.recording_counts.specs.FlowCounts.{is_rtcp}
use Rattle.recording_counts.specs.Timestamps.{timestamps_of}
use Rattle.recording_counts.specs.declared.packet.Packet.{Packet}
use Rattle.stream_inspection.specs.Arrivals.{Arrival, answers_of, arrivals_of}
use Rattle.stream_inspection.specs.Arrivals.{packets, video_in, video_of}
use Rattle.stream_inspection.specs.Numbers.{AreStreams}
use Rattle.stream_inspection.specs.Skews.{AreProbes}
use Rattle.stream_inspection.specs.declared.inspection.Inspection.{Inspection}
use Rattle.stream_inspection.specs.declared.target.Target.{Target}

-- how many records are RTCP
abbrev pub controls_of : List Entry → ℕ
controls_of entries = capped (count_by (λ e. is_rtcp e.octets) entries)

-- An inspection is that of these records: the streams of their packets, the timestamps and probes
-- of those with the payload type, what a receiver answers, and how many are RTCP.
pub record IsInspected {A : Type 0} (t : Target) (i : Inspection A) (entries : List Entry) : Type 0
  where
    pub streams : AreStreams i.streams (packets (arrivals_of t entries))
    pub timestamps : i.timestamps ≡ timestamps_of (packets (video_of t entries))
    pub probes : AreProbes i.probes (video_of t entries)
    pub tally : Tallies i.tally (answers_of t entries)
    pub controls : i.controls ≡ controls_of entries

-- more records were noted
pub record Notes {A : Type 0} (t : Target) (entries : List Entry) (old new : Inspection A) : Type 0
  where
    pub counted : (before : List Entry) → IsInspected t old before
        → IsInspected t new (before ++ entries)

-- one more packet was noted
pub record NotesPacket {A : Type 0} (t : Target) (a : Arrival) (old new : Inspection A) : Type 0
  where
    pub streams : (ps : List Packet) → AreStreams old.streams ps
        → AreStreams new.streams (ps ++ a.packet ∷ [])
    pub timestamps : (arrivals : List Arrival) → old.timestamps ≡ timestamps_of (packets arrivals)
        → new.timestamps ≡ timestamps_of (packets (arrivals ++ video_in t a))
    pub probes : (arrivals : List Arrival) → AreProbes old.probes arrivals
        → AreProbes new.probes (arrivals ++ video_in t a)
    pub tally : new.tally ≡ old.tally
    pub controls : new.controls ≡ old.controls
