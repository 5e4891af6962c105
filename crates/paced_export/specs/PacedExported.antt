-- What a run of `export --paced` read, wrote and printed (own).
use Rattle.std.specs.Prelude.{◌≡◌, ℕ, List, [], ◌∷◌, ◌++◌, Option, unwrap_or}
use Rattle.media_file.specs.Capture.{Content, capture_walk, records_at}
use Rattle.media_file.specs.Fields.{GaveFault}
use Rattle.st_format.specs.Given.{GaveValue, GaveWhole}
use Rattle.media_file.specs.Fronts.{front_at}
use Rattle.media_file.specs.Reading.{entries_in}
use Rattle.media_file.specs.Records.{AllFit, Entry, records_text}
use Rattle.media_file.specs.declared.fault.FileFault.{FileFault}
use Rattle.pcap_file.specs.Writing.{file_text}
use Rattle.run_outcome.specs.Line.{line_text}
use Rattle.run_outcome.specs.declared.line.Line.TheVariants as line
use Rattle.sdp_format.specs.Bytes.{lines}
use Rattle.sdp_format.specs.Grammar.{IsDescribed}
use Rattle.sdp_format.specs.Sections.{Description, video_sections}
use Rattle.st_format.specs.declared.path.Path.{Path}
use Rattle.export_engine.specs.Exported.{CountsPackets, TakesUpTo}
use Rattle.export_engine.specs.Packets.{AreEnvelopes, packets_text, pcap_text}
use Rattle.export_engine.specs.declared.places.Envelopes.{Envelopes}
use Rattle.export_engine.specs.declared.packets.ExportCounts.{ExportCounts}
use Rattle.paced_export.specs.Counts.{Counts, first_timestamp}
use Rattle.paced_export.specs.Paced.{count_in_all, paced}
use Rattle.paced_export.specs.Pacing.{active_time}
use Rattle.paced_export.specs.declared.pace.Pace.{Pace}
use Rattle.paced_export.specs.declared.tally.FrameCounts.{FrameCounts}

-- ---- the first reading

-- An SDP text says the rate of frames of this active time.
pub record SaysActive (text : List ℕ) (active : ℕ) : Type 0 where
  pub sdp : Description
  pub described : IsDescribed (video_sections (lines text)) sdp
  pub active_is : active ≡ active_time sdp.leg.format.n sdp.leg.format.d

-- records up to the source's end were read and counted
pub record CountsRecords {Al : Type 0} (limit : ℕ) (before now : List ℕ) (ended : Type 0)
    (t : FrameCounts Al) : Type 0 where
  pub entries : List Entry
  pub read : GaveWhole (records_at limit) before now ended entries
  pub counts : Counts t entries

-- a capture was read, all that its source gave, and its records counted
pub record ReadsAhead {Al : Type 0} (before now : List ℕ) (ended : Type 0) (active : ℕ)
    (t : FrameCounts Al) : Type 0 where
  pub content : Content
  pub read : GaveWhole (capture_walk 16777216) before now ended content
  pub said : SaysActive content.text active
  pub counts : Counts t content.records

-- ---- the second reading

-- records up to the source's end were read, and their packets written at their moments
pub record PacesRecords (es : Envelopes) (p : Pace) (all : Path → ℕ → ℕ)
    (counts : ExportCounts) (before now : List ℕ) (ended : Type 0) (took took' : List ℕ)
    : Type 0 where
  pub entries : List Entry
  pub read : GaveWhole (records_at 16777216) before now ended entries
  pub written : took' ≡ took ++ packets_text es (paced p all entries)
  pub counted : CountsPackets es (paced p all entries) counts

-- a capture was read, all that its source gave, and a recording of it so written
pub record PacesCapture (es : Envelopes) (p : Pace) (all : Path → ℕ → ℕ)
    (counts : ExportCounts) (before now : List ℕ) (ended : Type 0) (took took' : List ℕ)
    : Type 0 where
  pub content : Content
  pub read : GaveWhole (capture_walk 16777216) before now ended content
  pub written : took' ≡ took ++ pcap_text es (paced p all content.records)
  pub counted : CountsPackets es (paced p all content.records) counts

-- ---- the run

-- A pace is that of a capture: from this moment on, by its first timestamp and the rate that its
-- text says.
pub record IsPaceOf (start : ℕ) (c : Content) (p : Pace) : Type 0 where
  pub starts : p.start ≡ start
  pub first : p.first ≡ unwrap_or (first_timestamp c.records) 0
  pub active : SaysActive c.text p.active

-- The capture was read twice: by the first reading its frames are paced, and of the second the
-- recording is written.
pub record Paces (start : ℕ) (a : List ℕ) (b : Option (List ℕ)) (counts : ExportCounts)
    (ahead ahead' : List ℕ) (ahead_ended : Type 0) (before now : List ℕ) (ended : Type 0)
    (took took' : List ℕ) : Type 0 where
  pub envelopes : Envelopes
  pub are : AreEnvelopes a b envelopes
  pub whole : Content
  pub first_read : GaveWhole (capture_walk 16777216) ahead ahead' ahead_ended whole
  pub pace : Pace
  pub pace_is : IsPaceOf start whole pace
  pub paces : PacesCapture envelopes pace (count_in_all whole.records) counts before now ended took
      took'

-- and the numbers were printed
pub record PrintsPaced (start : ℕ) (a : List ℕ) (b : Option (List ℕ)) (ahead ahead' : List ℕ)
    (ahead_ended : Type 0) (before now : List ℕ) (ended : Type 0)
    (took took' shown shown' : List ℕ) : Type 0 where
  pub counts : ExportCounts
  pub paces : Paces start a b counts ahead ahead' ahead_ended before now ended took took'
  pub printed : shown'
      ≡ shown ++ (line_text (line.Exported counts.written counts.left_out) ++ 10 ∷ [])

-- ---- where it stops

-- Whole records were read, and behind them octets that are none; and the sink took, behind this
-- text, the packets of those records at their moments, as far as the fault says.
pub record StopsPaced (head : List ℕ) (es : Envelopes) (p : Pace) (all : Path → ℕ → ℕ)
    (f : FileFault) (before now took took' : List ℕ) : Type 0 where
  pub entries : List Entry
  pub fit : AllFit entries
  pub rest : List ℕ
  pub grown : now ≡ before ++ (records_text entries ++ rest)
  pub none : entries_in rest ≡ []
  pub taken : TakesUpTo f took took' (head ++ packets_text es (paced p all entries))

-- A capture was read up to a fault: what its source gave is no front of one, and nothing was
-- written; or a text was read at its front, and behind it records, whose packets were written.
pub data StopsPacing (es : Envelopes) (p : Pace) (all : Path → ℕ → ℕ) (f : FileFault)
    (before now : List ℕ) (ended : Type 0) (took took' : List ℕ) : Type 0 where
  Unread : GaveFault front_at before now ended f → took' ≡ took
      → StopsPacing es p all f before now ended took took'
  Begun : (text mid : List ℕ) → GaveValue front_at before mid text
      → StopsPaced file_text es p all f mid now took took'
      → StopsPacing es p all f before now ended took took'

-- what a second reading left that came to a fault: nothing was written, or what stands before that
pub data LeavesPacing (es : Envelopes) (p : Pace) (all : Path → ℕ → ℕ)
    (before now : List ℕ) (ended : Type 0) (took took' : List ℕ) : Type 0 where
  Unwritten : took' ≡ took → LeavesPacing es p all before now ended took took'
  Stopped : (f : FileFault) → StopsPacing es p all f before now ended took took'
      → LeavesPacing es p all before now ended took took'

-- so of a capture that was read ahead
pub record LeavesByFrames (start : ℕ) (a : List ℕ) (b : Option (List ℕ)) (ahead ahead' : List ℕ)
    (ahead_ended : Type 0) (before now : List ℕ) (ended : Type 0) (took took' : List ℕ)
    : Type 0 where
  pub envelopes : Envelopes
  pub are : AreEnvelopes a b envelopes
  pub whole : Content
  pub first_read : GaveWhole (capture_walk 16777216) ahead ahead' ahead_ended whole
  pub pace : Pace
  pub pace_is : IsPaceOf start whole pace
  pub leaves : LeavesPacing envelopes pace (count_in_all whole.records) before now ended took took'

-- What a run did that came to a fault: nothing was written; or the second reading stopped; or all
-- was written, and printing failed.
pub data LeavesPaced (start : ℕ) (a : List ℕ) (b : Option (List ℕ)) (ahead ahead' : List ℕ)
    (ahead_ended : Type 0) (before now : List ℕ) (ended : Type 0) (took took' : List ℕ)
    : Type 0 where
  Untouched : took' ≡ took
      → LeavesPaced start a b ahead ahead' ahead_ended before now ended took took'
  Partly : LeavesByFrames start a b ahead ahead' ahead_ended before now ended took took'
      → LeavesPaced start a b ahead ahead' ahead_ended before now ended took took'
  Unsaid : (counts : ExportCounts)
      → Paces start a b counts ahead ahead' ahead_ended before now ended took took'
      → LeavesPaced start a b ahead ahead' ahead_ended before now ended took took'
