-- The recording of a capture: its head behind the capture's front, and the packets behind it; and
-- the records of a first reading.
use Rattle.std.proofs.Common.{◌≡◌, ◌≤◌, ℕ, ◌+◌, ◌-◌, List, [], ◌∷◌, ◌++◌, inr, Result, Ok, Err}
use Rattle.std.proofs.Common.{append-nil, sym, length, arith}
use Rattle.std.specs.Prelude.{IfErr, IfOk}
use Rattle.std.proofs.lemmas.List.{length-append}
use Rattle.st_format.specs.Device.{GrowsPart}
use Rattle.st_format.specs.declared.path.Path.{Path}
use Rattle.pcap_file.specs.Writing.{file_text}
use Rattle.media_file.specs.declared.fault.FileFault.{FileFault}
use Rattle.media_file.specs.declared.fault.FileFault.TheVariants as file
use Rattle.media_file.specs.Capture.{capture_walk, records_at}
use Rattle.media_file.specs.Fields.{GaveFault}
use Rattle.st_format.specs.Given.{GaveValue}
use Rattle.media_file.specs.Fronts.{front_at}
use Rattle.media_file.specs.Records.{Entry, Fits, path_octet, rest_text}
use Rattle.media_file.proofs.GaveCaptures.{capture_gave, capture_gave_wrong}
use Rattle.media_file.proofs.GaveLoops.{GoesGave, gave_end, gave_first, gave_record}
use Rattle.media_file.proofs.Written.{took_both}
use Rattle.export_engine.specs.Packets.{packets_text}
use Rattle.export_engine.specs.declared.packets.ExportCounts.{ExportCounts}
use Rattle.export_engine.specs.declared.places.Envelopes.{Envelopes}
use Rattle.export_engine.proofs.Recordings.{takes_behind}
use Rattle.export_engine.proofs.PacketLoops.{no_entries}
use Rattle.paced_export.specs.Counts.{Counts, counted}
use Rattle.paced_export.specs.Paced.{paced}
use Rattle.paced_export.specs.PacedExported.{CountsRecords, PacesCapture, PacesRecords, StopsPaced}
use Rattle.paced_export.specs.PacedExported.{StopsPacing}
use Rattle.paced_export.specs.PacedExported.StopsPacing.{Begun}
use Rattle.paced_export.specs.declared.pace.Pace.{Pace}
use Rattle.paced_export.specs.declared.tally.FrameCounts.{FrameCounts}
use Rattle.paced_export.proofs.CountLemmas.{counted_few}

-- ---- the second reading

pub recording_all : (es : Envelopes) (p : Pace) (all : Path → ℕ → ℕ)
    (r : Result ExportCounts FileFault) (a b c text : List ℕ) (ended : Type 0)
    (took mid took' : List ℕ) → GaveValue front_at a b text → mid ≡ took ++ file_text
    → IfOk r (λ n. PacesRecords es p all n b c ended mid took')
    → IfOk r (λ n. PacesCapture es p all n a c ended took took')
recording_all es p all (Err f) a b c text ended took mid took' g w is = tt
recording_all es p all (Ok n) a b c text ended took mid took' g w is = record {
  content = record { text = text; records = is.entries };
  read = capture_gave 16777216 a b c text ended is.entries g is.read;
  written =
      took_both took mid took' file_text (packets_text es (paced p all is.entries)) w is.written;
  counted = is.counted;
}

pub recording_wrong : (r : Result ExportCounts FileFault) (a b c text : List ℕ)
    (ended : Type 0) → GaveValue front_at a b text
    → IfErr r (λ f. GaveFault (records_at 16777216) b c ended f)
    → IfErr r (λ f. GaveFault (capture_walk 16777216) a c ended f)
recording_wrong (Ok n) a b c text ended g is = tt
recording_wrong (Err f) a b c text ended g is =
    capture_gave_wrong 16777216 a b c text ended f g is

pub recording_stops : (es : Envelopes) (p : Pace) (all : Path → ℕ → ℕ)
    (r : Result ExportCounts FileFault)
    (a b c text : List ℕ) (ended : Type 0) (took mid took' : List ℕ)
    → GaveValue front_at a b text → mid ≡ took ++ file_text
    → IfErr r (λ f. StopsPaced [] es p all f b c mid took')
    → IfErr r (λ f. StopsPacing es p all f a c ended took took')
recording_stops es p all (Ok n) a b c text ended took mid took' g w is = tt
recording_stops es p all (Err f) a b c text ended took mid took' g w is =
    Begun text b g
    (record {
      entries = is.entries;
      fit = is.fit;
      rest = is.rest;
      grown = is.grown;
      none = is.none;
      taken =
          takes_behind f took mid took' file_text (packets_text es (paced p all is.entries)) w
          is.taken;
    })

-- the sink failed at the head
pub head_stops : (es : Envelopes) (p : Pace) (all : Path → ℕ → ℕ) (a b text : List ℕ)
    (ended : Type 0) (took took' : List ℕ)
    → GaveValue front_at a b text → GrowsPart took took' file_text
    → StopsPacing es p all file.Device a b ended took took'
head_stops es p all a b text ended took took' g part =
    Begun text b g
    (record {
      entries = [];
      fit = tt;
      rest = [];
      grown = sym (append-nil b);
      none = no_entries;
      taken = inr part;
    })

-- ---- the first reading

-- records were read and counted
pub record CountedSoFar {Al : Type 0} (limit left : ℕ) (t : FrameCounts Al)
    (before now : List ℕ) : Type 0 where
  pub entries : List Entry
  pub gave : GoesGave limit before left entries now
  pub all : length entries + left ≡ limit
  pub counts : Counts t entries

pub counted_first : {Al : Type 0} (limit : ℕ) (t : FrameCounts Al) (now : List ℕ) → Counts t []
    → CountedSoFar limit limit t now now
counted_first limit t now none = record {
  entries = [];
  gave = gave_first limit now;
  all = omega arith;
  counts = none;
}

pub counted_next : {Al : Type 0} (limit left : ℕ) (t t' : FrameCounts Al)
    (before now mid new : List ℕ) (first : ℕ) (e : Entry) → (left ≡ 0 → ⊥)
    → CountedSoFar limit left t before now → mid ≡ now ++ first ∷ []
    → new ≡ mid ++ rest_text e → Fits e → first ≡ path_octet e.path
    → ((entries : List Entry) → Counts t entries → Counts t' (entries ++ e ∷ []))
    → CountedSoFar limit (left - 1) t' before new
counted_next limit left t t' before now mid new first e some m one more fits is adds = record {
  entries = m.entries ++ e ∷ [];
  gave = gave_record limit left before now mid new m.entries first e some m.gave one more fits is;
  all = omega (arith, length-append m.entries (e ∷ []), m.all, some);
  counts = adds m.entries m.counts;
}

pub counted_below : {Al : Type 0} (limit left : ℕ) (t : FrameCounts Al) (before now : List ℕ)
    → CountedSoFar limit left t before now → (path : Path) (ts : ℕ)
    → counted t path ts + left ≤ limit
counted_below limit left t before now m path ts =
    omega (arith, m.all, counted_few t m.entries m.counts path ts)

pub counted_all : {Al : Type 0} (limit left : ℕ) (t : FrameCounts Al) (before now new : List ℕ)
    (ended : Type 0) → CountedSoFar limit left t before now → new ≡ now ++ [] → ended
    → CountsRecords limit before new ended t
counted_all limit left t before now new ended m same over = record {
  entries = m.entries;
  read = gave_end limit left before now new m.entries ended m.gave same over;
  counts = m.counts;
}
