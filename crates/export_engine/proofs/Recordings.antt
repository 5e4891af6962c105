-- The recording of a capture: its head behind the capture's front, and the packets behind it.
use Rattle.std.proofs.Common.{◌≡◌, ℕ, List, [], ◌++◌, inl, inr, Result, Ok, Err}
use Rattle.std.proofs.Common.{append-nil, sym}
use Rattle.std.specs.Prelude.{IfErr, IfOk}
use Rattle.st_format.specs.Device.{GrowsPart}
use Rattle.pcap_file.specs.Writing.{file_text}
use Rattle.media_file.specs.declared.fault.FileFault.{FileFault}
use Rattle.media_file.specs.declared.fault.FileFault.TheVariants as file
use Rattle.media_file.specs.Capture.{capture_walk, records_at}
use Rattle.media_file.specs.Fields.{GaveFault}
use Rattle.st_format.specs.Given.{GaveValue}
use Rattle.media_file.specs.Fronts.{front_at}
use Rattle.media_file.proofs.Gave.{fault_device}
use Rattle.media_file.proofs.GaveCaptures.{capture_gave, capture_gave_wrong}
use Rattle.media_file.proofs.Written.{part_then, took_both}
use Rattle.export_engine.specs.Packets.{packets_text}
use Rattle.export_engine.specs.Exported.{ExportsCapture, ExportsRecords, StopsExport}
use Rattle.export_engine.specs.Exported.{StopsPackets, TakesUpTo}
use Rattle.export_engine.specs.Exported.StopsExport.{Begun}
use Rattle.export_engine.specs.declared.packets.ExportCounts.{ExportCounts}
use Rattle.export_engine.specs.declared.places.Envelopes.{Envelopes}
use Rattle.export_engine.proofs.PacketLoops.{no_entries}

pub recording_all : (limit : ℕ) (es : Envelopes) (r : Result ExportCounts FileFault)
    (a b c text : List ℕ) (ended : Type 0) (took mid took' : List ℕ)
    → GaveValue front_at a b text → mid ≡ took ++ file_text
    → IfOk r (λ n. ExportsRecords limit es n b c ended mid took')
    → IfOk r (λ n. ExportsCapture limit es n a c ended took took')
recording_all limit es (Err f) a b c text ended took mid took' g w is = tt
recording_all limit es (Ok n) a b c text ended took mid took' g w is = record {
  content = record { text = text; records = is.entries };
  read = capture_gave limit a b c text ended is.entries g is.read;
  written = took_both took mid took' file_text (packets_text es is.entries) w is.written;
  counted = is.counted;
}

pub recording_wrong : (limit : ℕ) (r : Result ExportCounts FileFault) (a b c text : List ℕ)
    (ended : Type 0) → GaveValue front_at a b text
    → IfErr r (λ f. GaveFault (records_at limit) b c ended f)
    → IfErr r (λ f. GaveFault (capture_walk limit) a c ended f)
recording_wrong limit (Ok n) a b c text ended g is = tt
recording_wrong limit (Err f) a b c text ended g is =
    capture_gave_wrong limit a b c text ended f g is

pub takes_behind : (f : FileFault) (took mid took' head text : List ℕ) → mid ≡ took ++ head
    → TakesUpTo f mid took' text → TakesUpTo f took took' (head ++ text)
takes_behind file.Device took mid took' head text w (inl is) =
    inl (took_both took mid took' head text w is)
takes_behind file.Device took mid took' head text w (inr p) =
    inr (part_then took mid took' head text w p)
takes_behind f took mid took' head text w is = took_both took mid took' head text w is

pub recording_stops : (es : Envelopes) (r : Result ExportCounts FileFault)
    (a b c text : List ℕ) (ended : Type 0) (took mid took' : List ℕ)
    → GaveValue front_at a b text → mid ≡ took ++ file_text
    → IfErr r (λ f. StopsPackets [] es f b c mid took')
    → IfErr r (λ f. StopsExport es f a c ended took took')
recording_stops es (Ok n) a b c text ended took mid took' g w is = tt
recording_stops es (Err f) a b c text ended took mid took' g w is =
    Begun text b g
    (record {
      entries = is.entries;
      fit = is.fit;
      rest = is.rest;
      grown = is.grown;
      none = is.none;
      taken = takes_behind f took mid took' file_text (packets_text es is.entries) w is.taken;
    })

-- the sink failed at the head
pub head_stops : (es : Envelopes) (a b text : List ℕ) (ended : Type 0) (took took' : List ℕ)
    → GaveValue front_at a b text → GrowsPart took took' file_text
    → StopsExport es file.Device a b ended took took'
head_stops es a b text ended took took' g p =
    Begun text b g
    (record {
      entries = [];
      fit = tt;
      rest = [];
      grown = sym (append-nil b);
      none = no_entries;
      taken = inr p;
    })

pub head_wrong : (limit : ℕ) (a b text : List ℕ) (ended : Type 0) → GaveValue front_at a b text
    → GaveFault (capture_walk limit) a b ended file.Device
head_wrong limit a b text ended g =
    fault_device (capture_walk limit) a b g.part ended file.Device tt g.grown
