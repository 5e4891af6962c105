-- A loop that writes the packets of records at their moments: at each moment the packets of those
-- that it read.
use Rattle.std.proofs.Common.{◌≡◌, ℕ, ◌+◌, ◌-◌, ◌≤◌, List, [], ◌∷◌, ◌++◌, length, inr, Option}
use Rattle.std.proofs.Common.{append-nil, refl, sym, ap, ◌∙◌, subst, arith}
use Rattle.std.proofs.lemmas.List.{length-append}
use Rattle.std.proofs.lemmas.List.Sums.{count_by-le-length}
use Rattle.st_format.specs.Device.{GrowsPart}
use Rattle.media_file.specs.declared.fault.FileFault.{FileFault}
use Rattle.media_file.specs.declared.fault.FileFault.TheVariants as file
use Rattle.media_file.specs.Capture.{records_at}
use Rattle.media_file.specs.Faults.{IsDevice}
use Rattle.media_file.specs.Fields.{GaveFault}
use Rattle.media_file.specs.Given.{GivesWrong}
use Rattle.media_file.specs.Reading.{entries_in, rest_at}
use Rattle.media_file.specs.Records.{AllFit, Entry, Fits, path_octet, record_text, records_text}
use Rattle.media_file.specs.Records.{rest_text}
use Rattle.media_file.proofs.Moved.{fit_more, one_text}
use Rattle.media_file.proofs.Gave.{fault_device}
use Rattle.media_file.proofs.GaveLoops.{GoesGave, gave_end, gave_first, gave_record, no_record}
use Rattle.media_file.proofs.Rests.{short_head}
use Rattle.media_file.proofs.Written.{part_then, took_both}
use Rattle.export_engine.specs.Packets.{has_packet, packet_count, packet_text, packets_text}
use Rattle.export_engine.specs.Exported.{TakesUpTo}
use Rattle.export_engine.specs.declared.places.Envelopes.{Envelopes}
use Rattle.export_engine.proofs.PacketLoops.{more_counted, more_packets, no_entries, none_wrong}
use Rattle.export_engine.proofs.PacketLoops.{takes_whole}
use Rattle.st_format.specs.declared.path.Path.{Path}
use Rattle.paced_export.specs.Counts.{Counts, counted}
use Rattle.paced_export.specs.Paced.{paced, paced_entry}
use Rattle.paced_export.specs.PacedExported.{PacesRecords, StopsPaced}
use Rattle.paced_export.specs.declared.pace.Pace.{Pace}
use Rattle.paced_export.specs.declared.tally.FrameCounts.{FrameCounts}
use Rattle.paced_export.proofs.CountLemmas.{counted_few}
use Rattle.paced_export.proofs.PacedLists.{paced_length, paced_more}
use Rattle.st_format.proofs.Gave.{grew_twice}

-- what was written of a record more, at its moment
paced_packets : (es : Envelopes) (p : Pace) (all : Path → ℕ → ℕ) (xs : List Entry) (e d : Entry)
    → d ≡ paced_entry p all xs e
    → packets_text es (paced p all xs) ++ packet_text es d
    ≡ packets_text es (paced p all (xs ++ e ∷ []))
paced_packets es p all xs e d is =
    more_packets es (paced p all xs) d
    ∙ ap (λ (x : Entry). packets_text es (paced p all xs ++ x ∷ [])) is
    ∙ ap (packets_text es) (sym (paced_more p all xs e))

paced_counted : (es : Envelopes) (p : Pace) (all : Path → ℕ → ℕ) (xs : List Entry) (e d : Entry)
    → d ≡ paced_entry p all xs e
    → packet_count es (paced p all xs) + packet_count es (d ∷ [])
    ≡ packet_count es (paced p all (xs ++ e ∷ []))
paced_counted es p all xs e d is =
    sym (more_counted es (paced p all xs) d)
    ∙ ap (λ (x : Entry). packet_count es (paced p all xs ++ x ∷ [])) is
    ∙ ap (packet_count es) (sym (paced_more p all xs e))

-- records were read and counted, and their packets were written at their moments
pub record PacedSoFar {Al : Type 0} (left written : ℕ) (es : Envelopes) (p : Pace)
    (all : Path → ℕ → ℕ) (seen : FrameCounts Al) (before now took took' : List ℕ) : Type 0 where
  pub entries : List Entry
  pub fit : AllFit entries
  pub grown : now ≡ before ++ records_text entries
  pub gave : GoesGave 16777216 before left entries now
  pub taken : took' ≡ took ++ packets_text es (paced p all entries)
  pub written_is : written ≡ packet_count es (paced p all entries)
  pub few : length entries + left ≡ 16777216
  pub counts : Counts seen entries

pub paced_first : {Al : Type 0} (es : Envelopes) (p : Pace) (all : Path → ℕ → ℕ)
    (seen : FrameCounts Al) (now took : List ℕ) → Counts seen []
    → PacedSoFar 16777216 0 es p all seen now now took took
paced_first es p all seen now took none = record {
  entries = [];
  fit = tt;
  grown = sym (append-nil now);
  gave = gave_first 16777216 now;
  taken = sym (append-nil took);
  written_is = refl;
  few = omega arith;
  counts = none;
}

-- what is said of the record that is written in place of one that was read
abbrev pub IsPacedRecord : {Al : Type 0} → Pace → (Path → ℕ → ℕ) → FrameCounts Al → Entry → Entry
    → Type 0
IsPacedRecord p all seen e d =
    (before : List Entry) → Counts seen before → d ≡ paced_entry p all before e

pub paced_next : {Al : Type 0} (left written n : ℕ) (es : Envelopes) (p : Pace)
    (all : Path → ℕ → ℕ) (seen seen' : FrameCounts Al)
    (before now mid new took took' took'' : List ℕ) (first : ℕ) (e d : Entry) → (left ≡ 0 → ⊥)
    → PacedSoFar left written es p all seen before now took took' → mid ≡ now ++ first ∷ []
    → new ≡ mid ++ rest_text e → Fits e → first ≡ path_octet e.path
    → IsPacedRecord p all seen e d
    → took'' ≡ took' ++ packet_text es d → n ≡ packet_count es (d ∷ [])
    → ((entries : List Entry) → Counts seen entries → Counts seen' (entries ++ e ∷ []))
    → PacedSoFar (left - 1) (written + n) es p all seen' before new took took''
paced_next left written n es p all seen seen' before now mid new took took' took'' first e d some
    m one more fits is paces w c adds =
    let here = paces m.entries m.counts in
    record {
      entries = m.entries ++ e ∷ [];
      fit = fit_more m.entries e m.fit fits;
      grown =
          grew_twice before now new (records_text m.entries) (record_text e) m.grown
          (grew_twice now mid new (first ∷ []) (rest_text e) one more
          ∙ ap (λ (k : ℕ). now ++ k ∷ rest_text e) is)
          ∙ ap (λ (t : List ℕ). before ++ t) (one_text m.entries e);
      gave =
          gave_record 16777216 left before now mid new m.entries first e some m.gave one more fits
          is;
      taken =
          took_both took took' took'' (packets_text es (paced p all m.entries)) (packet_text es d)
          m.taken w
          ∙ ap (λ (t : List ℕ). took ++ t) (paced_packets es p all m.entries e d here);
      written_is =
          ap (λ (k : ℕ). k + n) m.written_is
          ∙ ap (λ (k : ℕ). packet_count es (paced p all m.entries) + k) c
          ∙ paced_counted es p all m.entries e d here;
      few = omega (arith, length-append m.entries (e ∷ []), m.few, some);
      counts = adds m.entries m.counts;
    }

-- no more than the limit are written
pub paced_few : {Al : Type 0} (left written : ℕ) (es : Envelopes) (p : Pace)
    (all : Path → ℕ → ℕ) (seen : FrameCounts Al) (before now took took' : List ℕ)
    → PacedSoFar left written es p all seen before now took took' → written + left ≤ 16777216
paced_few left written es p all seen before now took took' m =
    omega (
      arith,
      m.written_is,
      m.few,
      paced_length p all m.entries,
      count_by-le-length (has_packet es) (paced p all m.entries),
    )

-- nor counted
pub seen_few : {Al : Type 0} (left written : ℕ) (es : Envelopes) (p : Pace)
    (all : Path → ℕ → ℕ) (seen : FrameCounts Al) (before now took took' : List ℕ)
    → PacedSoFar left written es p all seen before now took took' → (path : Path) (ts : ℕ)
    → counted seen path ts + left ≤ 16777216
seen_few left written es p all seen before now took took' m path ts =
    omega (arith, m.few, counted_few seen m.entries m.counts path ts)

-- the end
pub paced_all : {Al : Type 0} (left written : ℕ) (es : Envelopes) (p : Pace)
    (all : Path → ℕ → ℕ) (seen : FrameCounts Al)
    (before now new took took' : List ℕ) (ended : Type 0)
    → PacedSoFar left written es p all seen before now took took' → new ≡ now ++ [] → ended
    → PacesRecords es p all (record { written = written; left_out = 16777216 - left - written })
    before new ended took took'
paced_all left written es p all seen before now new took took' ended m same over = record {
  entries = m.entries;
  read = gave_end 16777216 left before now new m.entries ended m.gave same over;
  written = m.taken;
  counted = record {
    written = m.written_is;
    all =
        omega (
          arith,
          m.few,
          paced_length p all m.entries,
          paced_few left written es p all seen before now took took' m,
        );
  };
}

-- ---- where it stops

-- behind whole records stands what is none
stops_at : {Al : Type 0} (left written : ℕ) (es : Envelopes) (p : Pace) (all : Path → ℕ → ℕ)
    (seen : FrameCounts Al) (f : FileFault) (before now new took took' rest : List ℕ)
    → PacedSoFar left written es p all seen before now took took' → new ≡ now ++ rest
    → entries_in rest ≡ [] → StopsPaced [] es p all f before new took took'
stops_at left written es p all seen f before now new took took' rest m grown none = record {
  entries = m.entries;
  fit = m.fit;
  rest = rest;
  grown = grew_twice before now new (records_text m.entries) rest m.grown grown;
  none = none;
  taken = takes_whole f took took' (packets_text es (paced p all m.entries)) m.taken;
}

-- the source failed before a record
pub stops_before : {Al : Type 0} (left written : ℕ) (es : Envelopes) (p : Pace)
    (all : Path → ℕ → ℕ) (seen : FrameCounts Al) (f : FileFault)
    (before now new took took' : List ℕ)
    → PacedSoFar left written es p all seen before now took took' → new ≡ now
    → StopsPaced [] es p all f before new took took'
stops_before left written es p all seen f before now new took took' m same =
    stops_at left written es p all seen f before now new took took' [] m
    (same ∙ sym (append-nil now)) no_entries

-- a record too many
pub stops_full : {Al : Type 0} (left written : ℕ) (es : Envelopes) (p : Pace)
    (all : Path → ℕ → ℕ) (seen : FrameCounts Al) (f : FileFault)
    (before now new took took' : List ℕ) (first : ℕ)
    → PacedSoFar left written es p all seen before now took took' → new ≡ now ++ first ∷ []
    → StopsPaced [] es p all f before new took took'
stops_full left written es p all seen f before now new took took' first m one =
    stops_at left written es p all seen f before now new took took' (first ∷ []) m one
    (none_wrong first [] file.Truncated (short_head first [] (omega arith)))

-- a fault of a record, or of the source within it
pub stops_within : {Al : Type 0} (left written : ℕ) (es : Envelopes) (p : Pace)
    (all : Path → ℕ → ℕ) (seen : FrameCounts Al) (f : FileFault)
    (before now mid new took took' : List ℕ) (first : ℕ) (was to_give : Option (List ℕ))
    → PacedSoFar left written es p all seen before now took took' → mid ≡ now ++ first ∷ []
    → GivesWrong (rest_at first) f was to_give mid new
    → StopsPaced [] es p all f before new took took'
stops_within left written es p all seen f before now mid new took took' first was to_give m one w =
    stops_at left written es p all seen f before now new took took' (first ∷ w.part) m
    (grew_twice now mid new (first ∷ []) w.part one w.grown)
    (none_wrong first w.part w.fault w.none)

-- behind a record that was read, of which the sink took so much
stops_behind : {Al : Type 0} (left written : ℕ) (es : Envelopes) (p : Pace)
    (all : Path → ℕ → ℕ) (seen : FrameCounts Al) (f : FileFault)
    (before now mid new took took' took'' : List ℕ) (first : ℕ) (e d : Entry)
    → (m : PacedSoFar left written es p all seen before now took took') → mid ≡ now ++ first ∷ []
    → new ≡ mid ++ rest_text e → Fits e → first ≡ path_octet e.path
    → TakesUpTo f took took'' (packets_text es (paced p all (m.entries ++ e ∷ [])))
    → StopsPaced [] es p all f before new took took''
stops_behind left written es p all seen f before now mid new took took' took'' first e d m one more
    fits is takes =
    let so_far : List Entry = m.entries in
    record {
      entries = so_far ++ e ∷ [];
      fit = fit_more so_far e m.fit fits;
      rest = [];
      grown =
          grew_twice before now new (records_text so_far) (record_text e) m.grown
          (grew_twice now mid new (first ∷ []) (rest_text e) one more
          ∙ ap (λ (n : ℕ). now ++ n ∷ rest_text e) is)
          ∙ ap (λ (t : List ℕ). before ++ t)
          (one_text so_far e ∙ sym (append-nil (records_text (so_far ++ e ∷ []))));
      none = no_entries;
      taken = takes;
    }

-- the sink failed at a packet
pub stops_writing : {Al : Type 0} (left written : ℕ) (es : Envelopes) (p : Pace)
    (all : Path → ℕ → ℕ) (seen : FrameCounts Al)
    (before now mid new took took' took'' : List ℕ) (first : ℕ) (e d : Entry)
    → PacedSoFar left written es p all seen before now took took' → mid ≡ now ++ first ∷ []
    → new ≡ mid ++ rest_text e → Fits e → first ≡ path_octet e.path
    → IsPacedRecord p all seen e d
    → GrowsPart took' took'' (packet_text es d)
    → StopsPaced [] es p all file.Device before new took took''
stops_writing left written es p all seen before now mid new took took' took'' first e d m one more
    fits is paces part =
    stops_behind left written es p all seen file.Device before now mid new took took' took'' first e
    d m one more fits is
    (inr (subst (λ (t : List ℕ). GrowsPart took took'' t)
    (paced_packets es p all m.entries e d (paces m.entries m.counts))
    (part_then took took' took'' (packets_text es (paced p all m.entries)) (packet_text es d)
    m.taken part)))

-- the memory failed behind one
pub stops_counting : {Al : Type 0} (left written : ℕ) (es : Envelopes) (p : Pace)
    (all : Path → ℕ → ℕ) (seen : FrameCounts Al)
    (before now mid new took took' took'' : List ℕ) (first : ℕ) (e d : Entry)
    → PacedSoFar left written es p all seen before now took took' → mid ≡ now ++ first ∷ []
    → new ≡ mid ++ rest_text e → Fits e → first ≡ path_octet e.path
    → IsPacedRecord p all seen e d → took'' ≡ took' ++ packet_text es d
    → StopsPaced [] es p all file.NoMemory before new took took''
stops_counting left written es p all seen before now mid new took took' took'' first e d m one more
    fits is paces w =
    stops_behind left written es p all seen file.NoMemory before now mid new took took' took''
    first e d m one more fits is
    (took_both took took' took'' (packets_text es (paced p all m.entries)) (packet_text es d)
    m.taken w
    ∙ ap (λ (t : List ℕ). took ++ t)
    (paced_packets es p all m.entries e d (paces m.entries m.counts)))

-- what the source gave where the sink or the memory failed
pub written_wrong : {Al : Type 0} (left written : ℕ) (es : Envelopes) (p : Pace)
    (all : Path → ℕ → ℕ) (seen : FrameCounts Al) (f : FileFault)
    (before now mid new took took' : List ℕ) (first : ℕ) (e : Entry) (ended : Type 0) → IsDevice f
    → PacedSoFar left written es p all seen before now took took' → mid ≡ now ++ first ∷ []
    → new ≡ mid ++ rest_text e → GaveFault (records_at 16777216) before new ended f
written_wrong left written es p all seen f before now mid new took took' first e ended is m one
    more =
    let text : List ℕ = first ∷ rest_text e in
    fault_device (records_at 16777216) before new (m.gave.part ++ text) ended f is
    (grew_twice before now new m.gave.part text m.gave.grown
    (grew_twice now mid new (first ∷ []) (rest_text e) one more))

pub memory_wrong : {Al : Type 0} (left written : ℕ) (es : Envelopes) (p : Pace)
    (all : Path → ℕ → ℕ) (seen : FrameCounts Al)
    (before now mid new took took' : List ℕ) (first : ℕ) (e : Entry) (ended : Type 0)
    → PacedSoFar left written es p all seen before now took took' → mid ≡ now ++ first ∷ []
    → new ≡ mid ++ rest_text e → GaveFault (records_at 16777216) before new ended file.NoMemory
memory_wrong left written es p all seen before now mid new took took' first e ended m one more =
    no_record 16777216 left before now mid new m.entries (first ∷ []) (rest_text e) ended m.gave one
    more
