-- A loop that writes the packets of records: at each moment the packets of those that it read.
use Rattle.std.proofs.Common.{◌≡◌, ℕ, ◌+◌, ◌-◌, ◌≤◌, List, [], ◌∷◌, ◌++◌, length, inl, inr}
use Rattle.std.proofs.Common.{append-nil, refl, sym, ap, ◌∙◌, subst, arith, Err}
use Rattle.std.proofs.Common.{Option, Result}
use Rattle.std.proofs.lemmas.Grind.{flat_map-append}
use Rattle.std.proofs.lemmas.List.{length-append}
use Rattle.std.proofs.lemmas.List.Sums.{sum_by-append, count_by-le-length}
use Rattle.std.specs.Prelude.{cond}
use Rattle.st_format.specs.Device.{CountsOne, GrowsPart}
use Rattle.media_file.specs.declared.fault.FileFault.{FileFault}
use Rattle.media_file.specs.declared.fault.FileFault.TheVariants as file
use Rattle.media_file.specs.Capture.{records_at}
use Rattle.media_file.specs.Faults.{CountsFault}
use Rattle.media_file.specs.Fields.{GaveFault}
use Rattle.media_file.specs.Migrated.{CountsEither}
use Rattle.media_file.specs.Given.{GivesWrong}
use Rattle.media_file.specs.Reading.{entries_by, entries_in, entries_up_to, rest_at}
use Rattle.media_file.specs.Records.{AllFit, Entry, Fits, path_octet, record_text, records_text}
use Rattle.media_file.specs.Records.{rest_text}
use Rattle.media_file.proofs.Moved.{fit_more, one_text}
use Rattle.media_file.proofs.Gave.{fault_device}
use Rattle.media_file.proofs.GaveLoops.{GoesGave, gave_end, gave_first, gave_record}
use Rattle.media_file.proofs.Rests.{short_head}
use Rattle.media_file.proofs.Written.{part_then, took_both}
use Rattle.export_engine.specs.Packets.{has_packet, packet_count, packet_text, packets_text}
use Rattle.export_engine.specs.Exported.{ExportsRecords, StopsPackets, TakesUpTo}
use Rattle.export_engine.specs.declared.places.Envelopes.{Envelopes}
use Rattle.st_format.proofs.Gave.{grew_twice}

-- what was written of a record more
pub more_packets : (es : Envelopes) (xs : List Entry) (e : Entry)
    → packets_text es xs ++ packet_text es e ≡ packets_text es (xs ++ e ∷ [])
more_packets es xs e =
    sym (flat_map-append (packet_text es) xs (e ∷ [])
    ∙ ap (λ (t : List ℕ). packets_text es xs ++ t) (append-nil (packet_text es e)))

pub more_counted : (es : Envelopes) (xs : List Entry) (e : Entry)
    → packet_count es (xs ++ e ∷ []) ≡ packet_count es xs + packet_count es (e ∷ [])
more_counted es xs e = sum_by-append (λ (d : Entry). cond (has_packet es d) 1 0) xs (e ∷ [])

-- records were read, and their packets were written
pub record PacketsSoFar (limit left written : ℕ) (es : Envelopes)
    (before now took took' : List ℕ) : Type 0 where
  pub entries : List Entry
  pub fit : AllFit entries
  pub grown : now ≡ before ++ records_text entries
  pub gave : GoesGave limit before left entries now
  pub taken : took' ≡ took ++ packets_text es entries
  pub counted : written ≡ packet_count es entries
  pub all : length entries + left ≡ limit

pub packets_first : (limit : ℕ) (es : Envelopes) (now took : List ℕ)
    → PacketsSoFar limit limit 0 es now now took took
packets_first limit es now took = record {
  entries = [];
  fit = tt;
  grown = sym (append-nil now);
  gave = gave_first limit now;
  taken = sym (append-nil took);
  counted = refl;
  all = omega arith;
}

pub packets_more : (limit left written n : ℕ) (es : Envelopes)
    (before now mid new took took' took'' : List ℕ) (first : ℕ) (e : Entry) → (left ≡ 0 → ⊥)
    → PacketsSoFar limit left written es before now took took' → mid ≡ now ++ first ∷ []
    → new ≡ mid ++ rest_text e → Fits e → first ≡ path_octet e.path
    → took'' ≡ took' ++ packet_text es e → n ≡ packet_count es (e ∷ [])
    → PacketsSoFar limit (left - 1) (written + n) es before new took took''
packets_more limit left written n es before now mid new took took' took'' first e some m one more
    fits is w c = record {
      entries = m.entries ++ e ∷ [];
      fit = fit_more m.entries e m.fit fits;
      grown =
          grew_twice before now new (records_text m.entries) (record_text e) m.grown
          (grew_twice now mid new (first ∷ []) (rest_text e) one more
          ∙ ap (λ (k : ℕ). now ++ k ∷ rest_text e) is)
          ∙ ap (λ (t : List ℕ). before ++ t) (one_text m.entries e);
      gave =
          gave_record limit left before now mid new m.entries first e some m.gave one more fits is;
      taken =
          took_both took took' took'' (packets_text es m.entries) (packet_text es e) m.taken w
          ∙ ap (λ (t : List ℕ). took ++ t) (more_packets es m.entries e);
      counted =
          ap (λ (k : ℕ). k + n) m.counted ∙ ap (λ (k : ℕ). packet_count es m.entries + k) c
          ∙ sym (more_counted es m.entries e);
      all = omega (arith, length-append m.entries (e ∷ []), m.all, some);
    }

-- no more than the limit are written
pub packets_few : (limit left written : ℕ) (es : Envelopes) (before now took took' : List ℕ)
    → PacketsSoFar limit left written es before now took took' → written + left ≤ limit
packets_few limit left written es before now took took' m =
    omega (arith, m.counted, m.all, count_by-le-length (has_packet es) m.entries)

-- a record has one packet at most
pub one_packet : (n : ℕ) (es : Envelopes) (e : Entry) → n ≡ packet_count es (e ∷ []) → n ≤ 1
one_packet n es e is = omega (arith, is, count_by-le-length (has_packet es) (e ∷ []))

-- the end
pub packets_all : (limit left written : ℕ) (es : Envelopes)
    (before now new took took' : List ℕ) (ended : Type 0)
    → PacketsSoFar limit left written es before now took took' → new ≡ now ++ [] → ended
    → ExportsRecords limit es (record { written = written; left_out = limit - left - written })
    before new ended took took'
packets_all limit left written es before now new took took' ended m same over = record {
  entries = m.entries;
  read = gave_end limit left before now new m.entries ended m.gave same over;
  written = m.taken;
  counted = record {
    written = m.counted;
    all =
        omega (arith, m.all, packets_few limit left written es before now took took' m);
  };
}

-- ---- where it stops

pub takes_whole : (f : FileFault) (took took' text : List ℕ) → took' ≡ took ++ text
    → TakesUpTo f took took' text
takes_whole file.Device took took' text is = inl is
takes_whole f took took' text is = is

-- behind whole records stands what is none
stops_at : (limit left written : ℕ) (es : Envelopes) (f : FileFault)
    (before now new took took' rest : List ℕ)
    → PacketsSoFar limit left written es before now took took' → new ≡ now ++ rest
    → entries_in rest ≡ [] → StopsPackets [] es f before new took took'
stops_at limit left written es f before now new took took' rest m grown none = record {
  entries = m.entries;
  fit = m.fit;
  rest = rest;
  grown = grew_twice before now new (records_text m.entries) rest m.grown grown;
  none = none;
  taken = takes_whole f took took' (packets_text es m.entries) m.taken;
}

pub no_entries : entries_in [] ≡ []
unfolding entries_up_to
no_entries = refl

pub none_wrong : (first : ℕ) (part : List ℕ) (f : FileFault) → rest_at first part ≡ Err f
    → entries_in (first ∷ part) ≡ []
unfolding entries_up_to
none_wrong first part f bad =
    ap (λ (r : Result (Entry × List ℕ) FileFault). entries_by r
    (entries_up_to (length part))) bad

-- the source failed before a record
pub stops_before : (limit left written : ℕ) (es : Envelopes) (f : FileFault)
    (before now new took took' : List ℕ)
    → PacketsSoFar limit left written es before now took took' → new ≡ now
    → StopsPackets [] es f before new took took'
stops_before limit left written es f before now new took took' m same =
    stops_at limit left written es f before now new took took' [] m (same ∙ sym (append-nil now))
    no_entries

-- a record too many
pub stops_full : (limit left written : ℕ) (es : Envelopes) (f : FileFault)
    (before now new took took' : List ℕ) (first : ℕ)
    → PacketsSoFar limit left written es before now took took' → new ≡ now ++ first ∷ []
    → StopsPackets [] es f before new took took'
stops_full limit left written es f before now new took took' first m one =
    stops_at limit left written es f before now new took took' (first ∷ []) m one
    (none_wrong first [] file.Truncated (short_head first [] (omega arith)))

-- a fault of a record, or of the source within it
pub stops_within : (limit left written : ℕ) (es : Envelopes) (f : FileFault)
    (before now mid new took took' : List ℕ) (first : ℕ) (was to_give : Option (List ℕ))
    → PacketsSoFar limit left written es before now took took' → mid ≡ now ++ first ∷ []
    → GivesWrong (rest_at first) f was to_give mid new
    → StopsPackets [] es f before new took took'
stops_within limit left written es f before now mid new took took' first was to_give m one w =
    stops_at limit left written es f before now new took took' (first ∷ w.part) m
    (grew_twice now mid new (first ∷ []) w.part one w.grown)
    (none_wrong first w.part w.fault w.none)

-- the sink failed at a packet
pub stops_writing : (limit left written : ℕ) (es : Envelopes)
    (before now mid new took took' took'' : List ℕ) (first : ℕ) (e : Entry)
    → PacketsSoFar limit left written es before now took took' → mid ≡ now ++ first ∷ []
    → new ≡ mid ++ rest_text e → Fits e → first ≡ path_octet e.path
    → GrowsPart took' took'' (packet_text es e)
    → StopsPackets [] es file.Device before new took took''
stops_writing limit left written es before now mid new took took' took'' first e m one more fits is
    p =
    let so_far : List Entry = m.entries in
    record {
      entries = so_far ++ e ∷ [];
      fit = fit_more so_far e m.fit fits;
      rest = [];
      grown =
          grew_twice before now new (records_text so_far) (record_text e) m.grown
          (grew_twice now mid new (first ∷ []) (rest_text e) one more
          ∙ ap (λ (n : ℕ). now ++ n ∷ rest_text e) is)
          ∙ ap (λ (t : List ℕ). before ++ t)
          (one_text so_far e ∙ sym (append-nil (records_text (so_far ++ e ∷ []))));
      none = no_entries;
      taken =
          inr (subst (λ (t : List ℕ). GrowsPart took took'' t) (more_packets es so_far e)
          (part_then took took' took'' (packets_text es so_far) (packet_text es e) m.taken p));
    }

-- the source's fault alone
pub source_counted : (f : FileFault) (s s' t h k : ℕ) → s' ≡ s → k ≡ h → CountsFault f s' t
    → CountsEither f s t h k
source_counted file.Device s s' t h k same works fails =
    inl (subst (λ (n : ℕ). CountsOne n t) same fails, works)
source_counted file.NoMemory s s' t h k same works fails = (fails ∙ same, works)
source_counted file.BadName s s' t h k same works fails = (fails ∙ same, works)
source_counted file.BadVersion s s' t h k same works fails = (fails ∙ same, works)
source_counted file.Truncated s s' t h k same works fails = (fails ∙ same, works)
source_counted file.BadField s s' t h k same works fails = (fails ∙ same, works)
source_counted file.TrailingBytes s s' t h k same works fails = (fails ∙ same, works)
source_counted file.MixedGroup s s' t h k same works fails = (fails ∙ same, works)
source_counted file.TooManyRecords s s' t h k same works fails = (fails ∙ same, works)

-- what the source gave where the sink failed
pub written_wrong : (limit left written : ℕ) (es : Envelopes)
    (before now mid new took took' : List ℕ) (first : ℕ) (e : Entry) (ended : Type 0)
    → PacketsSoFar limit left written es before now took took' → mid ≡ now ++ first ∷ []
    → new ≡ mid ++ rest_text e → GaveFault (records_at limit) before new ended file.Device
written_wrong limit left written es before now mid new took took' first e ended m one more =
    let text : List ℕ = first ∷ rest_text e in
    fault_device (records_at limit) before new (m.gave.part ++ text) ended file.Device tt
    (grew_twice before now new m.gave.part text m.gave.grown
    (grew_twice now mid new (first ∷ []) (rest_text e) one more))
