-- What `import` wrote where it fails.
use Rattle.std.proofs.Common.{◌≡◌, ℕ, zero, suc, ◌+◌, ◌<◌, ◌≤◌, inl, inr, List, [], ◌∷◌, ◌++◌}
use Rattle.std.proofs.Common.{Option, Some, ap, append-nil, arith, get_or, length}
use Rattle.std.proofs.Common.{length-append, map, refl, set, subst, sym, ◌∙◌}
use Rattle.std.specs.List.{AllByRecursion, AllZip, zip}
use Rattle.flow.specs.declared.flows.Flows.{Flows}
use Rattle.recording_counts.specs.declared.left_out.LeftOut.{LeftOut}
use Rattle.media_file.proofs.Written.{part_first, part_then, records_append, took_both}
use Rattle.media_file.specs.Fronts.{front_text}
use Rattle.media_file.specs.Records.{Entry, record_text, records_text}
use Rattle.media_file.specs.declared.front.Version.TheVariants.{Two}
use Rattle.recording_reader.specs.FileReader.{IsKnownBy}
use Rattle.recording_reader.specs.declared.fault.ReadingFault.{ReadingFault}
use Rattle.recording_reader.specs.declared.way.Standing.{Standing as Stand}
use Rattle.recording_reader.specs.declared.way.Standing.TheVariants.{Failed as At}
use Rattle.run_outcome.specs.AtFault.{WrittenAtFault}
use Rattle.run_outcome.specs.Moments.{WasRead}
use Rattle.run_outcome.specs.TextRefusals.{IsCaptureText}
use Rattle.run_outcome.specs.Fault.{Blames, counts}
use Rattle.run_outcome.specs.declared.fault.Fault.{Fault}
use Rattle.run_outcome.specs.declared.fault.Fault.TheVariants.{Device}
use Rattle.st_format.specs.Device.{Failed, GrowsPart}
use Rattle.recording_engines.specs.Files.{AllOpened, AllReady, HasKnownOctets}
use Rattle.recording_engines.specs.Files.{Leads, ReadsToFault, begun_of, ended_by, gave_by}
use Rattle.recording_engines.specs.Files.{next_entry, standing_of, standings}
use Rattle.recording_engines.specs.Imported.{AreOver, AsksFlows, ImportsPart}
use Rattle.recording_engines.specs.Joining.{IsJoinedNext, JoinsByMoment, JoinsTo, Strand}
use Rattle.recording_engines.specs.Progress.{AllStandStill, HasWritten, StandsStill, StopsEarliest}
use Rattle.recording_engines.specs.Progress.{StopsUpTo, WritesNext}
use Rattle.recording_engines.specs.Steps.{Ahead, AllLay, Coming, Lays, Standing, left_by, left_of}
use Rattle.recording_engines.specs.Steps.{lefts, nothing, whole_by, wholes}
use Rattle.recording_engines.specs.Strands.{TakesBy, fault_of_file, strand_in, strands_in}
use Rattle.recording_engines.specs.declared.file.ImportFile.{ImportFile}
use Rattle.recording_engines.specs.declared.file.ImportFile.TheVariants.{Closed, Open, Taken}
use Rattle.recording_engines.specs.declared.joining.Written.{Written}
use Rattle.recording_engines.proofs.Endings.{IsWhole, strands_whole}
use Rattle.recording_engines.proofs.FileFaults.{strand, strand_by}
use Rattle.recording_engines.proofs.Joined.{joins_more, later, none_sooner}
use Rattle.recording_engines.proofs.Known.{file_ready, lays_file}
use Rattle.recording_engines.proofs.Same.{no_less, no_more, same_head, same_tail}
use Rattle.recording_engines.proofs.Taken.{all_no_sooner, coming, led, next_later}

-- ---- one record

-- the sink failed at the record that comes next of a file
pub next_cut : {X S : Type 0} (f : ImportFile X S) (x e : Entry) (old new : List ℕ)
    → Some x ≡ next_entry f → next_entry f ≡ Some e → GrowsPart old new (record_text x)
    → GrowsPart old new (records_text (e ∷ []))
next_cut f x e old new here there part =
    let both : Some x ≡ Some e = here ∙ there in
    let same : x ≡ e = cc in
    subst (λ (y : Entry). GrowsPart old new (records_text (y ∷ []))) same
    (subst (λ (l : List ℕ). GrowsPart old new l) (sym (append-nil (record_text x))) part)

-- the record of the file that leads is the next, whatever is behind it
next_of : {X S : Type 0} (k : ℕ) (fs : List (ImportFile X S)) (d : ImportFile X S) (e : Entry)
    → AllReady fs → Leads k e.moment fs → next_entry (get_or fs k d) ≡ Some e
    → (rs : List Strand) → (left : List Strand) × IsJoinedNext (lefts (standings fs) rs) e left
next_of k [] d e ready leads next rs = absurd leads
next_of zero (f ∷ fs) d e ready leads next [] = (
  nothing ∷ lefts (standings fs) [],
  inl (
    ap (λ (a : Ahead). left_by a nothing) (coming f e ready.0 next),
    refl,
    none_sooner e.moment (standings fs) [] (all_no_sooner e.moment fs ready.1 leads.1),
  ),
)
next_of zero (f ∷ fs) d e ready leads next (r ∷ rs) = (
  r ∷ lefts (standings fs) rs,
  inl (
    ap (λ (a : Ahead). left_by a r) (coming f e ready.0 next),
    refl,
    none_sooner e.moment (standings fs) rs (all_no_sooner e.moment fs ready.1 leads.1),
  ),
)
next_of (suc k) (f ∷ fs) d e ready leads next [] =
    let rest = next_of k fs d e ready.1 leads.1 next [] in (
      left_of (standing_of f) nothing ∷ rest.0,
      inr (
        refl,
        later e.moment (standing_of f).ahead nothing
            (next_later e.moment f ready.0 leads.0),
        rest.1,
      ),
    )
next_of (suc k) (f ∷ fs) d e ready leads next (r ∷ rs) =
    let rest = next_of k fs d e ready.1 leads.1 next rs in (
      left_of (standing_of f) r ∷ rest.0,
      inr (
        refl,
        later e.moment (standing_of f).ahead r (next_later e.moment f ready.0 leads.0),
        rest.1,
      ),
    )

all_still : {X S : Type 0} (fs : List (ImportFile X S)) → AllReady fs
    → AllStandStill fs (standings fs)
all_still [] ready = tt
all_still (f ∷ fs) ready = (inl (ready.0, refl), all_still fs ready.1)

-- where one file is something else
still_set : {X S : Type 0} (k : ℕ) (fs : List (ImportFile X S)) (d f' : ImportFile X S)
    → AllReady fs → k < length fs → StandsStill f' (standing_of (get_or fs k d))
    → AllStandStill (set fs k f') (standings fs)
still_set k [] d f' ready lt is = absurd (omega (arith, lt))
still_set zero (f ∷ fs) d f' ready lt is = (is, all_still fs ready.1)
still_set (suc k) (f ∷ fs) d f' ready lt is =
    (inl (ready.0, refl), still_set k fs d f' ready.1 (omega (arith, lt)) is)

-- a sink alone failed
pub failed_alone : (f : Fault) (old new : ℕ) → f ≡ Device → Blames (counts old new ∷ []) f
    → Failed old new
failed_alone f old new is blames = subst (λ (x : Fault). Blames (counts old new ∷ []) x) is blames

-- the sink failed at the record of the file that leads
pub cut_at : {X S : Type 0} (Fails : Type 0) (fs : List (ImportFile X S)) (k moment : ℕ)
    (d : ImportFile X S) (old new : List ℕ) → k < length fs → AllReady fs → Leads k moment fs
    → Fails
    → ((e : Entry) → next_entry (get_or fs k d) ≡ Some e
    → GrowsPart old new (records_text (e ∷ [])))
    → StopsEarliest Fails fs (set fs k (get_or fs k d)) old new
cut_at Fails fs k moment d old new lt ready leads fails part =
    let is = led k moment fs d ready leads in
    record {
      entry = is.entry;
      next =
          next_of k fs d is.entry ready
          (subst (λ (m : ℕ). Leads k m fs) (sym is.moment_is) leads) is.next;
      still = still_set k fs d (get_or fs k d) ready lt (inl (is.ready, refl));
      text = inr (fails, part is.entry is.next);
    }

-- it was written, and its file read to a fault
pub left_at : {X S : Type 0} (Fails : Type 0) (fs : List (ImportFile X S)) (k moment : ℕ)
    (d f' : ImportFile X S) (fault : Fault) (old new : List ℕ) (w w' : Written) → k < length fs
    → AllReady fs → Leads k moment fs → WritesNext (get_or fs k d) old new w w'
    → ReadsToFault fault (get_or fs k d) f' → StopsEarliest Fails fs (set fs k f') old new
left_at Fails fs k moment d f' fault old new w w' lt ready leads writes stops =
    let is = led k moment fs d ready leads in
    record {
      entry = is.entry;
      next =
          next_of k fs d is.entry ready
          (subst (λ (m : ℕ). Leads k m fs) (sym is.moment_is) leads) is.next;
      still = still_set k fs d f' ready lt (inr (
        is.entry,
        stops.reading,
        coming (get_or fs k d) is.entry is.ready is.next,
        stops.at,
        stops.same,
      ));
      text = inl (writes is.entry is.next).text;
    }

-- ---- all records

text_more : (Fails : Type 0) (es : List Entry) (e : Entry) (old now new : List ℕ)
    → now ≡ old ++ records_text es → WrittenAtFault Fails now new (records_text (e ∷ []))
    → WrittenAtFault Fails old new (records_text (es ++ e ∷ []))
text_more Fails es e old now new had (inl all) =
    inl (took_both old now new (records_text es) (records_text (e ∷ [])) had all
    ∙ ap (λ (l : List ℕ). old ++ l) (sym (records_append es (e ∷ []))))
text_more Fails es e old now new had (inr (fails, part)) =
    inr (
      fails,
      subst (λ (l : List ℕ). GrowsPart old new l) (sym (records_append es (e ∷ [])))
          (part_then old now new (records_text es) (records_text (e ∷ [])) had part),
    )

pub stops_up_to : {X S : Type 0} (Fails : Type 0) (fs fs' : List (ImportFile X S))
    (old now new : List ℕ) (w w' : Written) (n : ℕ) → HasWritten fs old now w w' n → n < 16777216
    → StopsEarliest Fails fs fs' now new → StopsUpTo Fails fs' old new
stops_up_to Fails fs fs' old now new w w' n had few one = record {
  stood = standings fs;
  still = one.still;
  entries = had.entries ++ one.entry ∷ [];
  joined = λ rs.
      let next = one.next rs in (
        next.0,
        joins_more (wholes (standings fs) rs) (lefts (standings fs) rs) next.0 had.entries one.entry
            (had.joined.joins rs) next.1,
      );
  few = omega (arith, few, had.number, length-append had.entries (one.entry ∷ []));
  text = text_more Fails had.entries one.entry old now new had.writes.text one.text;
}

-- as many as there may be, and there is one more
pub stops_full : {X S : Type 0} (Fails : Type 0) (fs : List (ImportFile X S)) (old new : List ℕ)
    (w w' : Written) (n : ℕ) → HasWritten fs old new w w' n → n ≡ 16777216 → AllReady fs
    → StopsUpTo Fails fs old new
stops_full Fails fs old new w w' n had most ready = record {
  stood = standings fs;
  still = all_still fs ready;
  entries = had.entries;
  joined = λ rs. (lefts (standings fs) rs, had.joined.joins rs);
  few = omega (arith, most, had.number);
  text = inl had.writes.text;
}

-- ---- what was read

lays_at : (flows : Option Flows) (stand : Stand) (g : ReadingFault)
    (es : List Entry) (left : LeftOut) (octets : List ℕ) (e : Entry) → stand ≡ At g
    → IsKnownBy flows stand octets es left
    → (r : Strand) × (strand_in flows octets ≡ whole_by es (Coming e) r)
lays_at flows stand g es left octets e is known =
    let first = subst (λ (s : Stand). IsKnownBy flows s octets es left) is known in (
      strand first.0.0 (fault_of_file octets),
      strand_by flows octets (es ++ first.0.0) (fault_of_file octets) first.0.1 refl,
    )

lays_still : {A S : Type 0} (gave : S → List ℕ) (ended : S → Type 0) (flows : Option Flows)
    (before : List ℕ) (f : ImportFile A S) (s : Standing) → begun_of f ≡ (flows, before)
    → HasKnownOctets gave ended f → StandsStill f s
    → Lays before (gave_by gave f) (ended_by ended f) flows s
lays_still gave ended flows before f s begun known (inl (ready, same)) =
    subst (λ (t : Standing). Lays before (gave_by gave f) (ended_by ended f) flows t) (sym same)
    (lays_file gave ended flows before f begun known (file_ready f ready))
lays_still gave ended flows before (Closed x) s begun known (inr (e, g, ahead, at, same)) =
    absurd at
lays_still gave ended flows before Taken s begun known (inr (e, g, ahead, at, same)) = absurd at
lays_still gave ended flows before (Open r) s begun known (inr (e, g, ahead, at, same)) =
    let by : r.flows ≡ flows = ap (λ (x : Option Flows × List ℕ). x.0) begun in
    let from : r.before.gave ≡ before = ap (λ (x : Option Flows × List ℕ). x.1) begun in
    let t : Standing = record { entries = r.records; ahead = Coming e } in
    let one : Lays r.before.gave (gave r.source) (ended r.source) r.flows t =
    record {
      says = λ octets read.
          lays_at r.flows r.standing g r.records r.left_out octets e at
          (known octets read).known;
    } in
    let here : Lays before (gave r.source) (ended r.source) flows t =
    subst (λ (x : Option Flows). Lays before (gave r.source) (ended r.source) x t) by
    (subst (λ (b : List ℕ). Lays b (gave r.source) (ended r.source) r.flows t) from one) in
    subst (λ (a : Ahead). Lays before (gave r.source) (ended r.source) flows
    (record { entries = s.entries; ahead = a })) (sym ahead)
    (subst (λ (es : List Entry). Lays before (gave r.source) (ended r.source) flows
    (record { entries = es; ahead = Coming e })) same here)

-- files that were opened, and since read on, or to a fault
all_lay_still : {A S : Type 0} (gave : S → List ℕ) (ended : S → Type 0)
    (each : List (Option Flows)) (olds mids news : List (ImportFile A S)) (ss : List Standing)
    → AllOpened gave each olds mids → map begun_of news ≡ map begun_of mids
    → AllByRecursion (HasKnownOctets gave ended) news → AllStandStill news ss
    → AllLay (gave_by gave) (ended_by ended) (zip olds news) each ss
all_lay_still gave ended [] [] [] [] [] opened same known still = tt
all_lay_still gave ended [] [] [] [] (s ∷ ss) opened same known still = absurd still
all_lay_still gave ended [] [] [] (n ∷ ns) ss opened same known still =
    absurd (no_more (begun_of n) (map begun_of ns) same)
all_lay_still gave ended [] [] (m ∷ ms) news ss opened same known still = absurd opened
all_lay_still gave ended [] (o ∷ os) mids news ss opened same known still = absurd opened
all_lay_still gave ended (f ∷ fs) [] mids news ss opened same known still = absurd opened
all_lay_still gave ended (f ∷ fs) (o ∷ os) [] news ss opened same known still = absurd opened
all_lay_still gave ended (f ∷ fs) (o ∷ os) (m ∷ ms) [] ss opened same known still =
    absurd (no_less (begun_of m) (map begun_of ms) same)
all_lay_still gave ended (f ∷ fs) (o ∷ os) (m ∷ ms) (n ∷ ns) [] opened same known still =
    absurd still
all_lay_still gave ended (f ∷ fs) (o ∷ os) (m ∷ ms) (n ∷ ns) (s ∷ ss) opened same known still =
    let first = same_head (begun_of n) (begun_of m) (map begun_of ns) (map begun_of ms) same in
    let rest = same_tail (begun_of n) (begun_of m) (map begun_of ns) (map begun_of ms) same in (
      lays_still gave ended f (gave_by gave o) n s (first ∙ opened.0.begun) known.0 still.0,
      all_lay_still gave ended fs os ms ns ss opened.1 rest known.1 still.1,
    )

-- ---- the run

front_more : (Fails : Type 0) (took mid took' front text : List ℕ) → mid ≡ took ++ front
    → WrittenAtFault Fails mid took' text → WrittenAtFault Fails took took' (front ++ text)
front_more Fails took mid took' front text had (inl all) =
    inl (took_both took mid took' front text had all)
front_more Fails took mid took' front text had (inr (fails, part)) =
    inr (fails, part_then took mid took' front text had part)

-- the records were written up to a fault
pub part_imported : {X S : Type 0} (gave : S → List ℕ) (ended : S → Type 0)
    (a b : Option (List ℕ)) (Said : List ℕ → Type 0) (Fails : Type 0)
    (each : List (Option Flows)) (olds mids news : List (ImportFile X S)) (flows : Flows)
    (text took mid took' : List ℕ) → Said text → IsCaptureText text → AsksFlows a b text flows
    → TakesBy flows (length (zip olds news)) each → AllOpened gave each olds mids
    → map begun_of news ≡ map begun_of mids → AllByRecursion (HasKnownOctets gave ended) news
    → mid ≡ took ++ front_text Two text → StopsUpTo Fails news mid took'
    → ImportsPart a b Said (WasRead (gave_by gave) (ended_by ended)) Fails (zip olds news) took
    took'
part_imported gave ended a b Said Fails each olds mids news flows text took mid took' said
    described asked taken opened same known front stops = record {
      text = text;
      flows = flows;
      each = each;
      entries = stops.entries;
      said = said;
      described = described;
      asked = asked;
      taken_by = taken;
      joined = λ octets read.
          let whole : IsWhole (strands_in each octets) stops.stood =
          strands_whole (gave_by gave) (ended_by ended) (zip olds news) each stops.stood octets
          (all_lay_still gave ended each olds mids news stops.stood opened same known stops.still)
          read in
          let joins = stops.joined whole.rs in
          record {
            left = joins.0;
            joins =
                subst (λ (l : List Strand). JoinsByMoment l stops.entries joins.0)
                (sym whole.same) joins.1;
            ends = tt;
          };
      few = stops.few;
      taken =
          front_more Fails took mid took' (front_text Two text) (records_text stops.entries) front
          stops.text;
    }

-- the front was
pub front_imported : {Z : Type 0} (a b : Option (List ℕ)) (Said : List ℕ → Type 0)
    (told : Z → List ℕ → Type 0) (Fails : Type 0) (each : List (Option Flows)) (files : List Z)
    (flows : Flows) (text took took' : List ℕ) → Said text → IsCaptureText text
    → AsksFlows a b text flows → TakesBy flows (length files) each → Fails
    → GrowsPart took took' (front_text Two text)
    → ImportsPart a b Said told Fails files took took'
front_imported a b Said told Fails each files flows text took took' said described asked taken
    fails part = record {
      text = text;
      flows = flows;
      each = each;
      entries = [];
      said = said;
      described = described;
      asked = asked;
      taken_by = taken;
      joined = λ octets read.
          record { left = strands_in each octets; joins = refl; ends = tt };
      few = omega arith;
      taken =
          inr (fails, part_first took took' (front_text Two text) (records_text []) part);
    }

-- all was
pub all_imported : {Z : Type 0} (a b : Option (List ℕ)) (Said : List ℕ → Type 0)
    (told : Z → List ℕ → Type 0) (Fails : Type 0) (each : List (Option Flows)) (files : List Z)
    (flows : Flows) (entries : List Entry) (text took took' : List ℕ) → Said text
    → IsCaptureText text → AsksFlows a b text flows → TakesBy flows (length files) each
    → ((octets : List (List ℕ)) → AllZip told files octets
    → JoinsTo AreOver (strands_in each octets) entries) → length entries ≤ 16777216
    → took' ≡ took ++ (front_text Two text ++ records_text entries)
    → ImportsPart a b Said told Fails files took took'
all_imported a b Said told Fails each files flows entries text took took' said described asked
    taken joined few all = record {
      text = text;
      flows = flows;
      each = each;
      entries = entries;
      said = said;
      described = described;
      asked = asked;
      taken_by = taken;
      joined = λ octets read.
          let joins = joined octets read in
          record { left = joins.left; joins = joins.joins; ends = tt };
      few = few;
      taken = inl all;
    }
