-- Records that are written, one behind the other.
use Rattle.std.proofs.Common.{◌≡◌, ℕ, zero, suc, ◌+◌, ◌<◌, inl, inr, List, [], ◌∷◌, ◌++◌}
use Rattle.std.proofs.Common.{None, Some, refl, sym, ap, subst, ◌∙◌, append_assoc, arith}
use Rattle.std.proofs.Common.{append-nil, get_or, set, length, length-append}
use Rattle.std.proofs.lemmas.Grind.{flat_map-append}
use Rattle.std.proofs.lemmas.List.Sums.{sum_by-append}
use Rattle.media_file.specs.Records.{Entry, record_text, records_text}
use Rattle.st_format.specs.declared.path.Path.{Path}
use Rattle.st_format.specs.declared.path.Path.TheVariants.{A, B}
use Rattle.run_outcome.specs.declared.fault.Fault.{Fault}
use Rattle.run_outcome.specs.declared.fault.Fault.TheVariants.{Refused}
use Rattle.run_outcome.specs.declared.refusal.Refusal.{Refusal}
use Rattle.run_outcome.specs.declared.refusal.Refusal.TheVariants.{ImportRecords}
use Rattle.recording_reader.specs.declared.fault.ReadingFault.{ReadingFault}
use Rattle.recording_engines.specs.Files.{AllReady, Leads, ReadsFileOn, ReadsToFault, next_entry}
use Rattle.recording_engines.specs.Files.{standing_of, standings}
use Rattle.recording_engines.specs.Progress.{HasWritten}
use Rattle.recording_engines.specs.Progress.{OneComes, StopsBy, StopsJoining, WritesEarliest}
use Rattle.recording_engines.specs.Progress.{WritesNext, WritesRecords, count_of_path}
use Rattle.recording_engines.specs.Steps.{Ahead, AllFresh, Over, ReadsMore, Standing}
use Rattle.recording_engines.specs.declared.file.ImportFile.{ImportFile}
use Rattle.recording_engines.specs.declared.joining.Written.{Written}
use Rattle.recording_engines.proofs.Joined.{joined_more, joined_none}
use Rattle.recording_engines.proofs.Taken.{at_set, coming, led, ready_set, takes_led}

-- ---- what was written

pub writes_none : (old : List ℕ) (w : Written) → WritesRecords [] old old w w
writes_none old w = record {
  text = sym (append-nil old);
  a = omega arith;
  b = omega arith;
}

pub writes_more : (es fs : List Entry) (old now new : List ℕ) (w w' w'' : Written)
    → WritesRecords es old now w w' → WritesRecords fs now new w' w''
    → WritesRecords (es ++ fs) old new w w''
writes_more es fs old now new w w' w'' first more = record {
  text =
      more.text ∙ ap (λ (l : List ℕ). l ++ records_text fs) first.text
      ∙ append_assoc old (records_text es) (records_text fs)
      ∙ ap (λ (l : List ℕ). old ++ l) (sym (flat_map-append record_text es fs));
  a = omega (arith, first.a, more.a, counts A);
  b = omega (arith, first.b, more.b, counts B);
}
  where
    counts : (path : Path)
        → count_of_path path (es ++ fs) ≡ count_of_path path es + count_of_path path fs
    counts path = sum_by-append _ es fs

-- ---- one record

pub takes_at : {X S : Type 0} (fs : List (ImportFile X S)) (k moment : ℕ) (d f' : ImportFile X S)
    (old new : List ℕ) (w w' : Written) → AllReady fs → Leads k moment fs
    → WritesNext (get_or fs k d) old new w w' → ReadsFileOn (get_or fs k d) f'
    → WritesEarliest fs (set fs k f') old new w w'
takes_at fs k moment d f' old new w w' ready leads writes reads =
    let is = led k moment fs d ready leads in
    record {
      entry = is.entry;
      takes = takes_led k moment fs d f' ready leads reads.more;
      ready = ready_set k fs f' ready reads.ready;
      writes = writes is.entry is.next;
    }

pub stops_at : {X S : Type 0} (fs : List (ImportFile X S)) (k moment : ℕ) (d f' : ImportFile X S)
    (fault : Fault) (r : Refusal) (old new : List ℕ) (w w' : Written) → k < length fs
    → AllReady fs → Leads k moment fs → WritesNext (get_or fs k d) old new w w'
    → ReadsToFault fault (get_or fs k d) f' → fault ≡ Refused r
    → StopsBy r fs (set fs k f') old new
stops_at fs k moment d f' fault r old new w w' lt ready leads writes stops told =
    let is = led k moment fs d ready leads in (
      stops.reading,
      sym stops.told ∙ told,
      record {
        entry = is.entry;
        takes =
            takes_led k moment fs d f' ready leads
            (over_more (standing_of (get_or fs k d)).entries (standing_of f') stops.reading
            stops.over stops.same);
        stopped = at_set stops.reading k fs f' lt ready stops.at;
        text = (writes is.entry is.next).text;
      },
    )
  where
    over_more : (es : List Entry) (s : Standing) (f : ReadingFault) → s.ahead ≡ Over (Some f)
        → s.entries ≡ es → ReadsMore es s.ahead s.entries
    over_more es s f over same = subst (λ (a : Ahead). ReadsMore es a s.entries) (sym over) same

-- ---- all records

pub written_none : {X S : Type 0} (fs : List (ImportFile X S)) (old : List ℕ) (w : Written)
    → AllFresh (standings fs) → HasWritten fs old old w w 0
written_none fs old w fresh = record {
  entries = [];
  joined = joined_none (standings fs) fresh;
  writes = writes_none old w;
  number = refl;
}

pub written_more : {X S : Type 0} (fs fs' : List (ImportFile X S)) (old now new : List ℕ)
    (w w' w'' : Written) (n : ℕ) → HasWritten fs old now w w' n
    → WritesEarliest fs fs' now new w' w''
    → HasWritten fs' old new w w'' (n + 1)
written_more fs fs' old now new w w' w'' n had one = record {
  entries = had.entries ++ one.entry ∷ [];
  joined =
      joined_more (standings fs) (standings fs') had.entries one.entry had.joined one.takes;
  writes = writes_more had.entries (one.entry ∷ []) old now new w w' w'' had.writes one.writes;
  number = omega (arith, had.number, length-append had.entries (one.entry ∷ []));
}

pub stops_joining : {X S : Type 0} (fs fs' : List (ImportFile X S)) (old now new : List ℕ)
    (w w' : Written) (n : ℕ) (r : Refusal) → HasWritten fs old now w w' n
    → StopsBy r fs fs' now new → StopsJoining r fs' old new
stops_joining fs fs' old now new w w' n r had (f, told, one) = inl (
  f,
  told,
  record {
    entries = had.entries ++ one.entry ∷ [];
    joined =
        joined_more (standings fs) (standings fs') had.entries one.entry had.joined one.takes;
    ends = (some had.entries one.entry, one.stopped);
    text =
        one.text ∙ ap (λ (l : List ℕ). l ++ records_text (one.entry ∷ [])) had.writes.text
        ∙ append_assoc old (records_text had.entries) (records_text (one.entry ∷ []))
        ∙ ap (λ (l : List ℕ). old ++ l)
        (sym (flat_map-append record_text had.entries (one.entry ∷ [])));
  },
)
  where
    some : (es : List Entry) (e : Entry) → 0 < length (es ++ e ∷ [])
    some es e = omega (arith, length-append es (e ∷ []))

one_comes : {X S : Type 0} (fs : List (ImportFile X S)) (k moment : ℕ) → AllReady fs
    → Leads k moment fs → OneComes (standings fs)
one_comes [] k moment ready leads = absurd leads
one_comes (f ∷ fs) zero moment ready leads =
    inl (leads.0.0, coming f leads.0.0 ready.0 leads.0.1)
one_comes (f ∷ fs) (suc k) moment ready leads = inr (one_comes fs k moment ready.1 leads.1)

-- as many as there may be, and one more
pub many_joined : {X S : Type 0} (fs : List (ImportFile X S)) (old new : List ℕ)
    (w w' : Written) (n k moment : ℕ) → HasWritten fs old new w w' n → n ≡ 16777216
    → AllReady fs → Leads k moment fs → StopsJoining ImportRecords fs old new
many_joined fs old new w w' n k moment had most ready leads = inr (
  refl,
  record {
    entries = had.entries;
    joined = had.joined;
    ends = (had.number ∙ most, ready, one_comes fs k moment ready leads);
    text = had.writes.text;
  },
)

-- ---- the next record of a file

pub next_none : {X S : Type 0} (f : ImportFile X S) (old new : List ℕ) (w w' : Written)
    → next_entry f ≡ None → WritesNext f old new w w'
next_none f old new w w' none e some = let both : None ≡ Some e = sym none ∙ some in absurd cc
