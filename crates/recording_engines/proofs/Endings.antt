-- What was written of files, by what was read of them.
use Rattle.std.proofs.Common.{◌≡◌, ◌<◌, ◌≤◌, ℕ, inl, inr, List, [], ◌∷◌, ◌++◌, Option, None, Some}
use Rattle.std.proofs.Common.{refl, sym, ap, subst, ◌∙◌, append_assoc, arith, map, length}
use Rattle.std.proofs.Common.{append-nil}
use Rattle.std.specs.List.{AllByRecursion, AllZip, zip}
use Rattle.flow.specs.declared.flows.Flows.{Flows}
use Rattle.recording_counts.specs.LeftOut.{left_out_of}
use Rattle.recording_counts.specs.declared.omission.Omission.{Omission}
use Rattle.media_file.specs.Fronts.{front_text}
use Rattle.media_file.specs.Records.{Entry, records_text}
use Rattle.media_file.specs.declared.front.Version.TheVariants.{Two}
use Rattle.run_outcome.specs.Line.{line_text}
use Rattle.run_outcome.specs.Moments.{WasRead}
use Rattle.run_outcome.specs.Text.{GivesText}
use Rattle.run_outcome.specs.TextRefusals.{IsCaptureText}
use Rattle.st_format.specs.History.{IsRead, since}
use Rattle.st_format.proofs.Histories.{since_is}
use Rattle.run_outcome.specs.declared.line.Line.{Line}
use Rattle.run_outcome.specs.declared.line.Line.TheVariants as line
use Rattle.run_outcome.specs.declared.refusal.Refusal.{Refusal}
use Rattle.st_format.specs.declared.path.Path.TheVariants.{A, B}
use Rattle.st_format.specs.Device.{capped}
use Rattle.recording_reader.specs.declared.fault.ReadingFault.{ReadingFault}
use Rattle.recording_engines.specs.Files.{AllOpened, AllReady, AreLeftOut, HasKnownOctets}
use Rattle.recording_engines.specs.Files.{IsFailedAt, IsReadByFlows, IsReady, begun_of, ended_by}
use Rattle.recording_engines.specs.Files.{gave_by, next_entry, standing_of, standings}
use Rattle.recording_engines.specs.Imported.{AreOver, AsksFlows, Imports, IsLateRefusal}
use Rattle.recording_engines.specs.Joining.{ComesLater, ComesNoFault, ComesNoSooner, GoFurther}
use Rattle.recording_engines.specs.Joining.{IsAtNoFault, IsJoinedNext, JoinsByMoment, JoinsTo}
use Rattle.recording_engines.specs.Joining.{OneAt, OneHasMore, Strand}
use Rattle.recording_engines.specs.Opened.{BeginsUnrefused}
use Rattle.recording_engines.specs.Progress.{HasWrittenAll, OneComes}
use Rattle.recording_engines.specs.Progress.{OneFileAt, StopsJoining, count_of_path}
use Rattle.recording_engines.specs.Steps.{Ahead, AllFresh, AllLay, Coming, HasJoined, Over, Standing}
use Rattle.recording_engines.specs.Steps.{left_by, lefts, nothing, whole, wholes}
use Rattle.recording_engines.specs.Strands.{IsTakenBy, TakesBy, left_out_in, omissions_in}
use Rattle.recording_engines.specs.Strands.{strand_in, strands_in}
use Rattle.recording_engines.specs.declared.file.ImportFile.{ImportFile}
use Rattle.recording_engines.specs.declared.file.ImportFile.TheVariants.{Closed, Open, Taken}
use Rattle.recording_engines.specs.declared.importing.ImportCounts.{ImportCounts}
use Rattle.recording_engines.specs.declared.joining.Written.{Written}
use Rattle.recording_reader.specs.declared.way.Standing.{Standing as Stand}
use Rattle.recording_reader.specs.declared.way.Standing.TheVariants.{Reads, Ended, Failed}
use Rattle.recording_engines.specs.Files.{HasAhead, ahead_by}
use Rattle.recording_engines.proofs.Joined.{all_over}
use Rattle.recording_engines.proofs.Known.{all_but, all_lay, all_ready, left_all, taken_all}

-- ---- the strands that were read

pub record IsWhole (strands : List Strand) (ss : List Standing) : Type 0 where
  pub rs : List Strand
  pub same : strands ≡ wholes ss rs

pub strands_whole : {S : Type 0} (gave : S → List ℕ) (ended : S → Type 0) (zs : List (S × S))
    (fs : List (Option Flows)) (ss : List Standing) (octets : List (List ℕ))
    → AllLay gave ended zs fs ss → AllZip (WasRead gave ended) zs octets
    → IsWhole (strands_in fs octets) ss
strands_whole gave ended [] [] [] octets lay read = record { rs = []; same = refl }
strands_whole gave ended [] [] (s ∷ ss) octets lay read = absurd lay
strands_whole gave ended [] (f ∷ fs) ss octets lay read = absurd lay
strands_whole gave ended (z ∷ zs) [] ss octets lay read = absurd lay
strands_whole gave ended (z ∷ zs) (f ∷ fs) [] octets lay read = absurd lay
strands_whole gave ended (z ∷ zs) (f ∷ fs) (s ∷ ss) [] lay read = absurd read
strands_whole gave ended (z ∷ zs) (f ∷ fs) (s ∷ ss) (o ∷ os) lay read =
    let one = lay.0.says o read.0 in
    let rest = strands_whole gave ended zs fs ss os lay.1 read.1 in
    let first : strand_in f o ≡ whole s one.0 = one.1 in
    let others : strands_in fs os ≡ wholes ss rest.rs = rest.same in
    record { rs = one.0 ∷ rest.rs; same = both first others }
  where
    both : {x y : Strand} {xs ys : List Strand} → x ≡ y → xs ≡ ys → x ∷ xs ≡ y ∷ ys
    both first others = cc

pub joins_to : (Ends : List Strand → Type 0) (strands : List Strand) (ss : List Standing)
    (es : List Entry) → IsWhole strands ss → HasJoined ss es
    → ((rs : List Strand) → Ends (lefts ss rs)) → JoinsTo Ends strands es
joins_to Ends strands ss es whole joined ends = record {
  left = lefts ss whole.rs;
  joins = subst (λ (l : List Strand). JoinsByMoment l es (lefts ss whole.rs)) (sym whole.same)
      (joined.joins whole.rs);
  ends = ends whole.rs;
}

-- ---- how it ends

over_at : {X S : Type 0} (f : ReadingFault) (x : ImportFile X S) → IsFailedAt f x
    → (standing_of x).ahead ≡ Over (Some f)
over_at f (Closed s) at = absurd at
over_at f (Open r) at = ap (λ (s : Stand). ahead_by s r.at_hand) at
over_at f Taken at = absurd at

-- files that were read on are at no fault
going_by : (stand : Stand) (at_hand : Option Entry) (r : Strand) → HasAhead stand at_hand
    → IsAtNoFault (left_by (ahead_by stand at_hand) r)
going_by Reads None r ready = absurd ready
going_by Reads (Some e) r ready = tt
going_by Ended None r ready = tt
going_by Ended (Some e) r ready = absurd ready
going_by (Failed f) None r ready = absurd ready
going_by (Failed f) (Some e) r ready = absurd ready

pub file_going : {X S : Type 0} (f : ImportFile X S) → IsReady f → (r : Strand)
    → IsAtNoFault (left_by (standing_of f).ahead r)
file_going (Closed s) ready r = absurd ready
file_going (Open x) ready r = going_by x.standing x.at_hand r ready
file_going Taken ready r = absurd ready

all_going : {X S : Type 0} (fs : List (ImportFile X S)) → AllByRecursion IsReady fs
    → (rs : List Strand) → AllByRecursion IsAtNoFault (lefts (standings fs) rs)
all_going [] ready rs = tt
all_going (f ∷ fs) ready [] = (file_going f ready.0 nothing, all_going fs ready.1 [])
all_going (f ∷ fs) ready (r ∷ rs) = (file_going f ready.0 r, all_going fs ready.1 rs)

at_fault : {X S : Type 0} (f : ReadingFault) (fs : List (ImportFile X S)) → OneFileAt f fs
    → (rs : List Strand) → OneAt f (lefts (standings fs) rs)
at_fault f [] one rs = absurd one
at_fault f (x ∷ xs) (inl one) [] =
    inl (ap (λ (a : Ahead). left_by a nothing) (over_at f x one.0), all_going xs one.1 [])
at_fault f (x ∷ xs) (inl one) (r ∷ rs) =
    inl (ap (λ (a : Ahead). left_by a r) (over_at f x one.0), all_going xs one.1 rs)
at_fault f (x ∷ xs) (inr one) [] = inr (file_going x one.0 nothing, at_fault f xs one.1 [])
at_fault f (x ∷ xs) (inr one) (r ∷ rs) = inr (file_going x one.0 r, at_fault f xs one.1 rs)

comes_more : (a : Ahead) (e : Entry) (r : Strand) → a ≡ Coming e
    → (x : Entry) × (xs : List Entry) × ((left_by a r).entries ≡ x ∷ xs)
comes_more a e r is =
    (e, r.entries, ap (λ (b : Ahead). (left_by b r).entries) is)

pub has_more : (ss : List Standing) → OneComes ss → (rs : List Strand) → OneHasMore (lefts ss rs)
has_more [] one rs = absurd one
has_more (s ∷ ss) (inl one) [] = inl (comes_more s.ahead one.0 nothing one.1)
has_more (s ∷ ss) (inl one) (r ∷ rs) = inl (comes_more s.ahead one.0 r one.1)
has_more (s ∷ ss) (inr one) [] = inr (has_more ss one [])
has_more (s ∷ ss) (inr one) (r ∷ rs) = inr (has_more ss one rs)

-- at the end all are over
over_by : (stand : Stand) (at_hand : Option Entry) → HasAhead stand at_hand → at_hand ≡ None
    → ahead_by stand at_hand ≡ Over None
over_by Reads None ready none = absurd ready
over_by Reads (Some e) ready none = absurd cc
over_by Ended None ready none = refl
over_by Ended (Some e) ready none = absurd ready
over_by (Failed f) None ready none = absurd ready
over_by (Failed f) (Some e) ready none = absurd ready

over_one : {X S : Type 0} (f : ImportFile X S) → IsReady f → next_entry f ≡ None
    → (standing_of f).ahead ≡ Over None
over_one (Closed s) ready none = absurd ready
over_one (Open r) ready none = over_by r.standing r.at_hand ready none
over_one Taken ready none = absurd ready

over_all : {X S : Type 0} (fs : List (ImportFile X S)) → AllByRecursion IsReady fs
    → AllByRecursion (λ f. next_entry f ≡ None) fs
    → AllByRecursion (λ s. s.ahead ≡ Over None) (standings fs)
over_all [] ready none = tt
over_all (f ∷ fs) ready none = (over_one f ready.0 none.0, over_all fs ready.1 none.1)

-- files that were opened stand at their first records
pub opened_ready : {X S : Type 0} (gave : S → List ℕ) (each : List (Option Flows))
    (olds news : List (ImportFile X S)) → AllOpened gave each olds news → AllReady news
opened_ready gave [] [] [] opened = tt
opened_ready gave [] [] (n ∷ ns) opened = absurd opened
opened_ready gave [] (o ∷ os) news opened = absurd opened
opened_ready gave (f ∷ fs) [] news opened = absurd opened
opened_ready gave (f ∷ fs) (o ∷ os) [] opened = absurd opened
opened_ready gave (f ∷ fs) (o ∷ os) (n ∷ ns) opened =
    (opened.0.ready, opened_ready gave fs os ns opened.1)

pub opened_fresh : {X S : Type 0} (gave : S → List ℕ) (each : List (Option Flows))
    (olds news : List (ImportFile X S)) → AllOpened gave each olds news
    → AllFresh (standings news)
opened_fresh gave [] [] [] opened = tt
opened_fresh gave [] [] (n ∷ ns) opened = absurd opened
opened_fresh gave [] (o ∷ os) news opened = absurd opened
opened_fresh gave (f ∷ fs) [] news opened = absurd opened
opened_fresh gave (f ∷ fs) (o ∷ os) [] opened = absurd opened
opened_fresh gave (f ∷ fs) (o ∷ os) (n ∷ ns) opened =
    (opened.0.fresh, opened_fresh gave fs os ns opened.1)

-- ---- the run

-- what was written of files, by what was read of them
pub record HasImported {X S : Type 0} (gave : S → List ℕ) (ended : S → Type 0)
    (olds news : List (ImportFile X S)) (each : List (Option Flows)) (text took took' : List ℕ)
    (w : Written) : Type 0
  where
    pub entries : List Entry
    pub few : length entries ≤ 16777216
    pub by_flows : (octets : List (List ℕ))
        → AllZip (WasRead (gave_by gave) (ended_by ended)) (zip olds news) octets
        → AllZip IsTakenBy each octets
    pub joined : (octets : List (List ℕ))
        → AllZip (WasRead (gave_by gave) (ended_by ended)) (zip olds news) octets
        → JoinsTo AreOver (strands_in each octets) entries
    pub left : (octets : List (List ℕ))
        → AllZip (WasRead (gave_by gave) (ended_by ended)) (zip olds news) octets
        → AreLeftOut news (omissions_in each octets)
    pub taken : took' ≡ took ++ (front_text Two text ++ records_text entries)
    pub a : w.a ≡ count_of_path A entries
    pub b : w.b ≡ count_of_path B entries

behind_front : (took mid took' front records : List ℕ) → mid ≡ took ++ front
    → took' ≡ mid ++ records → took' ≡ took ++ (front ++ records)
behind_front took mid took' front records first then =
    then ∙ ap (λ (l : List ℕ). l ++ records) first ∙ append_assoc took front records

pub has_imported : {X S : Type 0} (gave : S → List ℕ) (ended : S → Type 0)
    (each : List (Option Flows)) (olds mids news : List (ImportFile X S))
    (text took mid took' : List ℕ) (w : Written) → AllOpened gave each olds mids
    → map begun_of news ≡ map begun_of mids → AllByRecursion (HasKnownOctets gave ended) news
    → AllByRecursion IsReadByFlows news → mid ≡ took ++ front_text Two text
    → HasWrittenAll news mid took' w
    → HasImported gave ended olds news each text took took' w
has_imported gave ended each olds mids news text took mid took' w opened same known kind front
    joins =
    let had = joins.written in
    let over = over_all news joins.ready joins.over in
    let lay =
    all_lay gave ended each olds mids news opened same known (all_ready news joins.ready) in
    record {
      entries = had.entries;
      few = omega (arith, had.number, joins.few);
      by_flows = λ octets read.
          taken_all gave ended each olds mids news octets opened same known kind
          (all_ready news joins.ready) read;
      joined = λ octets read.
          joins_to AreOver (strands_in each octets) (standings news) had.entries
          (strands_whole (gave_by gave) (ended_by ended) (zip olds news) each (standings news) octets
          lay read) had.joined (λ left. all_over (standings news) left over);
      left = λ octets read.
          left_all gave ended each olds mids news octets opened same known joins.ready joins.over
          read;
      taken =
          behind_front took mid took' (front_text Two text) (records_text had.entries) front
          had.writes.text;
      a = omega (arith, had.writes.a);
      b = omega (arith, had.writes.b);
    }

-- where a record was joined no strand was at a fault before
comes_later : (moment : ℕ) (es : List Entry) (f : Option ReadingFault) → ComesLater moment es f
    → ComesNoFault es f
comes_later moment [] None is = tt
comes_later moment [] (Some f) is = absurd is
comes_later moment (e ∷ es) f is = tt

comes_no_sooner : (moment : ℕ) (es : List Entry) (f : Option ReadingFault)
    → ComesNoSooner moment es f → ComesNoFault es f
comes_no_sooner moment [] None is = tt
comes_no_sooner moment [] (Some f) is = absurd is
comes_no_sooner moment (e ∷ es) f is = tt

all_no_sooner : (moment : ℕ) (ss : List Strand)
    → AllByRecursion (λ t. ComesNoSooner moment t.entries t.fault) ss
    → AllByRecursion IsAtNoFault ss
all_no_sooner moment [] is = tt
all_no_sooner moment (s ∷ ss) is =
    (comes_no_sooner moment s.entries s.fault is.0, all_no_sooner moment ss is.1)

next_going : (ss : List Strand) (e : Entry) (left : List Strand) → IsJoinedNext ss e left
    → AllByRecursion IsAtNoFault ss
next_going [] e left next = absurd next
next_going (s ∷ ss) e [] next = absurd next
next_going (s ∷ ss) e (l ∷ ls) (inl next) =
    (subst IsAtNoFault (sym next.0) tt, all_no_sooner e.moment ss next.2)
next_going (s ∷ ss) e (l ∷ ls) (inr next) =
    (comes_later e.moment s.entries s.fault next.1, next_going ss e ls next.2)

joins_going : (ss : List Strand) (es : List Entry) (left : List Strand) → 0 < length es
    → JoinsByMoment ss es left → AllByRecursion IsAtNoFault ss
joins_going ss [] left lt joins = absurd (omega (arith, lt))
joins_going ss (e ∷ es) left lt joins = next_going ss e joins.0 joins.1

-- so none of the files was refused before its first record
all_begin : (each : List (Option Flows)) (octets : List (List ℕ)) → AllZip IsTakenBy each octets
    → AllByRecursion IsAtNoFault (strands_in each octets) → AllZip BeginsUnrefused each octets
all_begin [] [] taken going = tt
all_begin [] (o ∷ os) taken going = absurd taken
all_begin (f ∷ fs) [] taken going = absurd taken
all_begin (f ∷ fs) (o ∷ os) taken going =
    ((taken.0, going.0), all_begin fs os taken.1 going.1)

begin_joined : (Ends : List Strand → Type 0) (each : List (Option Flows)) (octets : List (List ℕ))
    (es : List Entry) → 0 < length es → AllZip IsTakenBy each octets
    → JoinsTo Ends (strands_in each octets) es → AllZip BeginsUnrefused each octets
begin_joined Ends each octets es some taken joins =
    all_begin each octets taken
    (joins_going (strands_in each octets) es joins.left some joins.joins)

pub has_stopped : {X S : Type 0} (gave : S → List ℕ) (ended : S → Type 0)
    (each : List (Option Flows)) (olds mids news : List (ImportFile X S))
    (text took mid took' : List ℕ) (r : Refusal) → AllOpened gave each olds mids
    → map begun_of news ≡ map begun_of mids → AllByRecursion (HasKnownOctets gave ended) news
    → AllByRecursion IsReadByFlows news → mid ≡ took ++ front_text Two text
    → StopsJoining r news mid took'
    → IsLateRefusal (WasRead (gave_by gave) (ended_by ended)) each text (zip olds news) took took' r
has_stopped gave ended each olds mids news text took mid took' r opened same known kind front
    (inl (f, told, had)) =
    let all = all_but f r news told had.ends.1 in
    let lay = all_lay gave ended each olds mids news opened same known all in
    let joined = λ (octets : List (List ℕ))
    (read : AllZip (WasRead (gave_by gave) (ended_by ended)) (zip olds news) octets).
    joins_to (OneAt f) (strands_in each octets) (standings news) had.entries
    (strands_whole (gave_by gave) (ended_by ended) (zip olds news) each (standings news) octets lay
    read) had.joined (at_fault f news had.ends.1) in
    inl (
      f,
      told,
      record {
        begun = λ octets read.
            begin_joined (OneAt f) each octets had.entries had.ends.0
            (taken_all gave ended each olds mids news octets opened same known kind all read)
            (joined octets read);
        entries = had.entries;
        joined = joined;
        number = tt;
        taken =
            behind_front took mid took' (front_text Two text) (records_text had.entries) front
            had.text;
      },
    )
has_stopped gave ended each olds mids news text took mid took' r opened same known kind front
    (inr (is, had)) =
    let all = all_ready news had.ends.1 in
    let lay = all_lay gave ended each olds mids news opened same known all in
    let joined = λ (octets : List (List ℕ))
    (read : AllZip (WasRead (gave_by gave) (ended_by ended)) (zip olds news) octets).
    joins_to GoFurther (strands_in each octets) (standings news) had.entries
    (strands_whole (gave_by gave) (ended_by ended) (zip olds news) each (standings news) octets lay
    read) had.joined
    (λ rs. (all_going news had.ends.1 rs, has_more (standings news) had.ends.2 rs)) in
    inr (
      is,
      record {
        begun = λ octets read.
            begin_joined GoFurther each octets had.entries (omega (arith, had.ends.0))
            (taken_all gave ended each olds mids news octets opened same known kind all read)
            (joined octets read);
        entries = had.entries;
        joined = joined;
        number = had.ends.0;
        taken =
            behind_front took mid took' (front_text Two text) (records_text had.entries) front
            had.text;
      },
    )

-- a text that was read whole was read
pub given_read : {most : ℕ} {before now text : List ℕ} {ended : Type 0}
    → GivesText most before now ended text → IsRead before now ended text
given_read {before = before} {now = now} {text = text} gives = record {
  behind = [];
  parts = sym (append-nil (since before now) ∙ since_is before now text gives.given);
  all = λ _. refl;
}

-- sources at two moments are as many as there were
pub zip_length : {S : Type 0} (xs ys : List S) → length ys ≡ length xs
    → length (zip xs ys) ≡ length xs
zip_length [] [] same = refl
zip_length [] (y ∷ ys) same = refl
zip_length (x ∷ xs) [] same = absurd (omega (arith, same))
zip_length (x ∷ xs) (y ∷ ys) same =
    let rest = zip_length xs ys (omega (arith, same)) in omega (arith, rest)

pub taken_of : {S : Type 0} (flows : Flows) (xs ys : List S) (each : List (Option Flows))
    → length ys ≡ length xs → TakesBy flows (length xs) each
    → TakesBy flows (length (zip xs ys)) each
taken_of flows xs ys each same taken =
    subst (λ (k : ℕ). TakesBy flows k each) (sym (zip_length xs ys same)) taken

pub imports : {X S : Type 0} (gave : S → List ℕ) (ended : S → Type 0) (a b : Option (List ℕ))
    (Said : List ℕ → Type 0) (olds news : List (ImportFile X S)) (each : List (Option Flows))
    (flows : Flows) (text took took' shown shown' : List ℕ) (r : ImportCounts) (n : ℕ)
    → HasImported gave ended olds news each text took took' (record { a = r.a; b = r.b })
    → Said text → IsCaptureText text → AsksFlows a b text flows → TakesBy flows (length (zip olds news)) each
    → ((os : List Omission) → AreLeftOut news os → r.left_out ≡ left_out_of os)
    → ((os : List Omission) → r.left_out ≡ left_out_of os → n ≡ capped (length os))
    → shown' ≡ shown ++ (line_text (line.Recorded r.a r.b n) ++ 10 ∷ [])
    → Imports a b Said (WasRead (gave_by gave) (ended_by ended)) (zip olds news) took took' shown
    shown' r
imports gave ended a b Said olds news each flows text took took' shown shown' r n has said described
    asked taken left total printed = record {
      text = text;
      flows = flows;
      each = each;
      entries = has.entries;
      said = said;
      described = described;
      asked = asked;
      taken_by = taken;
      by_flows = has.by_flows;
      joined = has.joined;
      few = has.few;
      taken = has.taken;
      by_a = has.a;
      by_b = has.b;
      left_out = λ octets read. left (omissions_in each octets) (has.left octets read);
      printed = λ octets read.
          let count : n ≡ capped (left_out_in each octets) =
          total (omissions_in each octets) (left (omissions_in each octets) (has.left octets read)) in
          printed ∙ ap (λ (l : Line). shown ++ (line_text l ++ 10 ∷ []))
          (ap (λ (k : ℕ). line.Recorded k r.b n) has.a
          ∙ ap (λ (k : ℕ). line.Recorded (count_of_path A has.entries) k n) has.b
          ∙ ap (λ (k : ℕ). line.Recorded (count_of_path A has.entries)
          (count_of_path B has.entries) k)
          count);
    }
