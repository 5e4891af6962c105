-- A loop that moves records from a source to a sink.
use Rattle.std.proofs.Common.{◌≡◌, ℕ, zero, suc, ◌+◌, ◌-◌, List, [], ◌∷◌, ◌++◌, length, Option}
use Rattle.std.proofs.Common.{None, Some, Result, Ok, Err, append_assoc, append-nil, refl, sym, ap}
use Rattle.std.proofs.Common.{◌∙◌, subst, inl, inr, arith}
use Rattle.std.specs.Prelude.{⊤, IfErr}
use Rattle.std.specs.Io.KnownBytes.{Appends, Consumes, IsAtEnd, Keeps}
use Rattle.std.proofs.KnownBytes.{Appends-nil, Appends-trans, Consumes-kept, Consumes-trans}
use Rattle.std.proofs.lemmas.List.{length-append}
use Rattle.st_format.specs.Device.{AppendsPrefix, CountsOne}
use Rattle.media_file.specs.Capture.{records_at}
use Rattle.media_file.specs.declared.front.Version.{Version}
use Rattle.media_file.specs.declared.front.Version.TheVariants.{One, Two}
use Rattle.media_file.specs.declared.fault.FileFault.{FileFault}
use Rattle.media_file.specs.declared.fault.FileFault.TheVariants.{Device, BadName}
use Rattle.media_file.specs.declared.fault.FileFault.TheVariants.{BadVersion, Truncated, BadField}
use Rattle.media_file.specs.declared.fault.FileFault.TheVariants.{TooManyRecords}
use Rattle.media_file.specs.Faults.{CountsFault, IfContent, IsDevice, IsOfFront, file_fault_origin}
use Rattle.media_file.specs.Fields.{Fails, GivesPart}
use Rattle.st_format.specs.Given.{Takes}
use Rattle.media_file.specs.Fronts.{capture_name, front_text, kind_at, kind_text}
use Rattle.media_file.specs.Migrated.{IsOfCapture, Migrated, MovesAll, Stops}
use Rattle.media_file.specs.Migrated.{StopsAtFault, StopsReading, StopsWriting, devices}
use Rattle.media_file.specs.Migrated.{new_behind, new_by, new_records, new_text, old_at, old_by}
use Rattle.media_file.specs.Reading.{entries_by, entries_up_to, rest_at}
use Rattle.media_file.specs.Records.{AllFit, Entry, Fits, record_text, records_text, rest_text}
use Rattle.media_file.specs.Source.{FailsRest, IfTold, IsOfRecord, ReadsRest}
use Rattle.media_file.proofs.Entries.{rest_again}
use Rattle.media_file.proofs.Found.{kind_takes}
use Rattle.media_file.proofs.Loops.{GoesOn, goes_on_end, goes_on_more, one_less}
use Rattle.media_file.proofs.Splits.{kind_again}
use Rattle.media_file.proofs.Written.{prefix_first, prefix_then, records_append}
use Rattle.st_format.proofs.Origins.{if_content}
use Rattle.st_format.proofs.Parsing.{fails_first, fails_then, gives_then}

pub record MovesSoFar (limit left : ℕ)
    (source_old source_now held_old held_now : Option (List ℕ)) : Type 0 where
  pub entries : List Entry
  pub fit : AllFit entries
  pub goes : GoesOn limit source_old left entries source_now
  pub given : Consumes source_old source_now (records_text entries)
  pub written : Appends held_old held_now (records_text entries)
  pub counted : length entries + left ≡ limit

-- a record more was read
record_given : (now mid new : Option (List ℕ)) (first : ℕ) (e : Entry)
    → Consumes now mid (first ∷ []) → ReadsRest first mid new e → Consumes now new (record_text e)
record_given now mid new first e p is =
    subst (λ (n : ℕ). Consumes now new (n ∷ rest_text e)) is.first_is
    (Consumes-trans now mid new (first ∷ []) (rest_text e) p is.given)

pub one_text : (es : List Entry) (e : Entry)
    → records_text es ++ record_text e ≡ records_text (es ++ e ∷ [])
one_text es e =
    sym (records_append es (e ∷ [])
    ∙ ap (λ (t : List ℕ). records_text es ++ t) (append-nil (record_text e)))

pub fit_more : (es : List Entry) (e : Entry) → AllFit es → Fits e → AllFit (es ++ e ∷ [])
fit_more [] e fit fits = (fits, tt)
fit_more (d ∷ es) e fit fits = (fit.0, fit_more es e fit.1 fits)

pub moves_more : (limit left : ℕ)
    (source_old now mid new held_old held_now held_new : Option (List ℕ)) (first : ℕ) (e : Entry)
    → (left ≡ 0 → ⊥) → MovesSoFar limit left source_old now held_old held_now
    → Consumes now mid (first ∷ []) → ReadsRest first mid new e
    → Appends held_now held_new (record_text e)
    → MovesSoFar limit (left - 1) source_old new held_old held_new
moves_more limit left source_old now mid new held_old held_now held_new first e some m p is w =
    record {
      entries = m.entries ++ e ∷ [];
      fit = fit_more m.entries e m.fit is.fits;
      goes =
          goes_on_more limit (left - 1) source_old now mid new m.entries first e
          (one_less limit left source_old now m.entries some m.goes) p is;
      given =
          subst (Consumes source_old new) (one_text m.entries e)
          (Consumes-trans source_old now new (records_text m.entries) (record_text e) m.given
          (record_given now mid new first e p is));
      written =
          subst (Appends held_old held_new) (one_text m.entries e)
          (Appends-trans held_old held_now held_new (records_text m.entries)
          (record_text e) m.written w);
      counted = omega (arith, length-append m.entries (e ∷ []), m.counted);
    }

pub moves_end : (limit left : ℕ) (source_old now new held_old held_now : Option (List ℕ))
    → MovesSoFar limit left source_old now held_old held_now → Consumes now new [] → IsAtEnd new
    → MovesAll limit (limit - left) source_old new held_old held_now
moves_end limit left source_old now new held_old held_now m p e = record {
  entries = m.entries;
  read = goes_on_end limit left source_old now new m.entries m.goes p e;
  counted = omega (arith, m.counted);
  written = m.written;
}

-- ---- what is written of octets that begin with records

entries_none : (left : ℕ) → entries_up_to left [] ≡ []
unfolding entries_up_to
entries_none zero = refl
entries_none (suc left) = refl

entries_bad : (left first : ℕ) (part : List ℕ) (f : FileFault) → rest_at first part ≡ Err f
    → entries_up_to left (first ∷ part) ≡ []
unfolding entries_up_to
entries_bad zero first part f bad = refl
entries_bad (suc left) first part f bad =
    ap (λ (r : Result (Entry × List ℕ) FileFault). entries_by r (entries_up_to left)) bad

entries_full : (octets : List ℕ) → entries_up_to 0 octets ≡ []
unfolding entries_up_to
entries_full octets = refl

entries_then : (es : List Entry) (n left : ℕ) (rest : List ℕ) → AllFit es → n ≡ length es + left
    → entries_up_to n (records_text es ++ rest) ≡ es ++ entries_up_to left rest
unfolding entries_up_to
entries_then [] n left rest fit is =
    let same : n ≡ left = omega (arith, is) in
    ap (λ (k : ℕ). entries_up_to k rest) same
entries_then (e ∷ es) n left rest fit is =
    let m : ℕ = length es + left in
    let some : n ≡ suc m = omega (arith, is) in
    let more : List ℕ = records_text es ++ rest in
    ap (λ (k : ℕ). entries_up_to k (records_text (e ∷ es) ++ rest)) some
    ∙ ap (entries_up_to (suc m)) (append_assoc (record_text e) (records_text es) rest)
    ∙ ap (λ (r : Result (Entry × List ℕ) FileFault). entries_by r (entries_up_to m))
    (rest_again e more fit.0)
    ∙ ap (λ (xs : List Entry). e ∷ xs) (entries_then es m left rest fit.1 refl)

-- where none stands behind them, or no more are taken
moved_first : (es : List Entry) (n left : ℕ) (rest : List ℕ) → AllFit es → length es + left ≡ n
    → entries_up_to left rest ≡ [] → new_records n (records_text es ++ rest) ≡ records_text es
moved_first es n left rest fit is none =
    ap records_text (entries_then es n left rest fit (sym is)
    ∙ ap (λ (xs : List Entry). es ++ xs) none ∙ append-nil es)

moved_all : (es : List Entry) (n left : ℕ) → AllFit es → length es + left ≡ n
    → new_records n (records_text es) ≡ records_text es
moved_all es n left fit is =
    ap (new_records n) (sym (append-nil (records_text es)))
    ∙ moved_first es n left [] fit is (entries_none left)

moved_then : (es : List Entry) (n left : ℕ) (rest : List ℕ) → AllFit es → length es + left ≡ n
    → new_records n (records_text es ++ rest) ≡ records_text es ++ new_records left rest
moved_then es n left rest fit is =
    ap records_text (entries_then es n left rest fit (sym is))
    ∙ records_append es (entries_up_to left rest)

-- ---- where a loop stops

-- no record stands where the loop is
stops_behind : (limit left : ℕ) (old now new held_old held_now : Option (List ℕ)) (s t h k : ℕ)
    → MovesSoFar limit left old now held_old held_now
    → IfTold now (λ rest. entries_up_to left rest ≡ [])
    → StopsAtFault (new_records limit) (devices old s held_old h) (devices new t held_now k)
stops_behind limit left None now new held_old held_now s t h k m none = record {
  octets = records_text m.entries;
  told = tt;
  written =
      subst (Appends held_old held_now) (sym (moved_all m.entries limit left m.fit m.counted))
      m.written;
}
stops_behind limit left (Some o) None new held_old held_now s t h k m none = absurd m.given
stops_behind limit left (Some o) (Some rest) new held_old held_now s t h k m none = record {
  octets = records_text m.entries ++ rest;
  told = m.given;
  written =
      subst (Appends held_old held_now)
      (sym (moved_first m.entries limit left rest m.fit m.counted none)) m.written;
}

none_full : (now : Option (List ℕ)) → IfTold now (λ rest. entries_up_to 0 rest ≡ [])
none_full None = tt
none_full (Some rest) = entries_full rest

none_bad : (left first : ℕ) (now mid : Option (List ℕ)) (f : FileFault)
    → Consumes now mid (first ∷ []) → IfTold mid (λ octets. rest_at first octets ≡ Err f)
    → IfTold now (λ rest. entries_up_to left rest ≡ [])
none_bad left first None mid f p bad = tt
none_bad left first (Some n) None f p bad = absurd p
none_bad left first (Some n) (Some m) f p bad =
    ap (entries_up_to left) p ∙ entries_bad left first m f bad

-- a record too many
pub stops_full : (limit : ℕ) (old now new held_old held_now : Option (List ℕ)) (s t h k : ℕ)
    → MovesSoFar limit 0 old now held_old held_now
    → Stops (new_records limit) TooManyRecords (devices old s held_old h) (devices new t held_now k)
stops_full limit old now new held_old held_now s t h k m =
    stops_behind limit 0 old now new held_old held_now s t h k m (none_full now)

-- the source failed at the front of a record
stops_begin : (limit left : ℕ) (old now new held_old held_now : Option (List ℕ)) (s t h k : ℕ)
    → MovesSoFar limit left old now held_old held_now → Keeps now new → CountsOne s t → k ≡ h
    → StopsReading (new_records limit) (devices old s held_old h) (devices new t held_now k)
stops_begin limit left old now new held_old held_now s t h k m keeps fails works = record {
  source = fails;
  sink = works;
  octets = records_text m.entries;
  given = Consumes-kept old now new (records_text m.entries) m.given keeps;
  written =
      subst (Appends held_old held_now) (sym (moved_all m.entries limit left m.fit m.counted))
      m.written;
}

pub stops_device : (limit left : ℕ) (old now new held_old held_now : Option (List ℕ))
    (s s' t h k : ℕ) (f : FileFault) → MovesSoFar limit left old now held_old held_now
    → IsDevice f → Keeps now new → s' ≡ s → CountsFault f s' t → k ≡ h
    → Stops (new_records limit) f (devices old s held_old h) (devices new t held_now k)
stops_device limit left old now new held_old held_now s s' t h k Device m is keeps same counts
    works =
    inl (stops_begin limit left old now new held_old held_now s t h k m keeps
    (subst (λ (n : ℕ). CountsOne n t) same counts) works)
stops_device limit left old now new held_old held_now s s' t h k f m is keeps same counts works =
    absurd is

-- the source failed within a record
stops_within : (limit left : ℕ) (old now mid new held_old held_now : Option (List ℕ))
    (s t h k first : ℕ) → MovesSoFar limit left old now held_old held_now
    → Consumes now mid (first ∷ []) → GivesPart (rest_at first) mid new → CountsOne s t → k ≡ h
    → StopsReading (new_records limit) (devices old s held_old h) (devices new t held_now k)
stops_within limit left old now mid new held_old held_now s t h k first m p part fails works =
    record {
      source = fails;
      sink = works;
      octets = records_text m.entries ++ (first ∷ part.part);
      given =
          Consumes-trans old now new (records_text m.entries) (first ∷ part.part) m.given
          (Consumes-trans now mid new (first ∷ []) part.part p part.given);
      written =
          subst (Appends held_old held_now)
          (sym (moved_first m.entries limit left (first ∷ part.part) m.fit m.counted
          (entries_bad left first part.part part.fault part.none))) m.written;
    }

-- a fault of a record, or of the source within it
pub stops_record : (limit left : ℕ) (old now mid new held_old held_now : Option (List ℕ))
    (s t h k first : ℕ) (f : FileFault) → MovesSoFar limit left old now held_old held_now
    → Consumes now mid (first ∷ []) → FailsRest f first mid → GivesPart (rest_at first) mid new
    → CountsFault f s t → k ≡ h
    → Stops (new_records limit) f (devices old s held_old h) (devices new t held_now k)
stops_record limit left old now mid new held_old held_now s t h k first f m p is part counts works =
    by f is counts
  where
    by : (f : FileFault) → FailsRest f first mid → CountsFault f s t
        → Stops (new_records limit) f (devices old s held_old h) (devices new t held_now k)
    by Device is counts =
        inl (stops_within limit left old now mid new held_old held_now s t h k first m p part
        counts works)
    by Truncated is counts =
        stops_behind limit left old now new held_old held_now s t h k m
        (none_bad left first now mid Truncated p is.content)
    by BadField is counts =
        stops_behind limit left old now new held_old held_now s t h k m
        (none_bad left first now mid BadField p is.content)
    by f is counts = absurd is.named

-- the sink failed
stops_part : (limit left : ℕ) (old new held_old held_new : Option (List ℕ)) (s t h k : ℕ)
    (es : List Entry) → AllFit es → length es + left ≡ limit → Consumes old new (records_text es)
    → AppendsPrefix held_old held_new (records_text es) → t ≡ s → CountsOne h k
    → StopsWriting (new_records limit) (devices old s held_old h) (devices new t held_new k)
stops_part limit left None new held_old held_new s t h k es fit is given w works fails = record {
  source = works;
  sink = fails;
  octets = records_text es;
  told = tt;
  written = subst (AppendsPrefix held_old held_new) (sym (moved_all es limit left fit is)) w;
}
stops_part limit left (Some o) None held_old held_new s t h k es fit is given w works fails =
    absurd given
stops_part limit left (Some o) (Some rest) held_old held_new s t h k es fit is given w works fails =
    record {
      source = works;
      sink = fails;
      octets = records_text es ++ rest;
      told = given;
      written =
          subst (AppendsPrefix held_old held_new) (sym (moved_then es limit left rest fit is))
          (prefix_first held_old held_new (records_text es) (new_records left rest) w);
    }

pub stops_write : (limit left : ℕ) (old now mid new held_old held_now held_new : Option (List ℕ))
    (s t h k first : ℕ) (e : Entry) → (left ≡ 0 → ⊥)
    → MovesSoFar limit left old now held_old held_now → Consumes now mid (first ∷ [])
    → ReadsRest first mid new e → AppendsPrefix held_now held_new (record_text e)
    → t ≡ s → CountsOne h k
    → Stops (new_records limit) Device (devices old s held_old h) (devices new t held_new k)
stops_write limit left old now mid new held_old held_now held_new s t h k first e some m p is w
    works fails =
    inr (stops_part limit (left - 1) old new held_old held_new s t h k (m.entries ++ e ∷ [])
    (fit_more m.entries e m.fit is.fits)
    (omega (arith, length-append m.entries (e ∷ []), m.counted, some))
    (subst (Consumes old new) (one_text m.entries e)
    (Consumes-trans old now new (records_text m.entries) (record_text e) m.given
    (record_given now mid new first e p is)))
    (subst (AppendsPrefix held_old held_new) (one_text m.entries e)
    (prefix_then held_old held_now held_new (records_text m.entries) (record_text e) m.written w))
    works fails)

-- ---- with the front

-- version 01
pub old_fails : (limit : ℕ) (old mid : Option (List ℕ)) (f : FileFault)
    → Takes (kind_at capture_name) old mid One → Fails (records_at limit) mid f
    → Fails (old_at limit) old f
unfolding old_at
old_fails limit old mid f p q =
    fails_then file_fault_origin (kind_at capture_name) (λ v. old_by v limit) old mid One f p q

pub old_fails_all : (limit : ℕ) (old mid : Option (List ℕ)) (r : Result ℕ FileFault)
    → Takes (kind_at capture_name) old mid One → IfErr r (λ f. Fails (records_at limit) mid f)
    → IfErr r (λ f. Fails (old_at limit) old f)
old_fails_all limit old mid (Ok n) p q = tt
old_fails_all limit old mid (Err f) p q = old_fails limit old mid f p q

pub old_gives : (limit : ℕ) (old mid new : Option (List ℕ)) (es : List Entry)
    → Takes (kind_at capture_name) old mid One → Takes (records_at limit) mid new es
    → Takes (old_at limit) old new es
unfolding old_at
old_gives limit old mid new es p q =
    gives_then (kind_at capture_name) (λ v. old_by v limit) old mid new One es p q

pub old_cut : (limit : ℕ) (old : Option (List ℕ)) (f : FileFault)
    → Fails (kind_at capture_name) old f → Fails (old_at limit) old f
unfolding old_at
old_cut limit old f p =
    fails_first file_fault_origin (kind_at capture_name) (λ v. old_by v limit) old f p

newer : (limit : ℕ) (mid : Option (List ℕ)) → Fails (old_by Two limit) mid BadVersion
newer limit None = tt
newer limit (Some m) = refl

pub old_newer : (limit : ℕ) (old mid : Option (List ℕ)) → Takes (kind_at capture_name) old mid Two
    → Fails (old_at limit) old BadVersion
unfolding old_at
old_newer limit old mid p =
    fails_then file_fault_origin (kind_at capture_name) (λ v. old_by v limit) old mid Two BadVersion
    p
    (newer limit mid)

-- ---- what is written, with the front

-- of octets that begin no capture
none_new : (limit : ℕ) (text octets : List ℕ) (f : FileFault)
    → kind_at capture_name octets ≡ Err f → new_text limit text octets ≡ []
unfolding new_text
none_new limit text octets f e =
    ap (λ (r : Result (Version × List ℕ) FileFault). new_behind r limit text) e

-- of a capture of a version
of_kind : (limit : ℕ) (text octets rest : List ℕ) (v : Version)
    → kind_at capture_name octets ≡ Ok (v, rest)
    → new_text limit text octets ≡ new_by v limit text rest
unfolding new_text
of_kind limit text octets rest v e =
    ap (λ (r : Result (Version × List ℕ) FileFault). new_behind r limit text) e

of_front : (limit : ℕ) (text rest : List ℕ)
    → new_text limit text (kind_text capture_name One ++ rest)
    ≡ front_text Two text ++ new_records limit rest
of_front limit text rest =
    of_kind limit text (kind_text capture_name One ++ rest) rest One (kind_again One rest)

-- a fault of name and version, or of the source within them
pub stops_kind : (limit : ℕ) (text : List ℕ) (old new held : Option (List ℕ)) (s t h : ℕ)
    (f : FileFault) → IsOfFront f → Fails (kind_at capture_name) old f
    → GivesPart (kind_at capture_name) old new → CountsFault f s t
    → Stops (new_text limit text) f (devices old s held h) (devices new t held h)
stops_kind limit text old new held s t h f front fails part counts = by f front fails counts
  where
    nothing : (octets : List ℕ) (f : FileFault) → kind_at capture_name octets ≡ Err f
        → Appends held held (new_text limit text octets)
    nothing octets f none =
        subst (Appends held held) (sym (none_new limit text octets f none)) (Appends-nil held)

    untold : StopsAtFault (new_text limit text) (devices None s held h) (devices new t held h)
    untold = record {
      octets = part.part;
      told = tt;
      written = nothing part.part part.fault part.none;
    }

    told : (o : List ℕ) (f : FileFault) → kind_at capture_name o ≡ Err f
        → StopsAtFault (new_text limit text) (devices (Some o) s held h) (devices new t held h)
    told o f none = record { octets = o; told = refl; written = nothing o f none }

    at_fault : (old : Option (List ℕ)) (f : FileFault)
        → IfTold old (λ octets. kind_at capture_name octets ≡ Err f)
        → StopsAtFault (new_text limit text) (devices old s held h) (devices new t held h)
    at_fault None f none = untold
    at_fault (Some o) f none = told o f none

    content : (old : Option (List ℕ)) (f : FileFault) → Fails (kind_at capture_name) old f
        → IfContent f (IfTold old (λ octets. kind_at capture_name octets ≡ Err f))
    content None f p = if_content file_fault_origin f ⊤ tt
    content (Some o) f p = p

    by : (f : FileFault) → IsOfFront f → Fails (kind_at capture_name) old f → CountsFault f s t
        → Stops (new_text limit text) f (devices old s held h) (devices new t held h)
    by Device front fails counts = inl (record {
      source = counts;
      sink = refl;
      octets = part.part;
      given = part.given;
      written = nothing part.part part.fault part.none;
    })
    by BadName front fails counts = at_fault old BadName (content old BadName fails)
    by BadVersion front fails counts = at_fault old BadVersion (content old BadVersion fails)
    by Truncated front fails counts = at_fault old Truncated (content old Truncated fails)
    by f front fails counts = absurd front

-- a capture of version 02
pub stops_newer : (limit : ℕ) (text : List ℕ) (old mid new held : Option (List ℕ)) (s t h : ℕ)
    → Takes (kind_at capture_name) old mid Two
    → Stops (new_text limit text) BadVersion (devices old s held h) (devices new t held h)
stops_newer limit text None mid new held s t h p =
    let octets : List ℕ = kind_text capture_name Two ++ [] in
    record {
      octets = octets;
      told = tt;
      written =
          subst (Appends held held)
          (sym (of_kind limit text octets [] Two (kind_again Two []))) (Appends-nil held);
    }
stops_newer limit text (Some o) None new held s t h p = absurd p
stops_newer limit text (Some o) (Some m) new held s t h p = record {
  octets = o;
  told = refl;
  written =
      subst (Appends held held) (sym (of_kind limit text o m Two p)) (Appends-nil held);
}

-- what was read of version 01
kind_given : (old mid : Option (List ℕ)) → Takes (kind_at capture_name) old mid One
    → Consumes old mid (kind_text capture_name One)
kind_given None mid p = tt
kind_given (Some o) None p = absurd p
kind_given (Some o) (Some m) p = kind_takes capture_name o (One, m) p

kind_told : (old mid : Option (List ℕ)) (octets : List ℕ)
    → Takes (kind_at capture_name) old mid One → IfTold mid (λ all. all ≡ octets)
    → IfTold old (λ all. all ≡ kind_text capture_name One ++ octets)
kind_told None mid octets p told = tt
kind_told (Some o) None octets p told = absurd p
kind_told (Some o) (Some m) octets p told =
    kind_takes capture_name o (One, m) p
    ∙ ap (λ (t : List ℕ). kind_text capture_name One ++ t) told

abbrev rest_or : Option (List ℕ) → List ℕ
rest_or None = []
rest_or (Some rest) = rest

told_or : (mid : Option (List ℕ)) → IfTold mid (λ all. all ≡ rest_or mid)
told_or None = tt
told_or (Some rest) = refl

-- the sink failed at the front
pub stops_front : (limit : ℕ) (text : List ℕ) (old mid held_old held_new : Option (List ℕ))
    (s t h k : ℕ) → Takes (kind_at capture_name) old mid One
    → AppendsPrefix held_old held_new (front_text Two text) → t ≡ s → CountsOne h k
    → Stops (new_text limit text) Device (devices old s held_old h) (devices mid t held_new k)
stops_front limit text old mid held_old held_new s t h k p w works fails = inr (record {
  source = works;
  sink = fails;
  octets = kind_text capture_name One ++ rest_or mid;
  told = kind_told old mid (rest_or mid) p (told_or mid);
  written =
      subst (AppendsPrefix held_old held_new) (sym (of_front limit text (rest_or mid)))
      (prefix_first held_old held_new (front_text Two text) (new_records limit (rest_or mid)) w);
})

-- the records behind the front
pub stops_behind_front : (limit : ℕ) (text : List ℕ)
    (old mid new held_old held_mid held_new : Option (List ℕ)) (s s' t h h' k : ℕ) (f : FileFault)
    → Takes (kind_at capture_name) old mid One → Appends held_old held_mid (front_text Two text)
    → s' ≡ s → h' ≡ h
    → Stops (new_records limit) f (devices mid s' held_mid h') (devices new t held_new k)
    → Stops (new_text limit text) f (devices old s held_old h) (devices new t held_new k)
stops_behind_front limit text old mid new held_old held_mid held_new s s' t h h' k f p w same same'
    = by f
  where
    written : (octets : List ℕ) → Appends held_mid held_new (new_records limit octets)
        → Appends held_old held_new (new_text limit text (kind_text capture_name One ++ octets))
    written octets more =
        subst (Appends held_old held_new) (sym (of_front limit text octets))
        (Appends-trans held_old held_mid held_new (front_text Two text)
        (new_records limit octets) w more)

    at_fault : StopsAtFault (new_records limit) (devices mid s' held_mid h')
        (devices new t held_new k)
        → StopsAtFault (new_text limit text) (devices old s held_old h) (devices new t held_new k)
    at_fault is = record {
      octets = kind_text capture_name One ++ is.octets;
      told = kind_told old mid is.octets p is.told;
      written = written is.octets is.written;
    }

    reading : StopsReading (new_records limit) (devices mid s' held_mid h')
        (devices new t held_new k)
        → StopsReading (new_text limit text) (devices old s held_old h) (devices new t held_new k)
    reading is = record {
      source = subst (λ (n : ℕ). CountsOne n t) same is.source;
      sink = is.sink ∙ same';
      octets = kind_text capture_name One ++ is.octets;
      given =
          Consumes-trans old mid new (kind_text capture_name One) is.octets
          (kind_given old mid p) is.given;
      written = written is.octets is.written;
    }

    writing : StopsWriting (new_records limit) (devices mid s' held_mid h')
        (devices new t held_new k)
        → StopsWriting (new_text limit text) (devices old s held_old h) (devices new t held_new k)
    writing is = record {
      source = is.source ∙ same;
      sink = subst (λ (n : ℕ). CountsOne n k) same' is.sink;
      octets = kind_text capture_name One ++ is.octets;
      told = kind_told old mid is.octets p is.told;
      written =
          subst (AppendsPrefix held_old held_new) (sym (of_front limit text is.octets))
          (prefix_then held_old held_mid held_new (front_text Two text)
          (new_records limit is.octets) w is.written);
    }

    by : (f : FileFault)
        → Stops (new_records limit) f (devices mid s' held_mid h') (devices new t held_new k)
        → Stops (new_text limit text) f (devices old s held_old h) (devices new t held_new k)
    by Device (inl is) = inl (reading is)
    by Device (inr is) = inr (writing is)
    by f is = at_fault is

pub stops_all : (limit : ℕ) (text : List ℕ)
    (old mid new held_old held_mid held_new : Option (List ℕ)) (s s' t h h' k : ℕ)
    (r : Result ℕ FileFault) → Takes (kind_at capture_name) old mid One
    → Appends held_old held_mid (front_text Two text) → s' ≡ s → h' ≡ h
    → IfErr r (λ f. Stops (new_records limit) f (devices mid s' held_mid h')
    (devices new t held_new k))
    → IfErr r (λ f. Stops (new_text limit text) f (devices old s held_old h)
    (devices new t held_new k))
stops_all limit text old mid new held_old held_mid held_new s s' t h h' k (Ok n) p w same same' is =
    tt
stops_all limit text old mid new held_old held_mid held_new s s' t h h' k (Err f) p w same same'
    is =
    stops_behind_front limit text old mid new held_old held_mid held_new s s' t h h' k f p w same
    same' is

-- ---- which faults there are

pub front_named : (f : FileFault) → IsOfFront f → IsOfCapture f
front_named Device is = tt
front_named BadName is = tt
front_named BadVersion is = tt
front_named Truncated is = tt
front_named f is = absurd is

pub record_named : (f : FileFault) → IsOfRecord f → IsOfCapture f
record_named Device is = tt
record_named Truncated is = tt
record_named BadField is = tt
record_named f is = absurd is

pub migrates : (limit n : ℕ) (text : List ℕ)
    (old mid new held_old held_mid held_new : Option (List ℕ))
    → Takes (kind_at capture_name) old mid One → Appends held_old held_mid (front_text Two text)
    → MovesAll limit n mid new held_mid held_new
    → Migrated limit n text old new held_old held_new
migrates limit n text old mid new held_old held_mid held_new p a m = record {
  entries = m.entries;
  read = old_gives limit old mid new m.entries p m.read;
  counted = m.counted;
  written =
      Appends-trans held_old held_mid held_new (front_text Two text)
      (records_text m.entries) a m.written;
}
