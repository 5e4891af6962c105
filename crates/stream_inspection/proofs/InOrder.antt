-- Files that are noted, one after the other.
use Rattle.std.proofs.Common.{◌≡◌, ◌∙◌, ℕ, zero, suc, ◌+◌, ◌≤◌, List, [], ◌∷◌, ◌++◌, length, take}
use Rattle.std.proofs.Common.{drop, Option, None, Some, Result, refl, ap, sym, subst, arith}
use Rattle.std.proofs.Common.{append_assoc, append-nil, inl, inr}
use Rattle.std.proofs.lemmas.List.{take_all}
use Rattle.std.specs.List.{AllZip, zip}
use Rattle.capture_engines.specs.Files.{first_way, other_ways, way_at}
use Rattle.capture_engines.specs.Received.{IsFileOpenedRefusal, StopsFront}
use Rattle.capture_engines.specs.Sent.{FirstIs}
use Rattle.capture_engines.proofs.InOrder.{At, NextPair, at_place, next_pair}
use Rattle.capture_engines.proofs.ReceivedRefusals.{HasStarted}
use Rattle.flow.specs.declared.flows.Flows.{Flows}
use Rattle.media_file.specs.Records.{Entry}
use Rattle.recording_reader.specs.declared.fault.ReadingFault.{ReadingFault}
use Rattle.run_outcome.specs.declared.refusal.Refusal.{Refusal}
use Rattle.run_outcome.proofs.Splits.{Split, split_tell}
use Rattle.stream_inspection.specs.Inspected.{IsInspected}
use Rattle.stream_inspection.specs.Read.{HasRecords, HaveRecords, IfEnd, IsFirstFront, IsSettled}
use Rattle.stream_inspection.specs.Read.{IsStartRefusal, MayBe, NotesFile, NotesFiles, NotesUpTo}
use Rattle.stream_inspection.specs.Read.{Settles}
use Rattle.stream_inspection.specs.declared.inspection.Inspection.{Inspection}
use Rattle.stream_inspection.specs.declared.target.Target.{Target}
use Rattle.stream_inspection.proofs.Readings.{if_end}

abbrev Ways : Type 0
Ways = List (Result Flows Refusal)

-- ---- one file more

have_more : (ways : Ways) (os : List (List ℕ)) (o : List ℕ) (rs r : List Entry)
    (end : Option ReadingFault) → HaveRecords ways os rs None
    → HasRecords (way_at ways (length os)) o r end
    → HaveRecords ways (os ++ o ∷ []) (rs ++ r) end
have_more ways [] o rs r end have one =
    subst (λ (l : List Entry). HasRecords (first_way ways) o (l ++ r) end) (sym have.0) one
have_more ways (p ∷ []) o rs r end have one = (rs, r, refl, have, one)
have_more ways (p ∷ (q ∷ os)) o rs r end have one = (
  have.0,
  have.1 ++ r,
  ap (λ (l : List Entry). l ++ r) have.2 ∙ append_assoc have.0 have.1 r,
  have.3,
  have_more (other_ways ways) (q ∷ os) o have.1 r end have.4 one,
)

settles_more : (before b a : Option Target) (os : List (List ℕ)) (o : List ℕ)
    → Settles before os b → Settles b (o ∷ []) a → Settles before (os ++ o ∷ []) a
settles_more (Some t) b a os o first second =
    subst (λ (x : Option Target). Settles x (o ∷ []) a) first second
settles_more None b a [] o first second =
    subst (λ (x : Option Target). Settles x (o ∷ []) a) first second
settles_more None b a (p ∷ os) o first second =
    (first.0, subst (λ (x : Option Target). Settles x (o ∷ []) a) first.1 second, first.2)

may_before : (b a : Option Target) (o : List ℕ) (t : Target) → Settles b (o ∷ []) a
    → MayBe a t → MayBe b t
may_before None a o t settles may = tt
may_before (Some u) a o t settles may =
    subst (λ (x : Option Target). MayBe x t) settles may

pub none_noted : {S A : Type 0} (ways : Ways) (told : S → List ℕ → Type 0) (b : Option Target)
    (s : Inspection A) → NotesFiles ways told [] None b b s s
none_noted ways told b s = record {
  records = [];
  settles = settles b;
  noted = λ octets tell. (
    none octets tell,
    λ t may earlier i.
        subst (λ (l : List Entry). IsInspected t s l) (sym (append-nil earlier)) i,
  );
}
  where
    settles : (b : Option Target) (octets : List (List ℕ)) → AllZip told [] octets
        → Settles b octets b
    settles (Some t) octets tell = refl
    settles None [] tell = refl
    settles None (o ∷ octets) tell = absurd tell

    none : (octets : List (List ℕ)) → AllZip told [] octets → HaveRecords ways octets [] None
    none [] tell = (refl, refl)
    none (o ∷ octets) tell = absurd tell

one_more : {S A : Type 0} (ways : Ways) (told : S → List ℕ → Type 0) (xs : List S) (x : S)
    (end : Option ReadingFault) (before b a : Option Target) (old mid new : Inspection A)
    → NotesFiles ways told xs None before b old mid
    → NotesFile (way_at ways (length xs)) (told x) end b a mid new
    → NotesFiles ways told (xs ++ x ∷ []) end before a old new
one_more ways told xs x end before b a old mid new files file = record {
  records = files.records ++ file.records;
  settles = λ octets tell.
      let s : Split told xs x octets = split_tell told xs x octets tell in
      subst (λ (l : List (List ℕ)). Settles before l a) (sym s.whole)
      (settles_more before b a s.front s.last (files.settles s.front s.tell)
      (file.settles s.last s.one));
  noted = λ octets tell.
      let s : Split told xs x octets = split_tell told xs x octets tell in
      let first = files.noted s.front s.tell in
      let last = file.noted s.last s.one in (
        subst (λ (l : List (List ℕ)). HaveRecords ways l (files.records ++ file.records) end)
            (sym s.whole)
            (have_more ways s.front s.last files.records file.records end first.0
            (subst (λ (k : ℕ). HasRecords (way_at ways k) s.last file.records end)
            (sym s.counted) last.0)),
        λ t may earlier i.
            subst (λ (l : List Entry). IsInspected t new l)
            (append_assoc earlier files.records file.records)
            (last.1 t may (earlier ++ files.records)
            (first.1 t (may_before b a s.last t (file.settles s.last s.one) may) earlier i)),
      );
}

-- ---- pairs of sources

-- so the files up to there were noted
pub more_noted : {S A : Type 0} (ways : Ways) (told : S × S → List ℕ → Type 0)
    (start now new : List S) (k : ℕ) (end : Option ReadingFault) (before b a : Option Target)
    (old mid newer : Inspection A)
    → NotesFiles ways told (zip (take k start) (take k now)) None before b old mid
    → take k new ≡ take k now → drop k now ≡ drop k start
    → FirstIs (λ s. NotesFile (way_at ways k) (told s) end b a mid newer)
    (zip (drop k now) (drop k new))
    → NotesFiles ways told (zip (take (k + 1) start) (take (k + 1) new)) end before a old newer
more_noted {S} ways told start now new k end before b a old mid newer files front behind one =
    let Is : S × S → Type 0 = λ s. NotesFile (way_at ways k) (told s) end b a mid newer in
    let n : NextPair Is start new k =
    next_pair Is start new k
    (subst (λ (l : List S). FirstIs Is (zip l (drop k new))) behind one) in
    let so_far : List (S × S) = zip (take k start) (take k new) in
    let earlier : NotesFiles ways told so_far None before b old mid =
    subst (λ (l : List S). NotesFiles ways told (zip (take k start) l) None before b old mid)
    (sym front) files in
    let next : NotesFile (way_at ways (length so_far)) (told n.next) end b a mid newer =
    subst (λ (m : ℕ). NotesFile (way_at ways m) (told n.next) end b a mid newer) (sym n.counted)
    n.is in
    let one_on : suc k ≡ k + 1 = omega arith in
    subst
    (λ (m : ℕ). NotesFiles ways told (zip (take m start) (take m new)) end before a old newer)
    one_on
    (subst (λ (l : List (S × S)). NotesFiles ways told l end before a old newer) (sym n.whole)
    (one_more ways told so_far n.next end before b a old mid newer earlier next))

-- all of them
pub all_noted : {S A : Type 0} (ways : Ways) (told : S × S → List ℕ → Type 0)
    (start now : List S) (k : ℕ) (before b : Option Target) (old new : Inspection A)
    → NotesFiles ways told (zip (take k start) (take k now)) None before b old new
    → length start ≤ k → length now ≡ length start
    → NotesFiles ways told (zip start now) None before b old new
all_noted {S} ways told start now k before b old new files all same =
    subst (λ (l : List S). NotesFiles ways told (zip l now) None before b old new)
    (take_all k start all)
    (subst (λ (l : List S). NotesFiles ways told (zip (take k start) l) None before b old new)
    (take_all k now (omega (arith, same, all))) files)

-- as many as there are up to a fault
take_zip : {S : Type 0} (n : ℕ) (xs ys : List S) → take n (zip xs ys) ≡ zip (take n xs) (take n ys)
take_zip zero xs ys = refl
take_zip (suc n) [] ys = refl
take_zip (suc n) (x ∷ xs) [] = refl
take_zip {S} (suc n) (x ∷ xs) (y ∷ ys) =
    ap (λ (l : List (S × S)). (x, y) ∷ l) (take_zip n xs ys)

pub up_to : {S A : Type 0} (ways : Ways) (told : S × S → List ℕ → Type 0)
    (start now new : List S) (k : ℕ) (f : ReadingFault) (before b a : Option Target)
    (old mid newer : Inspection A)
    → NotesFiles ways told (zip (take k start) (take k now)) None before b old mid
    → take k new ≡ take k now → drop k now ≡ drop k start
    → IfEnd (Some f) (FirstIs (λ s. NotesFile (way_at ways k) (told s) (Some f) b a mid newer)
    (zip (drop k now) (drop k new)))
    → IfEnd (Some f) (NotesUpTo ways told (zip start new) (Some f) before a old newer)
up_to {S} ways told start now new k f before b a old mid newer files front behind one =
    if_end (Some f)
    (FirstIs (λ s. NotesFile (way_at ways k) (told s) (Some f) b a mid newer)
    (zip (drop k now) (drop k new)))
    (NotesUpTo ways told (zip start new) (Some f) before a old newer)
    (λ is. (
      k + 1,
      subst (λ (l : List (S × S)). NotesFiles ways told l (Some f) before a old newer)
          (sym (take_zip (k + 1) start new))
          (more_noted ways told start now new k (Some f) before b a old mid newer files front
          behind is),
    ))
    one

-- ---- the first front that is refused

-- by its text only the first is refused, where nothing was begun with
turn : {S : Type 0} (ways : Ways) (told : S → List ℕ → Type 0) (front : List S) (k : ℕ)
    (before b : Option Target) (x : S) (r : Refusal) → length front ≡ k → HasStarted k before b
    → IsStartRefusal (way_at ways k) (b ≡ None) (told x) r
    → IsStartRefusal (way_at ways (length front)) ((before ≡ None) × (front ≡ [])) (told x) r
turn ways told front k before b x r counted started (inl stops) =
    inl (subst (λ (n : ℕ). StopsFront (way_at ways n) (told x) r) (sym counted) stops)
turn ways told front k before b x r counted (inl started) (inr opened) =
    inr (
      (sym started.1 ∙ opened.0, empty front (counted ∙ started.0)),
      subst (λ (n : ℕ). IsFileOpenedRefusal (0 ∷ []) (way_at ways n) (told x) r) (sym counted)
          opened.1,
    )
  where
    empty : {T : Type 0} (xs : List T) → length xs ≡ 0 → xs ≡ []
    empty [] is = refl
    empty (y ∷ ys) is = absurd (omega (arith, is))
turn ways told front k before b x r counted (inr started) (inr opened) =
    absurd (started opened.0)

-- the files before it were noted to their ends
pub first_front : {S A : Type 0} (ways : Ways) (told : S × S → List ℕ → Type 0)
    (start now new : List S) (k : ℕ) (before b : Option Target) (old mid : Inspection A)
    → NotesFiles ways told (zip (take k start) (take k now)) None before b old mid
    → take k new ≡ take k now → drop k now ≡ drop k start → HasStarted k before b → (r : Refusal)
    → FirstIs (λ s. IsStartRefusal (way_at ways k) (b ≡ None) (told s) r)
    (zip (drop k now) (drop k new))
    → IsFirstFront (before ≡ None) (IsSettled before) ways told (zip start new) r
first_front {S} ways told start now new k before b old mid files front behind started r one =
    let Is : S × S → Type 0 = λ s. IsStartRefusal (way_at ways k) (b ≡ None) (told s) r in
    let place : At Is start new k =
    at_place Is start new k (subst (λ (l : List S). FirstIs Is (zip l (drop k new))) behind one) in
    let so_far : List (S × S) = zip (take k start) (take k new) in
    let earlier : NotesFiles ways told so_far None before b old mid =
    subst (λ (l : List S). NotesFiles ways told (zip (take k start) l) None before b old mid)
    (sym front) files in
    record {
      front = so_far;
      at = place.next;
      behind = place.behind;
      parts = place.parts;
      known = λ octets read. (b, earlier.settles octets read);
      whole = λ octets read. (earlier.records, (earlier.noted octets read).0);
      refused = turn ways told so_far k before b place.next r place.counted started place.is;
    }
