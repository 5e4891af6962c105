-- Which refusal of files comes first.
use Rattle.std.proofs.Common.{◌≡◌, ◌∙◌, ℕ, zero, suc, ◌+◌, ◌<◌, ◌≤◌, inl, inr, List, [], ◌∷◌}
use Rattle.std.proofs.Common.{◌++◌, Option, None, Some, Result, Ok, Err, drop, false, length, refl}
use Rattle.std.proofs.Common.{sym, ap, subst, arith, take, true}
use Rattle.std.specs.List.{zip}
use Rattle.std.specs.Prelude.{IfErr, IsSome, MatchOption, OnOk, ⊤}
use Rattle.flow.specs.declared.flows.Flows.{Flows}
use Rattle.media_file.specs.Records.{Entry}
use Rattle.media_file.specs.declared.fault.FileFault.TheVariants as file
use Rattle.pcap_file.specs.declared.fault.RecordingFault.TheVariants as recording
use Rattle.recording_reader.specs.FileReader.{FileReader, HasGivenFile, HasGivenRecords}
use Rattle.recording_reader.specs.Files.{HaveFileRecords, IfFile, IsFileFault, records_of_file}
use Rattle.recording_reader.specs.declared.fault.ReadingFault.{ReadingFault}
use Rattle.recording_reader.specs.declared.fault.ReadingFault.TheVariants.{Capture, Recording}
use Rattle.recording_reader.specs.declared.way.Standing.{Standing}
use Rattle.recording_reader.specs.declared.way.Standing.TheVariants.{Reads, Failed}
use Rattle.run_outcome.specs.LowerFaults.{reading_fault}
use Rattle.run_outcome.specs.Refusing.{OfRefusal}
use Rattle.run_outcome.specs.declared.fault.Fault.{Fault}
use Rattle.run_outcome.specs.declared.fault.Fault.TheVariants.{Refused, Device, Memory}
use Rattle.run_outcome.specs.declared.refusal.Refusal.{Refusal}
use Rattle.run_outcome.proofs.Refusals.{of_refusal_map}
use Rattle.st_format.specs.History.{IsRead}
use Rattle.capture_engines.specs.Files.{AreReadWhole, HasFileText, first_way, flows_in, other_ways}
use Rattle.capture_engines.specs.Files.{way_at}
use Rattle.capture_engines.specs.Received.{AskFor, FileOpens, FirstFileRefuses, IfFirst}
use Rattle.capture_engines.specs.Received.{IsBehindFew, IsReceivingRefusal}
use Rattle.capture_engines.specs.Received.{IsFileOpenedRefusal, IsFilesRefusal, IsFirstFilesRefusal}
use Rattle.capture_engines.specs.Received.{IsTurnRefusal, OneFileIs}
use Rattle.capture_engines.specs.Received.{Opens, StopsFile, StopsFront}
use Rattle.capture_engines.specs.Sent.{FirstIs}
use Rattle.capture_engines.specs.Stopping.{IsWithinTaken, StopsOpened}
use Rattle.capture_engines.specs.Taking.{Stands}
use Rattle.capture_engines.specs.declared.intake.Intake.{Intake}
use Rattle.capture_engines.specs.declared.receiving.Asked.{Asked}
use Rattle.capture_engines.specs.declared.way.Way.{Way}
use Rattle.capture_engines.proofs.ReceivedRefusals.{at_fault, fault_stops, has_text, many_stop}
use Rattle.capture_engines.proofs.ReceivedRefusals.{text_opens}
use Rattle.capture_engines.proofs.Untaken.{front_stop}
use Rattle.capture_engines.proofs.InOrder.{At, at_place}

-- ---- what holds of a refusal

pub of_both : (P Q : Refusal → Type 0) (f : Fault) → OfRefusal f P → OfRefusal f Q
    → OfRefusal f (λ r. P r × Q r)
of_both P Q (Refused r) p q = (p, q)
of_both P Q Device p q = tt
of_both P Q Memory p q = tt

-- one that is open isn't none
pub some_open : {X : Type 0} (o : Option X) (x : X) → o ≡ Some x → o ≡ None → ⊥
some_open o x there none = cc

-- ---- a file

few_records : {S : Type 0} (r : FileReader S) (w : Way) (octets : List ℕ) → r.flows ≡ flows_in w
    → length r.records < 16777216 → HaveFileRecords r.flows octets r.records r.left_out
    → length (records_of_file (flows_in w) octets) < 16777216
few_records r w octets by few have =
    subst (λ (f : Option Flows). length (records_of_file f octets) < 16777216) by
    (subst (λ (es : List Entry). length es < 16777216) (sym have.records_are) few)

-- at a fault of its own a file has the records that were read
few_at : {S : Type 0} (gave : S → List ℕ) (ended : S → Type 0) (r : FileReader S) (w : Way)
    (g : ReadingFault) → r.flows ≡ flows_in w → length r.records < 16777216
    → ((octets : List ℕ) → IsRead r.before.gave (gave r.source) (ended r.source) octets
    → IfFile g (HaveFileRecords r.flows octets r.records r.left_out × IsFileFault g octets))
    → OfRefusal (reading_fault g)
    (IsBehindFew w (IsRead r.before.gave (gave r.source) (ended r.source)))
few_at gave ended r w (Capture file.NoMemory) by few known = tt
few_at gave ended r w (Capture file.Device) by few known = tt
few_at gave ended r w (Capture f) by few known =
    inr (λ octets read. few_records r w octets by few (known octets read).0)
few_at gave ended r w (Recording recording.Device) by few known = tt
few_at gave ended r w (Recording f) by few known =
    inr (λ octets read. few_records r w octets by few (known octets read).0)

-- a reader that failed gave fewer than are taken
few_failed : (standing : Standing) (count : ℕ) (g : ReadingFault) → standing ≡ Failed g
    → IsWithinTaken standing count → count < 16777216
few_failed standing count g failed (inl few) = few
few_failed standing count g failed (inr reads) =
    absurd (not_both (sym reads ∙ failed))
  where
    not_both : Reads ≡ Failed g → ⊥
    not_both e = cc

module _ {S : Type 0} (window text : List ℕ) (w : Way) (Unopened : Type 0) (gave : S → List ℕ)
    (ended : S → Type 0) (r : FileReader S) (by : r.flows ≡ flows_in w)
    (kind : r.is_recording ≡ true → IsSome r.flows) (same : text ≡ r.text)
    (given : HasGivenFile gave ended r)
    (parts : r.is_recording ≡ false → HasGivenRecords gave ended r) where
  abbrev told : List ℕ → Type 0
  told = IsRead r.before.gave (gave r.source) (ended r.source)

  -- its text opens a receiver
  pub text_of_opens : (Unopened → Opens window text) → Unopened → FileOpens window w told
  text_of_opens opens none = λ octets read. (
    text,
    subst (λ (t : List ℕ). HasFileText w octets t) (sym same)
        (has_text gave ended r w by kind given parts octets read),
    opens none,
  )

  -- what ended its reading, or the refusal of opening by its text, is its refusal
  pub opened_turn : (f : Fault)
      → StopsOpened window text Unopened r.standing (length r.records) f
      → OfRefusal f (IsTurnRefusal window w Unopened told)
  opened_turn f (inl (opens, within, inl (g, failed, is))) =
      let known = at_fault gave ended r g failed given in
      subst (λ (x : Fault). OfRefusal x (IsTurnRefusal window w Unopened told)) (sym is)
      (of_refusal_map (reading_fault g)
      (λ x both. inr (inr (text_of_opens opens, both.0, both.1)))
      (of_both (StopsFile w told) (IsBehindFew w told) (reading_fault g)
      (fault_stops gave ended r w g by kind given known)
      (few_at gave ended r w g by
      (few_failed r.standing (length r.records) g failed within) known)))
  opened_turn f (inl (opens, within, inr (reads, is, count))) =
      subst (λ (x : Fault). OfRefusal x (IsTurnRefusal window w Unopened told)) (sym is)
      (inr (inr (
        text_of_opens opens,
        many_stop gave ended r w by kind given parts reads count,
        inl refl,
      )))
  opened_turn f (inr of) =
      of_refusal_map f
      (λ x is. inr (inl (
        is.0,
        text_opens gave ended r w by kind given parts x window text same is.1,
      )))
      of

-- so of a source that is lent to the reader, and is as it was left
module _ {S T V : Type 0} (window text : List ℕ) (w : Way) (Unopened : Type 0) (r : FileReader S)
    (at : S → T) (gave : T → List ℕ) (ended : T → Type 0) (old new : T)
    (before : r.before.gave ≡ gave old) (now : new ≡ at r.source) (by : r.flows ≡ flows_in w)
    (kind : r.is_recording ≡ true → IsSome r.flows) (same : text ≡ r.text)
    (given : HasGivenFile (λ (s : S). gave (at s)) (λ (s : S). ended (at s)) r)
    (parts : r.is_recording ≡ false
    → HasGivenRecords (λ (s : S). gave (at s)) (λ (s : S). ended (at s)) r) where
  pub turn_lent : (result : Result V Fault)
      → IfErr result (StopsOpened window text Unopened r.standing (length r.records))
      → IfErr result (λ f. OfRefusal f (IsTurnRefusal window w Unopened
      (IsRead (gave old) (gave new) (ended new))))
  turn_lent (Ok v) stop = tt
  turn_lent (Err f) stop =
      subst (λ (t : T). OfRefusal f (IsTurnRefusal window w Unopened
      (IsRead (gave old) (gave t) (ended t)))) (sym now)
      (subst (λ (l : List ℕ). OfRefusal f (IsTurnRefusal window w Unopened
      (IsRead l (gave (at r.source)) (ended (at r.source))))) before
      (opened_turn window text w Unopened (λ (s : S). gave (at s)) (λ (s : S). ended (at s)) r by
      kind same given parts f stop))

  pub opens_lent : (result : Result V Fault) → OnOk result (Unopened → Opens window text)
      → OnOk result (Unopened → FileOpens window w (IsRead (gave old) (gave new) (ended new)))
  opens_lent (Ok v) opens =
      subst (λ (t : T). Unopened → FileOpens window w (IsRead (gave old) (gave t) (ended t)))
      (sym now)
      (subst (λ (l : List ℕ). Unopened → FileOpens window w
      (IsRead l (gave (at r.source)) (ended (at r.source)))) before
      (text_of_opens window text w Unopened (λ (s : S). gave (at s)) (λ (s : S). ended (at s)) r
      by kind same given parts opens))
  opens_lent (Err f) opens = tt

-- what stopped a file before its records is its refusal
pub front_turn : {T : Type 0} (window : List ℕ) (w : Way) (Unopened : Type 0) (gave : T → List ℕ)
    (ended : T → Type 0) (old new now : T) (f : Fault) → new ≡ now
    → OfRefusal f (StopsFront w (IsRead (gave old) (gave now) (ended now)))
    → OfRefusal f (IsTurnRefusal window w Unopened (IsRead (gave old) (gave new) (ended new)))
front_turn {T} window w Unopened gave ended old new now f same stops =
    subst (λ (t : T). OfRefusal f (IsTurnRefusal window w Unopened
    (IsRead (gave old) (gave t) (ended t)))) (sym same)
    (of_refusal_map f (λ x is. inl is) stops)

-- the same where no receiver is open just where that is so
pub turn_map : (window : List ℕ) (w : Way) (U V : Type 0) (told : List ℕ → Type 0) (r : Refusal)
    → (U → V) → (V → U) → IsTurnRefusal window w U told r → IsTurnRefusal window w V told r
turn_map window w U V told r to back (inl front) = inl front
turn_map window w U V told r to back (inr (inl (none, is))) = inr (inl (to none, is))
turn_map window w U V told r to back (inr (inr (opens, stops, few))) =
    inr (inr (λ none. opens (back none), stops, few))

-- ---- files, one after the other

-- none is open just where none was before, and no file was taken yet
abbrev pub HasBegun : {X : Type 0} → ℕ → Option X → Option X → Type 0
HasBegun k before now = (now ≡ None → (before ≡ None) × (k ≡ 0))
    × (before ≡ None → k ≡ 0 → now ≡ None)

pub begun_none : {X : Type 0} (before : Option X) → HasBegun 0 before before
begun_none before = (λ none. (none, refl), λ none same. none)

pub begun_more : {X : Type 0} (k : ℕ) (before now : Option X) → (now ≡ None → ⊥)
    → HasBegun (k + 1) before now
begun_more k before now there =
    (λ none. absurd (there none), λ none same. absurd (omega (arith, same)))

-- where no receiver is open at the end, no file was there
pub none_left : {S X : Type 0} (k : ℕ) (start : List S) (before now : Option X)
    → HasBegun k before now → length start ≤ k → now ≡ None → (before ≡ None) × (start ≡ [])
none_left k start before now begun all none =
    ((begun.0 none).0, empty start (omega (arith, (begun.0 none).1, all)))
  where
    empty : {T : Type 0} (xs : List T) → length xs ≡ 0 → xs ≡ []
    empty [] is = refl
    empty (x ∷ xs) is = absurd (omega arith)

-- the first of some stays the first of more
first_kept : {S : Type 0} (Is : S × S → Type 0) (j : ℕ) (start new : List S)
    → IfFirst Is (zip (take (suc j) start) (take (suc j) new))
    → IfFirst Is (zip (take (suc (suc j)) start) (take (suc (suc j)) new))
first_kept Is j [] new is = tt
first_kept Is j (s ∷ ss) [] is = tt
first_kept Is j (s ∷ ss) (t ∷ ts) is = is

first_one : {S : Type 0} (Is : S × S → Type 0) (start new : List S) → FirstIs Is (zip start new)
    → IfFirst Is (zip (take (suc zero) start) (take (suc zero) new))
first_one Is [] new is = tt
first_one Is (s ∷ ss) [] is = tt
first_one Is (s ∷ ss) (t ∷ ts) is = is

-- what is so of the first that is taken, is so of the first of all
first_goes : {S : Type 0} (Is : ℕ → S × S → Type 0) (start now new : List S) (k : ℕ)
    → IfFirst (Is 0) (zip (take k start) (take k now)) → take k new ≡ take k now
    → drop k now ≡ drop k start → (k ≡ 0 → FirstIs (Is k) (zip (drop k now) (drop k new)))
    → IfFirst (Is 0) (zip (take (suc k) start) (take (suc k) new))
first_goes {S} Is start now new zero is front behind one =
    first_one (Is 0) start new
    (subst (λ (l : List S). FirstIs (Is 0) (zip l new)) behind (one refl))
first_goes {S} Is start now new (suc j) is front behind one =
    first_kept (Is 0) j start new
    (subst (λ (l : List S). IfFirst (Is 0) (zip (take (suc j) start) l)) (sym front) is)

-- the first of the files that were taken opened a receiver, where none was open
pub more_opened : {S X : Type 0} (window : List ℕ) (ways : List (Result Flows Refusal))
    (f : S × S → List ℕ → Type 0) (start now new : List S) (k : ℕ) (before b : Option X)
    → (before ≡ None → IfFirst (λ s. FileOpens window (first_way ways) (f s))
    (zip (take k start) (take k now)))
    → HasBegun k before b → take k new ≡ take k now → drop k now ≡ drop k start
    → (b ≡ None → FirstIs (λ s. FileOpens window (way_at ways k) (f s))
    (zip (drop k now) (drop k new)))
    → before ≡ None → IfFirst (λ s. FileOpens window (first_way ways) (f s))
    (zip (take (k + 1) start) (take (k + 1) new))
more_opened window ways f start now new k before b so_far begun front behind one none =
    let one_on : suc k ≡ k + 1 = omega arith in
    subst (λ (m : ℕ). IfFirst (λ s. FileOpens window (first_way ways) (f s))
    (zip (take m start) (take m new))) one_on
    (first_goes (λ n s. FileOpens window (way_at ways n) (f s)) start now new k (so_far none)
    front behind (λ is. one (begun.1 none is)))

-- the refusal of the one that is taken next is the first of all
pub first_refused : {S X : Type 0} (window : List ℕ) (ways : List (Result Flows Refusal))
    (f : S × S → List ℕ → Type 0) (start now new : List S) (k : ℕ) (before b : Option X)
    → AreReadWhole ways f (zip (take k start) (take k now))
    → (before ≡ None → IfFirst (λ s. FileOpens window (first_way ways) (f s))
    (zip (take k start) (take k now)))
    → HasBegun k before b → take k new ≡ take k now → drop k now ≡ drop k start → (r : Refusal)
    → FirstIs (λ s. IsTurnRefusal window (way_at ways k) (b ≡ None) (f s) r)
    (zip (drop k now) (drop k new))
    → IsFirstFilesRefusal window before ways f (zip start new) r
first_refused {S} window ways f start now new k before b whole opens begun front behind r one =
    let Is : S × S → Type 0 = λ s. IsTurnRefusal window (way_at ways k) (b ≡ None) (f s) r in
    let x : At Is start new k =
    at_place Is start new k (subst (λ (l : List S). FirstIs Is (zip l (drop k new))) behind one) in
    let taken : List (S × S) = zip (take k start) (take k now) in
    let counted : length taken ≡ k =
    ap (λ (l : List S). length (zip (take k start) l)) (sym front) ∙ x.counted in
    let none_taken : k ≡ 0 → taken ≡ [] =
    λ is. ap (λ (n : ℕ). zip (take n start) (take n now)) is in
    inr (record {
      front = taken;
      at = x.next;
      behind = x.behind;
      parts = x.parts ∙ ap (λ (l : List S). zip (take k start) l ++ x.next ∷ x.behind) front;
      whole = whole;
      opened = opens;
      refused =
          subst (λ (m : ℕ). IsTurnRefusal window (way_at ways m)
          ((before ≡ None) × (taken ≡ [])) (f x.next) r) (sym counted)
          (turn_map window (way_at ways k) (b ≡ None) ((before ≡ None) × (taken ≡ []))
          (f x.next) r
          (λ none. ((begun.0 none).0, none_taken (begun.0 none).1))
          (λ both. begun.1 both.0
          (sym counted ∙ ap (λ (l : List (S × S)). length l) both.1))
          x.is);
    })

-- where a text is given just where a receiver has begun, it is the same
pub first_given : {S X Y : Type 0} (window : List ℕ) (begun : Option X) (sdp : Option Y)
    (ways : List (Result Flows Refusal)) (f : S → List ℕ → Type 0) (files : List S)
    → (begun ≡ None → sdp ≡ None) → (sdp ≡ None → begun ≡ None) → (r : Refusal)
    → IsFirstFilesRefusal window begun ways f files r
    → IsFirstFilesRefusal window sdp ways f files r
first_given window begun sdp ways f files to back r (inl (none, empty, same)) =
    inl (to none, empty, same)
first_given window begun sdp ways f files to back r (inr first) =
    inr (record {
      front = first.front;
      at = first.at;
      behind = first.behind;
      parts = first.parts;
      whole = first.whole;
      opened = λ none. first.opened (back none);
      refused =
          turn_map window (way_at ways (length first.front))
          ((begun ≡ None) × (first.front ≡ [])) ((sdp ≡ None) × (first.front ≡ []))
          (f first.at) r (λ both. (to both.0, both.1)) (λ both. (back both.0, both.1))
          first.refused;
    })

-- where no text is given none has begun
pub none_stands : {A : Type 0} (o : Asked A) (begun : Option (Intake A)) (sdp : Option (List ℕ))
    → Stands o begun sdp [] → sdp ≡ None → begun ≡ None
none_stands o None None is none = refl
none_stands o None (Some text) is none = absurd is
none_stands o (Some s) None is none = absurd is
none_stands o (Some s) (Some text) is none = cc

-- so of files that are received by what the words ask for
pub files_said : {S A : Type 0} (window ssrc : List ℕ) (o : Asked A) (sdp : Option (List ℕ))
    (ways : List (Result Flows Refusal)) (f : S → List ℕ → Type 0) (files : List S)
    (begun : Option (Intake A)) → AskFor window ssrc o.window.items → Stands o begun sdp []
    → (begun ≡ None → sdp ≡ None) → MatchOption sdp ⊤ (λ text. Opens o.window.items text)
    → (r : Refusal) → IsFirstFilesRefusal o.window.items begun ways f files r
    → IsReceivingRefusal window ssrc sdp ways f files r
files_said window ssrc o sdp ways f files begun ask begins none opens r is =
    inr (
      o.window.items,
      ask,
      inr (
        opens,
        first_given o.window.items begun sdp ways f files none (none_stands o begun sdp begins) r
            is,
      ),
    )

-- ---- the first is one

one_behind : {S : Type 0} (Is : Way → S → Type 0) (ways : List (Result Flows Refusal))
    (front behind : List S) (at : S) → Is (way_at ways (length front)) at
    → OneFileIs Is ways (front ++ at ∷ behind)
one_behind Is ways [] behind at is = inl is
one_behind Is ways (s ∷ ss) behind at is = inr (one_behind Is (other_ways ways) ss behind at is)

pub first_is_one : {S X : Type 0} (window : List ℕ) (begun : Option X)
    (ways : List (Result Flows Refusal)) (f : S → List ℕ → Type 0) (files : List S) (r : Refusal)
    → IsFirstFilesRefusal window begun ways f files r → IsFilesRefusal window begun ways f files r
first_is_one {S} window begun ways f files r (inl (none, empty, same)) =
    inr (none, subst (λ (l : List S). FirstFileRefuses window ways f l r) (sym empty) same)
first_is_one {S} window begun ways f files r (inr first) = by first.refused
  where
    stops : StopsFile (way_at ways (length first.front)) (f first.at) r
        → IsFilesRefusal window begun ways f files r
    stops is =
        inl (subst (λ (l : List S). OneFileIs (λ w s. StopsFile w (f s) r) ways l)
        (sym first.parts)
        (one_behind (λ w s. StopsFile w (f s) r) ways first.front first.behind first.at is))

    by : IsTurnRefusal window (way_at ways (length first.front))
        ((begun ≡ None) × (first.front ≡ [])) (f first.at) r
        → IsFilesRefusal window begun ways f files r
    by (inl front) =
        stops (front_stop (way_at ways (length first.front)) (f first.at) r front)
    by (inr (inl (none, is))) =
        inr (
          none.0,
          subst (λ (l : List S). FirstFileRefuses window ways f l r)
              (sym (first.parts
              ∙ ap (λ (l : List S). l ++ first.at ∷ first.behind) none.1))
              (subst (λ (l : List S). IsFileOpenedRefusal window (way_at ways (length l))
              (f first.at) r) none.1 is),
        )
    by (inr (inr (opens, is, few))) = stops is
