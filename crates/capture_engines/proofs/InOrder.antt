-- Files that are taken one after the other.
use Rattle.std.proofs.Common.{◌≡◌, ℕ, ◌+◌, List, [], ◌∷◌, ◌++◌, length, Option, None, Some, Result}
use Rattle.std.proofs.Common.{refl, sym, ap, subst, ◌∙◌, arith, append_assoc}
use Rattle.std.proofs.Common.{zero, suc, ◌≤◌, append-nil, drop, take}
use Rattle.std.proofs.lemmas.List.{take_all}
use Rattle.capture_engines.specs.Sent.{FirstIs}
use Rattle.media_file.specs.StateFile.{state_text}
use Rattle.receiver_file.specs.Saved.{kept_of}
use Rattle.run_outcome.specs.Sources.{IsSourceText}
use Rattle.run_outcome.specs.Timestamps.{AreTimestamps}
use Rattle.capture_engines.specs.Printed.{received_text, tally_text}
use Rattle.capture_engines.specs.Taking.{AnnouncesStream, ReceivesFiles}
use Rattle.capture_engines.specs.Taking.{FileGoes, FilesGo, Holding, SavesHolding, Stands}
use Rattle.capture_engines.specs.Taking.{TakesFiles}
use Rattle.std.specs.List.{AllZip, zip}
use Rattle.flow.specs.declared.flows.Flows.{Flows}
use Rattle.run_outcome.specs.declared.refusal.Refusal.{Refusal}
use Rattle.run_outcome.proofs.Splits.{Split, split_tell}
use Rattle.capture_engines.specs.Files.{AreReadWhole, IsReadWhole, file_datagrams}
use Rattle.capture_engines.specs.Files.{files_datagrams, first_way, other_ways, way_at}
use Rattle.capture_engines.specs.Taking.{said_behind}
use Rattle.capture_engines.specs.declared.receiving.Asked.{Asked}
use Rattle.capture_engines.specs.declared.intake.Intake.{Intake}
use Rattle.capture_engines.proofs.Printed.{received_text_is}
use Rattle.std.proofs.Common.{Bool}

-- ---- files that were taken so far

pub none_taken : {S : Type 0} (ways : List (Result Flows Refusal))
    (f : S → List ℕ → Type 0) (B : Holding) → FilesGo ways f [] B B
none_taken ways f B = record {
  stands = λ octets said ds tell. none ways octets said ds tell;
}
  where
    said_none : (said : Option (List ℕ)) → said ≡ said_behind said []
    said_none None = refl
    said_none (Some text) = refl

    none : (ways : List (Result Flows Refusal)) (octets : List (List ℕ))
        (said : Option (List ℕ)) (ds : List (List ℕ)) → AllZip f [] octets → B said ds
        → B (said_behind said octets) (ds ++ files_datagrams ways octets)
    none ways [] said ds tell stands =
        subst (λ (t : Option (List ℕ)). B t (ds ++ [])) (said_none said)
        (subst (λ (xs : List (List ℕ)). B said xs) (sym (append-nil ds)) stands)
    none ways (p ∷ ps) said ds tell stands = absurd tell

-- the text is that behind some files, and then behind one more
pub said_then : (said : Option (List ℕ)) (ps : List (List ℕ)) (p : List ℕ)
    → said_behind (said_behind said ps) (p ∷ []) ≡ said_behind said (ps ++ p ∷ [])
said_then None [] p = refl
said_then None (q ∷ ps) p = refl
said_then (Some text) ps p = refl

-- and so are the datagrams
files_then : (ways : List (Result Flows Refusal)) (ps : List (List ℕ)) (p : List ℕ)
    → files_datagrams ways ps ++ file_datagrams (way_at ways (length ps)) p
    ≡ files_datagrams ways (ps ++ p ∷ [])
files_then ways [] p = sym (append-nil (file_datagrams (first_way ways) p))
files_then ways (q ∷ ps) p =
    append_assoc (file_datagrams (first_way ways) q) (files_datagrams (other_ways ways) ps)
    (file_datagrams (way_at (other_ways ways) (length ps)) p)
    ∙ ap (λ (l : List (List ℕ)). file_datagrams (first_way ways) q ++ l)
    (files_then (other_ways ways) ps p)

pub datagrams_then : (ways : List (Result Flows Refusal)) (ds : List (List ℕ))
    (ps : List (List ℕ)) (p : List ℕ) (place : ℕ) → length ps ≡ place
    → (ds ++ files_datagrams ways ps) ++ file_datagrams (way_at ways place) p
    ≡ ds ++ files_datagrams ways (ps ++ p ∷ [])
datagrams_then ways ds ps p place is =
    ap (λ (k : ℕ). (ds ++ files_datagrams ways ps) ++ file_datagrams (way_at ways k) p) (sym is)
    ∙ append_assoc ds (files_datagrams ways ps) (file_datagrams (way_at ways (length ps)) p)
    ∙ ap (λ (l : List (List ℕ)). ds ++ l) (files_then ways ps p)

pub one_more : {S : Type 0} (ways : List (Result Flows Refusal))
    (f : S → List ℕ → Type 0) (xs : List S) (x : S) (Before B A : Holding)
    → FilesGo ways f xs Before B → FileGoes (way_at ways (length xs)) (f x) B A
    → FilesGo ways f (xs ++ x ∷ []) Before A
one_more ways f xs x Before B A files file = record {
  stands = λ octets said ds tell stands.
      let s : Split f xs x octets = split_tell f xs x octets tell in
      let all : List (List ℕ) = ds ++ files_datagrams ways s.front in
      subst (λ (l : List (List ℕ)). A (said_behind said l)
      (ds ++ files_datagrams ways l)) (sym s.whole)
      (subst (λ (t : Option (List ℕ)). A t
      (ds ++ files_datagrams ways (s.front ++ s.last ∷ []))) (said_then said s.front s.last)
      (subst (λ (l : List (List ℕ)). A
      (said_behind (said_behind said s.front) (s.last ∷ [])) l)
      (datagrams_then ways ds s.front s.last (length xs) s.counted)
      (file.stands s.last (said_behind said s.front) all s.one
      (files.stands s.front said ds s.tell stands))));
}

-- ---- pairs of sources

no_pairs : {S : Type 0} (Is : S × S → Type 0) (xs : List S) → FirstIs Is (zip xs []) → ⊥
no_pairs Is [] is = is
no_pairs Is (x ∷ xs) is = is

-- one source more, with what it is
pub record NextPair {S : Type 0} (Is : S × S → Type 0) (start now : List S) (k : ℕ) : Type 0
  where
    pub next : S × S
    pub is : Is next
    pub whole : zip (take (suc k) start) (take (suc k) now)
        ≡ zip (take k start) (take k now) ++ next ∷ []
    pub counted : length (zip (take k start) (take k now)) ≡ k

pub next_pair : {S : Type 0} (Is : S × S → Type 0) (start now : List S) (k : ℕ)
    → FirstIs Is (zip (drop k start) (drop k now)) → NextPair Is start now k
next_pair Is [] now zero is = absurd is
next_pair Is (s ∷ ss) [] zero is = absurd is
next_pair Is (s ∷ ss) (t ∷ ts) zero is =
    record { next = (s, t); is = is; whole = refl; counted = refl }
next_pair Is [] now (suc k) is = absurd is
next_pair Is (s ∷ ss) [] (suc k) is = absurd (no_pairs Is (drop k ss) is)
next_pair {S} Is (s ∷ ss) (t ∷ ts) (suc k) is =
    let n : NextPair Is ss ts k = next_pair Is ss ts k is in
    record {
      next = n.next;
      is = n.is;
      whole = ap (λ (l : List (S × S)). (s, t) ∷ l) n.whole;
      counted = ap suc n.counted;
    }

-- the pair of a place, with those before it and behind it
pub record At {S : Type 0} (Is : S × S → Type 0) (start now : List S) (k : ℕ) : Type 0 where
  pub next : S × S
  pub is : Is next
  pub behind : List (S × S)
  pub parts : zip start now ≡ zip (take k start) (take k now) ++ next ∷ behind
  pub counted : length (zip (take k start) (take k now)) ≡ k

pub at_place : {S : Type 0} (Is : S × S → Type 0) (start now : List S) (k : ℕ)
    → FirstIs Is (zip (drop k start) (drop k now)) → At Is start now k
at_place Is [] now zero is = absurd is
at_place Is (s ∷ ss) [] zero is = absurd is
at_place Is (s ∷ ss) (t ∷ ts) zero is =
    record { next = (s, t); is = is; behind = zip ss ts; parts = refl; counted = refl }
at_place Is [] now (suc k) is = absurd is
at_place Is (s ∷ ss) [] (suc k) is = absurd (no_pairs Is (drop k ss) is)
at_place {S} Is (s ∷ ss) (t ∷ ts) (suc k) is =
    let n : At Is ss ts k = at_place Is ss ts k is in
    record {
      next = n.next;
      is = n.is;
      behind = n.behind;
      parts = ap (λ (l : List (S × S)). (s, t) ∷ l) n.parts;
      counted = ap suc n.counted;
    }

-- so the files up to there were taken
pub more_taken : {S : Type 0} (ways : List (Result Flows Refusal))
    (f : S × S → List ℕ → Type 0) (start now new : List S) (k : ℕ)
    (Before B A : Holding)
    → FilesGo ways f (zip (take k start) (take k now)) Before B → take k new ≡ take k now
    → drop k now ≡ drop k start
    → FirstIs (λ s. FileGoes (way_at ways k) (f s) B A) (zip (drop k now) (drop k new))
    → FilesGo ways f (zip (take (k + 1) start) (take (k + 1) new)) Before A
more_taken {S} ways f start now new k Before B A files front behind one =
    let Is : S × S → Type 0 = λ s. FileGoes (way_at ways k) (f s) B A in
    let n : NextPair Is start new k =
    next_pair Is start new k
    (subst (λ (l : List S). FirstIs Is (zip l (drop k new))) behind one) in
    let so_far : List (S × S) = zip (take k start) (take k new) in
    let earlier : FilesGo ways f so_far Before B =
    subst (λ (l : List S). FilesGo ways f (zip (take k start) l) Before B) (sym front)
    files in
    let next : FileGoes (way_at ways (length so_far)) (f n.next) B A =
    subst (λ (m : ℕ). FileGoes (way_at ways m) (f n.next) B A) (sym n.counted) n.is in
    let one_on : suc k ≡ k + 1 = omega arith in
    subst (λ (m : ℕ). FilesGo ways f (zip (take m start) (take m new)) Before A) one_on
    (subst (λ (l : List (S × S)). FilesGo ways f l Before A) (sym n.whole)
    (one_more ways f so_far n.next Before B A earlier next))

-- all of them
pub all_taken : {S : Type 0} (ways : List (Result Flows Refusal))
    (f : S × S → List ℕ → Type 0) (start now : List S) (k : ℕ) (Before B : Holding)
    → FilesGo ways f (zip (take k start) (take k now)) Before B → length start ≤ k
    → length now ≡ length start → FilesGo ways f (zip start now) Before B
all_taken {S} ways f start now k Before B files all same =
    subst (λ (l : List S). FilesGo ways f (zip l now) Before B) (take_all k start all)
    (subst (λ (l : List S). FilesGo ways f (zip (take k start) l) Before B)
    (take_all k now (omega (arith, same, all))) files)

-- ---- files that were taken to their ends

first_both : {S : Type 0} (Is Are : S → Type 0) (xs : List S) → FirstIs (λ s. Is s × Are s) xs
    → FirstIs Is xs × FirstIs Are xs
first_both Is Are [] is = absurd is
first_both Is Are (x ∷ xs) is = is

whole_then : {S : Type 0} (ways : List (Result Flows Refusal)) (f : S → List ℕ → Type 0)
    (xs : List S) (x : S) → AreReadWhole ways f xs → IsReadWhole (way_at ways (length xs)) (f x)
    → AreReadWhole ways f (xs ++ x ∷ [])
whole_then ways f [] x are is = (is, tt)
whole_then ways f (y ∷ ys) x are is = (are.0, whole_then (other_ways ways) f ys x are.1 is)

more_whole : {S : Type 0} (ways : List (Result Flows Refusal)) (f : S × S → List ℕ → Type 0)
    (start now new : List S) (k : ℕ) → AreReadWhole ways f (zip (take k start) (take k now))
    → take k new ≡ take k now → drop k now ≡ drop k start
    → FirstIs (λ s. IsReadWhole (way_at ways k) (f s)) (zip (drop k now) (drop k new))
    → AreReadWhole ways f (zip (take (k + 1) start) (take (k + 1) new))
more_whole {S} ways f start now new k are front behind one =
    let Is : S × S → Type 0 = λ s. IsReadWhole (way_at ways k) (f s) in
    let n : NextPair Is start new k =
    next_pair Is start new k
    (subst (λ (l : List S). FirstIs Is (zip l (drop k new))) behind one) in
    let so_far : List (S × S) = zip (take k start) (take k new) in
    let one_on : suc k ≡ k + 1 = omega arith in
    subst (λ (m : ℕ). AreReadWhole ways f (zip (take m start) (take m new))) one_on
    (subst (λ (l : List (S × S)). AreReadWhole ways f l) (sym n.whole)
    (whole_then ways f so_far n.next
    (subst (λ (l : List S). AreReadWhole ways f (zip (take k start) l)) (sym front) are)
    (subst (λ (m : ℕ). IsReadWhole (way_at ways m) (f n.next)) (sym n.counted) n.is)))

all_whole : {S : Type 0} (ways : List (Result Flows Refusal)) (f : S × S → List ℕ → Type 0)
    (start now : List S) (k : ℕ) → AreReadWhole ways f (zip (take k start) (take k now))
    → length start ≤ k → length now ≡ length start → AreReadWhole ways f (zip start now)
all_whole {S} ways f start now k are all same =
    subst (λ (l : List S). AreReadWhole ways f (zip l now)) (take_all k start all)
    (subst (λ (l : List S). AreReadWhole ways f (zip (take k start) l))
    (take_all k now (omega (arith, same, all))) are)

-- so they were taken up to there, each to its end
abbrev pub GoWhole : {S : Type 0} → List (Result Flows Refusal) → (S → List ℕ → Type 0) → List S
    → Holding → Holding → Type 0
GoWhole ways f files Before B = FilesGo ways f files Before B × AreReadWhole ways f files

pub more_ended : {S : Type 0} (ways : List (Result Flows Refusal))
    (f : S × S → List ℕ → Type 0) (start now new : List S) (k : ℕ) (Before B A : Holding)
    → GoWhole ways f (zip (take k start) (take k now)) Before B → take k new ≡ take k now
    → drop k now ≡ drop k start
    → FirstIs (λ s. FileGoes (way_at ways k) (f s) B A × IsReadWhole (way_at ways k) (f s))
    (zip (drop k now) (drop k new))
    → GoWhole ways f (zip (take (k + 1) start) (take (k + 1) new)) Before A
more_ended {S} ways f start now new k Before B A files front behind one =
    let both = first_both {S = S × S} (λ s. FileGoes (way_at ways k) (f s) B A)
    (λ s. IsReadWhole (way_at ways k) (f s)) (zip (drop k now) (drop k new)) one in (
      more_taken ways f start now new k Before B A files.0 front behind both.0,
      more_whole ways f start now new k files.1 front behind both.1,
    )

pub all_ended : {S : Type 0} (ways : List (Result Flows Refusal))
    (f : S × S → List ℕ → Type 0) (start now : List S) (k : ℕ) (Before B : Holding)
    → GoWhole ways f (zip (take k start) (take k now)) Before B → length start ≤ k
    → length now ≡ length start → GoWhole ways f (zip start now) Before B
all_ended ways f start now k Before B files all same = (
  all_taken ways f start now k Before B files.0 all same,
  all_whole ways f start now k files.1 all same,
)

-- ---- the receiver that took them is written

pub some_is : (a b : List ℕ) → Some a ≡ Some b → a ≡ b
some_is a b is = cc

pub saves_held : {A : Type 0} (o : Asked A) (window source : List ℕ) (Is : List ℕ → Type 0)
    (said : Option (List ℕ)) (s : Intake A) (ds : List (List ℕ)) (wanted : Bool)
    (shown shown' old new : List ℕ)
    → AreTimestamps window o.window.items → IsSourceText source o.ssrc → Stands o (Some s) said ds
    → ((text : List ℕ) → Is text → said ≡ Some text)
    → shown' ≡ shown ++ received_text wanted s.delivered (tally_text s.tally) s.receiver
    → new ≡ old ++ state_text (kept_of s.receiver)
    → SavesHolding window source Is ds wanted shown shown' old new
saves_held o window source Is None s ds wanted shown shown' old new is_window is_source stands opens
    printed taken = absurd stands
saves_held o window source Is (Some said) s ds wanted shown shown' old new is_window is_source
    stands opens printed taken =
    record {
      receiver = s.receiver;
      window_is = subst (λ (w : List ℕ). AreTimestamps window w) (sym stands.window) is_window;
      source_is = subst (λ (p : Option ℕ). IsSourceText source p) (sym stands.ssrc) is_source;
      announced = λ text is.
          subst (λ (t : List ℕ). AnnouncesStream t s.receiver.opening)
          (some_is said text (opens text is))
          stands.announced;
      holds = stands.holds;
      printed = printed
          ∙ ap (λ (l : List ℕ). shown ++ l)
          (received_text_is wanted s.delivered s.tally s.receiver ds stands.delivered
          stands.tallied);
      taken = taken;
    }

-- where no text is given and there is no file none is open
no_receiver : {S A : Type 0} (o : Asked A) (ways : List (Result Flows Refusal))
    (f : S → List ℕ → Type 0) (files : List S) (begun : Option (Intake A)) (s : Intake A)
    (sdp : Option (List ℕ)) → Stands o begun sdp []
    → FilesGo ways f files (Stands o begun) (Stands o (Some s)) → sdp ≡ None → files ≡ [] → ⊥
no_receiver {S} o ways f files begun s sdp begins goes none empty =
    let tell : AllZip f files [] = subst (λ (l : List S). AllZip f l []) (sym empty) tt in
    subst (λ (t : Option (List ℕ)). Stands o (Some s) (said_behind t []) []) none
    (goes.stands [] sdp [] tell begins)

pub receives : {S A : Type 0} (o : Asked A) (window source : List ℕ) (sdp : Option (List ℕ))
    (ways : List (Result Flows Refusal)) (f : S → List ℕ → Type 0) (files : List S)
    (begun : Option (Intake A)) (s : Intake A) (wanted : Bool)
    (shown shown' old new : List ℕ)
    → AreTimestamps window o.window.items → IsSourceText source o.ssrc → Stands o begun sdp []
    → TakesFiles o ways f files begun (Some s)
    → shown' ≡ shown ++ received_text wanted s.delivered (tally_text s.tally) s.receiver
    → new ≡ old ++ state_text (kept_of s.receiver)
    → ReceivesFiles window source sdp ways f files wanted shown shown' old new
receives o window source sdp ways f files begun s wanted shown shown' old new is_window is_source
    begins taken printed written =
    record {
      saved = λ octets tell.
          saves_held o window source (λ text. said_behind sdp octets ≡ Some text)
          (said_behind sdp octets) s (files_datagrams ways octets) wanted shown shown' old new
          is_window is_source (taken.0.stands octets sdp [] tell begins) (λ text is. is) printed
          written;
      opened = no_receiver o ways f files begun s sdp begins taken.0;
      whole = taken.1;
    }
