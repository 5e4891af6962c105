-- Files that are taken up to a fault.
use Rattle.std.proofs.Common.{◌≡◌, ℕ, inl, inr, List, [], ◌∷◌, ◌++◌, Option}
use Rattle.std.proofs.Common.{None, Some, refl, sym, ap, subst, ◌∙◌, append-nil, drop, length}
use Rattle.std.proofs.Common.{take, Bool, false}
use Rattle.std.specs.List.{AllZip, zip}
use Rattle.std.specs.Prelude.{IfErr, IsFalse, IsTrue, MatchOption, OnErr, OnOk, Result, Ok, Err, ⊤}
use Rattle.flow.specs.declared.flows.Flows.{Flows}
use Rattle.media_file.specs.StateFile.{state_text}
use Rattle.path_receiver.specs.Frames.{State}
use Rattle.receiver_file.specs.Saved.{kept_of}
use Rattle.st_format.specs.Device.{Failed}
use Rattle.capture_engines.specs.Receiving.{ShowsPart}
use Rattle.run_outcome.specs.Fault.{Blames, IfRefused, counts as one_counts}
use Rattle.run_outcome.specs.Moments.{WasRead}
use Rattle.run_outcome.specs.Refusing.{OfRefusal}
use Rattle.run_outcome.specs.Sources.{IsSourceText}
use Rattle.run_outcome.specs.States.{SavesPart}
use Rattle.run_outcome.specs.Timestamps.{AreTimestamps}
use Rattle.run_outcome.specs.declared.fault.Fault.{Fault}
use Rattle.run_outcome.specs.declared.fault.Fault.TheVariants.{Refused, Device, Memory}
use Rattle.run_outcome.specs.declared.refusal.Refusal.{Refusal}
use Rattle.capture_engines.specs.Counted.{CountsHolding, CountsReceived}
use Rattle.capture_engines.specs.Files.{files_datagrams, way_at}
use Rattle.capture_engines.specs.Printed.{received_text, tally_text}
use Rattle.capture_engines.specs.Rescued.{Front, IsFrontOf, IsReceiverOfPart, MayTake, Rescues}
use Rattle.capture_engines.specs.Rescued.{TakesFilesUpTo}
use Rattle.capture_engines.specs.Rescued.{datagrams_if, said_if}
use Rattle.capture_engines.specs.Sent.{FirstIs}
use Rattle.capture_engines.specs.Taking.{AnnouncesStream, IsOpenedHolding}
use Rattle.capture_engines.specs.Taking.{IsReceiverOfFiles, Stands, TakesFiles}
use Rattle.capture_engines.specs.declared.way.Way.{Way}
use Rattle.capture_engines.specs.Taking.{said_behind}
use Rattle.capture_engines.specs.declared.intake.Intake.{Intake}
use Rattle.capture_engines.specs.declared.receiving.Asked.{Asked}
use Rattle.capture_engines.specs.declared.reception.Reception.{Reception}
use Rattle.capture_engines.proofs.InOrder.{At, at_place, saves_held, some_is}

-- ---- facts of what went well

pub on_ok_both : {V E : Type 0} (r : Result V E) (P Q T : Type 0) → (P → Q → T) → OnOk r P
    → OnOk r Q → OnOk r T
on_ok_both (Ok v) P Q T then p q = then p q
on_ok_both (Err e) P Q T then p q = tt

pub on_ok_each : {V E : Type 0} (r : Result V E) (P Q R T : Type 0) → (P → Q → R → T) → OnOk r P
    → OnOk r Q → OnOk r R → OnOk r T
on_ok_each (Ok v) P Q R T then p q s = then p q s
on_ok_each (Err e) P Q R T then p q s = tt

-- and of one that came to an error
pub if_err_both : {V E : Type 0} {P Q T : E → Type 0} (r : Result V E)
    → ((e : E) → P e → Q e → T e) → IfErr r P → IfErr r Q → IfErr r T
if_err_both (Ok v) then p q = tt
if_err_both (Err e) then p q = then e p q

pub counted_if : {V E X : Type 0} (r : Result V E) (o : Option X) (x : X) (Is : X → Type 0) → Is x
    → OnOk r (o ≡ Some x) → OnOk r (MatchOption o ⊥ Is)
counted_if {X = X} (Ok v) o x Is is same =
    subst (λ (y : Option X). MatchOption y ⊥ Is) (sym same) is
counted_if (Err e) o x Is is same = tt

err_is : {V : Type 0} (r : Result V Fault) (a b : Fault) → r ≡ Err a → r ≡ Err b → a ≡ b
err_is r a b here there = cc

pub rescued_if : {V X : Type 0} (r : Result V Fault) (o : Option X) (fault : Fault)
    (P Q : Type 0) (x : X) (Is : Fault → X → Type 0)
    → (P → Q → (y : X) → y ≡ x → Is fault y) → MatchOption o ⊤ (λ _. P)
    → MatchOption o ⊤ (λ _. Q) → MatchOption o ⊤ (λ y. y ≡ x)
    → MatchOption o ⊤ (λ _. r ≡ Err fault) → IfErr r (λ f. MatchOption o ⊤ (Is f))
rescued_if (Ok v) o fault P Q x Is then p q is same = tt
rescued_if (Err e) None fault P Q x Is then p q is same = tt
rescued_if (Err e) (Some y) fault P Q x Is then p q is same =
    subst (λ (f : Fault). Is f y) (err_is (Err e) fault e same refl) (then p q y is)

-- ---- what is written where a run fails

-- nothing was answered
pub none_part : {X : Type 0} (new old : Option X) (P : Type 0) → new ≡ old → old ≡ None → P
    → MatchOption new P (λ _. ⊤)
none_part {X} new old P same none p =
    subst (λ (o : Option X). MatchOption o P (λ _. ⊤)) (sym (same ∙ none)) p

-- it was
pub some_part : {X : Type 0} (new : Option X) (x : X) (P : Type 0) → new ≡ Some x
    → MatchOption new P (λ _. ⊤)
some_part {X} new x P is = subst (λ (o : Option X). MatchOption o P (λ _. ⊤)) (sym is) tt

pub failed_part : {V E X : Type 0} (r : Result V E) (new old : Option X) (P : Type 0)
    → OnErr r (new ≡ old) → old ≡ None → OnErr r P → OnErr r (MatchOption new P (λ _. ⊤))
failed_part (Ok v) new old P same none p = tt
failed_part (Err e) new old P same none p = none_part new old P same none p

-- a receiver that is so is the one of which a first part was written
pub part_of : (P : State → Type 0) (receiver : State) (old new : List ℕ) → P receiver
    → SavesPart (λ s. s ≡ receiver) old new → SavesPart P old new
part_of P receiver old new is (inl same) = inl same
part_of P receiver old new is (inr (s, same, part)) = inr (s, subst P (sym same) is, part)

pub part_map : (P Q : State → Type 0) (old new : List ℕ) → ((s : State) → P s → Q s)
    → SavesPart P old new → SavesPart Q old new
part_map P Q old new then (inl same) = inl same
part_map P Q old new then (inr (s, is, part)) = inr (s, then s is, part)

pub whole_part : {V E : Type 0} (r : Result V E) (P : State → Type 0) (receiver : State)
    (old new : List ℕ) → P receiver → OnErr r (SavesPart (λ s. s ≡ receiver) old new)
    → OnErr r (SavesPart P old new)
whole_part (Ok v) P receiver old new is part = tt
whole_part (Err e) P receiver old new is part = part_of P receiver old new is part

pub maybe_part : {X : Type 0} (o : Option X) (P : State → Type 0) (receiver : State)
    (old new : List ℕ) → P receiver
    → MatchOption o (SavesPart (λ s. s ≡ receiver) old new) (λ _. ⊤)
    → MatchOption o (SavesPart P old new) (λ _. ⊤)
maybe_part None P receiver old new is part = part_of P receiver old new is part
maybe_part (Some x) P receiver old new is part = tt

pub maybe_so : {X : Type 0} (o : Option X) (P Q : Type 0) → (P → Q)
    → MatchOption o P (λ _. ⊤) → MatchOption o Q (λ _. ⊤)
maybe_so None P Q then p = then p
maybe_so (Some x) P Q then p = tt

-- ---- what is printed where a run fails

-- what the receiver is whose lines were begun
pub shows_so : {O : Type 0} (took : O → List ℕ) (failures : O → ℕ) (wanted : Bool)
    (P Q : State → Type 0) (old new : O) → ((s : State) → P s → Q s)
    → ShowsPart took failures wanted P old new → ShowsPart took failures wanted Q old new
shows_so took failures wanted P Q old new then (inl none) = inl none
shows_so took failures wanted P Q old new then (inr (s, is, lines)) = inr (s, then s is, lines)

-- the output failed
pub failed_device : (f : Fault) (old new : ℕ) → f ≡ Device → Blames (one_counts old new ∷ []) f
    → Failed old new
failed_device f old new is blames =
    subst (λ (g : Fault). Blames (one_counts old new ∷ []) g) is blames

pub never : IsTrue false → ⊥
never e = absurd cc

pub sound_not : (b : Bool) → IsTrue b → IsFalse b → ⊥
sound_not b sound unsound = never (sym unsound ∙ sound)

-- a fault that came behind others, where it is a refusal the first
pub part_refused : {V : Type 0} (r : Result V Fault) (fault : Fault) (P : Refusal → Type 0)
    → OfRefusal fault P → IfErr r (λ f. IfRefused f (f ≡ fault))
    → IfErr r (λ f. OfRefusal f P)
part_refused (Ok v) fault P of is = tt
part_refused (Err (Refused x)) fault P of is = subst (λ (f : Fault). OfRefusal f P) (sym is) of
part_refused (Err Device) fault P of is = tt
part_refused (Err Memory) fault P of is = tt

-- ---- files

pub taken_up_to : {S A : Type 0} (o : Asked A) (ways : List (Result Flows Refusal))
    (gave : S → List ℕ) (ended : S → Type 0) (f : Fault) (start now new : List S) (k : ℕ)
    (before b a : Option (Intake A))
    → TakesFiles o ways (WasRead gave ended) (zip (take k start) (take k now)) before b
    → take k new ≡ take k now → drop k now ≡ drop k start
    → FirstIs (MayTake o (way_at ways k) gave ended f b a) (zip (drop k now) (drop k new))
    → TakesFilesUpTo o ways gave ended f (zip start new) before a
taken_up_to {S} o ways gave ended f start now new k before b a files front behind one =
    let Is : S × S → Type 0 = MayTake o (way_at ways k) gave ended f b a in
    let x : At Is start new k =
    at_place Is start new k (subst (λ (l : List S). FirstIs Is (zip l (drop k new))) behind one) in
    let counted : length (zip (take k start) (take k now)) ≡ k =
    ap (λ (l : List S). length (zip (take k start) l)) (sym front) ∙ x.counted in
    record {
      front = zip (take k start) (take k now);
      at = x.next;
      behind = x.behind;
      parts = x.parts ∙ ap (λ (l : List S). zip (take k start) l ++ x.next ∷ x.behind) front;
      between = b;
      whole = files;
      part = subst (λ (m : ℕ). MayTake o (way_at ways m) gave ended f b a x.next) (sym counted)
          x.is;
    }

-- ---- the receiver that took them is written

-- a receiver stands by what was read of the files before a fault, and of the one that has it
record PartStands {S A : Type 0} (o : Asked A) (ways : List (Result Flows Refusal)) (w : Way)
    (gave : S → List ℕ) (ended : S → Type 0) (f : Fault) (front : List (S × S)) (at : S × S)
    (said : Option (List ℕ)) (s : Intake A) : Type 0 where
  pub part : Option Front
  pub part_is : MatchOption part ⊤ (IsFrontOf w gave ended f at)
  pub stands : (octets : List (List ℕ)) → AllZip (WasRead gave ended) front octets
      → Stands o (Some s) (said_if (said_behind said octets) part)
      (files_datagrams ways octets ++ datagrams_if part)

part_stands : {S A : Type 0} (o : Asked A) (ways : List (Result Flows Refusal)) (w : Way)
    (gave : S → List ℕ) (ended : S → Type 0) (f : Fault) (front : List (S × S)) (at : S × S)
    (said : Option (List ℕ)) (begun between : Option (Intake A)) (s : Intake A)
    → Stands o begun said [] → TakesFiles o ways (WasRead gave ended) front begun between
    → MayTake o w gave ended f between (Some s) at
    → PartStands o ways w gave ended f front at said s
part_stands o ways w gave ended f front at said begun between s begins files (inl (p, is, taken)) =
    record {
      part = Some p;
      part_is = is;
      stands = λ octets tell.
          taken.stands (said_behind said octets) (files_datagrams ways octets)
          (files.0.stands octets said [] tell begins);
    }
part_stands {A = A} o ways w gave ended f front at said begun between s begins files (inr same) =
    record {
      part = None;
      part_is = tt;
      stands = λ octets tell.
          subst (λ (l : List (List ℕ)). Stands o (Some s) (said_behind said octets) l)
          (sym (append-nil (files_datagrams ways octets)))
          (subst (λ (x : Option (Intake A)). Stands o x (said_behind said octets)
          (files_datagrams ways octets)) (sym same)
          (files.0.stands octets said [] tell begins));
    }

counts_held : {A : Type 0} (o : Asked A) (window source : List ℕ) (Is : List ℕ → Type 0)
    (said : Option (List ℕ)) (s : Intake A) (ds : List (List ℕ)) (r : Reception)
    → AreTimestamps window o.window.items → IsSourceText source o.ssrc → Stands o (Some s) said ds
    → ((text : List ℕ) → Is text → said ≡ Some text)
    → r ≡ record { delivered = s.delivered; tally = s.tally }
    → CountsHolding window source Is ds r
counts_held o window source Is None s ds r is_window is_source stands opens is = absurd stands
counts_held o window source Is (Some said) s ds r is_window is_source stands opens is =
    subst (CountsHolding window source Is ds) (sym is) (record {
      opening = s.receiver.opening;
      window_is = subst (λ (w : List ℕ). AreTimestamps window w) (sym stands.window) is_window;
      source_is = subst (λ (p : Option ℕ). IsSourceText source p) (sym stands.ssrc) is_source;
      announced = λ text is.
          subst (λ (t : List ℕ). AnnouncesStream t s.receiver.opening)
          (some_is said text (opens text is)) stands.announced;
      tallied = stands.tallied;
      delivered = stands.delivered;
    })

pub counts : {S A : Type 0} (o : Asked A) (window source : List ℕ) (sdp : Option (List ℕ))
    (ways : List (Result Flows Refusal)) (f : S → List ℕ → Type 0) (files : List S)
    (begun : Option (Intake A)) (s : Intake A) (r : Reception)
    → AreTimestamps window o.window.items → IsSourceText source o.ssrc
    → Stands o begun sdp [] → TakesFiles o ways f files begun (Some s)
    → r ≡ record { delivered = s.delivered; tally = s.tally }
    → CountsReceived window source sdp ways f files r
counts o window source sdp ways f files begun s r is_window is_source begins taken is = record {
  counted = λ octets tell.
      counts_held o window source (λ text. said_behind sdp octets ≡ Some text)
      (said_behind sdp octets) s (files_datagrams ways octets) r is_window is_source
      (taken.0.stands octets sdp [] tell begins) (λ text is. is) is;
}

pub rescues : {S A : Type 0} (o : Asked A) (window source : List ℕ) (sdp : Option (List ℕ))
    (ways : List (Result Flows Refusal)) (gave : S → List ℕ) (ended : S → Type 0) (f : Fault)
    (files : List (S × S)) (begun : Option (Intake A)) (s : Intake A) (wanted : Bool)
    (shown shown' old new : List ℕ) (r : Reception) → AreTimestamps window o.window.items
    → IsSourceText source o.ssrc → Stands o begun sdp []
    → TakesFilesUpTo o ways gave ended f files begun (Some s)
    → shown' ≡ shown ++ received_text wanted s.delivered (tally_text s.tally) s.receiver
    → new ≡ old ++ state_text (kept_of s.receiver)
    → r ≡ record { delivered = s.delivered; tally = s.tally }
    → Rescues window source sdp ways gave ended f files wanted shown shown' old new r
rescues o window source sdp ways gave ended f files begun s wanted shown shown' old new r is_window
    is_source begins up printed taken is =
    let w : Way = way_at ways (length up.front) in
    let x : PartStands o ways w gave ended f up.front up.at sdp s =
    part_stands o ways w gave ended f up.front up.at sdp begun up.between s begins up.whole up.part
    in
    record {
      front = up.front;
      at = up.at;
      behind = up.behind;
      parts = up.parts;
      part = x.part;
      part_is = x.part_is;
      saved = λ octets tell.
          saves_held o window source
          (λ text. said_if (said_behind sdp octets) x.part ≡ Some text)
          (said_if (said_behind sdp octets) x.part) s
          (files_datagrams ways octets ++ datagrams_if x.part) wanted shown shown' old new
          is_window is_source (x.stands octets tell) (λ text is. is) printed taken;
      counted = λ octets tell.
          counts_held o window source
          (λ text. said_if (said_behind sdp octets) x.part ≡ Some text)
          (said_if (said_behind sdp octets) x.part) s
          (files_datagrams ways octets ++ datagrams_if x.part) r is_window is_source
          (x.stands octets tell) (λ text is. is) is;
    }

-- ---- a first part of the receiver that took them is written

holding : {A : Type 0} (o : Asked A) (window source : List ℕ) (Is : List ℕ → Type 0)
    (said : Option (List ℕ)) (s : Intake A) (ds : List (List ℕ))
    → AreTimestamps window o.window.items → IsSourceText source o.ssrc → Stands o (Some s) said ds
    → ((text : List ℕ) → Is text → said ≡ Some text)
    → IsOpenedHolding window source Is ds s.receiver
holding o window source Is None s ds is_window is_source stands opens = absurd stands
holding o window source Is (Some said) s ds is_window is_source stands opens = record {
  window_is = subst (λ (w : List ℕ). AreTimestamps window w) (sym stands.window) is_window;
  source_is = subst (λ (p : Option ℕ). IsSourceText source p) (sym stands.ssrc) is_source;
  announced = λ text is.
      subst (λ (t : List ℕ). AnnouncesStream t s.receiver.opening)
      (some_is said text (opens text is)) stands.announced;
  holds = stands.holds;
}

pub of_files : {S A : Type 0} (o : Asked A) (window source : List ℕ) (sdp : Option (List ℕ))
    (ways : List (Result Flows Refusal)) (f : S → List ℕ → Type 0) (files : List S)
    (begun : Option (Intake A)) (s : Intake A)
    → AreTimestamps window o.window.items → IsSourceText source o.ssrc
    → Stands o begun sdp [] → TakesFiles o ways f files begun (Some s)
    → IsReceiverOfFiles window source sdp ways f files s.receiver
of_files o window source sdp ways f files begun s is_window is_source begins taken =
    λ octets tell.
    holding o window source (λ text. said_behind sdp octets ≡ Some text)
    (said_behind sdp octets) s (files_datagrams ways octets) is_window is_source
    (taken.0.stands octets sdp [] tell begins) (λ text is. is)

pub of_part : {S A : Type 0} (o : Asked A) (window source : List ℕ) (sdp : Option (List ℕ))
    (ways : List (Result Flows Refusal)) (gave : S → List ℕ) (ended : S → Type 0) (f : Fault)
    (files : List (S × S)) (begun : Option (Intake A)) (s : Intake A)
    → AreTimestamps window o.window.items → IsSourceText source o.ssrc
    → Stands o begun sdp [] → TakesFilesUpTo o ways gave ended f files begun (Some s)
    → IsReceiverOfPart window source sdp ways gave ended files s.receiver
of_part o window source sdp ways gave ended f files begun s is_window is_source begins up =
    let w : Way = way_at ways (length up.front) in
    let x : PartStands o ways w gave ended f up.front up.at sdp s =
    part_stands o ways w gave ended f up.front up.at sdp begun up.between s begins up.whole up.part
    in
    record {
      front = up.front;
      at = up.at;
      behind = up.behind;
      parts = up.parts;
      fault = f;
      part = x.part;
      part_is = x.part_is;
      held = λ octets tell.
          holding o window source
          (λ text. said_if (said_behind sdp octets) x.part ≡ Some text)
          (said_if (said_behind sdp octets) x.part) s
          (files_datagrams ways octets ++ datagrams_if x.part) is_window is_source
          (x.stands octets tell) (λ text is. is);
    }
