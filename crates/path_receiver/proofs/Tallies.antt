-- One answer more in a tally.
use Rattle.std.proofs.Common.{◌≡◌, ◌≢◌, ℕ, zero, suc, ◌+◌, ◌-◌, ◌<◌, ◌≤◌, Bool, true, false}
use Rattle.std.proofs.Common.{List, [], ◌∷◌, ◌++◌, length, get_or, set, Result, Ok, Err}
use Rattle.std.proofs.Common.{refl, sym, ap, subst, ◌∙◌, arith, eqb, inl, inr, cond}
use Rattle.std.proofs.lemmas.Bool.Decides.{eqb_tells}
use Rattle.std.proofs.lemmas.List.{get_or-set_other, get_or-set_same, length-set}
use Rattle.std.proofs.lemmas.List.Sums.{sum_by-append}
use Rattle.std.specs.List.{AllByRecursion, count_by}
use Rattle.st_format.specs.Device.{capped}
use Rattle.path_receiver.specs.Answers.{refusal_number}
use Rattle.path_receiver.specs.declared.answer.Refusal.{Refusal}
use Rattle.path_receiver.specs.declared.answer.Refusal.TheVariants as why
use Rattle.path_receiver.specs.declared.answer.Taken.{Taken}
use Rattle.path_receiver.specs.declared.answer.Taken.TheVariants.{Kept, Outside}
use Rattle.payload_header.specs.Faults.{payload_fault_number}
use Rattle.payload_header.specs.declared.payload.PayloadFault.{PayloadFault}
use Rattle.payload_header.specs.declared.payload.PayloadFault.TheVariants as payload
use Rattle.rtp_header.specs.Faults.{rtp_fault_number}
use Rattle.rtp_header.specs.declared.header.RtpFault.{RtpFault}
use Rattle.rtp_header.specs.declared.header.RtpFault.TheVariants as rtp
use Rattle.path_receiver.specs.Tallied.{Tallies, TalliesMore, count_after, is_kept}
use Rattle.path_receiver.specs.Tallied.{is_outside, is_refusal, slot_of, tally_after}
use Rattle.path_receiver.specs.declared.tally.Tally.{Tally}

-- ---- numbers of refusals

-- a number is one of 1 to 14
pub record IsPlaced (n : ℕ) : Type 0 where
  pub some : 1 ≤ n
  pub most : n ≤ 14

rtp_placed : (e : RtpFault) → IsPlaced (rtp_fault_number e)
rtp_placed rtp.ShortHeader = record { some = omega arith; most = omega arith }
rtp_placed rtp.BadVersion = record { some = omega arith; most = omega arith }
rtp_placed rtp.ShortExtension = record { some = omega arith; most = omega arith }
rtp_placed rtp.BadPadding = record { some = omega arith; most = omega arith }

payload_placed : (e : PayloadFault) → IsPlaced (6 + payload_fault_number e)
payload_placed payload.ShortPayloadHeader = record { some = omega arith; most = omega arith }
payload_placed payload.TooManySegments = record { some = omega arith; most = omega arith }
payload_placed payload.SecondField = record { some = omega arith; most = omega arith }
payload_placed payload.BadLength = record { some = omega arith; most = omega arith }
payload_placed payload.BadOffset = record { some = omega arith; most = omega arith }
payload_placed payload.RowOutside = record { some = omega arith; most = omega arith }
payload_placed payload.ColumnsOutside = record { some = omega arith; most = omega arith }
payload_placed payload.ShortData = record { some = omega arith; most = omega arith }

pub refusal_placed : (e : Refusal) → IsPlaced (refusal_number e)
refusal_placed (why.Header e) = rtp_placed e
refusal_placed why.WrongPayloadType = record { some = omega arith; most = omega arith }
refusal_placed why.WrongSource = record { some = omega arith; most = omega arith }
refusal_placed (why.Payload e) = payload_placed e

-- ---- counts

-- one more behind a list is counted, and another is not
one_counted : {X : Type 0} (p : X → Bool) (xs : List X) (x : X) → p x ≡ true
    → count_by p (xs ++ x ∷ []) ≡ count_by p xs + 1
one_counted p xs x is =
    sum_by-append (λ y. cond (p y) 1 0) xs (x ∷ [])
    ∙ ap (λ (b : Bool). count_by p xs + (0 + cond b 1 0)) is ∙ omega arith

none_counted : {X : Type 0} (p : X → Bool) (xs : List X) (x : X) → p x ≡ false
    → count_by p (xs ++ x ∷ []) ≡ count_by p xs
none_counted p xs x is =
    sum_by-append (λ y. cond (p y) 1 0) xs (x ∷ [])
    ∙ ap (λ (b : Bool). count_by p xs + (0 + cond b 1 0)) is ∙ omega arith

-- a count that fits, and one more
fitting_more : (count n m : ℕ) → count ≡ capped n → m ≡ n + 1 → count_after count ≡ capped m
fitting_more count n m is more = omega (arith, is, more)

-- the count of a refusal behind one that came
refused_more : (f e : Refusal) (counts : List ℕ) (answers : List (Result Taken Refusal))
    → length counts ≡ 14
    → get_or counts (slot_of e) 0 ≡ capped (count_by (is_refusal e) answers)
    → get_or (set counts (slot_of f) (count_after (get_or counts (slot_of f) 0))) (slot_of e) 0
    ≡ capped (count_by (is_refusal e) (answers ++ Err f ∷ []))
refused_more f e counts answers places before =
    elim (eqb_tells (refusal_number f) (refusal_number e)) [
      | inl same ↦ of_it f e counts answers places before same.0 same.1
      | inr other ↦ of_other f e counts answers before other.0 other.1
    ]
  where
    of_it : (f e : Refusal) (counts : List ℕ) (answers : List (Result Taken Refusal))
        → length counts ≡ 14
        → get_or counts (slot_of e) 0 ≡ capped (count_by (is_refusal e) answers)
        → eqb (refusal_number f) (refusal_number e) ≡ true → refusal_number f ≡ refusal_number e
        → get_or (set counts (slot_of f) (count_after (get_or counts (slot_of f) 0))) (slot_of e)
        0 ≡ capped (count_by (is_refusal e) (answers ++ Err f ∷ []))
    of_it f e counts answers places before test same =
        let at : slot_of f ≡ slot_of e = ap (λ (n : ℕ). n - 1) same in
        let placed : IsPlaced (refusal_number f) = refusal_placed f in
        let inside : slot_of f < length counts = omega (arith, placed.some, placed.most, places) in
        let now : List ℕ =
        set counts (slot_of f) (count_after (get_or counts (slot_of f) 0)) in
        ap (λ (i : ℕ). get_or now i 0) (sym at)
        ∙ get_or-set_same counts (slot_of f) (count_after (get_or counts (slot_of f) 0)) 0 inside
        ∙ ap (λ (i : ℕ). count_after (get_or counts i 0)) at
        ∙ fitting_more (get_or counts (slot_of e) 0) (count_by (is_refusal e) answers)
        (count_by (is_refusal e) (answers ++ Err f ∷ [])) before
        (one_counted (is_refusal e) answers (Err f) test)

    of_other : (f e : Refusal) (counts : List ℕ) (answers : List (Result Taken Refusal))
        → get_or counts (slot_of e) 0 ≡ capped (count_by (is_refusal e) answers)
        → eqb (refusal_number f) (refusal_number e) ≡ false → refusal_number f ≢ refusal_number e
        → get_or (set counts (slot_of f) (count_after (get_or counts (slot_of f) 0))) (slot_of e)
        0 ≡ capped (count_by (is_refusal e) (answers ++ Err f ∷ []))
    of_other f e counts answers before test other =
        let one : IsPlaced (refusal_number f) = refusal_placed f in
        let two : IsPlaced (refusal_number e) = refusal_placed e in
        let apart : slot_of e ≢ slot_of f =
        λ at. other (omega (arith, at, one.some, two.some)) in
        get_or-set_other counts (slot_of f) (slot_of e)
        (count_after (get_or counts (slot_of f) 0)) 0 apart
        ∙ before
        ∙ ap (λ (n : ℕ). capped n) (sym (none_counted (is_refusal e) answers (Err f) test))

-- ---- tallies

pub tallied_more : (t : Tally) (answer : Result Taken Refusal)
    (answers : List (Result Taken Refusal)) → Tallies t answers
    → Tallies (tally_after answer t) (answers ++ answer ∷ [])
tallied_more t (Ok (Kept number)) answers before = record {
  places = before.places;
  refused = λ e. before.refused e
      ∙ ap (λ (n : ℕ). capped n)
      (sym (none_counted (is_refusal e) answers (Ok (Kept number)) refl));
  outside = before.outside
      ∙ ap (λ (n : ℕ). capped n)
      (sym (none_counted is_outside answers (Ok (Kept number)) refl));
  kept = fitting_more t.kept (count_by is_kept answers)
      (count_by is_kept (answers ++ Ok (Kept number) ∷ [])) before.kept
      (one_counted is_kept answers (Ok (Kept number)) refl);
}
tallied_more t (Ok Outside) answers before = record {
  places = before.places;
  refused = λ e. before.refused e
      ∙ ap (λ (n : ℕ). capped n) (sym (none_counted (is_refusal e) answers (Ok Outside) refl));
  outside = fitting_more t.outside (count_by is_outside answers)
      (count_by is_outside (answers ++ Ok Outside ∷ [])) before.outside
      (one_counted is_outside answers (Ok Outside) refl);
  kept = before.kept
      ∙ ap (λ (n : ℕ). capped n) (sym (none_counted is_kept answers (Ok Outside) refl));
}
tallied_more t (Err f) answers before = record {
  places = length-set t.refused (slot_of f) (count_after (get_or t.refused (slot_of f) 0))
      ∙ before.places;
  refused = λ e. refused_more f e t.refused answers before.places (before.refused e);
  outside = before.outside
      ∙ ap (λ (n : ℕ). capped n) (sym (none_counted is_outside answers (Err f) refl));
  kept = before.kept ∙ ap (λ (n : ℕ). capped n) (sym (none_counted is_kept answers (Err f) refl));
}

pub tallies_more : (old new : Tally) (answer : Result Taken Refusal) → new ≡ tally_after answer old
    → TalliesMore old new answer
tallies_more old new answer is = λ answers before.
    subst (λ (t : Tally). Tallies t (answers ++ answer ∷ [])) (sym is)
    (tallied_more old answer answers before)

-- nothing was counted
pub tallies_none : (t : Tally) → length t.refused ≡ 14
    → AllByRecursion (λ count. count ≡ 0) t.refused → t.outside ≡ 0 → t.kept ≡ 0 → Tallies t []
tallies_none t places none outside kept = record {
  places = places;
  refused = λ e. zero_at t.refused (slot_of e) none;
  outside = outside;
  kept = kept;
}
  where
    zero_at : (counts : List ℕ) (i : ℕ) → AllByRecursion (λ count. count ≡ 0) counts
        → get_or counts i 0 ≡ 0
    zero_at [] i none = refl
    zero_at (x ∷ xs) zero none = none.0
    zero_at (x ∷ xs) (suc i) none = zero_at xs i none.1
