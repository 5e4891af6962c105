-- What lines of `trace` that were followed do, told of their texts: so two runs of the same lines
-- note numbers alike, and a line that was followed is not at fault.
use Rattle.std.proofs.Common.{◌≡◌, ◌≤◌, ◌<◌, ℕ, Bool, true, false, List, drop, get_or}
use Rattle.std.proofs.Common.{length, Option, None, Some, Result, Ok, Err, inl, inr}
use Rattle.std.proofs.Common.{refl, sym, ap, ◌∙◌, subst, arith}
use Rattle.std.specs.Prelude.{◌==◌, if◌then◌else◌}
use Rattle.std.specs.Str.Parse.{digits_value}
use Rattle.st_format.specs.declared.path.Path.TheVariants as path
use Rattle.path_receiver.specs.Answers.{taken_at}
use Rattle.path_receiver.specs.Frames.{State}
use Rattle.path_receiver.specs.Numbers.{IsCount, Numbers}
use Rattle.path_receiver.specs.declared.answer.Refusal.{Refusal}
use Rattle.path_receiver.specs.declared.answer.Taken.{Taken}
use Rattle.path_receiver.specs.declared.answer.Taken.TheVariants as taken
use Rattle.run_outcome.specs.declared.fault.Fault.{Fault}
use Rattle.run_outcome.specs.declared.line.Line.{Line}
use Rattle.script_engines.specs.declared.line.TraceLine.{TraceLine}
use Rattle.script_engines.specs.declared.line.TraceLine.TheVariants as line
use Rattle.script_engines.specs.Forms.{AreTwo, IsOctetsText, IsTraceLine}
use Rattle.script_engines.specs.Session.{Follows, IsAtFault, IsUnfitLine, numbers_after}
use Rattle.script_engines.specs.Traced.{FollowsLine, IsUnfollowed}
use Rattle.script_engines.proofs.FormLemmas.{later, second_same}

-- the letter at a place
abbrev letter_at : ℕ → List ℕ → ℕ
letter_at n text = get_or text n 0

-- ---- whether numbers are noted

abbrev pub noted : Option Numbers → Bool
noted None = false
noted (Some numbers) = true

none_noted : (numbers : Option Numbers) → noted numbers ≡ false → numbers ≡ None
none_noted None e = refl
none_noted (Some numbers) e = let clash : true ≡ false = e in absurd cc

noted_after : (answer : Result Taken Refusal) (numbers : Option Numbers)
    → noted (numbers_after answer numbers) ≡ noted numbers
noted_after (Ok (taken.Kept number)) None = refl
noted_after (Ok (taken.Kept number)) (Some numbers) = refl
noted_after (Ok taken.Outside) numbers = refl
noted_after (Err refusal) numbers = refl

-- behind a line they are where it is one `numbers`, which alone begins with an `n`, and else as
-- before
abbrev pub noted_by : Bool → List ℕ → Bool
noted_by before text = if letter_at 0 text == 110 then true else before

line_notes : (text : List ℕ) (said : TraceLine) (old new : State) (before after : Option Numbers)
    (answer : Option Line) → IsTraceLine text said → Follows said old new before after answer
    → noted after ≡ noted_by (noted before) text
line_notes text (line.Datagram path.A digits) old new before after answer is does =
    ap noted does.3.numbers ∙ noted_after (taken_at old.opening does.0) before
    ∙ sym (ap (noted_by (noted before)) is)
line_notes text (line.Datagram path.B digits) old new before after answer is does =
    ap noted does.3.numbers ∙ noted_after (taken_at old.opening does.0) before
    ∙ sym (ap (noted_by (noted before)) is)
line_notes text (line.Slide next) old new before after answer is does =
    ap noted does.numbers ∙ sym (ap (noted_by (noted before)) is.1)
line_notes text (line.Numbers first count) old new before after answer is does =
    ap noted does.numbers ∙ sym (ap (noted_by (noted before)) is.1)
line_notes text (line.Cell place) old new before after answer is does =
    ap noted does.numbers ∙ sym (ap (noted_by (noted before)) is.1)

pub followed_notes : (text : List ℕ) (old new : State) (before after : Option Numbers)
    (answer : Option Line) → FollowsLine text old new before after answer
    → noted after ≡ noted_by (noted before) text
followed_notes text old new before after answer f =
    line_notes text f.0 old new before after answer f.1 f.2

-- ---- a line that was followed

-- what stands behind a word and a space of so many octets
abbrev behind_word : ℕ → List ℕ → List ℕ
behind_word n text = drop n text

-- octets of which a datagram may be, whose digits these are
record FitsOctets (digits : List ℕ) : Type 0 where
  octets : List ℕ
  few : length octets ≤ 65535
  said : IsOctetsText digits octets

-- the octets of a line of a datagram: its letter is an `A` or a `B`
line_fits : (text : List ℕ) (said : TraceLine) (old new : State) (before after : Option Numbers)
    (answer : Option Line) → IsTraceLine text said → Follows said old new before after answer
    → letter_at 0 text < 67 → FitsOctets (drop 2 text)
line_fits text (line.Datagram path.A digits) old new before after answer is does letter = record {
  octets = does.0;
  few = does.1;
  said = subst (λ (d : List ℕ). IsOctetsText d does.0) (sym (ap (behind_word 2) is)) does.2;
}
line_fits text (line.Datagram path.B digits) old new before after answer is does letter = record {
  octets = does.0;
  few = does.1;
  said = subst (λ (d : List ℕ). IsOctetsText d does.0) (sym (ap (behind_word 2) is)) does.2;
}
line_fits text (line.Slide next) old new before after answer is does letter =
    let other : letter_at 0 text ≡ 115 = ap (letter_at 0) is.1 in
    absurd (omega (arith, other, letter))
line_fits text (line.Numbers first count) old new before after answer is does letter =
    let other : letter_at 0 text ≡ 110 = ap (letter_at 0) is.1 in
    absurd (omega (arith, other, letter))
line_fits text (line.Cell place) old new before after answer is does letter =
    let other : letter_at 0 text ≡ 99 = ap (letter_at 0) is.1 in
    absurd (omega (arith, other, letter))

-- what a line `numbers` begins
record BeginsCount (digits : List ℕ) (before : Option Numbers) : Type 0 where
  first : ℕ
  count : ℕ
  said : AreTwo digits first count
  once : before ≡ None
  size : IsCount count

line_begins : (text : List ℕ) (said : TraceLine) (old new : State) (before after : Option Numbers)
    (answer : Option Line) → IsTraceLine text said → Follows said old new before after answer
    → letter_at 0 text ≡ 110 → BeginsCount (drop 8 text) before
line_begins text (line.Datagram path.A digits) old new before after answer is does letter =
    let other : letter_at 0 text ≡ 65 = ap (letter_at 0) is in
    absurd (omega (arith, other, letter))
line_begins text (line.Datagram path.B digits) old new before after answer is does letter =
    let other : letter_at 0 text ≡ 66 = ap (letter_at 0) is in
    absurd (omega (arith, other, letter))
line_begins text (line.Slide next) old new before after answer is does letter =
    let other : letter_at 0 text ≡ 115 = ap (letter_at 0) is.1 in
    absurd (omega (arith, other, letter))
line_begins text (line.Numbers first count) old new before after answer is does letter = record {
  first = first;
  count = count;
  said = subst (λ (d : List ℕ). AreTwo d first count) (sym (ap (behind_word 8) is.1)) is.2;
  once = does.once;
  size = does.size;
}
line_begins text (line.Cell place) old new before after answer is does letter =
    let other : letter_at 0 text ≡ 99 = ap (letter_at 0) is.1 in
    absurd (omega (arith, other, letter))

second_number : (text other : List ℕ) (m n k l : ℕ) → text ≡ other → AreTwo text m n
    → AreTwo other k l → n ≡ l
second_number text other m n k l same p q =
    let both =
    second_same text p.first p.second q.first q.second p.parts
    (later text other (Some (q.first, q.second)) same q.parts) in
    p.second_is.value ∙ ap (λ (digits : List ℕ). digits_value 10 digits) both.1
    ∙ sym q.second_is.value

module _ (text : List ℕ) (old new : State) (before after : Option Numbers) (answer : Option Line)
    (f : FollowsLine text old new before after answer) (numbers : Option Numbers)
    (same : noted before ≡ noted numbers)
  where
    not_unfit : (said : TraceLine) → IsTraceLine text said → IsUnfitLine said 65535 numbers → ⊥
    not_unfit (line.Datagram path.A digits) is unfit =
        let letter : letter_at 0 text ≡ 65 = ap (letter_at 0) is in
        let fits =
        line_fits text f.0 old new before after answer f.1 f.2 (omega (arith, letter)) in
        unfit fits.octets fits.few
        (subst (λ (d : List ℕ). IsOctetsText d fits.octets) (ap (behind_word 2) is)
        fits.said)
    not_unfit (line.Datagram path.B digits) is unfit =
        let letter : letter_at 0 text ≡ 66 = ap (letter_at 0) is in
        let fits =
        line_fits text f.0 old new before after answer f.1 f.2 (omega (arith, letter)) in
        unfit fits.octets fits.few
        (subst (λ (d : List ℕ). IsOctetsText d fits.octets) (ap (behind_word 2) is)
        fits.said)
    not_unfit (line.Slide next) is unfit = absurd unfit
    not_unfit (line.Numbers first count) is unfit =
        let begins =
        line_begins text f.0 old new before after answer f.1 f.2 (ap (letter_at 0) is.1) in
        unfit (none_noted numbers (sym same ∙ ap noted begins.once))
    not_unfit (line.Cell place) is unfit = absurd unfit

    not_at_fault : IsAtFault text 65535 numbers → ⊥
    not_at_fault (inl none) = none f.0 f.1
    not_at_fault (inr said) = not_unfit said.0 said.1 said.2

    pub not_unfollowed : (number : ℕ) (e : Fault) → IsUnfollowed (number, text) numbers e → ⊥
    not_unfollowed number e (inl bad) = not_at_fault bad.1
    not_unfollowed number e (inr bad) =
        let is = bad.2 in
        let begins =
        line_begins text f.0 old new before after answer f.1 f.2 (ap (letter_at 0) is.1) in
        let count : begins.count ≡ bad.1 =
        second_number (drop 8 text) is.0 begins.first begins.count bad.0 bad.1
        (ap (behind_word 8) is.1) begins.said is.2 in
        bad.4 (subst (λ (n : ℕ). IsCount n) count begins.size)
