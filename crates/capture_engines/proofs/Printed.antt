-- Lines that are printed one after the other.
use Rattle.std.proofs.Common.{◌≡◌, ℕ, ◌+◌, ◌<◌, List, [], ◌∷◌, ◌++◌, length, get_or, count_by}
use Rattle.std.proofs.Common.{ap, subst, sym, ◌∙◌, ◌≢◌, zero, suc, Bool, Result, arith, map}
use Rattle.std.proofs.Common.{append-nil, refl, slice_index}
use Rattle.std.specs.List.{flat_map}
use Rattle.path_receiver.specs.Frames.{State}
use Rattle.st_format.specs.Device.{GrowsPart, capped}
use Rattle.path_receiver.proofs.Slots.{at_place, place_is}
use Rattle.path_receiver.specs.Answers.{all_refusals, refusal_number, taken_at}
use Rattle.path_receiver.specs.declared.answer.Refusal.{Refusal}
use Rattle.run_outcome.specs.Line.{line_text}
use Rattle.capture_engines.specs.Printed.{counted_line, refusal_line, answers_text, received_text}
use Rattle.capture_engines.specs.Printed.{taken_text, tally_text}
use Rattle.path_receiver.specs.Tallied.{Tallies, is_refusal}
use Rattle.run_outcome.specs.declared.line.Line.{Line}
use Rattle.run_outcome.specs.declared.line.Line.TheVariants.{OutsideCount, RefusedCount}
use Rattle.path_receiver.specs.declared.tally.Tally.{Tally}
use Rattle.path_receiver.specs.declared.answer.Taken.{Taken}
use Rattle.run_outcome.proofs.Printed.{texts_before, texts_more, texts_cut}

-- ---- the lines of refusals

-- the line of the refusal of a number, by its count
line_at : (counts : List ℕ) (e : Refusal) (i : ℕ) → refusal_number e ≡ i + 1
    → counted_line (slice_index counts i) (RefusedCount e (slice_index counts i))
    ≡ refusal_line counts e
line_at counts e i is =
    ap (λ (j : ℕ). counted_line (slice_index counts j) (RefusedCount e (slice_index counts j)))
    (sym (place_is e i is))

pub refusals_more : (counts : List ℕ) (e : Refusal) (i : ℕ) (old mid new : List ℕ)
    → refusal_number e ≡ i + 1 → i < 14
    → mid ≡ old ++ texts_before (refusal_line counts) all_refusals i
    → new ≡ mid ++ counted_line (slice_index counts i) (RefusedCount e (slice_index counts i))
    → new ≡ old ++ texts_before (refusal_line counts) all_refusals (i + 1)
refusals_more counts e i old mid new is lt p q =
    texts_more (refusal_line counts) all_refusals i e e old mid new lt
    (subst (λ (j : ℕ). e ≡ get_or all_refusals j e) (place_is e i is) (at_place e)) p
    (subst (λ (t : List ℕ). new ≡ mid ++ t) (line_at counts e i is) q)

pub refusals_cut : (counts : List ℕ) (e : Refusal) (i : ℕ) (old mid new : List ℕ)
    → refusal_number e ≡ i + 1 → i < 14
    → mid ≡ old ++ texts_before (refusal_line counts) all_refusals i
    → GrowsPart mid new
    (counted_line (slice_index counts i) (RefusedCount e (slice_index counts i)))
    → GrowsPart old new (flat_map (refusal_line counts) all_refusals)
refusals_cut counts e i old mid new is lt p q =
    texts_cut (refusal_line counts) all_refusals i e e old mid new lt
    (subst (λ (j : ℕ). e ≡ get_or all_refusals j e) (place_is e i is) (at_place e)) p
    (subst (λ (t : List ℕ). GrowsPart mid new t) (line_at counts e i is) q)

-- a line of a count
pub none_counted : (count : ℕ) (line : Line) (took : List ℕ) → count ≡ 0
    → took ≡ took ++ counted_line count line
none_counted zero line took is = sym (append-nil took)
none_counted (suc n) line took is = absurd (omega (arith, is))

pub some_counted : (count : ℕ) (line : Line) → count ≢ 0
    → line_text line ++ 10 ∷ [] ≡ counted_line count line
some_counted zero line is = absurd (is refl)
some_counted (suc n) line is = refl

-- ---- the lines of a tally's counts

flat_same : {X : Type 0} (f g : X → List ℕ) → ((x : X) → f x ≡ g x) → (xs : List X)
    → flat_map f xs ≡ flat_map g xs
flat_same f g same [] = refl
flat_same f g same (x ∷ xs) =
    ap (λ (t : List ℕ). t ++ flat_map f xs) (same x)
    ∙ ap (λ (t : List ℕ). g x ++ t) (flat_same f g same xs)

-- they are those of the answers that it counts
tally_text_is : (t : Tally) (answers : List (Result Taken Refusal)) → Tallies t answers
    → tally_text t ≡ answers_text answers
tally_text_is t answers tallied =
    ap (λ (lines : List ℕ). lines ++ counted_line t.outside (OutsideCount t.outside))
    (flat_same (refusal_line t.refused)
    (λ e. counted_line (capped (count_by (is_refusal e) answers))
    (RefusedCount e (capped (count_by (is_refusal e) answers))))
    (λ e. ap (λ (n : ℕ). counted_line n (RefusedCount e n)) (tallied.refused e)) all_refusals)
    ∙ ap (λ (n : ℕ). flat_map
    (λ e. counted_line (capped (count_by (is_refusal e) answers))
    (RefusedCount e (capped (count_by (is_refusal e) answers)))) all_refusals
    ++ counted_line n (OutsideCount n)) tallied.outside

pub received_text_is : (wanted : Bool) (delivered : ℕ) (t : Tally) (s : State)
    (datagrams : List (List ℕ)) → delivered ≡ capped (length datagrams)
    → Tallies t (map (taken_at s.opening) datagrams)
    → received_text wanted delivered (tally_text t) s ≡ taken_text wanted s datagrams
received_text_is wanted delivered t s datagrams count tallied =
    ap (λ (n : ℕ). received_text wanted n (tally_text t) s) count
    ∙ ap (λ (lines : List ℕ). received_text wanted (capped (length datagrams)) lines s)
    (tally_text_is t (map (taken_at s.opening) datagrams) tallied)
