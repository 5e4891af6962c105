-- The lines of refusals.
use Rattle.std.proofs.Common.{◌≡◌, ℕ, ◌+◌, ◌<◌, List, ◌++◌, get_or, slice_index, ap, sym, subst}
use Rattle.path_receiver.specs.Answers.{refusal_number, all_refusals}
use Rattle.path_receiver.specs.declared.answer.Refusal.{Refusal}
use Rattle.path_receiver.proofs.Slots.{at_place, place_is}
use Rattle.run_outcome.proofs.Printed.{texts_before, texts_more}
use Rattle.stream_inspection.specs.Lines.{counted_line}
use Rattle.stream_inspection.specs.Told.{refused_line}
use Rattle.stream_inspection.specs.declared.rows.Row.TheVariants.{Refused}
use Rattle.stream_inspection.specs.declared.text.Form.{Form}

-- the line of the refusal of a number, by its count
line_at : (form : Form) (counts : List ℕ) (e : Refusal) (i : ℕ) → refusal_number e ≡ i + 1
    → counted_line form (Refused e (slice_index counts i)) (slice_index counts i)
    ≡ refused_line form counts e
line_at form counts e i is =
    ap (λ (j : ℕ). counted_line form (Refused e (slice_index counts j)) (slice_index counts j))
    (sym (place_is e i is))

pub refusals_more : (form : Form) (counts : List ℕ) (e : Refusal) (i : ℕ) (old mid new : List ℕ)
    → refusal_number e ≡ i + 1 → i < 14
    → mid ≡ old ++ texts_before (refused_line form counts) all_refusals i
    → new ≡ mid ++ counted_line form (Refused e (slice_index counts i)) (slice_index counts i)
    → new ≡ old ++ texts_before (refused_line form counts) all_refusals (i + 1)
refusals_more form counts e i old mid new is lt p q =
    texts_more (refused_line form counts) all_refusals i e e old mid new lt
    (subst (λ (j : ℕ). e ≡ get_or all_refusals j e) (place_is e i is) (at_place e)) p
    (subst (λ (t : List ℕ). new ≡ mid ++ t) (line_at form counts e i is) q)
