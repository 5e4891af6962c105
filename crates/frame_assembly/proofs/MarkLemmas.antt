-- Mark words and states of the same cells.
use Rattle.std.proofs.Common.{◌≡◌, ℕ, ◌-◌, ◌<◌, ◌≤◌, Bool, true, false, cond, eqb, ltb, List}
use Rattle.std.proofs.Common.{length, get_or, bit_or, refl, sym, ap, ◌∙◌, arith}
use Rattle.std.specs.Int.{bit_at}
use Rattle.std.proofs.lemmas.Bool.{eqb-false, eqb-true, ltb-false, ltb-true}
use Rattle.std.proofs.lemmas.Nat.Bits.{bit_at-pow_other, bit_at_above}
use Rattle.st_format.specs.declared.cell.Cell.{Cell}
use Rattle.st_format.specs.declared.cell.Cell.TheVariants.{Missing, Value, Contested}
use Rattle.st_format.specs.Cell.{is_contested, is_missing, is_present}
use Rattle.frame_assembly.specs.declared.state.GroupState.TheVariants.{Gone, Whole, Mixed}
use Rattle.frame_assembly.specs.Marks.{state_of_mark}
use Rattle.frame_assembly.specs.Rows.{IsMarkOf, IsStateOf}
use Rattle.frame_assembly.proofs.GivenLemmas.{high_of_or, low_of_or}
use Rattle.frame_assembly.proofs.GroupCells.{mixed_contested, mixed_others, not_missing, whole}

-- ---- the state that a mark word says

gone_state : (mark : ℕ) (cells : List Cell) → mark < 32768 → IsMarkOf mark cells
    → IsStateOf Gone cells
gone_state mark cells lt is =
    λ i within. is.missing i within
    ∙ ap (λ (b : ℕ). eqb b 0) (bit_at_above mark 15 15 (omega (arith, lt)) (omega arith))

state_by : (mark : ℕ) (cells : List Cell) (gone even : Bool) → length cells ≤ 12 → mark < 65536
    → IsMarkOf mark cells → ltb mark 32768 ≡ gone → eqb mark 32768 ≡ even
    → IsStateOf (cond gone Gone (cond even Whole (Mixed (mark - 32768)))) cells
state_by mark cells true even few small is low same =
    gone_state mark cells (ltb-true mark 32768 low) is
state_by mark cells false true few small is low same =
    whole mark cells (eqb-true mark 32768 same) few is
state_by mark cells false false few small is low same =
    let high : 32768 ≤ mark = ltb-false mark 32768 low in
    let other : mark ≡ 32768 → ⊥ = eqb-false mark 32768 same in (
      λ e. other (omega (arith, high, e)),
      not_missing mark cells high small is,
      mixed_contested mark cells high few is,
      mixed_others mark cells high small few is,
    )

-- what a mark word of some cells says is their state
pub state_is : (mark : ℕ) (cells : List Cell) → length cells ≤ 12 → mark < 65536
    → IsMarkOf mark cells → IsStateOf (state_of_mark mark) cells
state_is mark cells few small is =
    state_by mark cells (ltb mark 32768) (eqb mark 32768) few small is refl refl

-- ---- the mark word of a state

pub has_value : (c : Cell) → is_present c ≡ true → is_missing c ≡ false
has_value Missing e = let f = e in cc
has_value (Value v) e = refl
has_value Contested e = refl

pub value_alone : (c : Cell) → is_present c ≡ true → is_contested c ≡ false
value_alone Missing e = refl
value_alone (Value v) e = refl
value_alone Contested e = let f = e in cc

bit_of_whole : (i : ℕ) → i < 15 → bit_at 32768 i ≡ 0
bit_of_whole i lt = let ne : i ≡ 15 → ⊥ = λ e. absurd (omega arith) in bit_at-pow_other 15 i ne

pub whole_mark : (cells : List Cell) → length cells ≤ 12 → IsStateOf Whole cells
    → IsMarkOf 32768 cells
whole_mark cells few is = record {
  missing = λ i within. has_value (get_or cells i Missing) (is i within);
  contested =
      λ i within. value_alone (get_or cells i Missing) (is i within)
      ∙ ap (λ (b : ℕ). eqb b 1) (sym (bit_of_whole i (omega (arith, within, few))));
  others = λ i le lt. bit_of_whole i lt;
}

pub mixed_mark : (mask : ℕ) (cells : List Cell) → length cells ≤ 12
    → IsStateOf (Mixed mask) cells → IsMarkOf (bit_or 32768 mask) cells
mixed_mark mask cells few is = record {
  missing = λ i within. is.1 i within ∙ ap (λ (b : ℕ). eqb b 0) (sym (high_of_or mask));
  contested =
      λ i within. is.2 i within
      ∙ ap (λ (b : ℕ). eqb b 1) (sym (low_of_or mask i (omega (arith, within, few))));
  others = λ i le lt. low_of_or mask i lt ∙ is.3 i le;
}
