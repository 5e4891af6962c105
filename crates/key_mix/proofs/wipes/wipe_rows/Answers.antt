use Rattle.std.proofs.Common.{
  ◌≡◌,
  ℕ,
  ◌+◌,
  ◌-◌,
  ◌<◌,
  ◌≤◌,
  get_or,
  length,
  take,
  drop,
  refl,
  arith,
  sym,
  ap,
  subst,
  ◌∙◌,
}
use Rattle.std.proofs.Math.Nat.{le-add_right}
use Rattle.std.proofs.lemmas.List.{length-take, length-drop}
use borrow.Rule.Slice.PartMut.{same_len_mid}
use Rattle.st_format.specs.Position.{row_samples}
use Rattle.bt709_fixed.proofs.Part.{part_made}
use Rattle.key_mix.specs.Jobs.{along}
use Rattle.key_mix.specs.Rows.{in_row, row_weight, wiped_at}
use Rattle.key_mix.proofs.InRow.{all_rows, row_far, row_within, same_part}
use Rattle.key_mix.proofs.Mixed.{weight_most}
use Rattle.key_mix.proofs.Parts.{next_row, wiped_row}
use Rattle.key_mix.proofs.wipes.wipe_rows.Goals as goal

pub loop-row-init : goal.loop-row-init
loop-row-init c =
    let same = c.sampling-sampling.ensures in
    record {
      long = c.requires.of_out;
      begins = omega arith;
      within = omega arith;
      room = c.first_weights.ensures.long ∙ c.requires.of_row;
      weights =
          λ j h. c.first_weights.ensures.each j h ∙ ap (λ s. row_weight c.args.shape s 0 j) same;
      done = λ k h. absurd (omega arith);
    }

pub slice_bounds-mix256-end : goal.slice_bounds-mix256-end
slice_bounds-mix256-end c =
    let f = c.args.format in
    let l = c.loop-row in
    let lt : l.row < f.height = omega (arith, c.height-height.ensures, c.loop-row-test.true) in
    let fits =
    row_within l.row l.at c.row_samples-n.result (row_samples f) f.height
    (length l.out) l.invariant.begins c.row_samples-n.ensures.value l.invariant.long lt in
    omega (arith, fits, l.invariant.long, c.requires.of_a)

pub mix256-requires-clause-weights : goal.mix256-requires-clause-weights
mix256-requires-clause-weights c = λ j h.
    let w = c.args.shape in
    let l = c.loop-row in
    subst (λ x. x ≤ 256) (sym (l.invariant.weights j h))
    (weight_most (along w.axis (in_row c.args.format.sampling l.row j)) w.position w.soft)

pub loop-row-preserved : goal.loop-row-preserved
loop-row-preserved c =
    let f = c.args.format in
    let w = c.args.shape in
    let l = c.loop-row in
    let inv = l.invariant in
    let n = c.row_samples-n.result in
    let of_n = c.row_samples-n.ensures.value in
    let a = l.at in
    let m = a + n - a in
    let xs = l.out in
    let ys = c.mix256.new.out in
    let lt : l.row < f.height = omega (arith, c.height-height.ensures, c.loop-row-test.true) in
    let fits : a + n ≤ length xs =
    row_within l.row a n (row_samples f) f.height (length xs) inv.begins of_n inv.long lt in
    let long : length ys ≡ length (take m (drop a xs)) = c.mix256.auto.out in
    let count : length ys ≡ n =
    omega (arith, long, length-take m (drop a xs), length-drop a xs, fits) in
    let whole = same_len_mid a m xs ys long in
    let each : (i : ℕ) → i < length ys
    → get_or ys i 0 ≡ wiped_at w f c.args.a.now c.args.b.now (a + i) = λ i b.
    let below : i < row_samples f = omega (arith, b, count, of_n) in
    c.mix256.ensures i b
    ∙ wiped_row w f c.args.a.now c.args.b.now l.weights l.row a m i inv.begins below
    (omega (arith, b, count)) (inv.weights i (omega (arith, below, inv.room))) in
    let done =
    part_made (λ k v. wiped_at w f c.args.a.now c.args.b.now k) xs xs ys a m
    (omega (arith, fits)) (λ k b. refl) long inv.done each in
    record {
      long = whole ∙ inv.long;
      begins = omega (arith, inv.begins, of_n);
      within = omega (arith, fits, whole);
      room = c.next_weights.ensures.long ∙ inv.room;
      weights = λ j h. c.next_weights.ensures.each j h
          ∙ next_row w.axis f.sampling l.row j w.position w.soft (get_or l.weights j 0)
          (inv.weights j (omega (arith, h, c.next_weights.ensures.long)));
      done = λ k b. done k (omega arith);
    }

pub returns-clause-each : goal.returns-clause-each
returns-clause-each c = λ k h.
    let f = c.args.format in
    let l = c.loop-row in
    let last : f.height ≤ l.row = omega (arith, c.height-height.ensures, c.loop-row-test.false) in
    let all =
    all_rows l.row l.at (row_samples f) f.height
    (length l.out) l.invariant.begins l.invariant.long last in
    l.invariant.done k (omega (arith, h, all))

pub first_weights-requires : goal.first_weights-requires
first_weights-requires c =
    omega (
      arith,
      c.requires.of_row,
      c.row_samples-n.ensures.value,
      c.row_samples-n.ensures.limit,
    )

pub overflow_add-end : goal.overflow_add-end
overflow_add-end c =
    let f = c.args.format in
    let l = c.loop-row in
    let lt : l.row < f.height = omega (arith, c.height-height.ensures, c.loop-row-test.true) in
    let far =
    row_far l.row l.at c.row_samples-n.result (row_samples f) f.height l.invariant.begins
    c.row_samples-n.ensures.value c.row_samples-n.ensures.limit lt f.whole_height.most in
    omega (arith, far)

pub offset_bounds-a-at : goal.offset_bounds-a-at
offset_bounds-a-at c =
    let f = c.args.format in
    let l = c.loop-row in
    let lt : l.row < f.height = omega (arith, c.height-height.ensures, c.loop-row-test.true) in
    let far =
    row_far l.row l.at c.row_samples-n.result (row_samples f) f.height l.invariant.begins
    c.row_samples-n.ensures.value c.row_samples-n.ensures.limit lt f.whole_height.most in
    omega (arith, far)

pub offset_bounds-b-at : goal.offset_bounds-b-at
offset_bounds-b-at c =
    let f = c.args.format in
    let l = c.loop-row in
    let lt : l.row < f.height = omega (arith, c.height-height.ensures, c.loop-row-test.true) in
    let far =
    row_far l.row l.at c.row_samples-n.result (row_samples f) f.height l.invariant.begins
    c.row_samples-n.ensures.value c.row_samples-n.ensures.limit lt f.whole_height.most in
    omega (arith, far)

pub offset_bounds-out-at : goal.offset_bounds-out-at
offset_bounds-out-at c =
    let f = c.args.format in
    let l = c.loop-row in
    let lt : l.row < f.height = omega (arith, c.height-height.ensures, c.loop-row-test.true) in
    let far =
    row_far l.row l.at c.row_samples-n.result (row_samples f) f.height l.invariant.begins
    c.row_samples-n.ensures.value c.row_samples-n.ensures.limit lt f.whole_height.most in
    omega (arith, far)

pub slice_bounds-mix256-count : goal.slice_bounds-mix256-count
slice_bounds-mix256-count c =
    le-add_right c.loop-row.at c.row_samples-n.result

pub slice_bounds-mix256-count-in-loop-row : goal.slice_bounds-mix256-count-in-loop-row
slice_bounds-mix256-count-in-loop-row c =
    le-add_right c.loop-row.at c.row_samples-n.result

pub slice_bounds-mix256-count-in-loop-row-2 : goal.slice_bounds-mix256-count-in-loop-row-2
slice_bounds-mix256-count-in-loop-row-2 c =
    le-add_right c.loop-row.at c.row_samples-n.result

pub slice_bounds-mix256-start : goal.slice_bounds-mix256-start
slice_bounds-mix256-start c =
    le-add_right c.loop-row.at c.row_samples-n.result

pub slice_bounds-mix256-start-in-loop-row : goal.slice_bounds-mix256-start-in-loop-row
slice_bounds-mix256-start-in-loop-row c =
    le-add_right c.loop-row.at c.row_samples-n.result

pub slice_bounds-mix256-start-in-loop-row-2 : goal.slice_bounds-mix256-start-in-loop-row-2
slice_bounds-mix256-start-in-loop-row-2 c =
    le-add_right c.loop-row.at c.row_samples-n.result

pub slice_bounds-mix256-end-in-loop-row : goal.slice_bounds-mix256-end-in-loop-row
slice_bounds-mix256-end-in-loop-row c =
    let f = c.args.format in
    let l = c.loop-row in
    let lt : l.row < f.height = omega (arith, c.height-height.ensures, c.loop-row-test.true) in
    let fits =
    row_within l.row l.at c.row_samples-n.result (row_samples f) f.height
    (length l.out) l.invariant.begins c.row_samples-n.ensures.value l.invariant.long lt in
    omega (arith, fits, l.invariant.long, c.requires.of_b)

pub slice_bounds-mix256-end-in-loop-row-2 : goal.slice_bounds-mix256-end-in-loop-row-2
slice_bounds-mix256-end-in-loop-row-2 c =
    let f = c.args.format in
    let l = c.loop-row in
    let lt : l.row < f.height = omega (arith, c.height-height.ensures, c.loop-row-test.true) in
    let fits =
    row_within l.row l.at c.row_samples-n.result (row_samples f) f.height
    (length l.out) l.invariant.begins c.row_samples-n.ensures.value l.invariant.long lt in
    fits

pub mix256-requires-clause-of_a : goal.mix256-requires-clause-of_a
mix256-requires-clause-of_a c =
    let l = c.loop-row in
    let m = l.at + c.row_samples-n.result - l.at in
    same_part l.at m c.args.a.now l.out (c.requires.of_a ∙ sym l.invariant.long)

pub mix256-requires-clause-of_b : goal.mix256-requires-clause-of_b
mix256-requires-clause-of_b c =
    let l = c.loop-row in
    let m = l.at + c.row_samples-n.result - l.at in
    same_part l.at m c.args.b.now l.out (c.requires.of_b ∙ sym l.invariant.long)

pub mix256-requires-clause-of_w : goal.mix256-requires-clause-of_w
mix256-requires-clause-of_w c =
    let f = c.args.format in
    let l = c.loop-row in
    let lt : l.row < f.height = omega (arith, c.height-height.ensures, c.loop-row-test.true) in
    let fits =
    row_within l.row l.at c.row_samples-n.result (row_samples f) f.height
    (length l.out) l.invariant.begins c.row_samples-n.ensures.value l.invariant.long lt in
    let m = l.at + c.row_samples-n.result - l.at in
    omega (
      arith,
      length-take m (drop l.at l.out),
      length-drop l.at l.out,
      fits,
      l.invariant.room,
      c.row_samples-n.ensures.value,
    )

pub overflow_add-row : goal.overflow_add-row
overflow_add-row c =
    let f = c.args.format in
    let l = c.loop-row in
    let lt : l.row < f.height = omega (arith, c.height-height.ensures, c.loop-row-test.true) in
    omega (arith, lt, f.whole_height.most)

pub returns-clause-long : goal.returns-clause-long
returns-clause-long c =
    c.loop-row.invariant.long ∙ sym c.requires.of_out
