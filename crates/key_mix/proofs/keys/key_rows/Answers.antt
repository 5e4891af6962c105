use Rattle.std.proofs.Common.{◌≡◌, ℕ, ◌+◌, ◌-◌, ◌*◌, ◌%◌, ◌<◌, ◌≤◌, get_or, length, take, drop, min}
use Rattle.std.proofs.Common.{refl, arith, sym, ap, subst, ◌∙◌}
use Rattle.std.proofs.Math.Nat.{le-add_right}
use Rattle.std.proofs.lemmas.List.{length-take, length-drop}
use borrow.Rule.Slice.PartMut.{same_len_mid}
use Rattle.st_format.specs.Pgroup.{bits_of}
use Rattle.st_format.specs.Position.{number_in_row, place_in_row, row_samples, run_samples}
use Rattle.lane_kernels.specs.Formulas.{scale}
use Rattle.bt709_fixed.proofs.Part.{part_made}
use Rattle.key_mix.specs.Rows.{keyed_at}
use Rattle.key_mix.proofs.InRow.{
  all_rows,
  column-below,
  luma-below,
  row_far,
  row_within,
  same_part,
  whole_row,
}
use Rattle.key_mix.proofs.Parts.{keyed_row}
use Rattle.key_mix.proofs.Pictures.{key_most}
use Rattle.key_mix.proofs.keys.key_rows.Goals as goal

pub slice_bounds-row_keys-end : goal.slice_bounds-row_keys-end
slice_bounds-row_keys-end c =
    let g = c.args.of_key in
    let l = c.loop-row in
    let lt : l.row < g.height =
    omega (arith, c.height-height.ensures, c.loop-row-test.true, c.requires.alike.height) in
    omega (
      arith,
      row_within l.row l.from c.row_samples-m.result (row_samples g) g.height
          (length c.args.by.now) l.invariant.lumas c.row_samples-m.ensures.value c.requires.of_by
          lt,
    )

pub slice_bounds-key_mix-end : goal.slice_bounds-key_mix-end
slice_bounds-key_mix-end c =
    let f = c.args.format in
    let l = c.loop-row in
    let lt : l.row < f.height = omega (arith, c.height-height.ensures, c.loop-row-test.true) in
    let fits =
    row_within l.row l.at c.row_samples-n.result (row_samples f) f.height
    (length l.out) l.invariant.begins c.row_samples-n.ensures.value l.invariant.long lt in
    omega (arith, fits, l.invariant.long, c.requires.of_a)

pub row_keys-requires-clause-lumas : goal.row_keys-requires-clause-lumas
row_keys-requires-clause-lumas c = λ j h.
    let f = c.args.format in
    let g = c.args.of_key in
    let l = c.loop-row in
    let by = c.args.by.now in
    let t = l.from + c.row_samples-m.result - l.from in
    let of_m = c.row_samples-m.ensures.value in
    let lt : l.row < g.height =
    omega (arith, c.height-height.ensures, c.loop-row-test.true, c.requires.alike.height) in
    let fits =
    row_within l.row l.from c.row_samples-m.result (row_samples g) g.height
    (length by) l.invariant.lumas of_m c.requires.of_by lt in
    let long : length (take t (drop l.from by)) ≡ row_samples g =
    omega (arith, length-take t (drop l.from by), length-drop l.from by, fits, of_m) in
    let column = column-below f j (omega (arith, h, l.invariant.room)) in
    let below =
    luma-below g (place_in_row f.sampling j).0
    (subst (λ w. (place_in_row f.sampling j).0 < w) c.requires.alike.width column) in
    let s = c.sampling-sampling.ensures in
    let t_s = c.sampling-of_lumas.ensures in
    let same : number_in_row c.sampling-of_lumas.result
    (place_in_row c.sampling-sampling.result j).0 0
    ≡ number_in_row g.sampling (place_in_row f.sampling j).0 0
    = λ i. number_in_row (t_s i) (place_in_row (s i) j).0 0 in
    omega (arith, same, below, long)

pub row_keys-requires-clause-whole : goal.row_keys-requires-clause-whole
row_keys-requires-clause-whole c =
    (λ j. c.loop-row.invariant.room j % run_samples (c.sampling-sampling.ensures j))
    ∙ whole_row c.args.format

pub key_mix-requires-clause-keys : goal.key_mix-requires-clause-keys
key_mix-requires-clause-keys c = λ i b.
    let p = 219 * c.scale_of-scale.result in
    subst (λ x. x ≤ p) (sym (c.row_keys.ensures.each i b)) (key_most p _)

pub loop-row-preserved : goal.loop-row-preserved
loop-row-preserved c =
    let f = c.args.format in
    let g = c.args.of_key in
    let l = c.loop-row in
    let inv = l.invariant in
    let of_a = c.args.a.now in
    let of_b = c.args.b.now in
    let by = c.args.by.now in
    let n = c.row_samples-n.result in
    let of_n = c.row_samples-n.ensures.value in
    let of_m = c.row_samples-m.ensures.value in
    let a = l.at in
    let m = a + n - a in
    let t = l.from + c.row_samples-m.result - l.from in
    let xs = l.out in
    let ys = c.key_mix.new.out in
    let keys = c.row_keys.new.keys in
    let sc = c.scale_of-scale.result in
    let lt : l.row < f.height = omega (arith, c.height-height.ensures, c.loop-row-test.true) in
    let lt_g : l.row < g.height = omega (arith, lt, c.requires.alike.height) in
    let fits : a + n ≤ length xs =
    row_within l.row a n (row_samples f) f.height (length xs) inv.begins of_n inv.long lt in
    let fits_by =
    row_within l.row l.from c.row_samples-m.result (row_samples g) g.height
    (length by) inv.lumas of_m c.requires.of_by lt_g in
    let long : length ys ≡ length (take m (drop a xs)) = c.key_mix.auto.out in
    let count : length ys ≡ n =
    omega (arith, long, length-take m (drop a xs), length-drop a xs, fits) in
    let keys_long : length keys ≡ row_samples f = c.row_keys.ensures.long ∙ inv.room in
    let whole = same_len_mid a m xs ys long in
    let s = c.sampling-sampling.ensures in
    let s_g = c.sampling-of_lumas.ensures in
    let depth : sc ≡ scale (bits_of f.depth) =
    c.scale_of-scale.ensures.value ∙ ap (λ d. scale (bits_of d)) c.depth.ensures in
    let each : (i : ℕ) → i < length ys → get_or ys i 0 ≡ keyed_at f g of_a of_b by (a + i) = λ i b.
    let below : i < row_samples f = omega (arith, b, count, of_n) in
    let column = column-below f i below in
    let luma =
    luma-below g (place_in_row f.sampling i).0
    (subst (λ w. (place_in_row f.sampling i).0 < w) c.requires.alike.width column) in
    let key_is : get_or keys i 0
    ≡ min (219 * sc)
    (get_or (take t (drop l.from by))
    (number_in_row g.sampling (place_in_row f.sampling i).0 0) 0 - 16 * sc)
    = c.row_keys.ensures.each i (omega (arith, below, keys_long))
    ∙ (λ j. min (219 * sc)
    (get_or (take t (drop l.from by))
    (number_in_row (s_g j) (place_in_row (s j) i).0 0) 0 - 16 * sc)) in
    c.key_mix.ensures i b
    ∙ keyed_row f g of_a of_b by keys l.row a m l.from t i sc inv.begins inv.lumas below
    (omega (arith, b, count)) (omega (arith, luma, of_m)) depth key_is in
    let done =
    part_made (λ k v. keyed_at f g of_a of_b by k) xs xs ys a m (omega (arith, fits))
    (λ k b. refl) long inv.done each in
    record {
      long = whole ∙ inv.long;
      begins = omega (arith, inv.begins, of_n);
      within = omega (arith, fits, whole);
      lumas = omega (arith, inv.lumas, of_m);
      inside = omega (arith, fits_by);
      room = keys_long;
      done = λ k b. done k (omega arith);
    }

pub returns-clause-each : goal.returns-clause-each
returns-clause-each c = λ k h.
    let f = c.args.format in
    let l = c.loop-row in
    let last : f.height ≤ l.row = omega (arith, c.height-height.ensures, c.loop-row-test.false) in
    let all =
    all_rows l.row l.at (row_samples f) f.height
    (length l.out) l.invariant.begins l.invariant.long last in
    l.invariant.done k (omega (arith, h, all))

pub loop-row-init : goal.loop-row-init
loop-row-init c =
    record {
      long = c.requires.of_out;
      begins = omega arith;
      within = omega arith;
      lumas = omega arith;
      inside = omega arith;
      room = c.requires.of_row;
      done = λ k h. absurd (omega (arith, h));
    }

pub overflow_add-end : goal.overflow_add-end
overflow_add-end c =
    let f = c.args.format in
    let l = c.loop-row in
    let lt : l.row < f.height =
    omega (arith, c.height-height.ensures, c.loop-row-test.true) in
    let far =
    row_far l.row l.at c.row_samples-n.result (row_samples f) f.height l.invariant.begins
    c.row_samples-n.ensures.value c.row_samples-n.ensures.limit lt f.whole_height.most in
    omega (arith, far)

pub overflow_add-to : goal.overflow_add-to
overflow_add-to c =
    let f = c.args.of_key in
    let l = c.loop-row in
    let lt : l.row < f.height =
    omega (arith, c.height-height.ensures, c.loop-row-test.true, c.requires.alike.height) in
    let far =
    row_far l.row l.from c.row_samples-m.result (row_samples f) f.height l.invariant.lumas
    c.row_samples-m.ensures.value c.row_samples-m.ensures.limit lt f.whole_height.most in
    omega (arith, far)

pub offset_bounds-by-from : goal.offset_bounds-by-from
offset_bounds-by-from c =
    let f = c.args.of_key in
    let l = c.loop-row in
    let lt : l.row < f.height =
    omega (arith, c.height-height.ensures, c.loop-row-test.true, c.requires.alike.height) in
    let far =
    row_far l.row l.from c.row_samples-m.result (row_samples f) f.height l.invariant.lumas
    c.row_samples-m.ensures.value c.row_samples-m.ensures.limit lt f.whole_height.most in
    omega (arith, far)

pub offset_bounds-a-at : goal.offset_bounds-a-at
offset_bounds-a-at c =
    let f = c.args.format in
    let l = c.loop-row in
    let lt : l.row < f.height =
    omega (arith, c.height-height.ensures, c.loop-row-test.true) in
    let far =
    row_far l.row l.at c.row_samples-n.result (row_samples f) f.height l.invariant.begins
    c.row_samples-n.ensures.value c.row_samples-n.ensures.limit lt f.whole_height.most in
    omega (arith, far)

pub offset_bounds-b-at : goal.offset_bounds-b-at
offset_bounds-b-at c =
    let f = c.args.format in
    let l = c.loop-row in
    let lt : l.row < f.height =
    omega (arith, c.height-height.ensures, c.loop-row-test.true) in
    let far =
    row_far l.row l.at c.row_samples-n.result (row_samples f) f.height l.invariant.begins
    c.row_samples-n.ensures.value c.row_samples-n.ensures.limit lt f.whole_height.most in
    omega (arith, far)

pub offset_bounds-out-at : goal.offset_bounds-out-at
offset_bounds-out-at c =
    let f = c.args.format in
    let l = c.loop-row in
    let lt : l.row < f.height =
    omega (arith, c.height-height.ensures, c.loop-row-test.true) in
    let far =
    row_far l.row l.at c.row_samples-n.result (row_samples f) f.height l.invariant.begins
    c.row_samples-n.ensures.value c.row_samples-n.ensures.limit lt f.whole_height.most in
    omega (arith, far)

pub slice_bounds-row_keys-count : goal.slice_bounds-row_keys-count
slice_bounds-row_keys-count c =
    le-add_right c.loop-row.from c.row_samples-m.result

pub slice_bounds-key_mix-count : goal.slice_bounds-key_mix-count
slice_bounds-key_mix-count c =
    le-add_right c.loop-row.at c.row_samples-n.result

pub slice_bounds-key_mix-count-in-loop-row : goal.slice_bounds-key_mix-count-in-loop-row
slice_bounds-key_mix-count-in-loop-row c =
    le-add_right c.loop-row.at c.row_samples-n.result

pub slice_bounds-key_mix-count-in-loop-row-2 : goal.slice_bounds-key_mix-count-in-loop-row-2
slice_bounds-key_mix-count-in-loop-row-2 c =
    le-add_right c.loop-row.at c.row_samples-n.result

pub slice_bounds-row_keys-start : goal.slice_bounds-row_keys-start
slice_bounds-row_keys-start c =
    le-add_right c.loop-row.from c.row_samples-m.result

pub slice_bounds-key_mix-start : goal.slice_bounds-key_mix-start
slice_bounds-key_mix-start c =
    le-add_right c.loop-row.at c.row_samples-n.result

pub slice_bounds-key_mix-start-in-loop-row : goal.slice_bounds-key_mix-start-in-loop-row
slice_bounds-key_mix-start-in-loop-row c =
    le-add_right c.loop-row.at c.row_samples-n.result

pub slice_bounds-key_mix-start-in-loop-row-2 : goal.slice_bounds-key_mix-start-in-loop-row-2
slice_bounds-key_mix-start-in-loop-row-2 c =
    le-add_right c.loop-row.at c.row_samples-n.result

pub slice_bounds-key_mix-end-in-loop-row : goal.slice_bounds-key_mix-end-in-loop-row
slice_bounds-key_mix-end-in-loop-row c =
    let f = c.args.format in
    let l = c.loop-row in
    let lt : l.row < f.height =
    omega (arith, c.height-height.ensures, c.loop-row-test.true) in
    let fits =
    row_within l.row l.at c.row_samples-n.result (row_samples f) f.height
    (length l.out) l.invariant.begins c.row_samples-n.ensures.value l.invariant.long lt in
    omega (arith, fits, l.invariant.long, c.requires.of_b)

pub slice_bounds-key_mix-end-in-loop-row-2 : goal.slice_bounds-key_mix-end-in-loop-row-2
slice_bounds-key_mix-end-in-loop-row-2 c =
    let f = c.args.format in
    let l = c.loop-row in
    let lt : l.row < f.height =
    omega (arith, c.height-height.ensures, c.loop-row-test.true) in
    let fits =
    row_within l.row l.at c.row_samples-n.result (row_samples f) f.height
    (length l.out) l.invariant.begins c.row_samples-n.ensures.value l.invariant.long lt in
    fits

pub row_keys-requires-clause-few : goal.row_keys-requires-clause-few
row_keys-requires-clause-few c =
    omega (
      arith,
      c.loop-row.invariant.room,
      c.row_samples-n.ensures.value,
      c.row_samples-n.ensures.limit,
    )

pub row_keys-requires-clause-most : goal.row_keys-requires-clause-most
row_keys-requires-clause-most c =
    c.scale_of-scale.ensures.most

pub overflow_mul-scale : goal.overflow_mul-scale
overflow_mul-scale c =
    omega (arith, c.scale_of-scale.ensures.most)

pub key_mix-requires-clause-some : goal.key_mix-requires-clause-some
key_mix-requires-clause-some c =
    omega (arith, c.scale_of-scale.ensures.least)

pub key_mix-requires-clause-of_a : goal.key_mix-requires-clause-of_a
key_mix-requires-clause-of_a c =
    let l = c.loop-row in
    let m = l.at + c.row_samples-n.result - l.at in
    same_part l.at m c.args.a.now l.out (c.requires.of_a ∙ sym l.invariant.long)

pub key_mix-requires-clause-of_b : goal.key_mix-requires-clause-of_b
key_mix-requires-clause-of_b c =
    let l = c.loop-row in
    let m = l.at + c.row_samples-n.result - l.at in
    same_part l.at m c.args.b.now l.out (c.requires.of_b ∙ sym l.invariant.long)

pub key_mix-requires-clause-of_k : goal.key_mix-requires-clause-of_k
key_mix-requires-clause-of_k c =
    let f = c.args.format in
    let l = c.loop-row in
    let lt : l.row < f.height =
    omega (arith, c.height-height.ensures, c.loop-row-test.true) in
    let fits =
    row_within l.row l.at c.row_samples-n.result (row_samples f) f.height
    (length l.out) l.invariant.begins c.row_samples-n.ensures.value l.invariant.long lt in
    let m = l.at + c.row_samples-n.result - l.at in
    omega (
      arith,
      length-take m (drop l.at l.out),
      length-drop l.at l.out,
      fits,
      c.row_keys.ensures.long,
      l.invariant.room,
      c.row_samples-n.ensures.value,
    )

pub returns-clause-long : goal.returns-clause-long
returns-clause-long c =
    c.loop-row.invariant.long ∙ sym c.requires.of_out
