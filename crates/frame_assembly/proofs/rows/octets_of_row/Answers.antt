use Rattle.std.proofs.Common.{◌≡◌, ℕ, ◌+◌, ◌-◌, ◌*◌, ◌/◌, ◌≤◌, length, drop, ap, ◌∙◌, arith}
use Rattle.std.proofs.lemmas.List.{length-drop, length-take-le}
use Rattle.st_format.specs.Pgroup.{pixel_group}
use Rattle.frame_assembly.proofs.RowLemmas.{octets_inside, row_inside, row_spelled}
use Rattle.frame_assembly.proofs.rows.octets_of_row.Goals as goal

pub slice_bounds-result-end : goal.slice_bounds-result-end
slice_bounds-result-end c =
    let k : ℕ = c.args.row in
    let same = c.row_groups-count.ensures.value in
    let at : k * c.row_groups-count.result ≡ _ = ap (λ (j : ℕ). k * j) same in
    let le =
    octets_inside c.args.format.now c.args.marks.now c.args.octets.now
    (c.args.row * c.row_groups-count.result) c.row_groups-count.result
    c.pgroup-size.result.octets c.requires.packed
    (omega (
      arith,
      row_inside c.args.format.now c.args.marks.now c.args.row c.requires.whole c.requires.row,
    ))
    c.pgroup-size.ensures.octets in
    omega arith

pub returns-clause-spelled : goal.returns-clause-spelled
returns-clause-spelled c =
    row_spelled c.args.format.now c.args.marks.now c.args.octets.now c.args.row
    c.pgroup-size.result.octets c.row_groups-count.result c.pgroup-size.ensures.octets
    c.row_groups-count.ensures.value
    c.requires.whole c.requires.packed c.requires.row

pub overflow_mul-first : goal.overflow_mul-first
overflow_mul-first c =
    let k : ℕ = c.args.row in
    let same = c.row_groups-count.ensures.value in
    let at : k * c.row_groups-count.result ≡ _ = ap (λ (j : ℕ). k * j) same in
    omega (
      arith,
      row_inside c.args.format.now c.args.marks.now c.args.row c.requires.whole c.requires.row,
    )

pub overflow_add-result : goal.overflow_add-result
overflow_add-result c =
    let k : ℕ = c.args.row in
    let same = c.row_groups-count.ensures.value in
    let at : k * c.row_groups-count.result ≡ _ = ap (λ (j : ℕ). k * j) same in
    omega (
      arith,
      row_inside c.args.format.now c.args.marks.now c.args.row c.requires.whole c.requires.row,
    )

pub overflow_mul-result : goal.overflow_mul-result
overflow_mul-result c =
    let k : ℕ = c.args.row in
    let same = c.row_groups-count.ensures.value in
    let at : k * c.row_groups-count.result ≡ _ = ap (λ (j : ℕ). k * j) same in
    let le =
    octets_inside c.args.format.now c.args.marks.now c.args.octets.now
    (c.args.row * c.row_groups-count.result) c.row_groups-count.result
    c.pgroup-size.result.octets c.requires.packed
    (omega (
      arith,
      row_inside c.args.format.now c.args.marks.now c.args.row c.requires.whole c.requires.row,
    ))
    c.pgroup-size.ensures.octets in
    omega arith

pub overflow_mul-result-2 : goal.overflow_mul-result-2
overflow_mul-result-2 c =
    let k : ℕ = c.args.row in
    let same = c.row_groups-count.ensures.value in
    let at : k * c.row_groups-count.result ≡ _ = ap (λ (j : ℕ). k * j) same in
    let le =
    octets_inside c.args.format.now c.args.marks.now c.args.octets.now
    (c.args.row * c.row_groups-count.result) c.row_groups-count.result
    c.pgroup-size.result.octets c.requires.packed
    (omega (
      arith,
      row_inside c.args.format.now c.args.marks.now c.args.row c.requires.whole c.requires.row,
    ))
    c.pgroup-size.ensures.octets in
    omega arith

pub slice_bounds-result-count : goal.slice_bounds-result-count
slice_bounds-result-count c = omega arith

pub slice_bounds-result-start : goal.slice_bounds-result-start
slice_bounds-result-start c = omega arith

pub returns-clause-long : goal.returns-clause-long
returns-clause-long c =
    let f = c.args.format.now in
    let z : ℕ = c.pgroup-size.result.octets in
    let n : ℕ = c.row_groups-count.result in
    let k : ℕ = c.args.row in
    let at : k * n ≡ _ = ap (λ (j : ℕ). k * j) c.row_groups-count.ensures.value in
    let le : z * (k * n + n) ≤ length c.args.octets.now =
    octets_inside f c.args.marks.now c.args.octets.now (k * n) n z c.requires.packed
    (omega (
      arith,
      c.row_groups-count.ensures.value,
      row_inside f c.args.marks.now c.args.row c.requires.whole c.requires.row,
    )) c.pgroup-size.ensures.octets in
    let count : z * (k * n + n) - z * (k * n) ≡ n * z = omega arith in
    length-take-le (z * (k * n + n) - z * (k * n)) (drop (z * (k * n)) c.args.octets.now)
    (omega (arith, le, length-drop (z * (k * n)) c.args.octets.now))
    ∙ count ∙ ap (λ (j : ℕ). j * z) c.row_groups-count.ensures.value
    ∙ ap (λ (j : ℕ). f.width / (pixel_group f.sampling f.depth).pixels * j)
    c.pgroup-size.ensures.octets
