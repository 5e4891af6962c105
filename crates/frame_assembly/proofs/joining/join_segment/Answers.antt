use Rattle.std.proofs.Common.{◌≡◌, ℕ, ◌+◌, ◌-◌, ◌/◌, ◌<◌, ◌≤◌, false, drop, eqb, length}
use Rattle.std.proofs.Common.{length-take-le, sym, ap, arith}
use Rattle.std.proofs.lemmas.Bool.{eqb-true, eqb-false}
use Rattle.payload_header.specs.Payload.{seen_segment, IsInside}
use Rattle.frame_assembly.specs.Packed.{cells_in}
use Rattle.st_format.specs.Position.{group_count}
use Rattle.frame_assembly.proofs.PackedLemmas.{sizes}
use Rattle.frame_assembly.proofs.Put.{no_octets, offset_below}
use Rattle.frame_assembly.proofs.Runs.{end_below, part_between, part_packed, times_le}
use Rattle.frame_assembly.proofs.Segments.{cells_long, few_groups, first_group, groups_end}
use Rattle.frame_assembly.proofs.Segments.{segment_octets, slice_long}
use Rattle.frame_assembly.proofs.SegmentPut.{segment_put}
use Rattle.st_format.specs.Pgroup.{pixel_group}
use Rattle.st_format.specs.Raster.{Segment}
use Rattle.st_format.specs.declared.format.Format.{Format}
use Rattle.frame_assembly.proofs.joining.join_segment.Goals as goal

some : (n : ℕ) → false ≡ eqb n 0 → 0 < n
some n h = let ne : n ≡ 0 → ⊥ = eqb-false n 0 (sym h) in omega arith

ends : (f : Format) (s : Segment) (first z many : ℕ) → IsInside s f → first ≡ first_group f s
    → z ≡ (pixel_group f.sampling f.depth).octets → many ≡ group_count f
    → first + length s.octets / z ≤ many
ends f s first z many inside at same whole =
    omega (
      arith,
      groups_end f s inside,
      at,
      ap (λ (k : ℕ). length s.octets / k) same,
      whole,
    )

pub returns-then-is_empty-clause-cells : goal.returns-then-is_empty-clause-cells
returns-then-is_empty-clause-cells c =
    λ ts. no_octets c.args.format.now ts
    (cells_in c.args.format.now c.args.marks.now c.args.octets.now)
    (seen_segment c.args.segment.now)
    (cells_long c.args.format.now c.args.marks.now c.args.octets.now c.requires.whole
    c.requires.packed) (eqb-true (length c.args.segment.now.octets.now) 0
    (sym c.if-is_empty.ensures))

pub groups_before-first-requires : goal.groups_before-first-requires
groups_before-first-requires c =
    let has : 0 < length c.args.segment.now.octets.now =
    some (length c.args.segment.now.octets.now) c.if-is_empty.ensures in
    let inside : IsInside (seen_segment c.args.segment.now) c.args.format.now
    = c.requires.inside has in
    record {
      row = inside.row;
      column =
          offset_below c.args.format.now (seen_segment c.args.segment.now) has inside;
    }

pub slice_bounds-join_whole-end : goal.slice_bounds-join_whole-end
slice_bounds-join_whole-end c =
    let has : 0 < length c.args.segment.now.octets.now =
    some (length c.args.segment.now.octets.now) c.if-is_empty.ensures in
    let inside : IsInside (seen_segment c.args.segment.now) c.args.format.now
    = c.requires.inside has in
    let s : ℕ = (pixel_group c.args.format.now.sampling c.args.format.now.depth).octets in
    let e : c.pgroup-size.result.octets ≡ s = c.pgroup-size.ensures.octets in
    let end = groups_end c.args.format.now (seen_segment c.args.segment.now) inside in
    let quotient : length c.args.segment.now.octets.now / c.pgroup-size.result.octets
    ≡ length c.args.segment.now.octets.now / s =
    ap (λ (k : ℕ). length c.args.segment.now.octets.now / k) e in
    omega (arith, end, quotient, c.groups_before-first.ensures.value, c.requires.whole)

pub join_whole-requires-clause-few : goal.join_whole-requires-clause-few
join_whole-requires-clause-few c =
    let len : ℕ = length c.args.segment.now.octets.now in
    let inside : IsInside (seen_segment c.args.segment.now) c.args.format.now
    = c.requires.inside (some len c.if-is_empty.ensures) in
    let s : ℕ = (pixel_group c.args.format.now.sampling c.args.format.now.depth).octets in
    let quotient : len / c.pgroup-size.result.octets ≡ len / s =
    ap (λ (k : ℕ). len / k) c.pgroup-size.ensures.octets in
    omega (
      arith,
      quotient,
      few_groups c.args.format.now (seen_segment c.args.segment.now) inside,
      length-take-le (c.groups_before-first.result + len / c.pgroup-size.result.octets
          - c.groups_before-first.result) (drop c.groups_before-first.result c.args.marks.now),
    )

pub join_whole-requires-clause-packed : goal.join_whole-requires-clause-packed
join_whole-requires-clause-packed c =
    let f = c.args.format.now in
    let len : ℕ = length c.args.segment.now.octets.now in
    let has : 0 < len = some len c.if-is_empty.ensures in
    let inside : IsInside (seen_segment c.args.segment.now) c.args.format.now
    = c.requires.inside has in
    let s : ℕ = (pixel_group c.args.format.now.sampling c.args.format.now.depth).octets in
    let quotient : len / c.pgroup-size.result.octets ≡ len / s =
    ap (λ (k : ℕ). len / k) c.pgroup-size.ensures.octets in
    part_packed _ _ _ c.groups_before-first.result
    (len / s) _ _ _ _ c.args.marks.now c.args.octets.now
    (part_between _ _ c.groups_before-first.result (len / s) _ c.pgroup-size.ensures.octets
    (ap (λ (k : ℕ). c.groups_before-first.result + k) quotient))
    (sizes c.args.format.now.sampling c.args.format.now.depth)
    (omega (
      arith,
      groups_end c.args.format.now (seen_segment c.args.segment.now) inside,
      c.groups_before-first.ensures.value,
      c.requires.whole,
    )) c.requires.packed

pub join_whole-requires-clause-alike : goal.join_whole-requires-clause-alike
join_whole-requires-clause-alike c =
    let len : ℕ = length c.args.segment.now.octets.now in
    let has : 0 < len = some len c.if-is_empty.ensures in
    let inside : IsInside (seen_segment c.args.segment.now) c.args.format.now
    = c.requires.inside has in
    slice_long _ _ c.groups_before-first.result len
    (length c.args.marks.now) c.args.octets.now c.pgroup-size.ensures.octets
    (segment_octets c.args.format.now (seen_segment c.args.segment.now) inside)
    c.requires.packed.long
    (omega (
      arith,
      groups_end c.args.format.now (seen_segment c.args.segment.now) inside,
      c.groups_before-first.ensures.value,
      c.requires.whole,
    ))

pub returns-clause-packed : goal.returns-clause-packed
returns-clause-packed c =
    let has : 0 < length c.args.segment.now.octets.now =
    some (length c.args.segment.now.octets.now) c.if-is_empty.ensures in
    (segment_put c.args.format.now
    (seen_segment c.args.segment.now) c.groups_before-first.result c.pgroup-size.result.octets
    c.args.marks.now c.args.octets.now c.join_whole.new.marks c.join_whole.new.octets
    (c.requires.inside has) c.requires.whole c.requires.packed c.groups_before-first.ensures.value
    c.pgroup-size.ensures.octets c.join_whole.ensures).packed

pub returns-clause-cells : goal.returns-clause-cells
returns-clause-cells c = λ ts.
    let has : 0 < length c.args.segment.now.octets.now =
    some (length c.args.segment.now.octets.now) c.if-is_empty.ensures in
    (segment_put c.args.format.now
    (seen_segment c.args.segment.now) c.groups_before-first.result c.pgroup-size.result.octets
    c.args.marks.now c.args.octets.now c.join_whole.new.marks c.join_whole.new.octets
    (c.requires.inside has) c.requires.whole c.requires.packed c.groups_before-first.ensures.value
    c.pgroup-size.ensures.octets c.join_whole.ensures).cells ts

pub returns-then-is_empty-clause-packed : goal.returns-then-is_empty-clause-packed
returns-then-is_empty-clause-packed c =
    c.requires.packed

pub nonzero_div-end : goal.nonzero_div-end
nonzero_div-end c =
    c.pgroup-size.ensures.some.0

pub overflow_add-end : goal.overflow_add-end
overflow_add-end c =
    let lt : c.groups_before-first.result
    + length c.args.segment.now.octets.now / c.pgroup-size.result.octets ≤ length c.args.marks.now =
    ends c.args.format.now
    (seen_segment c.args.segment.now) c.groups_before-first.result c.pgroup-size.result.octets
    (length c.args.marks.now)
    (c.requires.inside (some (length c.args.segment.now.octets.now) c.if-is_empty.ensures))
    c.groups_before-first.ensures.value c.pgroup-size.ensures.octets c.requires.whole in
    omega (arith, lt)

pub offset_bounds-marks-first : goal.offset_bounds-marks-first
offset_bounds-marks-first c =
    omega (arith, c.groups_before-first.ensures.limit)

pub slice_bounds-join_whole-count : goal.slice_bounds-join_whole-count
slice_bounds-join_whole-count c =
    omega arith

pub slice_bounds-join_whole-start : goal.slice_bounds-join_whole-start
slice_bounds-join_whole-start c =
    omega arith

pub overflow_mul-size : goal.overflow_mul-size
overflow_mul-size c =
    let lt : c.groups_before-first.result
    + length c.args.segment.now.octets.now / c.pgroup-size.result.octets ≤ length c.args.marks.now =
    ends c.args.format.now
    (seen_segment c.args.segment.now) c.groups_before-first.result c.pgroup-size.result.octets
    (length c.args.marks.now)
    (c.requires.inside (some (length c.args.segment.now.octets.now) c.if-is_empty.ensures))
    c.groups_before-first.ensures.value c.pgroup-size.ensures.octets c.requires.whole in
    omega (
      arith,
      end_below _ _ c.groups_before-first.result
          (length c.args.marks.now) (length c.args.octets.now) c.pgroup-size.ensures.octets
          (omega (arith, lt))
          c.requires.packed.long,
    )

pub overflow_mul-size-2 : goal.overflow_mul-size-2
overflow_mul-size-2 c =
    let lt : c.groups_before-first.result
    + length c.args.segment.now.octets.now / c.pgroup-size.result.octets ≤ length c.args.marks.now =
    ends c.args.format.now
    (seen_segment c.args.segment.now) c.groups_before-first.result c.pgroup-size.result.octets
    (length c.args.marks.now)
    (c.requires.inside (some (length c.args.segment.now.octets.now) c.if-is_empty.ensures))
    c.groups_before-first.ensures.value c.pgroup-size.ensures.octets c.requires.whole in
    omega (
      arith,
      end_below _ _ (c.groups_before-first.result
          + length c.args.segment.now.octets.now / c.pgroup-size.result.octets)
          (length c.args.marks.now) (length c.args.octets.now) c.pgroup-size.ensures.octets
          (omega (arith, lt))
          c.requires.packed.long,
    )

pub slice_bounds-join_whole-count-2 : goal.slice_bounds-join_whole-count-2
slice_bounds-join_whole-count-2 c =
    times_le c.pgroup-size.result.octets c.groups_before-first.result
    (c.groups_before-first.result
    + length c.args.segment.now.octets.now / c.pgroup-size.result.octets)
    (omega arith)

pub slice_bounds-join_whole-start-2 : goal.slice_bounds-join_whole-start-2
slice_bounds-join_whole-start-2 c =
    times_le c.pgroup-size.result.octets c.groups_before-first.result
    (c.groups_before-first.result
    + length c.args.segment.now.octets.now / c.pgroup-size.result.octets)
    (omega arith)

pub slice_bounds-join_whole-end-2 : goal.slice_bounds-join_whole-end-2
slice_bounds-join_whole-end-2 c =
    let lt : c.groups_before-first.result
    + length c.args.segment.now.octets.now / c.pgroup-size.result.octets ≤ length c.args.marks.now =
    ends c.args.format.now
    (seen_segment c.args.segment.now) c.groups_before-first.result c.pgroup-size.result.octets
    (length c.args.marks.now)
    (c.requires.inside (some (length c.args.segment.now.octets.now) c.if-is_empty.ensures))
    c.groups_before-first.ensures.value c.pgroup-size.ensures.octets c.requires.whole in
    omega (
      arith,
      end_below _ _ (c.groups_before-first.result
          + length c.args.segment.now.octets.now / c.pgroup-size.result.octets)
          (length c.args.marks.now) (length c.args.octets.now) c.pgroup-size.ensures.octets
          (omega (arith, lt))
          c.requires.packed.long,
    )
