use Rattle.std.proofs.Common.{ap, ◌*◌, ◌∙◌, ◌≤◌, sym, subst, ℕ, length, length-append, arith}
use Rattle.std.proofs.lemmas.Nat.{mul-le}
use Rattle.st_format.specs.Pgroup.{pixel_group}
use Rattle.pgroup_pack.proofs.Marking.{many_groups, other_octets, parts_contested, sample_bounds}
use Rattle.pgroup_pack.proofs.contests.contest.Goals as goal

pub returns : goal.returns
returns c =
    let octets = c.split_at_mut-octets.ensures in
    let others = c.split_at.ensures in
    let marks = c.split_at_mut-marks.ensures in
    parts_contested c.args.format.now.sampling c.args.format.now.depth
    c.args.octets.now c.split_at_mut-octets.result.0.now c.split_at_mut-octets.result.1.now
    c.args.others.now c.split_at.result.0.now c.split_at.result.1.now
    c.args.marks.now c.split_at_mut-marks.result.0.now c.split_at_mut-marks.result.1.now
    c.contest_few-2.new.octets c.contest_few-3.new.octets
    c.contest_few-2.new.marks c.contest_few-3.new.marks
    octets.value others.by_index.0 marks.value c.requires.octets c.requires.others
    (octets.front_len ∙ ap (λ (k : ℕ). k * 4) c.pgroup-half.ensures.octets)
    (others.front_len ∙ sym octets.front_len) marks.front_len
    c.contest_few-2.auto.octets c.contest_few-3.auto.octets c.contest_few-2.auto.marks
    c.contest_few-2.ensures c.contest_few-3.ensures

pub overflow_mul-pgroup : goal.overflow_mul-pgroup
overflow_mul-pgroup c =
    omega (
      arith,
      mul-le c.pgroup.result.samples (length c.args.marks.now) 12 8
          (subst (λ (n : ℕ). n ≤ 12) (sym c.pgroup.ensures.samples)
          (sample_bounds c.args.format.now.sampling c.args.format.now.depth).1) c.requires.few,
    )

pub contest_few-requires-clause-few : goal.contest_few-requires-clause-few
contest_few-requires-clause-few c =
    subst (λ (n : ℕ). n * length c.args.marks.now ≤ 48) c.pgroup.ensures.samples
    (omega (arith, c.if-pgroup-marks-le-LANES.true))

pub contest_few-requires-clause-octets : goal.contest_few-requires-clause-octets
contest_few-requires-clause-octets c = c.requires.octets

pub contest_few-requires-clause-others : goal.contest_few-requires-clause-others
contest_few-requires-clause-others c = c.requires.others

pub overflow_mul-half : goal.overflow_mul-half
overflow_mul-half c = omega (arith, c.pgroup-half.ensures.most)

pub split_at_mut-octets-requires : goal.split_at_mut-octets-requires
split_at_mut-octets-requires c =
    omega (
      arith,
      c.requires.octets,
      c.pgroup-half.ensures.octets,
      mul-le (pixel_group c.args.format.now.sampling c.args.format.now.depth).octets 4
          (pixel_group c.args.format.now.sampling c.args.format.now.depth).octets
          (length c.args.marks.now) (omega arith)
          (many_groups c.args.format.now.sampling c.args.format.now.depth c.pgroup.result.samples
          (length c.args.marks.now) c.pgroup.ensures.samples
          (omega (arith, c.if-pgroup-marks-le-LANES.false))),
    )

pub split_at-requires : goal.split_at-requires
split_at-requires c =
    omega (
      arith,
      c.requires.others,
      c.requires.octets,
      c.pgroup-half.ensures.octets,
      mul-le (pixel_group c.args.format.now.sampling c.args.format.now.depth).octets 4
          (pixel_group c.args.format.now.sampling c.args.format.now.depth).octets
          (length c.args.marks.now) (omega arith)
          (many_groups c.args.format.now.sampling c.args.format.now.depth c.pgroup.result.samples
          (length c.args.marks.now) c.pgroup.ensures.samples
          (omega (arith, c.if-pgroup-marks-le-LANES.false))),
    )

pub split_at_mut-marks-requires : goal.split_at_mut-marks-requires
split_at_mut-marks-requires c =
    many_groups c.args.format.now.sampling c.args.format.now.depth c.pgroup.result.samples
    (length c.args.marks.now) c.pgroup.ensures.samples
    (omega (arith, c.if-pgroup-marks-le-LANES.false))

pub contest_few-requires-2-clause-few : goal.contest_few-requires-2-clause-few
contest_few-requires-2-clause-few c =
    mul-le (pixel_group c.args.format.now.sampling c.args.format.now.depth).samples
    (length c.split_at_mut-marks.result.0.now) 12 4
    (sample_bounds c.args.format.now.sampling c.args.format.now.depth).1
    (omega (arith, c.split_at_mut-marks.ensures.front_len))

pub contest_few-requires-2-clause-octets : goal.contest_few-requires-2-clause-octets
contest_few-requires-2-clause-octets c =
    c.split_at_mut-octets.ensures.front_len
    ∙ ap (λ (k : ℕ). k * 4) c.pgroup-half.ensures.octets
    ∙ ap (λ (k : ℕ). (pixel_group c.args.format.now.sampling c.args.format.now.depth).octets * k)
    (sym c.split_at_mut-marks.ensures.front_len)

pub contest_few-requires-2-clause-others : goal.contest_few-requires-2-clause-others
contest_few-requires-2-clause-others c =
    c.split_at.ensures.front_len ∙ sym c.split_at_mut-octets.ensures.front_len

pub contest_few-requires-3-clause-few : goal.contest_few-requires-3-clause-few
contest_few-requires-3-clause-few c =
    mul-le (pixel_group c.args.format.now.sampling c.args.format.now.depth).samples
    (length c.split_at_mut-marks.result.1.now) 12 4
    (sample_bounds c.args.format.now.sampling c.args.format.now.depth).1
    (omega (
      arith,
      c.requires.few,
      c.split_at_mut-marks.ensures.front_len,
      ap length c.split_at_mut-marks.ensures.value
          ∙ length-append c.split_at_mut-marks.result.0.now c.split_at_mut-marks.result.1.now,
    ))

pub contest_few-requires-3-clause-octets : goal.contest_few-requires-3-clause-octets
contest_few-requires-3-clause-octets c =
    other_octets (pixel_group c.args.format.now.sampling c.args.format.now.depth).octets
    c.args.octets.now c.split_at_mut-octets.result.0.now c.split_at_mut-octets.result.1.now
    c.args.marks.now c.split_at_mut-marks.result.0.now c.split_at_mut-marks.result.1.now
    c.split_at_mut-octets.ensures.value c.split_at_mut-marks.ensures.value c.requires.octets
    (c.split_at_mut-octets.ensures.front_len
    ∙ ap (λ (k : ℕ). k * 4) c.pgroup-half.ensures.octets)
    c.split_at_mut-marks.ensures.front_len

pub contest_few-requires-3-clause-others : goal.contest_few-requires-3-clause-others
contest_few-requires-3-clause-others c =
    omega (
      arith,
      c.requires.others,
      c.split_at.ensures.front_len,
      c.split_at_mut-octets.ensures.front_len,
      ap length c.split_at.ensures.by_index.0
          ∙ length-append c.split_at.result.0.now c.split_at.result.1.now,
      ap length c.split_at_mut-octets.ensures.value
          ∙ length-append c.split_at_mut-octets.result.0.now c.split_at_mut-octets.result.1.now,
    )
