use Rattle.std.proofs.Common.{◌+◌, ◌*◌, length, ap, ◌∙◌, sym, subst, arith}
use Rattle.std.specs.List.{All}
use Rattle.st_format.specs.Picture.{FitsDepth}
use Rattle.st_format.specs.Position.{row_groups}
use Rattle.packet_plan.specs.Sent.{group_samples}
use Rattle.std.proofs.lemmas.Nat.{mul-le}
use Rattle.packet_plan.proofs.RunLemmas.{groups_below, place_below, run_inside, run_is, run_fits}
use Rattle.packet_plan.proofs.writing.run_samples.Goals as goal

pub split_at-requires : goal.split_at-requires
split_at-requires g c =
    omega (
      arith,
      run_inside c.args.picture.now c.args.run c.row_groups.result
          c.pgroup-samples.result.samples
          (length c.samples.result.now) c.samples.ensures.whole c.requires
          (c.row_groups.ensures.value ∙ ap row_groups c.format-format.ensures.value)
          (c.pgroup-samples.ensures.samples ∙ ap group_samples c.format-format.ensures.value)
          (ap length c.samples.ensures.value),
    )

pub split_at-requires-2 : goal.split_at-requires-2
split_at-requires-2 g c =
    omega (
      arith,
      c.split_at.ensures.back_len,
      run_inside c.args.picture.now c.args.run c.row_groups.result
          c.pgroup-samples.result.samples
          (length c.samples.result.now) c.samples.ensures.whole c.requires
          (c.row_groups.ensures.value ∙ ap row_groups c.format-format.ensures.value)
          (c.pgroup-samples.ensures.samples ∙ ap group_samples c.format-format.ensures.value)
          (ap length c.samples.ensures.value),
    )

pub returns-clause-value : goal.returns-clause-value
returns-clause-value g c =
    run_is c.args.picture.now c.args.run c.row_groups.result c.pgroup-samples.result.samples
    c.samples.result.now c.split_at.result.1.now c.split_at-2.result.0.now
    c.samples.ensures.whole c.requires
    (c.row_groups.ensures.value ∙ ap row_groups c.format-format.ensures.value)
    (c.pgroup-samples.ensures.samples ∙ ap group_samples c.format-format.ensures.value)
    c.samples.ensures.value c.split_at.ensures.back c.split_at-2.ensures.front

pub returns-clause-fit : goal.returns-clause-fit
returns-clause-fit g c =
    subst (All (FitsDepth c.args.picture.now.format)) (sym (returns-clause-value g c))
    (run_fits c.args.picture.now c.args.run c.samples.ensures.whole c.requires)

pub overflow_mul-start : goal.overflow_mul-start
overflow_mul-start g c =
    let below =
    place_below c.args.picture.now.format c.args.run c.row_groups.result c.requires
    (c.row_groups.ensures.value ∙ ap row_groups c.format-format.ensures.value)
    (omega (arith, c.row_groups.ensures.value, c.row_groups.ensures.most)) in
    omega (arith, below)

pub overflow_add-start : goal.overflow_add-start
overflow_add-start g c =
    let below =
    place_below c.args.picture.now.format c.args.run c.row_groups.result c.requires
    (c.row_groups.ensures.value ∙ ap row_groups c.format-format.ensures.value)
    (omega (arith, c.row_groups.ensures.value, c.row_groups.ensures.most)) in
    omega (arith, below)

pub overflow_cast-start : goal.overflow_cast-start
overflow_cast-start g c =
    let below =
    place_below c.args.picture.now.format c.args.run c.row_groups.result c.requires
    (c.row_groups.ensures.value ∙ ap row_groups c.format-format.ensures.value)
    (omega (arith, c.row_groups.ensures.value, c.row_groups.ensures.most)) in
    omega (arith, below)

pub overflow_mul-start-2 : goal.overflow_mul-start-2
overflow_mul-start-2 g c =
    let below =
    place_below c.args.picture.now.format c.args.run c.row_groups.result c.requires
    (c.row_groups.ensures.value ∙ ap row_groups c.format-format.ensures.value)
    (omega (arith, c.row_groups.ensures.value, c.row_groups.ensures.most)) in
    omega (
      arith,
      mul-le (c.args.run.row * c.row_groups.result + c.args.run.first)
          c.pgroup-samples.result.samples (8192 * 8192 + 8192) 12 below
          c.pgroup-samples.ensures.most.2,
    )

pub overflow_mul-run : goal.overflow_mul-run
overflow_mul-run g c =
    let below =
    groups_below c.args.picture.now.format c.args.run c.row_groups.result c.requires
    (c.row_groups.ensures.value ∙ ap row_groups c.format-format.ensures.value)
    (omega (arith, c.row_groups.ensures.value, c.row_groups.ensures.most)) in
    omega (
      arith,
      mul-le c.args.run.groups c.pgroup-samples.result.samples 8192 12 below
          c.pgroup-samples.ensures.most.2,
    )
