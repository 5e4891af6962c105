use Rattle.std.proofs.Common.{◌+◌, ◌*◌, ap, ◌∙◌, arith}
use Rattle.std.proofs.lemmas.Nat.{mul-le}
use Rattle.packet_plan.specs.Plan.{group_octets}
use Rattle.st_format.specs.Position.{row_groups}
use Rattle.packet_plan.proofs.RunLemmas.{groups_below, place_below}
use Rattle.packet_plan.proofs.PackedRuns.{packed_inside, packed_is}
use Rattle.packet_plan.proofs.writing.packed_run.Goals as goal

pub split_at-requires : goal.split_at-requires
split_at-requires g c =
    omega (
      arith,
      packed_inside c.args.picture.now c.args.run c.row_groups.result
          c.group_octets_of-size.result c.octets-octets.result.now
          c.octets-octets.ensures.whole c.requires
          (c.row_groups.ensures.value ∙ ap row_groups c.format-format.ensures.value)
          (c.group_octets_of-size.ensures.value ∙ ap group_octets c.format-format.ensures.value)
          c.octets-octets.ensures.spelled,
    )

pub split_at-requires-2 : goal.split_at-requires-2
split_at-requires-2 g c =
    omega (
      arith,
      c.split_at.ensures.back_len,
      packed_inside c.args.picture.now c.args.run c.row_groups.result
          c.group_octets_of-size.result c.octets-octets.result.now
          c.octets-octets.ensures.whole c.requires
          (c.row_groups.ensures.value ∙ ap row_groups c.format-format.ensures.value)
          (c.group_octets_of-size.ensures.value ∙ ap group_octets c.format-format.ensures.value)
          c.octets-octets.ensures.spelled,
    )

pub returns : goal.returns
returns g c =
    let octets = c.octets-octets.result.now in
    packed_is c.args.picture.now c.args.run c.row_groups.result c.group_octets_of-size.result
    octets c.split_at.result.1.now c.split_at-2.result.0.now c.octets-octets.ensures.whole
    c.requires
    (c.row_groups.ensures.value ∙ ap row_groups c.format-format.ensures.value)
    (c.group_octets_of-size.ensures.value ∙ ap group_octets c.format-format.ensures.value)
    c.octets-octets.ensures.spelled c.are_octets.ensures.all c.split_at.ensures.back
    c.split_at-2.ensures.front

pub overflow_mul-start : goal.overflow_mul-start
overflow_mul-start g c =
    let below =
    place_below c.args.picture.now.format c.args.run c.row_groups.result c.requires
    (c.row_groups.ensures.value ∙ ap row_groups c.format-format.ensures.value)
    (omega (arith, c.row_groups.ensures.value, c.row_groups.ensures.most)) in
    omega (arith, below)

pub overflow_add-start : goal.overflow_add-start
overflow_add-start g c =
    let below =
    place_below c.args.picture.now.format c.args.run c.row_groups.result c.requires
    (c.row_groups.ensures.value ∙ ap row_groups c.format-format.ensures.value)
    (omega (arith, c.row_groups.ensures.value, c.row_groups.ensures.most)) in
    omega (arith, below)

pub overflow_cast-start : goal.overflow_cast-start
overflow_cast-start g c =
    let below =
    place_below c.args.picture.now.format c.args.run c.row_groups.result c.requires
    (c.row_groups.ensures.value ∙ ap row_groups c.format-format.ensures.value)
    (omega (arith, c.row_groups.ensures.value, c.row_groups.ensures.most)) in
    omega (arith, below)

pub overflow_mul-start-2 : goal.overflow_mul-start-2
overflow_mul-start-2 g c =
    let below =
    place_below c.args.picture.now.format c.args.run c.row_groups.result c.requires
    (c.row_groups.ensures.value ∙ ap row_groups c.format-format.ensures.value)
    (omega (arith, c.row_groups.ensures.value, c.row_groups.ensures.most)) in
    omega (
      arith,
      mul-le (c.args.run.row * c.row_groups.result + c.args.run.first)
          c.group_octets_of-size.result (8192 * 8192 + 8192) 15 below
          (omega (
            arith,
            c.group_octets_of-size.ensures.value,
            c.group_octets_of-size.ensures.most,
          )),
    )

pub overflow_mul-run : goal.overflow_mul-run
overflow_mul-run g c =
    let below =
    groups_below c.args.picture.now.format c.args.run c.row_groups.result c.requires
    (c.row_groups.ensures.value ∙ ap row_groups c.format-format.ensures.value)
    (omega (arith, c.row_groups.ensures.value, c.row_groups.ensures.most)) in
    omega (
      arith,
      mul-le c.args.run.groups c.group_octets_of-size.result 8192 15 below
          (omega (
            arith,
            c.group_octets_of-size.ensures.value,
            c.group_octets_of-size.ensures.most,
          )),
    )
