use Rattle.std.proofs.Common.{◌*◌}
use Rattle.settled_forms.proofs.Groups.{inside_from_zero, share_inside}
use Rattle.settled_forms.proofs.planes.spell_groups.Goals as goal

pub spell-requires-clause-inside : goal.spell-requires-clause-inside
spell-requires-clause-inside c =
    inside_from_zero c.args.samples.now c.stride_of-stride.result.first
    c.stride_of-stride.result.step (c.share_of.result * c.args.count)
    (rw (
      c.stride_of-stride.ensures.first,
      c.stride_of-stride.ensures.step,
      c.sampling.ensures,
      c.share_of.ensures.value,
    ) (share_inside c.args.format.now c.args.component c.args.count c.args.samples.now
    c.requires.component c.requires.samples))

pub spell-requires-clause-room : goal.spell-requires-clause-room
spell-requires-clause-room c =
    rw (c.spelling_of-spelling.ensures, c.depth.ensures, c.share_of.ensures.value)
    c.requires.room

pub returns : goal.returns
returns c =
    rw (
      c.stride_of-stride.ensures.first,
      c.stride_of-stride.ensures.step,
      c.sampling.ensures,
      c.spelling_of-spelling.ensures,
      c.depth.ensures,
      c.share_of.ensures.value,
    ) at c.spell.ensures
