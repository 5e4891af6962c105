use Rattle.st_format.specs.Picture.{Values}
use Rattle.picture_forms.proofs.Placed.{plane_every, plane_inside}
use Rattle.picture_forms.proofs.y4m_writing.write_component.Goals as goal

pub write_plane-requires-clause-inside : goal.write_plane-requires-clause-inside
write_plane-requires-clause-inside g c =
    let v : Values = record { format = c.args.format.now; samples = c.args.samples.now } in
    rw (
      c.stride_of-stride.ensures.first,
      c.stride_of-stride.ensures.step,
      c.plane_count_of-count.ensures.value,
      c.sampling.ensures,
    ) (plane_inside v c.args.component c.requires.ycc c.requires.component c.requires.whole)

pub returns-clause-ok : goal.returns-clause-ok
returns-clause-ok g c =
    let v : Values = record { format = c.args.format.now; samples = c.args.samples.now } in
    rw (plane_every v c.args.component c.requires.ycc c.requires.component)
    (rw (
      c.stride_of-stride.ensures.first,
      c.stride_of-stride.ensures.step,
      c.plane_count_of-count.ensures.value,
      c.sampling.ensures,
      c.spelling_of.ensures,
      c.depth.ensures,
    ) at c.write_plane.ensures.ok)

pub returns-clause-fault : goal.returns-clause-fault
returns-clause-fault g c =
    let v : Values = record { format = c.args.format.now; samples = c.args.samples.now } in
    rw (plane_every v c.args.component c.requires.ycc c.requires.component)
    (rw (
      c.stride_of-stride.ensures.first,
      c.stride_of-stride.ensures.step,
      c.plane_count_of-count.ensures.value,
      c.sampling.ensures,
      c.spelling_of.ensures,
      c.depth.ensures,
    ) at c.write_plane.ensures.fault)
