use Rattle.st_format.specs.Picture.{Values}
use Rattle.picture_forms.proofs.Placed.{plane_every, plane_within}
use Rattle.picture_forms.proofs.y4m_reading.read_component.Goals as goal

pub read_plane-requires : goal.read_plane-requires
read_plane-requires g c =
    let v : Values = record { format = c.args.format.now; samples = c.args.samples.now } in
    rw (
      c.stride_of-stride.ensures.first,
      c.stride_of-stride.ensures.step,
      c.plane_count_of-count.ensures.value,
      c.sampling.ensures,
    ) (record {
      inside =
          plane_within v c.args.component c.requires.ycc c.requires.component c.requires.room;
    })

pub returns-clause-given : goal.returns-clause-given
returns-clause-given g c =
    let v : Values = record { format = c.args.format.now; samples = c.read_plane.new.samples } in
    rw (plane_every v c.args.component c.requires.ycc c.requires.component)
    (rw (
      c.stride_of-stride.ensures.first,
      c.stride_of-stride.ensures.step,
      c.plane_count_of-count.ensures.value,
      c.sampling.ensures,
      c.spelling_of.ensures,
      c.depth.ensures,
    ) at c.read_plane.ensures.given)
