use Rattle.std.proofs.Common.{subst}
use Rattle.st_format.specs.Pgroup.{bits_of}
use Rattle.st_format.specs.Picture.{IsPicture, Values}
use Rattle.st_format.specs.Samples.{Spells}
use Rattle.pgroup_pack.proofs.Rasters.{raster_spelled, raster_whole}
use Rattle.pgroup_pack.proofs.packed_picture.PackedPicture.into_octets.Goals as goal

pub returns-clause-spelled : goal.returns-clause-spelled
returns-clause-spelled g c =
    let octets = c.self.inside.octets.items in
    subst (λ (p : Values). Spells (bits_of p.format.depth) octets p.samples) c.self.view_is
    (raster_spelled c.self.inside.format octets c.self.invariant)

pub returns-clause-whole : goal.returns-clause-whole
returns-clause-whole g c =
    subst IsPicture c.self.view_is
    (raster_whole c.self.inside.format c.self.inside.octets.items c.self.invariant)
