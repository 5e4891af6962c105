use Rattle.std.proofs.Common.{subst}
use Rattle.st_format.specs.Picture.{IsPicture}
use Rattle.pgroup_pack.proofs.Rasters.{raster_whole}
use Rattle.pgroup_pack.proofs.packed_picture.PackedPicture.format.Goals as goal

pub returns-clause-whole : goal.returns-clause-whole
returns-clause-whole g c =
    subst IsPicture c.self.view_is
    (raster_whole c.self.inside.format c.self.inside.octets.items c.self.invariant)
