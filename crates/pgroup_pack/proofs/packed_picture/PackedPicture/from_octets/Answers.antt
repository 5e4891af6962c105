use Rattle.pgroup_pack.proofs.Rasters.{raster_whole}
use Rattle.pgroup_pack.proofs.packed_picture.PackedPicture.from_octets.Goals as goal

pub returns-clause-whole : goal.returns-clause-whole
returns-clause-whole g c = raster_whole c.args.format c.args.octets.items c.requires
