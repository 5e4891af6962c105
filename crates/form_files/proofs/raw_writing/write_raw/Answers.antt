use Rattle.media_file.proofs.Raster.{picture_bits}
use Rattle.form_files.proofs.raw_writing.write_raw.Goals as goal

pub write_samples-requires-clause-whole : goal.write_samples-requires-clause-whole
write_samples-requires-clause-whole g c =
    picture_bits c.args.picture.now c.format-format.result c.samples.result.now
    c.samples.ensures.whole c.format-format.ensures.value c.samples.ensures.value

pub returns-clause-took : goal.returns-clause-took
returns-clause-took g c =
    rw (c.format-format.ensures.value, c.samples.ensures.value) at c.write_samples.ensures.took

pub returns-clause-part : goal.returns-clause-part
returns-clause-part g c =
    rw (c.format-format.ensures.value, c.samples.ensures.value) at c.write_samples.ensures.part
