use Rattle.std.proofs.Common.{◌*◌, ◌/◌, ◌∙◌}
use Rattle.std.proofs.lemmas.Result.{err_from_is_err_and}
use Rattle.media_file.proofs.Raster.{raster_fails, raster_gives, whole_bits}
use Rattle.st_format.specs.Fields.{fields_of}
use Rattle.st_format.specs.Pgroup.{bits_of}
use Rattle.media_file.specs.Fields.{field_at}
use Rattle.media_file.specs.PictureFile.{raster_at}
use Rattle.media_file.proofs.GavePictures.{raster_gave, spelled_octets}
use Rattle.media_file.proofs.picture_reading.read_raster.Goals as goal
use Rattle.st_format.proofs.Gave.{fault_one}
use Rattle.media_file.specs.Faults.{file_fault_origin}

pub read_samples-requires : goal.read_samples-requires
read_samples-requires g c =
    whole_bits c.args.format.now c.sample_count.result c.sample_count.ensures.value

pub returns-in_err-samples-clause-fault : goal.returns-in_err-samples-clause-fault
returns-in_err-samples-clause-fault g c =
    let p = err_from_is_err_and c.from_residual.result c.from_residual.ensures.1 in
    rw (p.1, p.2)
    (raster_fails c.args.format.now _ c.sample_count.result c.in_err-samples.field-0.0
    c.sample_count.ensures.value c.in_err-samples.ensures.fault)

pub returns-clause-read : goal.returns-clause-read
returns-clause-read g c =
    raster_gives c.args.format.now _ _ c.in_ok-samples.samples.items
    (c.in_ok-samples.ensures.size ∙ c.sample_count.ensures.value) c.in_ok-samples.ensures.read

pub returns-in_err-samples-clause-gave_wrong : goal.returns-in_err-samples-clause-gave_wrong
returns-in_err-samples-clause-gave_wrong g c =
    let p = err_from_is_err_and c.from_residual.result c.from_residual.ensures.1 in
    let f = c.in_err-samples.field-0.0 in
    rw (p.1, p.2)
    (fault_one file_fault_origin
    (field_at (bits_of c.args.format.now.depth * c.sample_count.result / 8))
    (raster_at (fields_of c.args.format.now)) _ _ _ f
    (λ was. raster_fails c.args.format.now was c.sample_count.result f
    c.sample_count.ensures.value) c.in_err-samples.ensures.gave_wrong)

pub returns-clause-gave : goal.returns-clause-gave
returns-clause-gave g c =
    raster_gave c.args.format.now _ _ c.in_ok-samples.samples.items
    (c.in_ok-samples.ensures.size ∙ c.sample_count.ensures.value) c.in_ok-samples.ensures.gave

pub returns-clause-bytes : goal.returns-clause-bytes
returns-clause-bytes g c = spelled_octets _ _ _ _ c.in_ok-samples.ensures.gave
