use Rattle.std.proofs.Common.{subst, sym}
use Rattle.std.proofs.lemmas.Result.{err_from_is_err_and}
use Rattle.st_format.specs.Fields.{fields_of}
use Rattle.st_format.specs.Picture.{Values}
use Rattle.st_format.specs.Given.{GaveWhole, Takes}
use Rattle.media_file.specs.PictureFile.{one_at, picture_walk, shown_of}
use Rattle.media_file.proofs.Raster.{block_fails, body_fails, end_fails, picture_gives}
use Rattle.media_file.proofs.Raster.{version_fails}
use Rattle.media_file.specs.declared.front.Version.TheVariants.{One}
use Rattle.media_file.specs.Blocks.{block_at}
use Rattle.media_file.specs.Fronts.{picture_name}
use Rattle.media_file.proofs.Gave.{octets_both, octets_same}
use Rattle.media_file.proofs.GavePictures.{body_gave, end_gave, picture_gave}
use Rattle.media_file.proofs.picture_reading.read_whole_picture.Goals as goal
use Rattle.st_format.proofs.Gave.{fault_one, fault_two}
use Rattle.media_file.specs.Faults.{file_fault_origin}

pub returns-in_err-read_version_one-clause-fault : goal.returns-in_err-read_version_one-clause-fault
returns-in_err-read_version_one-clause-fault g c =
    let p = err_from_is_err_and c.from_residual.result c.from_residual.ensures.1 in
    rw (p.1, p.2)
    (version_fails _ c.in_err-read_version_one.field-0.0
    c.in_err-read_version_one.ensures.fault)

pub returns-in_err-format-clause-fault : goal.returns-in_err-format-clause-fault
returns-in_err-format-clause-fault g c =
    let p =
    err_from_is_err_and c.from_residual-in_err-format.result
    c.from_residual-in_err-format.ensures.1 in
    rw (p.1, p.2)
    (block_fails _ _ c.in_err-format.field-0.0 c.in_ok-read_version_one.ensures.read
    c.in_err-format.ensures.fault)

pub returns-in_err-samples-clause-fault : goal.returns-in_err-samples-clause-fault
returns-in_err-samples-clause-fault g c =
    let p =
    err_from_is_err_and c.from_residual-in_err-samples.result
    c.from_residual-in_err-samples.ensures.1 in
    rw (p.1, p.2)
    (body_fails _ _ _
    (fields_of c.in_ok-format.format) c.in_err-samples.field-0.0
    c.in_ok-read_version_one.ensures.read c.in_ok-format.ensures.read
    c.in_err-samples.ensures.fault)

pub returns-in_err-read_end-clause-fault : goal.returns-in_err-read_end-clause-fault
returns-in_err-read_end-clause-fault g c =
    let p =
    err_from_is_err_and c.from_residual-in_err-read_end.result
    c.from_residual-in_err-read_end.ensures.1 in
    rw (p.1, p.2)
    (end_fails _ _ _ _
    (fields_of c.in_ok-format.format) c.in_ok-samples.samples.items c.in_err-read_end.field-0.0
    c.in_ok-read_version_one.ensures.read c.in_ok-format.ensures.read
    c.in_ok-samples.ensures.read c.in_err-read_end.ensures.fault)

pub returns-clause-read : goal.returns-clause-read
returns-clause-read g c =
    subst (λ (p : Values). Takes picture_walk (g.S.ByteSource.to_give c.args.source.now)
    (g.S.ByteSource.to_give c.read_end.new.source) (shown_of p))
    (sym c.from_samples.ensures.value)
    (picture_gives _ _ _ _ _
    (fields_of c.in_ok-format.format) c.in_ok-samples.samples.items
    c.in_ok-read_version_one.ensures.read c.in_ok-format.ensures.read
    c.in_ok-samples.ensures.read c.in_ok-read_end.ensures.read)

pub returns-in_err-read_version_one-clause-gave_wrong :
    goal.returns-in_err-read_version_one-clause-gave_wrong
returns-in_err-read_version_one-clause-gave_wrong g c =
    let p = err_from_is_err_and c.from_residual.result c.from_residual.ensures.1 in
    let f = c.in_err-read_version_one.field-0.0 in
    rw (p.1, p.2)
    (fault_one file_fault_origin (one_at picture_name) picture_walk _ _ _ f
    (λ was. version_fails was f)
    c.in_err-read_version_one.ensures.gave_wrong)

pub returns-in_err-format-clause-gave_wrong : goal.returns-in_err-format-clause-gave_wrong
returns-in_err-format-clause-gave_wrong g c =
    let p =
    err_from_is_err_and c.from_residual-in_err-format.result
    c.from_residual-in_err-format.ensures.1 in
    let f = c.in_err-format.field-0.0 in
    rw (p.1, p.2)
    (fault_two file_fault_origin (one_at picture_name) block_at picture_walk One _ _ _ _ f
    (λ was mid. block_fails was mid f) c.in_ok-read_version_one.ensures.gave
    c.in_err-format.ensures.gave_wrong)

pub returns-in_err-samples-clause-gave_wrong : goal.returns-in_err-samples-clause-gave_wrong
returns-in_err-samples-clause-gave_wrong g c =
    let p =
    err_from_is_err_and c.from_residual-in_err-samples.result
    c.from_residual-in_err-samples.ensures.1 in
    rw (p.1, p.2)
    (body_gave _ _ _ _ _ (fields_of c.in_ok-format.format) c.in_err-samples.field-0.0
    c.in_ok-read_version_one.ensures.gave c.in_ok-format.ensures.gave
    c.in_err-samples.ensures.gave_wrong)

pub returns-in_err-read_end-clause-gave_wrong : goal.returns-in_err-read_end-clause-gave_wrong
returns-in_err-read_end-clause-gave_wrong g c =
    let p =
    err_from_is_err_and c.from_residual-in_err-read_end.result
    c.from_residual-in_err-read_end.ensures.1 in
    rw (p.1, p.2)
    (end_gave _ _ _ _ _ _ (fields_of c.in_ok-format.format)
    c.in_ok-samples.samples.items c.in_err-read_end.field-0.0
    c.in_ok-read_version_one.ensures.gave c.in_ok-format.ensures.gave
    c.in_ok-samples.ensures.gave c.in_err-read_end.ensures.gave_wrong)

pub returns-clause-gave : goal.returns-clause-gave
returns-clause-gave g c =
    subst (λ (p : Values). GaveWhole picture_walk (g.S.ByteSource.gave c.args.source.now)
    (g.S.ByteSource.gave c.read_end.new.source) (g.S.ByteSource.ended c.read_end.new.source)
    (shown_of p))
    (sym c.from_samples.ensures.value)
    (picture_gave _ _ _ _ _ _ (fields_of c.in_ok-format.format)
    c.in_ok-samples.samples.items
    c.in_ok-read_version_one.ensures.gave c.in_ok-format.ensures.gave
    c.in_ok-samples.ensures.gave c.in_ok-read_end.ensures.gave c.in_ok-read_end.ensures.ended)

pub returns-clause-bytes : goal.returns-clause-bytes
returns-clause-bytes g c =
    octets_same _ _ _
    (octets_both _ _ _
    (octets_both _ _ _ c.in_ok-read_version_one.ensures.bytes c.in_ok-format.ensures.bytes)
    c.in_ok-samples.ensures.bytes) c.in_ok-read_end.ensures.gave
