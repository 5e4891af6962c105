use Rattle.std.proofs.Common.{Some}
use Rattle.std.proofs.lemmas.Result.{err_from_is_err_and}
use Rattle.media_file.proofs.Raster.{all_written, cut_body, cut_head, picture_bits}
use Rattle.media_file.proofs.Written.{held_part, part_held}
use Rattle.media_file.proofs.picture_writing.write_picture.Goals as goal

pub returns-in_err-write_head-clause-fault : goal.returns-in_err-write_head-clause-fault
returns-in_err-write_head-clause-fault g c =
    let p = err_from_is_err_and c.from_residual.result c.from_residual.ensures.1 in
    rw (p.1, p.2) (
      tt,
      cut_head c.args.picture.now c.format-format.result _ _ c.format-format.ensures.value
          c.in_err-write_head.ensures.fault,
    )

pub write_samples-requires-clause-whole : goal.write_samples-requires-clause-whole
write_samples-requires-clause-whole g c =
    picture_bits c.args.picture.now c.format-format.result c.samples.result.now
    c.samples.ensures.whole c.format-format.ensures.value c.samples.ensures.value

pub returns-in_err-write_samples-clause-fault : goal.returns-in_err-write_samples-clause-fault
returns-in_err-write_samples-clause-fault g c =
    let p =
    err_from_is_err_and c.from_residual-in_err-write_samples.result
    c.from_residual-in_err-write_samples.ensures.1 in
    rw (p.1, p.2) (
      tt,
      cut_body c.args.picture.now c.format-format.result c.samples.result.now _ _ _
          c.format-format.ensures.value c.samples.ensures.value c.in_ok-write_head.ensures.ok
          c.in_err-write_samples.ensures.fault,
    )

pub returns-clause-ok : goal.returns-clause-ok
returns-clause-ok g c =
    all_written c.args.picture.now c.format-format.result c.samples.result.now _ _ _
    c.format-format.ensures.value c.samples.ensures.value c.in_ok-write_head.ensures.ok
    c.in_ok-write_samples.ensures.ok

pub returns-in_err-write_head-clause-part : goal.returns-in_err-write_head-clause-part
returns-in_err-write_head-clause-part g c =
    let p = err_from_is_err_and c.from_residual.result c.from_residual.ensures.1 in
    rw (p.1)
    (held_part _ _ _
    (cut_head c.args.picture.now c.format-format.result (Some _) (Some _)
    c.format-format.ensures.value (part_held _ _ _ c.in_err-write_head.ensures.part)))

pub returns-in_err-write_samples-clause-part : goal.returns-in_err-write_samples-clause-part
returns-in_err-write_samples-clause-part g c =
    let p =
    err_from_is_err_and c.from_residual-in_err-write_samples.result
    c.from_residual-in_err-write_samples.ensures.1 in
    rw (p.1)
    (held_part _ _ _
    (cut_body c.args.picture.now c.format-format.result c.samples.result.now (Some _) (Some _)
    (Some _) c.format-format.ensures.value c.samples.ensures.value
    c.in_ok-write_head.ensures.took
    (part_held _ _ _ c.in_err-write_samples.ensures.part)))

pub returns-clause-took : goal.returns-clause-took
returns-clause-took g c =
    all_written c.args.picture.now c.format-format.result c.samples.result.now (Some _) (Some _)
    (Some _) c.format-format.ensures.value c.samples.ensures.value
    c.in_ok-write_head.ensures.took c.in_ok-write_samples.ensures.took
