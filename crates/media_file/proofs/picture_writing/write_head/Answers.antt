use Rattle.std.proofs.KnownBytes.{Appends-trans}
use Rattle.std.proofs.lemmas.Result.{err_from_is_err_and, on_err_weaker, on_ok_weaker}
use Rattle.st_format.specs.Fields.{fields_of}
use Rattle.media_file.specs.declared.front.Version.TheVariants.{One}
use Rattle.media_file.specs.Fronts.{kind_text, picture_name}
use Rattle.media_file.specs.StateFile.{format_text}
use Rattle.media_file.proofs.Written.{part_first, part_then, prefix_first, prefix_then, took_both}
use Rattle.media_file.proofs.picture_writing.write_head.Goals as goal

pub returns-in_err-write_whole-clause-fault : goal.returns-in_err-write_whole-clause-fault
returns-in_err-write_whole-clause-fault g c =
    let p = err_from_is_err_and c.from_residual.result c.from_residual.ensures.1 in
    rw (p.1)
    (prefix_first _ _ (kind_text picture_name One)
    (format_text (fields_of c.args.format.now)) c.in_err-write_whole.ensures.fault)

pub returns-clause-ok : goal.returns-clause-ok
returns-clause-ok g c =
    on_ok_weaker c.write_whole-2.result
    (λ q. Appends-trans _ _ _ (kind_text picture_name One)
    (format_text (fields_of c.args.format.now)) c.in_ok-write_whole.ensures.ok
    (rw c.format_block.ensures at q)) c.write_whole-2.ensures.ok

pub returns-clause-fault : goal.returns-clause-fault
returns-clause-fault g c =
    on_err_weaker c.write_whole-2.result
    (λ q. prefix_then _ _ _ (kind_text picture_name One)
    (format_text (fields_of c.args.format.now)) c.in_ok-write_whole.ensures.ok
    (rw c.format_block.ensures at q)) c.write_whole-2.ensures.fault

pub returns-in_err-write_whole-clause-part : goal.returns-in_err-write_whole-clause-part
returns-in_err-write_whole-clause-part g c =
    let p = err_from_is_err_and c.from_residual.result c.from_residual.ensures.1 in
    rw (p.1)
    (part_first _ _ (kind_text picture_name One)
    (format_text (fields_of c.args.format.now)) c.in_err-write_whole.ensures.part)

pub returns-clause-took : goal.returns-clause-took
returns-clause-took g c =
    on_ok_weaker c.write_whole-2.result
    (λ q. took_both _ _ _ (kind_text picture_name One)
    (format_text (fields_of c.args.format.now)) c.in_ok-write_whole.ensures.took
    (rw c.format_block.ensures at q)) c.write_whole-2.ensures.took

pub returns-clause-part : goal.returns-clause-part
returns-clause-part g c =
    on_err_weaker c.write_whole-2.result
    (λ q. part_then _ _ _ (kind_text picture_name One)
    (format_text (fields_of c.args.format.now)) c.in_ok-write_whole.ensures.took
    (rw c.format_block.ensures at q)) c.write_whole-2.ensures.part
