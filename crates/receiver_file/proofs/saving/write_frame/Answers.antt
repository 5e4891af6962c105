use Rattle.std.specs.Int.{w32, to_be_bytes}
use Rattle.std.proofs.lemmas.Result.{err_from_is_err_and, on_err_weaker}
use Rattle.st_format.specs.declared.format.Format.{Format}
use Rattle.media_file.specs.Groups.{groups_text}
use Rattle.receiver_file.specs.Known.{rows_cut, shape_in}
use Rattle.media_file.proofs.Written.{part_first, part_then, prefix_first, prefix_then}
use Rattle.receiver_file.proofs.saving.write_frame.Goals as goal

pub returns-in_err-write_whole-clause-fault : goal.returns-in_err-write_whole-clause-fault
returns-in_err-write_whole-clause-fault g c =
    let p = err_from_is_err_and c.from_residual.result c.from_residual.ensures.1 in
    let f : Format = c.args.frame.now.format in
    rw (p.1)
    (prefix_first _ _ (to_be_bytes w32 c.args.timestamp)
    (groups_text (shape_in f) (rows_cut c.args.frame.now f.height))
    (rw c.timestamp_octets.ensures at c.in_err-write_whole.ensures.fault))

pub returns-clause-fault : goal.returns-clause-fault
returns-clause-fault g c =
    let f : Format = c.args.frame.now.format in
    on_err_weaker c.write_rows.result
    (λ q. prefix_then _ _ _ (to_be_bytes w32 c.args.timestamp)
    (groups_text (shape_in f) (rows_cut c.args.frame.now f.height))
    (rw c.timestamp_octets.ensures at c.in_ok-write_whole.ensures.ok) q) c.write_rows.ensures.fault

pub returns-in_err-write_whole-clause-took_part : goal.returns-in_err-write_whole-clause-took_part
returns-in_err-write_whole-clause-took_part g c =
    let p = err_from_is_err_and c.from_residual.result c.from_residual.ensures.1 in
    let f : Format = c.args.frame.now.format in
    rw (p.1)
    (part_first _ _ (to_be_bytes w32 c.args.timestamp)
    (groups_text (shape_in f) (rows_cut c.args.frame.now f.height))
    (rw c.timestamp_octets.ensures at c.in_err-write_whole.ensures.part))

pub returns-clause-took_part : goal.returns-clause-took_part
returns-clause-took_part g c =
    let f : Format = c.args.frame.now.format in
    on_err_weaker c.write_rows.result
    (λ q. part_then _ _ _ (to_be_bytes w32 c.args.timestamp)
    (groups_text (shape_in f) (rows_cut c.args.frame.now f.height))
    (rw c.timestamp_octets.ensures at c.in_ok-write_whole.ensures.took) q) c.write_rows.ensures.took_part
