use Rattle.std.proofs.Common.{[], ◌++◌}
use Rattle.std.proofs.lemmas.Result.{err_from_is_err_and, on_err_weaker, on_ok_weaker}
use Rattle.media_file.proofs.Written.{part_first, took_cut, took_whole}
use Rattle.picture_forms.specs.Layouts.{frame_text, y4m_head}
use Rattle.form_files.proofs.writing.write_stream.Goals as goal

pub returns-in_err-write_head-clause-part : goal.returns-in_err-write_head-clause-part
returns-in_err-write_head-clause-part g c =
    let p = err_from_is_err_and c.from_residual.result c.from_residual.ensures.1 in
    let head = rw c.format-format.ensures.value at c.in_err-write_head.ensures.part in
    rw (p.1)
    (part_first _ _ (y4m_head c.args.picture.now.format) (frame_text c.args.picture.now ++ [])
    head)

pub returns-clause-took : goal.returns-clause-took
returns-clause-took g c =
    let head = rw c.format-format.ensures.value at c.in_ok-write_head.ensures.took in
    on_ok_weaker c.write_frame.result
    (λ q. took_whole _ _ _ (y4m_head c.args.picture.now.format) (frame_text c.args.picture.now)
    head q) c.write_frame.ensures.took

pub returns-clause-part : goal.returns-clause-part
returns-clause-part g c =
    let head = rw c.format-format.ensures.value at c.in_ok-write_head.ensures.took in
    on_err_weaker c.write_frame.result
    (λ q. took_cut _ _ _ (y4m_head c.args.picture.now.format) (frame_text c.args.picture.now)
    head q) c.write_frame.ensures.part
