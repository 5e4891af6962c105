use Rattle.std.proofs.lemmas.Result.{err_from_is_err_and}
use Rattle.st_format.specs.Picture.{Values}
use Rattle.picture_forms.specs.Layouts.{planes_text}
use Rattle.picture_forms.proofs.Begun.{line_more, some_behind}
use Rattle.picture_forms.proofs.FrameLines.{frame_no_line, frame_read, frame_refused}
use Rattle.picture_forms.proofs.frames.read_samples.Goals as goal

pub returns-in_err-read_frame_line-clause-fault : goal.returns-in_err-read_frame_line-clause-fault
returns-in_err-read_frame_line-clause-fault g c =
    let p = err_from_is_err_and c.from_residual.result c.from_residual.ensures.1 in
    rw (p.1, p.2)
    (frame_no_line c.args.format.now _ _ _ _ _ c.in_err-read_frame_line.field-0.0
    c.in_err-read_frame_line.ensures.fault)

pub returns-in_err-read_planes-clause-fault : goal.returns-in_err-read_planes-clause-fault
returns-in_err-read_planes-clause-fault g c =
    let p = err_from_is_err_and c.from_residual-in_err-read_planes.result
    c.from_residual-in_err-read_planes.ensures.1 in
    let line = rw c.if-not-branch.false at c.in_ok-read_frame_line.ensures.read in
    rw (p.1, p.2)
    (frame_refused c.args.format.now _ _ _ _ _ _ _ c.in_err-read_planes.field-0.0 line
    c.in_err-read_planes.ensures.fault)

pub returns-clause-read : goal.returns-clause-read
returns-clause-read g c =
    let v : Values =
    record { format = c.args.format.now; samples = c.read_planes.new.samples } in
    let line = rw c.if-not-branch.false at c.in_ok-read_frame_line.ensures.read in (
      c.in_ok-read_planes.ensures.fit,
      frame_read c.args.format.now _ _ _ _ _ _ (planes_text v) line
          c.in_ok-read_planes.ensures.read,
    )

pub returns-in_err-read_frame_line-clause-begun : goal.returns-in_err-read_frame_line-clause-begun
returns-in_err-read_frame_line-clause-begun g c =
    let p = err_from_is_err_and c.from_residual.result c.from_residual.ensures.1 in
    rw (p.1, p.2) c.in_err-read_frame_line.ensures.begun

pub returns-in_err-read_planes-clause-begun : goal.returns-in_err-read_planes-clause-begun
returns-in_err-read_planes-clause-begun g c =
    let p = err_from_is_err_and c.from_residual-in_err-read_planes.result
    c.from_residual-in_err-read_planes.ensures.1 in
    let line = rw c.if-not-branch.false at c.in_ok-read_frame_line.ensures.read in
    rw (p.1, p.2)
    (some_behind _ _ _ _ _ _ _ c.in_err-read_planes.field-0.0 (line_more _ _ _ _ line)
    c.in_err-read_planes.ensures.fault)
