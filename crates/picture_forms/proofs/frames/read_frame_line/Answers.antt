use Rattle.std.proofs.Common.{arith}
use Rattle.std.proofs.lemmas.Result.{err_from_is_err_and}
use Rattle.st_format.proofs.Origins.{if_content}
use Rattle.picture_forms.specs.Faults.{form_fault_origin}
use Rattle.picture_forms.proofs.Begun.{field_more, some_behind}
use Rattle.picture_forms.proofs.FrameLines.{line_read, line_refused, no_mark, no_start}
use Rattle.picture_forms.proofs.Walked.{field_reads}
use Rattle.picture_forms.proofs.frames.read_frame_line.Goals as goal

pub returns-in_err-read_start-clause-fault : goal.returns-in_err-read_start-clause-fault
returns-in_err-read_start-clause-fault g c =
    let p = err_from_is_err_and c.from_residual.result c.from_residual.ensures.1 in
    rw (p.1, p.2)
    (no_start _ _ _ _ _ c.in_err-read_start.field-0.0 c.in_err-read_start.ensures.fault)

pub returns-in_err-more-clause-fault : goal.returns-in_err-more-clause-fault
returns-in_err-more-clause-fault g c =
    let p = err_from_is_err_and c.from_residual-in_err-more.result
    c.from_residual-in_err-more.ensures.1 in
    let start = rw c.if-not-branch.false at c.in_ok-read_start.ensures.read in
    rw (p.1, p.2)
    (no_mark _ _ _ _ c.read_start.new.buf _ c.in_err-more.field-0.0
    (field_reads 6 _ _ _ _ c.read_start.new.buf c.in_ok-read_start.ensures.room start)
    c.in_err-more.ensures.value c.in_err-more.ensures.named)

pub returns-in_err-read_parameters-clause-fault : goal.returns-in_err-read_parameters-clause-fault
returns-in_err-read_parameters-clause-fault g c =
    let p = err_from_is_err_and c.from_residual-in_err-read_parameters.result
    c.from_residual-in_err-read_parameters.ensures.1 in
    let start = rw c.if-not-branch.false at c.in_ok-read_start.ensures.read in
    rw (p.1, p.2)
    (line_refused _ _ _ _ _ _ c.read_start.new.buf _ c.in_ok-more.more
    c.in_err-read_parameters.field-0.0
    (field_reads 6 _ _ _ _ c.read_start.new.buf c.in_ok-read_start.ensures.room start)
    c.in_ok-more.ensures.value c.in_err-read_parameters.ensures.fault)

pub returns-clause-read : goal.returns-clause-read
returns-clause-read g c =
    let start = rw c.if-not-branch.false at c.in_ok-read_start.ensures.read in
    line_read _ _ _ _ _ _ c.read_start.new.buf c.in_ok-more.more
    (field_reads 6 _ _ _ _ c.read_start.new.buf c.in_ok-read_start.ensures.room start)
    c.in_ok-more.ensures.value c.in_ok-read_parameters.ensures.read

pub returns-in_err-read_start-clause-begun : goal.returns-in_err-read_start-clause-begun
returns-in_err-read_start-clause-begun g c =
    let p = err_from_is_err_and c.from_residual.result c.from_residual.ensures.1 in
    rw (p.1, p.2) c.in_err-read_start.ensures.begun

pub returns-in_err-more-clause-begun : goal.returns-in_err-more-clause-begun
returns-in_err-more-clause-begun g c =
    let p = err_from_is_err_and c.from_residual-in_err-more.result
    c.from_residual-in_err-more.ensures.1 in
    let start = rw c.if-not-branch.false at c.in_ok-read_start.ensures.read in
    rw (p.1, p.2)
    (if_content form_fault_origin c.in_err-more.field-0.0 _
    (field_more 6 _ _ _ _ c.read_start.new.buf (omega arith)
    (field_reads 6 _ _ _ _ c.read_start.new.buf c.in_ok-read_start.ensures.room start)))

pub returns-in_err-read_parameters-clause-begun : goal.returns-in_err-read_parameters-clause-begun
returns-in_err-read_parameters-clause-begun g c =
    let p = err_from_is_err_and c.from_residual-in_err-read_parameters.result
    c.from_residual-in_err-read_parameters.ensures.1 in
    let start = rw c.if-not-branch.false at c.in_ok-read_start.ensures.read in
    rw (p.1, p.2)
    (some_behind _ _ _ _ _ _ _ c.in_err-read_parameters.field-0.0
    (field_more 6 _ _ _ _ c.read_start.new.buf (omega arith)
    (field_reads 6 _ _ _ _ c.read_start.new.buf c.in_ok-read_start.ensures.room start))
    c.in_err-read_parameters.ensures.fault)
