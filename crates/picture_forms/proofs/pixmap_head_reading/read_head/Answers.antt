use Rattle.std.proofs.lemmas.Result.{err_from_is_err_and}
use Rattle.picture_forms.proofs.PixmapHeaded.{head_no_height, head_no_magic, head_no_most}
use Rattle.picture_forms.proofs.PixmapHeaded.{head_no_width, head_reads, head_refuses}
use Rattle.picture_forms.proofs.pixmap_head_reading.read_head.Goals as goal

pub returns-in_err-read_magic-clause-fault : goal.returns-in_err-read_magic-clause-fault
returns-in_err-read_magic-clause-fault g c =
    let p = err_from_is_err_and c.from_residual.result c.from_residual.ensures.1 in
    rw (p.1, p.2)
    (head_no_magic c.args.n c.args.d _ _ _ _ _ c.in_err-read_magic.field-0.0
    c.in_err-read_magic.ensures.fault)

pub returns-in_err-width-clause-fault : goal.returns-in_err-width-clause-fault
returns-in_err-width-clause-fault g c =
    let p = err_from_is_err_and c.from_residual-in_err-width.result
    c.from_residual-in_err-width.ensures.1 in
    rw (p.1, p.2)
    (head_no_width c.args.n c.args.d _ _ _ _ _ _ _ c.in_err-width.field-0.0
    c.in_ok-read_magic.ensures.read c.in_err-width.ensures.fault)

pub returns-in_err-height-clause-fault : goal.returns-in_err-height-clause-fault
returns-in_err-height-clause-fault g c =
    let p = err_from_is_err_and c.from_residual-in_err-height.result
    c.from_residual-in_err-height.ensures.1 in
    rw (p.1, p.2)
    (head_no_height c.args.n c.args.d c.in_ok-width.width _ _ _ _ _ _ _ _ _
    c.in_err-height.field-0.0 c.in_ok-read_magic.ensures.read c.in_ok-width.ensures.read
    c.in_err-height.ensures.fault)

pub returns-in_err-most-clause-fault : goal.returns-in_err-most-clause-fault
returns-in_err-most-clause-fault g c =
    let p = err_from_is_err_and c.from_residual-in_err-most.result
    c.from_residual-in_err-most.ensures.1 in
    rw (p.1, p.2)
    (head_no_most c.args.n c.args.d c.in_ok-width.width c.in_ok-height.height _ _ _ _ _ _ _ _ _ _
    _ c.in_err-most.field-0.0 c.in_ok-read_magic.ensures.read c.in_ok-width.ensures.read
    c.in_ok-height.ensures.read c.in_err-most.ensures.fault)

pub returns-clause-read : goal.returns-clause-read
returns-clause-read g c =
    head_reads c.args.n c.args.d c.in_ok-width.width c.in_ok-height.height c.in_ok-most.most _ _ _ _
    _ _ _ _ _ _ c.format_by.result c.in_ok-read_magic.ensures.read c.in_ok-width.ensures.read
    c.in_ok-height.ensures.read c.in_ok-most.ensures.read c.format_by.ensures.value

pub returns-clause-fault : goal.returns-clause-fault
returns-clause-fault g c =
    head_refuses c.args.n c.args.d c.in_ok-width.width c.in_ok-height.height c.in_ok-most.most _ _
    _ _ _ _ _ _ _ _ _ c.format_by.result c.in_ok-read_magic.ensures.read
    c.in_ok-width.ensures.read c.in_ok-height.ensures.read c.in_ok-most.ensures.read
    c.format_by.ensures.value c.format_by.ensures.named
