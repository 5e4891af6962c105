use Rattle.std.proofs.Common.{sym, ◌∙◌}
use Rattle.std.proofs.lemmas.Bool.{false≢true}
use Rattle.std.proofs.lemmas.Result.{err_from_is_err_and}
use Rattle.st_format.specs.Picture.{Values}
use Rattle.picture_forms.proofs.Fitted.{planes_cut, planes_read, planes_refused}
use Rattle.picture_forms.proofs.frames.read_planes.Goals as goal

pub returns-in_err-read_y4m_planes-clause-fault : goal.returns-in_err-read_y4m_planes-clause-fault
returns-in_err-read_y4m_planes-clause-fault g c =
    let p = err_from_is_err_and c.from_residual.result c.from_residual.ensures.1 in
    rw (p.1, p.2)
    (planes_cut c.args.format.now _ _ _ _ _ c.in_err-read_y4m_planes.field-0.0
    c.in_err-read_y4m_planes.ensures.fault)

pub returns-then-not-fit-clause-fault : goal.returns-then-not-fit-clause-fault
returns-then-not-fit-clause-fault g c =
    let v : Values =
    record { format = c.args.format.now; samples = c.read_y4m_planes.new.samples } in
    planes_refused v _ _ _ _ _ c.requires.ycc
    (c.in_ok-read_y4m_planes.ensures.long ∙ c.requires.room)
    (λ all. false≢true (sym c.if-not-fit.true ∙ c.fit.ensures.1 all))
    c.in_ok-read_y4m_planes.ensures.given

pub returns-clause-read : goal.returns-clause-read
returns-clause-read g c =
    let v : Values =
    record { format = c.args.format.now; samples = c.read_y4m_planes.new.samples } in
    planes_read v _ _ _ _ c.requires.ycc (c.in_ok-read_y4m_planes.ensures.long ∙ c.requires.room)
    (c.fit.ensures.0 c.if-not-fit.false) c.in_ok-read_y4m_planes.ensures.given
