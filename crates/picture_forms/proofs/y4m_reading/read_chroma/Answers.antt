use Rattle.std.proofs.Common.{ℕ, List, subst, ◌∙◌, arith}
use Rattle.std.proofs.lemmas.Result.{IfErr-weaker, on_ok_weaker}
use Rattle.st_format.specs.Picture.{Values}
use Rattle.picture_forms.specs.Layouts.{plane_text}
use Rattle.picture_forms.proofs.Apart.{plane_kept, plane_long}
use Rattle.picture_forms.specs.Walks.{Gives}
use Rattle.picture_forms.proofs.Walked.{cut_behind, gives_both}
use Rattle.picture_forms.proofs.y4m_reading.read_chroma.Goals as goal

pub returns-clause-given : goal.returns-clause-given
returns-clause-given g c =
    let f = c.args.format.now in
    let xs : List ℕ = c.read_component.new.samples in
    let ys : List ℕ = c.read_component-2.new.samples in
    let v : Values = record { format = c.args.format.now; samples = ys } in
    on_ok_weaker c.read_component-2.result
    (λ q. gives_both _ _ _ _ _ _ (plane_text v 1) (plane_text v 2)
    (subst
    (λ (t : List ℕ). Gives (g.S.ByteSource.to_give c.args.source.now)
    (g.S.ByteSource.to_give c.read_component.new.source) (g.S.ByteSource.gave c.args.source.now)
    (g.S.ByteSource.gave c.read_component.new.source) t)
    (plane_kept f xs ys 1 2 c.requires.ycc (omega arith) (omega arith)
    c.read_component-2.ensures.others) c.in_ok-read_component.ensures.given) q)
    c.read_component-2.ensures.given

pub returns-clause-luma : goal.returns-clause-luma
returns-clause-luma g c =
    let f = c.args.format.now in
    let xs : List ℕ = c.read_component.new.samples in
    let ys : List ℕ = c.read_component-2.new.samples in
    on_ok_weaker c.read_component-2.result
    (λ q. plane_kept f c.args.samples.now xs 0 1 c.requires.ycc (omega arith) (omega arith)
    c.in_ok-read_component.ensures.others
    ∙ plane_kept f xs ys 0 2 c.requires.ycc (omega arith) (omega arith)
    c.read_component-2.ensures.others)
    c.read_component-2.ensures.given

pub returns-clause-fault : goal.returns-clause-fault
returns-clause-fault g c =
    let v : Values =
    record { format = c.args.format.now; samples = c.read_component.new.samples } in
    let long = plane_long v 1 c.requires.ycc (omega arith) in
    IfErr-weaker c.read_component-2.result _ _
    (λ e q. cut_behind e _ _ _ _ _ _ (plane_text v 1) _ _ _ c.in_ok-read_component.ensures.given
    (omega (arith, long)) q) c.read_component-2.ensures.fault
