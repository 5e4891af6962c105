use Rattle.std.proofs.lemmas.Result.{IfErr-weaker, IfOk-weaker}
use Rattle.st_format.specs.Fields.{fields_of}
use Rattle.picture_forms.specs.Heads.{head_walk}
use Rattle.picture_forms.proofs.Only.{head_gave_only, head_only}
use Rattle.picture_forms.proofs.Walked.{reads_gave, reads_takes, refuses_fails, refuses_gave}
use Rattle.picture_forms.proofs.Walked.{refuses_part}
use Rattle.picture_forms.proofs.y4m_head_reading.read_y4m_head.Goals as goal

pub returns-clause-read : goal.returns-clause-read
returns-clause-read g c =
    IfOk-weaker c.read_head.result _ _
    (λ f p. reads_takes head_walk _ _ _ _ (fields_of f) p) c.read_head.ensures.read

pub returns-clause-fault : goal.returns-clause-fault
returns-clause-fault g c =
    IfErr-weaker c.read_head.result _ _ (λ f p. refuses_fails head_walk _ _ _ _ _ f p)
    c.read_head.ensures.fault

pub returns-clause-gave : goal.returns-clause-gave
returns-clause-gave g c =
    IfOk-weaker c.read_head.result _ _
    (λ f p. reads_gave head_walk _ _ _ _ (fields_of f) p) c.read_head.ensures.read

pub returns-clause-gave_wrong : goal.returns-clause-gave_wrong
returns-clause-gave_wrong g c =
    IfErr-weaker c.read_head.result _ _ (λ f p. refuses_gave head_walk _ _ _ _ _ f p)
    c.read_head.ensures.fault

pub returns-clause-gave_part : goal.returns-clause-gave_part
returns-clause-gave_part g c =
    IfErr-weaker c.read_head.result _ _ (λ f p. refuses_part head_walk _ _ _ _ _ f p)
    c.read_head.ensures.fault

pub returns-clause-only : goal.returns-clause-only
returns-clause-only g c h behind is told =
    let e = c.read_head.ensures in
    head_only c.read_head.result _ _
    (IfOk-weaker c.read_head.result _ _
    (λ f p. reads_takes head_walk _ _ _ _ (fields_of f) p) e.read)
    (IfErr-weaker c.read_head.result _ _ (λ f p. refuses_fails head_walk _ _ _ _ _ f p) e.fault)
    h behind is told

pub returns-clause-gave_only : goal.returns-clause-gave_only
returns-clause-gave_only g c h behind is read =
    let e = c.read_head.ensures in
    head_gave_only c.read_head.result _ _ _
    (IfOk-weaker c.read_head.result _ _
    (λ f p. reads_gave head_walk _ _ _ _ (fields_of f) p) e.read)
    (IfErr-weaker c.read_head.result _ _ (λ f p. refuses_gave head_walk _ _ _ _ _ f p) e.fault)
    h behind is read
