use Rattle.picture_forms.proofs.Only.{frame_gave_only, frame_only}
use Rattle.picture_forms.proofs.pictures.read_y4m_frame.Goals as goal

pub returns-clause-only : goal.returns-clause-only
returns-clause-only g c v behind whole same told =
    frame_only c.args.format.now c.read_frame.result _ _ c.requires c.read_frame.ensures.found
    c.read_frame.ensures.fault v behind whole same told

pub returns-clause-gave_only : goal.returns-clause-gave_only
returns-clause-gave_only g c v behind whole same read =
    frame_gave_only c.args.format.now c.read_frame.result _ _ _ _ _ c.requires
    c.read_frame.ensures.found c.read_frame.ensures.gave c.read_frame.ensures.gave_wrong v behind
    whole same read
