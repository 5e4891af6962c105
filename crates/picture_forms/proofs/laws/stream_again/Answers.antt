use Rattle.std.proofs.Common.{◌++◌, ap, append_assoc, ◌∙◌}
use Rattle.std.specs.List.{flat_map}
use Rattle.picture_forms.specs.Heads.{head_walk}
use Rattle.picture_forms.specs.Layouts.{frame_text, y4m_head}
use Rattle.picture_forms.proofs.FrameAgain.{frames_again}
use Rattle.picture_forms.proofs.HeadAgain.{head_again}
use Rattle.picture_forms.proofs.laws.stream_again.Goals as goal

pub returns-clause-head : goal.returns-clause-head
returns-clause-head c f pictures behind is =
    ap head_walk (append_assoc (y4m_head f) (flat_map frame_text pictures) behind)
    ∙ head_again f (flat_map frame_text pictures ++ behind) is

pub returns-clause-frames : goal.returns-clause-frames
returns-clause-frames c f pictures behind is all = frames_again f pictures behind is all
