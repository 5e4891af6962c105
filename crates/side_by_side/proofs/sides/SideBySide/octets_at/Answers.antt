use Rattle.std.proofs.Common.{◌∙◌, List, ap}
use Rattle.recording_reader.specs.FileReader.{octets_at_hand}
use Rattle.side_by_side.specs.Sides.{hand_at}
use Rattle.side_by_side.specs.declared.side.Side.{Side}
use Rattle.side_by_side.proofs.sides.SideBySide.octets_at.Goals as goal

pub returns-clause-octets : goal.returns-clause-octets
returns-clause-octets g c =
    c.octets_of.ensures.octets
    ∙ ap (λ (ss : List (Side _ _)). octets_at_hand (hand_at ss c.args.place)) c.sides.ensures
