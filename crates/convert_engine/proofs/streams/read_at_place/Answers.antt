use Rattle.convert_engine.proofs.Passing.{last_given, last_wrong}
use Rattle.convert_engine.proofs.streams.read_at_place.Goals as goal

pub returns-clause-gave : goal.returns-clause-gave
returns-clause-gave g c =
    last_given c.args.format.now c.args.place c.read_frame.result _ _ _
    c.in_ok-pass_frames.ensures.passed c.read_frame.ensures.gave

pub returns-clause-gave_wrong : goal.returns-clause-gave_wrong
returns-clause-gave_wrong g c =
    last_wrong c.args.format.now c.args.place c.read_frame.result _ _ _ _
    c.in_ok-pass_frames.ensures.passed c.read_frame.ensures.gave_wrong
