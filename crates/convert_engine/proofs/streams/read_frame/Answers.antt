use Rattle.convert_engine.proofs.Passing.{end_fault}
use Rattle.convert_engine.proofs.streams.read_frame.Goals as goal

pub returns-in-Ok-Some-clause-format : goal.returns-in-Ok-Some-clause-format
returns-in-Ok-Some-clause-format g c =
    let found = rw c.in-Ok-Some.field-0-is at c.in-Ok-Some.ensures.found in found.0

pub returns-in-Ok-Some-clause-whole : goal.returns-in-Ok-Some-clause-whole
returns-in-Ok-Some-clause-whole g c =
    let found = rw c.in-Ok-Some.field-0-is at c.in-Ok-Some.ensures.found in found.1.0

pub returns-in-Ok-Some-clause-gave : goal.returns-in-Ok-Some-clause-gave
returns-in-Ok-Some-clause-gave g c =
    rw c.in-Ok-Some.field-0-is at c.in-Ok-Some.ensures.gave

pub returns-in-Ok-None-clause-gave_wrong : goal.returns-in-Ok-None-clause-gave_wrong
returns-in-Ok-None-clause-gave_wrong g c =
    let gave = rw c.in-Ok-None.field-0-is at c.in-Ok-None.ensures.gave in
    end_fault c.args.format.now _ _ _ gave.0 gave.1
