use Rattle.std.proofs.Common.{arith}
use Rattle.receiver_file.specs.Known.{shape_in}
use Rattle.receiver_file.proofs.TakenGroups.{gained_missing, gained_none}
use Rattle.receiver_file.proofs.taking.take_run.Goals as goal

pub returns-in-Some-eq0-clause-gained : goal.returns-in-Some-eq0-clause-gained
returns-in-Some-eq0-clause-gained g c =
    gained_missing (shape_in c.args.format.now) c.args.first c.args.groups
    c.take_missing.result _ _ _ _ c.args.frame.now.cells
    (omega (arith, c.requires.first, c.take_missing.ensures.most)) c.requires.blank
    c.take_missing.ensures.gave c.take_missing.ensures.told

pub returns-in_default-clause-gained : goal.returns-in_default-clause-gained
returns-in_default-clause-gained g c =
    gained_none (shape_in c.args.format.now) c.args.first _ _ c.args.frame.now.cells

pub returns-in_default-2-clause-gained : goal.returns-in_default-2-clause-gained
returns-in_default-2-clause-gained g c =
    gained_none (shape_in c.args.format.now) c.args.first _ _ c.args.frame.now.cells
