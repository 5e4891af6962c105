use Rattle.lane_kernels.proofs.Floor.{floor_is, floor_only}
use Rattle.lane_kernels.proofs.laws.floor_in_words.Goals as goal

pub returns-clause-is : goal.returns-clause-is
returns-clause-is c = floor_is

pub returns-clause-only : goal.returns-clause-only
returns-clause-only c = floor_only
