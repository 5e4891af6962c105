use Rattle.lane_kernels.proofs.Floor.{floor_biased, nearest_biased}
use Rattle.lane_kernels.proofs.laws.raised.Goals as goal

pub returns-clause-floor : goal.returns-clause-floor
returns-clause-floor c = floor_biased

pub returns-clause-nearest : goal.returns-clause-nearest
returns-clause-nearest c = nearest_biased
