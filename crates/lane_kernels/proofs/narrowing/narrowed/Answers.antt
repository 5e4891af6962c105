use Rattle.std.proofs.Common.{refl}
use Rattle.std.proofs.lemmas.Simd.{Each1-from_get_or}
use Rattle.lane_kernels.proofs.Stored.{HasLanes-given, HasLanes-map, HasLanes-same}
use Rattle.lane_kernels.proofs.narrowing.narrowed.Goals as goal

pub overflow_cast-result : goal.overflow_cast-result
overflow_cast-result c = Each1-from_get_or _ c.args.v 0 (λ i h. record { fits = c.requires i h })

pub returns : goal.returns
returns c = HasLanes-same 8 (HasLanes-map _ 8 (HasLanes-given 8 c.args.v c.fits-v.0)) (λ k h. refl)
