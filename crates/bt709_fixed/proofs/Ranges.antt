-- Values of a range fit the depth.
use Rattle.std.proofs.Common.{ℕ, ◌-◌, ◌*◌, ◌^◌, ◌<◌, ◌≤◌, arith, Bool, true, false}
use Rattle.std.specs.Prelude.{ℤ, pos}
use Rattle.lane_kernels.specs.Formulas.{gain, scale, video_data}
use Rattle.lane_kernels.proofs.Clipping.{clip_most}
use Rattle.lane_kernels.proofs.Scales.{scale_least, whole_is}
use Rattle.bt709_fixed.specs.declared.changes.Change.{Change}
use Rattle.bt709_fixed.specs.declared.changes.Change.TheVariants.{Gain, Limit}
use Rattle.bt709_fixed.specs.declared.changes.RangeKind.{RangeKind}
use Rattle.bt709_fixed.specs.declared.changes.RangeKind.TheVariants.{Nominal, VideoData}
use Rattle.bt709_fixed.specs.Operations.{changed_by, limited_sample, kept_value}

pub video_data_fits : (n : ℕ) (z : ℤ) → 8 ≤ n → video_data n z < 2 ^ n
video_data_fits n z h =
    omega (
      arith,
      clip_most (scale n) (255 * scale n - 1) z (omega (arith, scale_least n)),
      scale_least n,
      whole_is n h,
    )

limited_fits : (r : RangeKind) (n : ℕ) (colour : Bool) (v : ℕ) → 8 ≤ n
    → limited_sample r n colour v < 2 ^ n
limited_fits Nominal n true v h =
    omega (
      arith,
      clip_most (16 * scale n) (240 * scale n) (pos v) (omega arith),
      scale_least n,
      whole_is n h,
    )
limited_fits Nominal n false v h =
    omega (
      arith,
      clip_most (16 * scale n) (235 * scale n) (pos v) (omega arith),
      scale_least n,
      whole_is n h,
    )
limited_fits VideoData n colour v h = video_data_fits n (pos v) h

pub changed_fits : (change : Change) (n : ℕ) (colour : Bool) (v : ℕ) → 8 ≤ n
    → changed_by change n colour v < 2 ^ n
changed_fits (Limit range) n colour v h = limited_fits range n colour v h
changed_fits (Gain g) n colour v h = video_data_fits n (gain (kept_value n colour) g v) h
