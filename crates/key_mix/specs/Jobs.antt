-- JobPicture: what a job makes of its pictures, one position at a time (own; ITU-R BT.709).
use Rattle.std.specs.Prelude.{◌≡◌, ◌≢◌, ◌<◌, ◌⊎◌, ℕ, List, [], ◌∷◌, length, map}
use Rattle.st_format.specs.declared.format.Format.{Format}
use Rattle.st_format.specs.declared.sampling.Sampling.TheVariants.{Ycc422, Ycc444, Rgb}
use Rattle.st_format.specs.Pgroup.{bits_of}
use Rattle.st_format.specs.Picture.{Values, value_at}
use Rattle.st_format.specs.Position.{Position}
use Rattle.lane_kernels.specs.Formulas.{full_key, key, key_of, weight, wipe}
use Rattle.bt709_fixed.specs.Operations.{
  IsOf,
  IsResampled,
  component_at,
  gain_value,
  limit_value,
  ycc422_value,
  ycc444_value,
}
use Rattle.key_mix.specs.declared.Axis.{Axis}
use Rattle.key_mix.specs.declared.Axis.TheVariants.{Columns, Rows}
use Rattle.key_mix.specs.declared.WipeShape.{WipeShape}
use Rattle.key_mix.specs.declared.Job.{Job}
use Rattle.key_mix.specs.declared.Job.TheVariants.{Limit, Gain, ToYcc444, ToYcc422, Wipe, Key}
use Rattle.key_mix.specs.declared.faults.JobFault.{JobFault}
use Rattle.key_mix.specs.declared.faults.JobFault.TheVariants.{
  NoMemory,
  FormatsDiffer,
  KeyNotYcc,
  BadWipe,
  NotRgb,
  NotYcc444,
  WrongInputCount,
  BadGain,
}

-- the column or row that a wipe counts
abbrev pub along : Axis → Position → ℕ
along Columns at = at.column
along Rows at = at.row

-- how many columns or rows a wipe of a format has to count
abbrev pub extent : Axis → Format → ℕ
extent Columns f = f.width
extent Rows f = f.height

-- the two values at a position, mixed by the weight of its column or row
abbrev pub wipe_value : WipeShape → Values → Values → Position → ℕ
wipe_value w a b at =
    wipe (value_at a at) (value_at b at) (weight (along w.axis at) w.position w.soft)

-- each sample has the key luma of its own column, which at Cb and Cr of 4:2:2 is the even one
abbrev pub key_value : Values → Values → Values → Position → ℕ
key_value a b k at =
    key (full_key (bits_of a.format.depth)) (value_at a at) (value_at b at)
    (key_of (bits_of a.format.depth) (component_at k at 0))

-- JobPicture
abbrev pub IsJobPicture : Values → Job → List Values → Type 0
IsJobPicture p (Limit range) (v ∷ []) = IsOf v.format (limit_value range v) p
IsJobPicture p (Gain g) (v ∷ []) = IsOf v.format (gain_value g v) p
IsJobPicture p ToYcc444 (v ∷ []) =
    IsResampled p.format v.format Ycc444 × IsOf p.format (ycc444_value v) p
IsJobPicture p ToYcc422 (v ∷ []) =
    IsResampled p.format v.format Ycc422 × IsOf p.format (ycc422_value v) p
IsJobPicture p (Wipe w) (a ∷ b ∷ []) = IsOf a.format (wipe_value w a b) p
IsJobPicture p Key (a ∷ b ∷ k ∷ []) = IsOf a.format (key_value a b k) p
IsJobPicture p j vs = ⊥

-- how many pictures a job takes
abbrev pub inputs_of : Job → ℕ
inputs_of (Limit range) = 1
inputs_of (Gain g) = 1
inputs_of ToYcc444 = 1
inputs_of ToYcc422 = 1
inputs_of (Wipe w) = 2
inputs_of Key = 3

-- formats of one size, depth and rate
pub record IsAlike (f g : Format) : Type 0 where
  pub depth : f.depth ≡ g.depth
  pub width : f.width ≡ g.width
  pub height : f.height ≡ g.height
  pub n : f.n ≡ g.n
  pub d : f.d ≡ g.d

-- the formats of pictures
abbrev pub formats_of : List Values → List Format
formats_of vs = map (λ v. v.format) vs

-- The format of a job's picture is that of the first input, but for the sampling.
abbrev pub IsJobFormat : Format → Job → List Format → Type 0
IsJobFormat f j [] = ⊥
IsJobFormat f (Limit range) (g ∷ gs) = f ≡ g
IsJobFormat f (Gain gain) (g ∷ gs) = f ≡ g
IsJobFormat f ToYcc444 (g ∷ gs) = IsResampled f g Ycc444
IsJobFormat f ToYcc422 (g ∷ gs) = IsResampled f g Ycc422
IsJobFormat f (Wipe w) (g ∷ gs) = f ≡ g
IsJobFormat f Key (g ∷ gs) = f ≡ g

-- what speaks against a job of pictures of these formats
abbrev pub Against : JobFault → Job → List Format → Type 0
Against WrongInputCount j fs = length fs ≢ inputs_of j
Against BadGain (Gain g) fs = 16384 < g
Against FormatsDiffer (Wipe w) (a ∷ b ∷ []) = a ≢ b
Against FormatsDiffer Key (a ∷ b ∷ k ∷ []) = (a ≢ b) ⊎ (IsAlike a k → ⊥)
Against KeyNotYcc Key (a ∷ b ∷ k ∷ []) = k.sampling ≡ Rgb
Against BadWipe (Wipe w) (a ∷ b ∷ []) = (extent w.axis a < w.position) ⊎ (extent w.axis a < w.soft)
Against NotRgb ToYcc444 (a ∷ []) = a.sampling ≢ Rgb
Against NotYcc444 ToYcc422 (a ∷ []) = a.sampling ≢ Ycc444
Against e j fs = ⊥

-- the order of the refusals: 7, 8, then 2 to 6; memory comes last, and no format tells it
abbrev pub turn_of : JobFault → ℕ
turn_of WrongInputCount = 0
turn_of BadGain = 1
turn_of FormatsDiffer = 2
turn_of KeyNotYcc = 3
turn_of BadWipe = 4
turn_of NotRgb = 5
turn_of NotYcc444 = 6
turn_of NoMemory = 7

-- nothing speaks against a job
abbrev pub IsSoundJob : Job → List Format → Type 0
IsSoundJob j fs = (e : JobFault) → Against e j fs → ⊥

-- a fault speaks against a job, and none that is tested before it does
pub record IsRefusal (e : JobFault) (j : Job) (fs : List Format) : Type 0 where
  pub is : Against e j fs
  pub first : (other : JobFault) → turn_of other < turn_of e → Against other j fs → ⊥

-- When each fault comes: the first refusal, and memory where there is none
abbrev pub IsFault : JobFault → Job → List Format → Type 0
IsFault e j fs = ((e ≡ NoMemory) × IsSoundJob j fs) ⊎ IsRefusal e j fs
