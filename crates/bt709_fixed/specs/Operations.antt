-- What range, gain and matrix make of a picture, one position at a time (ITU-R BT.709; gain and
-- 4:2:2 own).
use Rattle.std.specs.Prelude.{
  ◌≡◌,
  ℕ,
  ◌+◌,
  ◌*◌,
  ◌/◌,
  ◌≤◌,
  ⊤,
  Bool,
  true,
  false,
  not,
  ◌==◌,
  if◌then◌else◌,
  pos,
  List,
  slice_index,
}
use Rattle.st_format.specs.declared.format.Format.{Format}
use Rattle.st_format.specs.declared.sampling.Sampling.{Sampling}
use Rattle.st_format.specs.declared.sampling.Sampling.TheVariants.{Ycc422, Ycc444, Rgb}
use Rattle.st_format.specs.Pgroup.{bits_of}
use Rattle.st_format.specs.Picture.{Values, value_at}
use Rattle.st_format.specs.Position.{Position, IsPosition, component_in_row}
use Rattle.lane_kernels.specs.Formulas.{
  cb,
  centre,
  cr,
  gain,
  luma,
  nominal,
  nominal_colour,
  scale,
  video_data,
}
use Rattle.bt709_fixed.specs.declared.changes.Change.{Change}
use Rattle.bt709_fixed.specs.declared.changes.Change.TheVariants.{Gain, Limit}
use Rattle.bt709_fixed.specs.declared.changes.RangeKind.{RangeKind}
use Rattle.bt709_fixed.specs.declared.changes.RangeKind.TheVariants.{Nominal, VideoData}

-- The picture p has the format f, and at each position the value that is given
pub record IsOf (f : Format) (value : Position → ℕ) (p : Values) : Type 0 where
  pub format : p.format ≡ f
  pub each : (at : Position) → IsPosition at f → value_at p at ≡ value at

-- whether a component is Cb or Cr
abbrev pub is_colour : Sampling → ℕ → Bool
is_colour Ycc422 component = not (component == 0)
is_colour Ycc444 component = not (component == 0)
is_colour Rgb component = false

-- a value brought to a range, of n bits
abbrev pub limited_sample : RangeKind → ℕ → Bool → ℕ → ℕ
limited_sample Nominal n true v = nominal_colour n (pos v)
limited_sample Nominal n false v = nominal n (pos v)
limited_sample VideoData n colour v = video_data n (pos v)

-- the value that gain keeps: the centre for Cb and Cr, else black
abbrev pub kept_value : ℕ → Bool → ℕ
kept_value n true = centre n
kept_value n false = 16 * scale n

-- the distance to the value that is kept, g / 4096 times, brought to video data
abbrev pub gained_sample : ℕ → ℕ → Bool → ℕ → ℕ
gained_sample g n colour v = video_data n (gain (kept_value n colour) g v)

-- a gain is at most 4, in 4096ths
abbrev pub IsBounded : Change → Type 0
IsBounded (Limit range) = ⊤
IsBounded (Gain g) = g ≤ 16384

-- what a change makes of a value
abbrev pub changed_by : Change → ℕ → Bool → ℕ → ℕ
changed_by (Limit range) n colour v = limited_sample range n colour v
changed_by (Gain g) n colour v = gained_sample g n colour v

-- the same of the sample of number k, in a row or a raster of n bits
abbrev pub changed_sample : Change → Sampling → ℕ → ℕ → ℕ → ℕ
changed_sample change s n k v = changed_by change n (is_colour s (component_in_row s k)) v

-- the one of three values that a component has
abbrev pub of_component : ℕ → ℕ → ℕ → ℕ → ℕ
of_component component y cb cr = if component == 0 then y else (if component == 1 then cb else cr)

-- Y, Cb or Cr of n bits
abbrev pub matrix_component : ℕ → ℕ → ℕ → ℕ → ℕ → ℕ
matrix_component n component r g b =
    of_component component (video_data n (luma r g b)) (video_data n (cb n r g b))
    (video_data n (cr n r g b))

-- the same of the pixel of sample number k, in a list of R, G and B
abbrev pub matrixed_at : ℕ → List ℕ → ℕ → ℕ
matrixed_at n rgb k =
    matrix_component n (component_in_row Ycc444 k) (slice_index rgb (3 * (k / 3) + 0))
    (slice_index rgb (3 * (k / 3) + 1)) (slice_index rgb (3 * (k / 3) + 2))

-- the value of another component at the same row and column
abbrev pub component_at : Values → Position → ℕ → ℕ
component_at v at component =
    value_at v (record { row = at.row; column = at.column; component = component })

-- ---- the four operations: the value at each position

-- brought to a range
abbrev pub limit_value : RangeKind → Values → Position → ℕ
limit_value range v at =
    limited_sample range (bits_of v.format.depth) (is_colour v.format.sampling at.component)
    (value_at v at)

-- brought g / 4096 as far from what it keeps, and to video data
abbrev pub gain_value : ℕ → Values → Position → ℕ
gain_value g v at =
    gained_sample g (bits_of v.format.depth) (is_colour v.format.sampling at.component)
    (value_at v at)

-- either of the two
abbrev pub changed_value : Change → Values → Position → ℕ
changed_value change v at =
    changed_by change (bits_of v.format.depth) (is_colour v.format.sampling at.component)
    (value_at v at)

-- Y, Cb or Cr of the R, G and B at one row and column
abbrev pub ycc444_value : Values → Position → ℕ
ycc444_value v at =
    matrix_component (bits_of v.format.depth) at.component (component_at v at 0)
    (component_at v at 1)
    (component_at v at 2)

-- Cb and Cr of the even columns, where alone 4:2:2 has a position for them
abbrev pub ycc422_value : Values → Position → ℕ
ycc422_value v at = value_at v at

-- f is g but for its sampling
pub record IsResampled (f g : Format) (s : Sampling) : Type 0 where
  pub sampling : f.sampling ≡ s
  pub depth : f.depth ≡ g.depth
  pub width : f.width ≡ g.width
  pub height : f.height ≡ g.height
  pub n : f.n ≡ g.n
  pub d : f.d ≡ g.d
