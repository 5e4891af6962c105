-- What a format says, and which formats there are.
use Rattle.std.specs.Prelude.{ℕ, ◌*◌, ◌/◌, ◌%◌, Bool, true, false, ◌&&◌, ◌||◌, nat_lt, not, ◌==◌}
use Rattle.std.specs.Prelude.{if◌then◌else◌, Result, Ok, Err}
use Rattle.st_format.specs.declared.sampling.Sampling.{Sampling}
use Rattle.st_format.specs.declared.sampling.Sampling.TheVariants.{Ycc422, Ycc444, Rgb}
use Rattle.st_format.specs.declared.sampling.Depth.{Depth}
use Rattle.st_format.specs.declared.sampling.Depth.TheVariants.{D8, D10, D12, D16}
use Rattle.st_format.specs.declared.format.Format.{Format}
use Rattle.st_format.specs.declared.format.FormatFault.{FormatFault}
use Rattle.st_format.specs.declared.format.FormatFault.TheVariants.{BadWidth, BadHeight, BadRate}
use Rattle.st_format.specs.Pgroup.{pixel_group}
use Rattle.st_format.specs.Rate.{common_divisor}

-- the fields of a format, without what is known of them
pub record Fields : Type 0 where
  pub sampling : Sampling
  pub depth : Depth
  pub width : ℕ
  pub height : ℕ
  pub n : ℕ
  pub d : ℕ

-- the fields of a format as one value
abbrev pub fields_of : Format → Fields
fields_of f =
    record {
      sampling = f.sampling;
      depth = f.depth;
      width = f.width;
      height = f.height;
      n =
          f.n;
      d = f.d;
    }

-- Tests of the limits (own profile of SMPTE ST 2110-20): not from 2 to 8192 columns, or no multiple
-- of 2 and of a pgroup's pixels
abbrev pub is_bad_width : Sampling → Depth → ℕ → Bool
is_bad_width s b w =
    nat_lt w 2 || nat_lt 8192 w || not (w % 2 == 0) || not (w % (pixel_group s b).pixels == 0)

-- not from 1 to 8192 rows
abbrev pub is_bad_height : ℕ → Bool
is_bad_height h = nat_lt h 1 || nat_lt 8192 h

-- n or d not from 1 to 1,000,000, or n / d not from 1 to 300 frames a second
abbrev pub is_bad_rate : ℕ → ℕ → Bool
is_bad_rate n d =
    nat_lt n 1 || nat_lt 1000000 n || nat_lt d 1 || nat_lt 1000000 d || nat_lt n d
    || nat_lt (300 * d) n

-- the format of these, its rate in lowest terms, or the first refusal
abbrev pub format_at : Sampling → Depth → ℕ → ℕ → ℕ → ℕ → Result Fields FormatFault
format_at s b w h n d =
    if is_bad_width s b w then Err BadWidth else
    (if is_bad_height h then Err BadHeight else
    (if is_bad_rate n d then Err BadRate else
    Ok (record {
      sampling = s;
      depth = b;
      width = w;
      height = h;
      n = n / common_divisor n d;
      d =
          d / common_divisor n d;
    })))

-- what a call made, by its fields
abbrev pub made_fields : {E : Type 0} → Result Format E → Result Fields E
made_fields (Ok f) = Ok (fields_of f)
made_fields (Err e) = Err e

-- Whether two say the same, as a test: of samplings
abbrev pub same_sampling : Sampling → Sampling → Bool
same_sampling Ycc422 Ycc422 = true
same_sampling Ycc444 Ycc444 = true
same_sampling Rgb Rgb = true
same_sampling a b = false

-- whether two depths are the same, as a test
abbrev pub same_depth : Depth → Depth → Bool
same_depth D8 D8 = true
same_depth D10 D10 = true
same_depth D12 D12 = true
same_depth D16 D16 = true
same_depth a b = false

-- whether all fields of two formats are the same, as a test
abbrev pub same_fields : Fields → Fields → Bool
same_fields f g =
    same_sampling f.sampling g.sampling && same_depth f.depth g.depth && f.width == g.width
    && f.height == g.height && f.n == g.n && f.d == g.d
