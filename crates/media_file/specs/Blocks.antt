-- A format block, read (own).
use Rattle.std.specs.Prelude.{ℕ, ◌==◌, ◌&&◌, if◌then◌else◌, List, [], ◌∷◌, slice_index, Result, Ok}
use Rattle.std.specs.Prelude.{Err}
use Rattle.std.specs.Int.{w16, w32, from_be_bytes}
use Rattle.st_format.specs.declared.sampling.Sampling.{Sampling}
use Rattle.st_format.specs.declared.sampling.Sampling.TheVariants.{Ycc422, Ycc444, Rgb}
use Rattle.st_format.specs.declared.sampling.Depth.{Depth}
use Rattle.st_format.specs.declared.sampling.Depth.TheVariants.{D8, D10, D12, D16}
use Rattle.st_format.specs.declared.format.FormatFault.{FormatFault}
use Rattle.st_format.specs.Fields.{Fields, format_at}
use Rattle.media_file.specs.declared.fault.FileFault.{FileFault}
use Rattle.media_file.specs.declared.fault.FileFault.TheVariants.{BadField}
use Rattle.media_file.specs.Fields.{field_at}
use Rattle.st_format.specs.Reading.{◌>>=◌}
use Rattle.st_format.specs.Given.{with_rest}

-- the sampling that a code says: 0 to 2, and no other
abbrev pub sampling_of : ℕ → Result Sampling FileFault
sampling_of n =
    if n == 0 then Ok Ycc422
    else (if n == 1 then Ok Ycc444 else (if n == 2 then Ok Rgb else Err BadField))

-- the depth of a number of bits
abbrev pub depth_of : ℕ → Result Depth FileFault
depth_of n =
    if n == 8 then Ok D8
    else (if n == 10 then Ok D10
    else (if n == 12 then Ok D12 else (if n == 16 then Ok D16 else Err BadField)))

-- a format whose rate was in lowest terms
abbrev pub lowest : Result Fields FormatFault → ℕ → ℕ → Result Fields FileFault
lowest (Ok f) n d = if f.n == n && f.d == d then Ok f else Err BadField
lowest (Err e) n d = Err BadField

-- what fourteen octets say
abbrev pub block_of : List ℕ → Result Fields FileFault
block_of block =
    sampling_of (slice_index block 0) >>= λ s. depth_of (slice_index block 1) >>= λ b.
    lowest (format_at s b (from_be_bytes w16 (slice_index block 2 ∷ slice_index block 3 ∷ []))
    (from_be_bytes w16 (slice_index block 4 ∷ slice_index block 5 ∷ []))
    (from_be_bytes w32
    (slice_index block 6 ∷ slice_index block 7 ∷ slice_index block 8 ∷ slice_index block 9
    ∷ []))
    (from_be_bytes w32
    (slice_index block 10 ∷ slice_index block 11 ∷ slice_index block 12 ∷ slice_index block 13
    ∷ [])))
    (from_be_bytes w32
    (slice_index block 6 ∷ slice_index block 7 ∷ slice_index block 8 ∷ slice_index block 9
    ∷ []))
    (from_be_bytes w32
    (slice_index block 10 ∷ slice_index block 11 ∷ slice_index block 12 ∷ slice_index block 13
    ∷ []))

-- the format that the 14 octets of a block at the front say, and what stands behind it
unfoldable pub block_at : List ℕ → Result (Fields × List ℕ) FileFault
block_at octets = field_at 14 octets >>= λ x. with_rest (block_of x.0) x.1
