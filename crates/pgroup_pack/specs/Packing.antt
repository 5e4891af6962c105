-- Samples of pgroups in octets (RFC 4175, 4.3).
use Rattle.std.specs.Prelude.{◌≡◌, ℕ, ◌*◌, ◌^◌, ◌<◌, List, All}
use Rattle.st_format.specs.Pgroup.{bits_of}
use Rattle.st_format.specs.Picture.{Values}
use Rattle.st_format.specs.Samples.{values_in}
use Rattle.st_format.specs.declared.format.Format.{Format}

-- So many octets and so many samples of a format have as many bits. Whole pgroups do.
abbrev pub Agree : Format → ℕ → ℕ → Type 0
Agree f octets samples = 8 * octets ≡ bits_of f.depth * samples

-- each value fits in n bits
abbrev pub Fit : ℕ → List ℕ → Type 0
Fit n values = All (λ v. v < 2 ^ n) values

-- the picture that the octets of a raster spell
abbrev pub unpacked_picture : Format → List ℕ → Values
unpacked_picture f octets = record { format = f; samples = values_in (bits_of f.depth) octets }
