-- Pgroups: SMPTE ST 2110-20, tables of pgroups; RFC 4175, 4.3.
use Rattle.std.specs.Prelude.{ℕ}
use Rattle.st_format.specs.declared.sampling.Sampling.{Sampling}
use Rattle.st_format.specs.declared.sampling.Sampling.TheVariants.{Ycc422, Ycc444, Rgb}
use Rattle.st_format.specs.declared.sampling.Depth.{Depth}
use Rattle.st_format.specs.declared.sampling.Depth.TheVariants.{D8, D10, D12, D16}

-- Octets, pixels and samples of a pgroup, the smallest piece that a segment carries
pub record Group : Type 0 where
  pub octets : ℕ
  pub pixels : ℕ
  pub samples : ℕ

-- the pgroup of a sampling at a depth, by the tables of SMPTE ST 2110-20
abbrev pub pixel_group : Sampling → Depth → Group
pixel_group Ycc422 D8 = record { octets = 4; pixels = 2; samples = 4 }
pixel_group Ycc422 D10 = record { octets = 5; pixels = 2; samples = 4 }
pixel_group Ycc422 D12 = record { octets = 6; pixels = 2; samples = 4 }
pixel_group Ycc422 D16 = record { octets = 8; pixels = 2; samples = 4 }
pixel_group Ycc444 D8 = record { octets = 3; pixels = 1; samples = 3 }
pixel_group Ycc444 D10 = record { octets = 15; pixels = 4; samples = 12 }
pixel_group Ycc444 D12 = record { octets = 9; pixels = 2; samples = 6 }
pixel_group Ycc444 D16 = record { octets = 6; pixels = 1; samples = 3 }
pixel_group Rgb D8 = record { octets = 3; pixels = 1; samples = 3 }
pixel_group Rgb D10 = record { octets = 15; pixels = 4; samples = 12 }
pixel_group Rgb D12 = record { octets = 9; pixels = 2; samples = 6 }
pixel_group Rgb D16 = record { octets = 6; pixels = 1; samples = 3 }

-- how many bits a sample has
abbrev pub bits_of : Depth → ℕ
bits_of D8 = 8
bits_of D10 = 10
bits_of D12 = 12
bits_of D16 = 16
