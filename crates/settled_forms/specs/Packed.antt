-- Samples of 4:2:2 at 10 bits in the octets of their pgroups: RFC 4175, 4.3; SMPTE ST 2110-20,
-- pixel groups.
use Rattle.std.specs.Prelude.{ℕ, ◌+◌, ◌*◌, List, [], ◌∷◌, map, slice_index}
use Rattle.std.specs.List.{range_with_len}
use Rattle.picture_forms.specs.declared.planes.Spelling.TheVariants.{Little}
use Rattle.picture_forms.specs.Layouts.{plane_first, plane_step}
use Rattle.picture_forms.specs.Planes.{every, every_text}
use Rattle.st_format.specs.declared.sampling.Sampling.TheVariants.{Ycc422}
use Rattle.st_format.specs.Samples.{values_in}

-- so many samples of a component, from the start-th on
abbrev pub packed_samples : ℕ → List ℕ → ℕ → ℕ → List ℕ
packed_samples c packed start n =
    map (λ k. every (values_in 10 packed) (plane_first Ycc422 c) (plane_step Ycc422 c) k)
    (range_with_len start n)

-- the first samples of a component, two octets each, the low one first
abbrev pub ten_bit_text : ℕ → List ℕ → ℕ → List ℕ
ten_bit_text c packed n =
    every_text Little (values_in 10 packed) (plane_first Ycc422 c) (plane_step Ycc422 c) 0 n

-- two octets as a number, the high one first
abbrev pub octet_pair : List ℕ → ℕ → ℕ
octet_pair packed k = slice_index packed k * 256 + slice_index packed (k + 1)

-- octets by twos as numbers, the low one first
abbrev pub low_first_words : List ℕ → List ℕ
low_first_words [] = []
low_first_words (a ∷ []) = []
low_first_words (a ∷ b ∷ octets) = (a + 256 * b) ∷ low_first_words octets
