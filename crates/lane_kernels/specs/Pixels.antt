-- The matrix of whole pixels, whose three samples follow one another.
use Rattle.std.specs.Prelude.{ℕ, ◌+◌, ◌-◌, ◌*◌, ◌/◌, ◌%◌, ◌==◌, if◌then◌else◌, List, slice_index}
use Rattle.lane_kernels.specs.declared.matrix.Difference.{Difference}
use Rattle.lane_kernels.specs.declared.matrix.Difference.TheVariants.{Cb, Cr}
use Rattle.lane_kernels.specs.declared.pixels.Narrow.{Narrow}
use Rattle.lane_kernels.specs.Formulas.{cb, cr, luma, video_data}

-- the one of three that turn k has
abbrev pub in_turn : ℕ → ℕ → ℕ → ℕ → ℕ
in_turn k x y z = if k % 3 == 0 then x else (if k % 3 == 1 then y else z)

-- sample k of Cb, Y and Cr of n bits, of pixels of R, G and B
abbrev pub ycc_at : ℕ → List ℕ → ℕ → ℕ
ycc_at n rgb k =
    let r = slice_index rgb (3 * (k / 3) + 0) in
    let g = slice_index rgb (3 * (k / 3) + 1) in
    let b = slice_index rgb (3 * (k / 3) + 2) in
    in_turn k (video_data n (cb n r g b)) (video_data n (luma r g b)) (video_data n (cr n r g b))

-- what Cb and Cr have by lanes of 16 bits: 65536ths of the quotient for each component; the numbers
-- of the remainder; and what is left of their product with the divisor
abbrev pub narrow_of : Difference → Narrow
narrow_of Cb = record {
  main_part = 33516;
  first_part = 7680;
  second_part = 25836;
  main = 4639;
  first = 1063;
  second = 3576;
  whole = 9071;
  zero = 4535;
  of_scale = 1188288;
  left = 11;
  left_of_scale = 15;
  left_zero = 50;
  left_divisor = 112;
}
narrow_of Cr = record {
  main_part = 33516;
  first_part = 30443;
  second_part = 3073;
  main = 15748;
  first = 14304;
  second = 1444;
  whole = 30793;
  zero = 15396;
  of_scale = 4033878;
  left = 1;
  left_of_scale = 9;
  left_zero = 13;
  left_divisor = 28;
}

-- 65536ths of eight times a value, by lanes that wrap
abbrev pub part_lanes : ℕ → ℕ → ℕ
part_lanes v by = v * 8 % 65536 * by / 65536

-- a quotient that is right or too great by 1, raised by 131 scales
abbrev pub near_lanes : Narrow → ℕ → ℕ → ℕ → ℕ → ℕ
near_lanes k s x y z =
    ((part_lanes x k.main_part + (1048 * s + 6)) % 65536
    + (65536 - (part_lanes y k.first_part + part_lanes z k.second_part) % 65536)) % 65536 / 8

-- the number of the luma that the key of sample j of 4:2:2 is of: of Cb, Y, Cr and Y three have the
-- first, and one the second
abbrev pub pair_luma : ℕ → ℕ
pair_luma j = j / 4 * 4 + j % 4 / 3 * 2 + 1
