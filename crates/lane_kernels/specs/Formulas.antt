-- The formulas of the processor over whole numbers, n bits to a sample (ITU-R BT.709, and own
-- forms). A fraction that is rounded stands as its numerator, a whole number of either sign, and
-- its divisor.
use Rattle.std.specs.Prelude.{◌≡◌, ◌<◌, ℕ, ◌+◌, ◌-◌, ◌*◌, ◌/◌, ◌^◌, min, max, if◌then◌else◌, nat_lt}
use Rattle.std.specs.Prelude.{nat_le, ℤ, pos, negsuc, ◌+ℤ◌, ◌-ℤ◌, ◌*ℤ◌}

-- ---- rounding

-- floor(z / d): the greatest whole number that is z / d or less. `negsuc a` is -(a + 1)
unfoldable pub floor : ℤ → ℕ → ℤ
floor (pos a) d = pos (a / d)
floor (negsuc a) d = negsuc (a / d)

-- the same in words of a product: z is v times d and a rest below d
abbrev pub IsFloor : ℤ → ℕ → ℤ → Type 0
IsFloor z d v = (r : ℕ) × (r < d) × (z ≡ v *ℤ pos d +ℤ pos r)

-- INT(z / d): floor(z / d + 1 / 2), over the one divisor 2 d
abbrev pub nearest : ℤ → ℕ → ℤ
nearest z d = floor (pos 2 *ℤ z +ℤ pos d) (2 * d)

-- ---- ranges

-- s, the scale of n bits against 8
abbrev pub scale : ℕ → ℕ
scale n = 2 ^ (n - 8)

-- c, the centre of Cb and Cr
abbrev pub centre : ℕ → ℕ
centre n = 2 ^ (n - 1)

-- the one nearest to z of the numbers from low to high
abbrev pub clip : ℕ → ℕ → ℤ → ℕ
clip low high (pos v) = min high (max low v)
clip low high (negsuc v) = low

-- the nearest value that video data may have
abbrev pub video_data : ℕ → ℤ → ℕ
video_data n z = clip (scale n) (255 * scale n - 1) z

-- the nearest value of the nominal range of luma, R, G and B
abbrev pub nominal : ℕ → ℤ → ℕ
nominal n z = clip (16 * scale n) (235 * scale n) z

-- the nearest value of the nominal range of Cb and Cr
abbrev pub nominal_colour : ℕ → ℤ → ℕ
nominal_colour n z = clip (16 * scale n) (240 * scale n) z

-- ---- the matrix

-- luma, of the coefficients 0.2126, 0.7152 and 0.0722 times 5000 (BT.709, 3)
abbrev pub luma : ℕ → ℕ → ℕ → ℤ
luma r g b = nearest (pos (1063 * r + 3576 * g + 361 * b)) 5000

-- Cb: the distance of B to luma over 1.8556, 219 of it as 224, about the centre (BT.709, 3 and 4)
abbrev pub cb : ℕ → ℕ → ℕ → ℕ → ℤ
cb n r g b =
    nearest (pos 112 *ℤ (pos (4639 * b) -ℤ pos (1063 * r + 3576 * g))) 1015941 +ℤ pos (centre n)

-- Cr: the distance of R to luma over 1.5748, 219 of it as 224, about the centre (BT.709, 3 and 4)
abbrev pub cr : ℕ → ℕ → ℕ → ℕ → ℤ
cr n r g b =
    nearest (pos 112 *ℤ (pos (3937 * r) -ℤ pos (3576 * g + 361 * b))) 862203 +ℤ pos (centre n)

-- ---- gain, wipe and key

-- the distance of v to z, g / 4096 times
abbrev pub gain : ℕ → ℕ → ℕ → ℤ
gain z g v = floor ((pos v -ℤ pos z) *ℤ pos g +ℤ pos 2048) 4096 +ℤ pos z

-- w / 256 of the way from a to b
abbrev pub wipe : ℕ → ℕ → ℕ → ℕ
wipe a b w = (a * (256 - w) + b * w + 128) / 256

-- the weight of a wipe at column or row x, for its position p and softness q
abbrev pub weight : ℕ → ℕ → ℕ → ℕ
weight x p q = if nat_lt x p then 0 else (if nat_le (p + q) x then 256 else ((x - p) * 256 / q))

-- k / p of the way from a to b
abbrev pub key : ℕ → ℕ → ℕ → ℕ → ℕ
key p a b k = (2 * (a * (p - k) + b * k) + p) / (2 * p)

-- the greatest k: the nominal range of luma
abbrev pub full_key : ℕ → ℕ
full_key n = 219 * scale n

-- the k of a luma: its distance to nominal black, and at most the greatest
abbrev pub key_of : ℕ → ℕ → ℕ
key_of n y = min (full_key n) (y - 16 * scale n)
