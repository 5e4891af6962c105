-- Digits and what they are worth, as a text of them is decoded.
use Rattle.std.specs.Prelude.{◌≡◌, ◌+◌, ◌*◌, ◌<◌, ◌≤◌, ℕ, List, length, slice_index, None, Ok, Some}
use Rattle.hex.specs.Hex.{decode_of, hex_digit_value, pair_value}

-- a number below 16 is the value of a digit; a greater one tells that the octet is no digit
pub record IsDigitValue (octet value : ℕ) : Type 0 where
  pub digit : value < 16 → hex_digit_value octet ≡ Some value
  pub none : 16 ≤ value → hex_digit_value octet ≡ None

-- the values of n digits, one in each lane
pub record AreDigitValues (n : ℕ) (digits values : List ℕ) : Type 0 where
  pub long : length values ≡ n
  pub each : (k : ℕ) → k < n → IsDigitValue (slice_index digits k) (slice_index values k)

-- the first n octets are those that the digits of a text say
abbrev pub AreDecoded : List ℕ → ℕ → List ℕ → Type 0
AreDecoded text n octets =
    (k : ℕ) → k < n → pair_value (slice_index text (2 * k)) (slice_index text (2 * k + 1)) (2 * k)
    ≡ Ok (slice_index octets k)

-- a text isn't one of digits
abbrev pub IsNotDecoded : List ℕ → Type 0
IsNotDecoded text = (octets : List ℕ) → decode_of text ≡ Ok octets → ⊥
