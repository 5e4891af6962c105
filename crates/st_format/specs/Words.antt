-- The words for samplings, and decimal numbers, as SDP, scripts and reports spell them.
use Rattle.std.specs.Prelude.{ℕ, ◌<◌, ◌≤◌, ◌^◌, Bool, ◌&&◌, nat_le, if◌then◌else◌, List, length}
use Rattle.std.specs.Prelude.{codes, Option, Some, None}
use Rattle.std.specs.List.{list_all}
use Rattle.std.specs.Char.{is_ascii_digit}
use Rattle.std.specs.Str.{bytes_eq}
use Rattle.std.specs.Str.Parse.{AllDigits, digits_value}
use Rattle.st_format.specs.declared.sampling.Sampling.{Sampling}
use Rattle.st_format.specs.declared.sampling.Sampling.TheVariants.{Ycc422, Ycc444, Rgb}

-- the word for a sampling (SMPTE ST 2110-20, sampling)
abbrev pub sampling_text : Sampling → List ℕ
sampling_text Ycc422 = codes "YCbCr-4:2:2"
sampling_text Ycc444 = codes "YCbCr-4:4:4"
sampling_text Rgb = codes "RGB"

-- the sampling of a word, by one comparison after another
unfoldable pub sampling_named : List ℕ → Option Sampling
sampling_named text =
    if bytes_eq text (codes "YCbCr-4:2:2") then Some Ycc422 else
    (if bytes_eq text (codes "YCbCr-4:4:4") then Some Ycc444 else
    (if bytes_eq text (codes "RGB") then Some Rgb else None))

-- one to ten decimal digits, leading zeros among them, of a value that 32 bits hold (own)
pub record IsNumber (text : List ℕ) : Type 0 where
  pub digits : AllDigits 10 text
  pub some : 0 < length text
  pub few : length text ≤ 10
  pub fits : digits_value 10 text < 2 ^ 32

-- the same as a test
abbrev pub is_number : List ℕ → Bool
is_number text =
    nat_le 1 (length text) && nat_le (length text) 10 && list_all is_ascii_digit text
    && nat_le (digits_value 10 text) 4294967295

-- the value of a text that passes it
unfoldable pub number : List ℕ → Option ℕ
number text = if is_number text then Some (digits_value 10 text) else None
