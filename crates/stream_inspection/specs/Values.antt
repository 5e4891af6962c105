-- Values as text (own).
use Rattle.std.specs.Prelude.{ℕ, ◌-◌, ◌^◌, Bool, nat_lt, if◌then◌else◌, List, [], ◌∷◌, ◌++◌}
use Rattle.std.specs.Prelude.{codes, length, replicate, Option, None, Some}
use Rattle.std.specs.Fmt.{decimal}
use Rattle.std.specs.List.{flat_map}

-- a number in a column of thirteen, or a dash where there is none
abbrev pub wide_number : ℕ → List ℕ
wide_number n = replicate (13 - length (decimal n)) 32 ++ decimal n

-- a number in a column of thirteen, or a dash at its right where there is none
abbrev pub wide_text : Option ℕ → List ℕ
wide_text None = codes "            -"
wide_text (Some n) = wide_number n

-- a number, or `null` where there is none
abbrev pub null_text : Option ℕ → List ℕ
null_text None = codes "null"
null_text (Some n) = decimal n

-- a number less 2^64
abbrev pub signed_text : ℕ → List ℕ
signed_text n =
    if nat_lt n (2 ^ 64) then codes "-" ++ decimal (2 ^ 64 - n) else decimal (n - 2 ^ 64)

-- a number less 2^64 behind a space, or a dash where there is none
abbrev pub wide_signed : Option ℕ → List ℕ
wide_signed None = codes " -"
wide_signed (Some n) = codes " " ++ signed_text n

-- a number less 2^64, or `null` where there is none
abbrev pub null_signed : Option ℕ → List ℕ
null_signed None = codes "null"
null_signed (Some n) = signed_text n

-- whether it is so, in a column
abbrev pub yes_text : Bool → List ℕ
yes_text b = if b then codes "          yes" else codes "           no"

-- numbers with commas between
abbrev pub commas_text : List ℕ → List ℕ
commas_text [] = []
commas_text (x ∷ xs) = decimal x ++ flat_map (λ y. codes "," ++ decimal y) xs
