use Rattle.std.proofs.Common.{ℕ, ◌<◌, ◌-◌, List, [], ◌∷◌, IsUtf8, drop, take}
use Rattle.std.proofs.lemmas.Str.{IsAscii-drop, IsAscii-take, IsUtf8-from_ascii}
use Rattle.std.proofs.lemmas.Str.Ascii.{IsAscii-cons, IsAscii-nil}
use Rattle.address_text.proofs.hex.add_hex.Goals as goal

-- the last of four digits are text
last_digits : (a b c d first : ℕ) → a < 128 → b < 128 → c < 128 → d < 128
    → IsUtf8 (take (4 - first) (drop first (a ∷ b ∷ c ∷ d ∷ [])))
last_digits a b c d first la lb lc ld =
    let digits : List ℕ = a ∷ b ∷ c ∷ d ∷ [] in
    IsUtf8-from_ascii (take (4 - first) (drop first digits))
    (IsAscii-take (drop first digits) (4 - first) (IsAscii-drop digits first
    (IsAscii-cons a (b ∷ c ∷ d ∷ []) la (IsAscii-cons b (c ∷ d ∷ []) lb
    (IsAscii-cons c (d ∷ []) lc (IsAscii-cons d [] ld IsAscii-nil))))))

pub unreachable-requires : goal.unreachable-requires
unreachable-requires g c =
    c.in-Err.ensures.cases.0 (last_digits c.hex_digit.result c.hex_digit-2.result
    c.hex_digit-3.result c.hex_digit-4.result c.leading_zero_digits.result
    c.hex_digit.ensures.ascii c.hex_digit-2.ensures.ascii c.hex_digit-3.ensures.ascii
    c.hex_digit-4.ensures.ascii)
