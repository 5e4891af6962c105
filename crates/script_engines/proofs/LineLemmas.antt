-- The first line of a text, by where its first LF stands.
use Rattle.std.proofs.Common.{◌≡◌, ℕ, ◌+◌, ◌<◌, ◌==◌, Bool, true, false, cond, not, List}
use Rattle.std.proofs.Common.{[], ◌∷◌, length, take, drop, get_or, All, refl, sym, ap, subst}
use Rattle.std.proofs.Common.{◌∙◌, arith}
use Rattle.std.specs.List.{position_or_len, slice_split}
use Rattle.std.specs.Str.Lines.{lines, lines_of_parts, strip_carriage_return}
use Rattle.std.proofs.lemmas.Bool.Decides.{nat_tests}
use Rattle.std.proofs.lemmas.List.Elements.{All-from_get_or}
use Rattle.std.proofs.lemmas.List.Splits.{slice_split_first, slice_split_none, length-slice_split}
use Rattle.std.proofs.lemmas.List.Sums.{prefix_len_passes}

abbrev is_newline : ℕ → Bool
is_newline octet = octet == 10

not_true : (b : Bool) → not b ≡ true → b ≡ false
not_true true e = sym e
not_true false e = refl

parts_after : (x : List ℕ) (parts : List (List ℕ)) → 0 < length parts
    → lines_of_parts (x ∷ parts) ≡ strip_carriage_return x ∷ lines_of_parts parts
parts_after x [] some = absurd (omega arith)
parts_after x (y ∷ more) some = refl

first_line : (text : List ℕ) → position_or_len is_newline text < length text
    → lines text ≡ strip_carriage_return (take (position_or_len is_newline text) text)
    ∷ lines (drop (position_or_len is_newline text + 1) text)
first_line text within =
    let i = position_or_len is_newline text in
    let rest = slice_split is_newline (drop (i + 1) text) in
    let some : 0 < length rest = omega (arith, length-slice_split is_newline (drop (i + 1) text)) in
    ap lines_of_parts (slice_split_first is_newline text 0 within)
    ∙ parts_after (take i text) rest some

-- the first line of a text that has an LF, which is at i
pub lines_first : (text : List ℕ) (i : ℕ) → i ≡ position_or_len is_newline text
    → i < length text
    → lines text ≡ strip_carriage_return (take i text) ∷ lines (drop (i + 1) text)
lines_first text i e within =
    subst (λ k. lines text ≡ strip_carriage_return (take k text) ∷ lines (drop (k + 1) text))
    (sym e) (first_line text (subst (λ k. k < length text) e within))

last_part : (text : List ℕ) → 0 < length text → lines_of_parts (text ∷ []) ≡ text ∷ []
last_part text some =
    let differs : (length text == 0) ≡ false = grind (arith, nat_tests) in
    ap (λ (b : Bool). cond b [] (text ∷ [])) differs

-- a text that has none is one line
pub lines_last : (text : List ℕ) → 0 < length text → length text ≡ position_or_len is_newline text
    → lines text ≡ text ∷ []
lines_last text some e =
    let none : All (λ octet. is_newline octet ≡ false) text =
    All-from_get_or (λ x. is_newline x ≡ false) text 0
    (λ k within. not_true (is_newline (get_or text k 0))
    (prefix_len_passes (λ x. not (is_newline x)) text k 0 (omega (arith, e)))) in
    ap lines_of_parts (slice_split_none is_newline text none) ∙ last_part text some
