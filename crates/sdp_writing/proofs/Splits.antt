-- A text of lines with their ends has these lines, and an empty one behind them.
use Rattle.std.proofs.Common.{◌≡◌, ℕ, ◌-◌, Bool, true, not, List, [], ◌∷◌}
use Rattle.std.proofs.Common.{◌++◌, length, get_or, refl, ap, ◌∙◌, arith, append_assoc}
use Rattle.std.specs.Prelude.{map, ◌==◌}
use Rattle.std.specs.List.{list_all}
use Rattle.std.specs.Str.Lines.{strip_carriage_return}
use Rattle.std.proofs.Math.Seq.{take-append_seam}
use Rattle.std.proofs.lemmas.List.{length-append}
use Rattle.st_format.proofs.Decimals.{and_parts}
use Rattle.sdp_format.specs.Bytes.{split, lines}
use Rattle.sdp_format.proofs.Again.{not_true}
use Rattle.sdp_writing.specs.Lines.{text_of}

-- an octet that is no LF; a line without one; such lines
abbrev pub is_within_line : ℕ → Bool
is_within_line b = not (b == 10)

abbrev pub IsOneLine : List ℕ → Type 0
IsOneLine line = list_all is_within_line line ≡ true

abbrev pub AreOneLine : List (List ℕ) → Type 0
AreOneLine [] = Unit {0}
AreOneLine (l ∷ ls) = IsOneLine l × AreOneLine ls

split_line : (xs ys : List ℕ) → IsOneLine xs
    → split 10 (xs ++ 13 ∷ 10 ∷ ys) ≡ (xs ++ 13 ∷ []) ∷ split 10 ys
split_line [] ys e = refl
split_line (x ∷ xs) ys e =
    let h : (is_within_line x ≡ true) × IsOneLine xs =
    and_parts (is_within_line x) (list_all is_within_line xs) e in
    rw (not_true (x == 10) h.0, split_line xs ys h.1) refl

last_of : (xs : List ℕ) (x : ℕ) → get_or (xs ++ x ∷ []) (length xs) 0 ≡ x
last_of [] x = refl
last_of (y ∷ ys) x = last_of ys x

strip_end : (xs : List ℕ) → strip_carriage_return (xs ++ 13 ∷ []) ≡ xs
strip_end xs =
    let last : length (xs ++ 13 ∷ []) - 1 ≡ length xs =
    omega (arith, length-append xs (13 ∷ [])) in
    rw (last, last_of xs 13) (take-append_seam xs (13 ∷ []))

pub lines_of_text : (ls : List (List ℕ)) → AreOneLine ls → lines (text_of ls) ≡ ls ++ [] ∷ []
lines_of_text [] h = refl
lines_of_text (l ∷ ls) h =
    let text : text_of (l ∷ ls) ≡ l ++ 13 ∷ 10 ∷ text_of ls =
    append_assoc l (13 ∷ 10 ∷ []) (text_of ls) in
    ap lines text
    ∙ ap (map strip_carriage_return) (split_line l (text_of ls) h.0)
    ∙ ap (λ z. z ∷ lines (text_of ls)) (strip_end l)
    ∙ ap (λ z. l ∷ z) (lines_of_text ls h.1)

pub one_line-append : (xs ys : List (List ℕ)) → AreOneLine xs → AreOneLine ys
    → AreOneLine (xs ++ ys)
one_line-append [] ys h k = k
one_line-append (x ∷ xs) ys h k = (h.0, one_line-append xs ys h.1 k)
