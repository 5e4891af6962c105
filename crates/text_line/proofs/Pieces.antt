-- Pieces of a text, one added behind the other.
use Rattle.std.proofs.Common.{◌≡◌, ◌∙◌, ℕ, List, ◌++◌, ap, append_assoc}

-- a piece was added, and then the rest
pub piece_then : (s t u piece rest : List ℕ) → t ≡ s ++ piece → u ≡ t ++ rest
    → u ≡ s ++ (piece ++ rest)
piece_then s t u piece rest one more =
    more ∙ ap (λ (l : List ℕ). l ++ rest) one ∙ append_assoc s piece rest

-- a word and a number were added, and then the rest
pub number_then : (s t u word number rest : List ℕ) → t ≡ s ++ (word ++ number) → u ≡ t ++ rest
    → u ≡ s ++ (word ++ (number ++ rest))
number_then s t u word number rest one more =
    piece_then s t u (word ++ number) rest one more
    ∙ ap (λ (l : List ℕ). s ++ l) (append_assoc word number rest)
