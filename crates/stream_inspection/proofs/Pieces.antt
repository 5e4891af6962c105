-- Texts that are put one behind the other.
use Rattle.std.proofs.Common.{◌≡◌, ℕ, List, ◌++◌}
use Rattle.text_line.proofs.Pieces.{piece_then}

-- six texts behind another
pub six : (t t1 t2 t3 t4 t5 t6 a b c d e f : List ℕ) → t1 ≡ t ++ a → t2 ≡ t1 ++ b → t3 ≡ t2 ++ c
    → t4 ≡ t3 ++ d → t5 ≡ t4 ++ e → t6 ≡ t5 ++ f
    → t6 ≡ t ++ (a ++ (b ++ (c ++ (d ++ (e ++ f)))))
six t t1 t2 t3 t4 t5 t6 a b c d e f p q r s u v =
    piece_then t t1 t6 a (b ++ (c ++ (d ++ (e ++ f)))) p
    (piece_then t1 t2 t6 b (c ++ (d ++ (e ++ f))) q
    (piece_then t2 t3 t6 c (d ++ (e ++ f)) r
    (piece_then t3 t4 t6 d (e ++ f) s (piece_then t4 t5 t6 e f u v))))
