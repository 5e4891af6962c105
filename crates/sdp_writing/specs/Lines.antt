-- Texts of lines.
use Rattle.std.specs.Prelude.{ℕ, List, ◌++◌, codes, flat_map}

-- a line with its end, CR and LF (RFC 8866, 5)
abbrev pub ended : List ℕ → List ℕ
ended line = line ++ codes "\r\n"

-- the text of these lines
abbrev pub text_of : List (List ℕ) → List ℕ
text_of lines = flat_map ended lines
