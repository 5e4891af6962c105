-- Which octets begin a recording, by the first four.
use Rattle.std.proofs.Common.{◌≡◌, ℕ, ◌<◌, List, [], ◌∷◌, ◌++◌, Bool, false, length, refl}
use Rattle.std.proofs.Common.{ap, ◌∙◌, arith}
use Rattle.recording_reader.specs.Kinds.{is_magic, is_recording}

pub kind_of_four : (four behind : List ℕ) → length four ≡ 4
    → is_recording (four ++ behind) ≡ is_magic four
kind_of_four [] behind size = absurd (omega arith)
kind_of_four (a ∷ []) behind size = absurd (omega arith)
kind_of_four (a ∷ b ∷ []) behind size = absurd (omega arith)
kind_of_four (a ∷ b ∷ c ∷ []) behind size = absurd (omega arith)
kind_of_four (a ∷ b ∷ c ∷ d ∷ []) behind size = refl
kind_of_four (a ∷ b ∷ c ∷ d ∷ e ∷ more) behind size = absurd (omega arith)

-- fewer begin none
pub kind_of_few : (octets : List ℕ) → length octets < 4 → is_recording octets ≡ false
kind_of_few [] few = refl
kind_of_few (a ∷ []) few = refl
kind_of_few (a ∷ b ∷ []) few = refl
kind_of_few (a ∷ b ∷ c ∷ []) few = refl
kind_of_few (a ∷ b ∷ c ∷ d ∷ more) few = absurd (omega arith)

-- octets that begin with these four
pub kind_behind : (four part octets : List ℕ) (kind : Bool) → length four ≡ 4
    → is_magic four ≡ kind → octets ≡ four ++ part → is_recording octets ≡ kind
kind_behind four part octets kind size magic is =
    ap is_recording is ∙ kind_of_four four part size ∙ magic
