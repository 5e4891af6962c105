-- Texts that say octets.
use Rattle.std.proofs.Common.{◌≡◌, ℕ, ◌*◌, ◌<◌, List, [], ◌∷◌, codes, length, Ok, arith}
use Rattle.hex.specs.Hex.{decode_of}
use Rattle.hex.proofs.HexLemmas.{decode_of-ok}
use Rattle.script_engines.specs.Forms.{IsOctetsText}

-- a text of octets that isn't `-` has two digits for each, and at least one
pub said_long : (text said : List ℕ) → (text ≡ codes "-" → ⊥) → IsOctetsText text said
    → (length text ≡ 2 * length said) × (0 < length said)
said_long text [] other is = absurd (other is)
said_long text (b ∷ said) other is = ((decode_of-ok text (b ∷ said) is).2, omega arith)

pub said_decoded : (text said : List ℕ) → (text ≡ codes "-" → ⊥) → IsOctetsText text said
    → decode_of text ≡ Ok said
said_decoded text [] other is = absurd (other is)
said_decoded text (b ∷ said) other is = is
