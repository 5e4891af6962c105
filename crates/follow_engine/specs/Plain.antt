-- A stream that isn't followed anew (own).
use Rattle.std.specs.Prelude.{◌≡◌, ℕ, ⊤, Bool, false, List, [], ◌∷◌}
use Rattle.follow_engine.specs.Events.{Running, behind, is_anew}

-- at no datagram is it
abbrev pub NoneAnew : Bool → Running → List (List ℕ) → Type 0
NoneAnew eager r [] = ⊤
NoneAnew eager r (octets ∷ ds) =
    (is_anew r octets ≡ false) × NoneAnew eager (behind eager r octets) ds
