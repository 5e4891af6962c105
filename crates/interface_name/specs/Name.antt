-- Names of interfaces: 1 to 64 characters of ASCII that print, besides space, > and @ (own; RFC
-- 20).
use Rattle.std.specs.Prelude.{◌≡◌, ◌≤◌, ℕ, ◌-◌, Bool, ◌&&◌, not, nat_le, true, ◌==◌, if◌then◌else◌}
use Rattle.std.specs.Prelude.{List, [], ◌∷◌, ◌++◌, length, replicate, Option, Some, None}
use Rattle.std.specs.List.{flat_map, list_all}
use Rattle.interface_name.specs.declared.name.InterfaceName.{InterfaceName}

-- an octet that can stand in a name
abbrev pub is_name_octet : ℕ → Bool
is_name_octet c = nat_le 33 c && nat_le c 126 && not (c == 62) && not (c == 64)

-- a text that is a name
abbrev pub is_name : List ℕ → Bool
is_name text = nat_le 1 (length text) && nat_le (length text) 64 && list_all is_name_octet text

-- octets, and zeros behind them
abbrev pub filled : List ℕ → List ℕ
filled text = text ++ replicate (64 - length text) 0

-- A text spells a name: it has 1 to 64 octets, each can stand in a name, and the name keeps them.
pub record IsName (text : List ℕ) (name : InterfaceName) : Type 0 where
  pub some : 1 ≤ length text
  pub few : length text ≤ 64
  pub printed : list_all is_name_octet text ≡ true
  pub kept : name.octets ≡ filled text

-- what the type keeps: each name has a text
abbrev pub IsInterfaceName : InterfaceName → Type 0
IsInterfaceName name = (text : List ℕ) × IsName text name

-- the name that a text is, by the test
abbrev pub name_of : List ℕ → Option InterfaceName
name_of text = if is_name text then Some (record { octets = filled text }) else None

-- the text of an octet of a name; of a zero behind it there is none
abbrev pub shown : ℕ → List ℕ
shown c = if is_name_octet c then c ∷ [] else []

-- the text that is written of a name: its octets, without the zeros behind them
abbrev pub name_text : InterfaceName → List ℕ
name_text name = flat_map shown name.octets
