-- What a source gave before a fault, of which a reading makes no value.
use Rattle.std.proofs.Common.{◌≡◌, ℕ, ◌<◌, List, [], ◌++◌, length, Some, Result, Ok, Err}
use Rattle.std.proofs.Common.{append-nil, refl, sym, ap, ◌∙◌}
use Rattle.std.specs.Prelude.{IfErr}
use Rattle.media_file.specs.declared.fault.FileFault.{FileFault}
use Rattle.media_file.specs.declared.front.Version.{Version}
use Rattle.media_file.specs.Fields.{GivesPart, field_at}
use Rattle.st_format.specs.Given.{GavePart, GaveValue}
use Rattle.media_file.specs.Fronts.{kind_at, kind_of}
use Rattle.media_file.proofs.Parsing.{part_field}
use Rattle.media_file.proofs.Parts.{kind_part, kind_part_cut}

-- it is what a source gave that was to give no more
from_gives : {X : Type 0} (r : List ℕ → Result (X × List ℕ) FileFault) (a b part : List ℕ)
    → b ≡ a ++ part → GivesPart r (Some part) (Some []) → GavePart r a b
from_gives r a b part grown g = record {
  part = part;
  grown = grown;
  fault = g.fault;
  none = ap r (g.given ∙ append-nil g.part) ∙ g.none;
}

to_gives : {X : Type 0} (r : List ℕ → Result (X × List ℕ) FileFault) (a b : List ℕ)
    → (g : GavePart r a b) → GivesPart r (Some g.part) (Some [])
to_gives r a b g =
    record { part = g.part; given = sym (append-nil g.part); fault = g.fault; none = g.none }

-- and so it is whatever is behind it
pub behind_part : {X : Type 0} (r : List ℕ → Result (X × List ℕ) FileFault) (a b : List ℕ)
    → (g : GavePart r a b) → (behind : List ℕ) → GivesPart r (Some (g.part ++ behind)) (Some behind)
behind_part r a b g behind =
    record { part = g.part; given = refl; fault = g.fault; none = g.none }

-- fewer octets than so many
pub field_gave_part : (n : ℕ) (a b given : List ℕ) → length given < n → b ≡ a ++ given
    → GavePart (field_at n) a b
field_gave_part n a b given lt grown =
    from_gives (field_at n) a b given grown
    (part_field n (Some given) (Some []) given lt (sym (append-nil given)))

-- of name and version
pub kind_gave_cut : (name a b : List ℕ) → GavePart (field_at 8) a b → GavePart (kind_at name) a b
kind_gave_cut name a b g =
    from_gives (kind_at name) a b g.part g.grown
    (kind_part_cut name (Some g.part) (Some []) (to_gives (field_at 8) a b g))

pub kind_gave_part : (name a b octets : List ℕ) (r : Result Version FileFault)
    → length octets ≡ 8 → GaveValue (field_at 8) a b octets → r ≡ kind_of name octets
    → IfErr r (λ _. GavePart (kind_at name) a b)
kind_gave_part name a b octets (Ok v) size g exact = tt
kind_gave_part name a b octets (Err f) size g exact =
    from_gives (kind_at name) a b (g.part ++ [])
    (g.grown ∙ ap (λ (l : List ℕ). a ++ l) (sym (append-nil g.part)))
    (kind_part name (Some (g.part ++ [])) (Some []) octets (Err f) size (g.says []) exact)
