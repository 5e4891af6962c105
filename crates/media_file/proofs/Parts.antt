-- What a source gave before a fault of a file's name and version.
use Rattle.std.proofs.Common.{◌≡◌, ℕ, List, [], ◌++◌, length, drop, Option, None, Some, Result}
use Rattle.std.proofs.Common.{Ok, Err, append-nil, sym, ap, ◌∙◌, take-append-drop}
use Rattle.std.specs.Prelude.{IfErr}
use Rattle.std.specs.Io.KnownBytes.{Consumes}
use Rattle.media_file.specs.declared.fault.FileFault.{FileFault}
use Rattle.media_file.specs.declared.front.Version.{Version}
use Rattle.media_file.specs.Fields.{GivesPart, field_at}
use Rattle.st_format.specs.Given.{Takes, with_rest}
use Rattle.st_format.specs.Reading.{◌>>=◌}
use Rattle.media_file.specs.Fronts.{kind_at, kind_of}
use Rattle.media_file.proofs.Found.{field_takes}
use Rattle.media_file.proofs.Parsing.{part_first}
use Rattle.media_file.proofs.Splits.{field_again}

-- eight octets weren't whole
pub kind_part_cut : (name : List ℕ) (old new : Option (List ℕ)) → GivesPart (field_at 8) old new
    → GivesPart (kind_at name) old new
unfolding kind_at
kind_part_cut name old new p =
    part_first (field_at 8) (λ x rest. with_rest (kind_of name x) rest) old new p

-- a field that was read was given
field_given : (n : ℕ) (old new : Option (List ℕ)) (octets : List ℕ)
    → Takes (field_at n) old new octets → Consumes old new octets
field_given n None new octets p = tt
field_given n (Some o) None octets p = absurd p
field_given n (Some o) (Some rest) octets p =
    let f = field_takes n o (octets, rest) p in
    sym (take-append-drop n o) ∙ ap (λ (t : List ℕ). t ++ drop n o) f.front
    ∙ ap (λ (t : List ℕ). octets ++ t) f.rest

-- they are no such name and version
none_of_kind : (name octets : List ℕ) (f : FileFault) → length octets ≡ 8
    → kind_of name octets ≡ Err f → kind_at name octets ≡ Err f
unfolding kind_at
none_of_kind name octets f eight e =
    ap (kind_at name) (sym (append-nil octets))
    ∙ ap (λ (r : Result (List ℕ × List ℕ) FileFault). r >>= λ x. with_rest (kind_of name x.0) x.1)
    (field_again 8 octets [] eight)
    ∙ ap (λ (r : Result Version FileFault). with_rest r []) e

pub kind_part : (name : List ℕ) (old new : Option (List ℕ)) (octets : List ℕ)
    (r : Result Version FileFault) → length octets ≡ 8 → Takes (field_at 8) old new octets
    → r ≡ kind_of name octets → IfErr r (λ _. GivesPart (kind_at name) old new)
kind_part name old new octets (Ok v) eight p e = tt
kind_part name old new octets (Err f) eight p e = record {
  part = octets;
  given = field_given 8 old new octets p;
  fault = f;
  none = none_of_kind name octets f eight (sym e);
}
