-- What was given of a reading that made no value.
use Rattle.std.proofs.Common.{ℕ, ◌<◌, Bool, cond, List, length, take, drop}
use Rattle.std.proofs.Common.{Option, Result, Ok, Err, ap}
use Rattle.std.specs.Io.KnownBytes.{Consumes}
use Rattle.std.proofs.lemmas.Bool.{lt-ltb}
use Rattle.media_file.specs.declared.fault.FileFault.{FileFault}
use Rattle.media_file.specs.declared.fault.FileFault.TheVariants.{Truncated}
use Rattle.media_file.specs.Fields.{field_at, GivesPart}
use Rattle.st_format.specs.Given.{field_by}
use Rattle.st_format.specs.Reading.{◌>>=◌}
use Rattle.st_format.proofs.Parsing.{then_reads}

abbrev Reading : Type 0 → Type 0
Reading X = List ℕ → Result (X × List ℕ) FileFault

abbrev cut : Result (List ℕ × List ℕ) FileFault
cut = Err Truncated

-- what was given of one that isn't whole
pub part_field : (n : ℕ) (old new : Option (List ℕ)) (given : List ℕ) → length given < n
    → Consumes old new given → GivesPart (field_at n) old new
unfolding field_by
part_field n old new given short p = record {
  part = given;
  given = p;
  fault = Truncated;
  none =
      ap (λ (b : Bool). cond b cut (Ok (take n given, drop n given)))
      (lt-ltb (length given) n short);
}

-- what was given of a first reading that made no value is nothing of which both make one
pub part_first : {A B : Type 0} (first : Reading A) (next : A → Reading B)
    (old new : Option (List ℕ)) → GivesPart first old new
    → GivesPart (then_reads first next) old new
part_first {A} {B} first next old new p = record {
  part = p.part;
  given = p.given;
  fault = p.fault;
  none = ap (λ (r : Result (A × List ℕ) FileFault). r >>= λ z. next z.0 z.1) p.none;
}
