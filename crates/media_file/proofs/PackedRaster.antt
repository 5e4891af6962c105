-- All pgroups of a raster, read as they are.
use Rattle.std.proofs.Common.{◌≡◌, ℕ, ◌*◌, ◌/◌, List, Option, Result, Ok, refl, ap}
use Rattle.std.proofs.Common.{subst, arith}
use Rattle.st_format.specs.declared.format.Format.{Format}
use Rattle.st_format.specs.Fields.{fields_of}
use Rattle.st_format.specs.Pgroup.{bits_of}
use Rattle.st_format.specs.Position.{sample_count}
use Rattle.st_format.specs.Samples.{values_in}
use Rattle.pgroup_pack.specs.Packing.{Agree}
use Rattle.media_file.specs.declared.fault.FileFault.{FileFault}
use Rattle.media_file.specs.Fields.{Fails, field_at}
use Rattle.st_format.specs.Given.{Takes, with_rest}
use Rattle.media_file.specs.PictureFile.{raster_at, raster_octets}
use Rattle.media_file.proofs.Raster.{raster_bits}
use Rattle.st_format.proofs.Parsing.{fails_first, gives_pure, gives_then}
use Rattle.media_file.specs.Faults.{file_fault_origin}

abbrev values : ℕ → List ℕ → Result (List ℕ) FileFault
values n octets = Ok (values_in n octets)

same_size : (n k a : ℕ) → 8 * n ≡ a → a ≡ 8 * k → n ≡ k
same_size n k a p q = omega arith

-- a raster's octets, by its samples
size_is : (f : Format) (n : ℕ) → Agree f n (sample_count f) → n ≡ raster_octets (fields_of f)
size_is f n agree =
    same_size n (raster_octets (fields_of f)) (bits_of f.depth * sample_count f) agree
    (raster_bits f)

pub groups_give : (f : Format) (old new : Option (List ℕ)) (n : ℕ) (octets : List ℕ)
    → Agree f n (sample_count f) → Takes (field_at n) old new octets
    → Takes (raster_at (fields_of f)) old new (values_in (bits_of f.depth) octets)
unfolding raster_at
groups_give f old new n octets agree p =
    let b : ℕ = bits_of f.depth in
    let k : ℕ = raster_octets (fields_of f) in
    gives_then (field_at k) (λ x rest. with_rest (values b x) rest) old new new octets
    (values_in b octets)
    (subst (λ (m : ℕ). Takes (field_at m) old new octets) (size_is f n agree) p)
    (gives_pure (values b octets) new (values_in b octets) refl)

pub groups_fail : (f : Format) (old : Option (List ℕ)) (n : ℕ) (e : FileFault)
    → Agree f n (sample_count f) → Fails (field_at n) old e
    → Fails (raster_at (fields_of f)) old e
unfolding raster_at
groups_fail f old n e agree p =
    let b : ℕ = bits_of f.depth in
    let k : ℕ = raster_octets (fields_of f) in
    fails_first file_fault_origin (field_at k) (λ x rest. with_rest (values b x) rest) old e
    (subst (λ (m : ℕ). Fails (field_at m) old e) (size_is f n agree) p)

eighths : (a b k : ℕ) → a ≡ b → b ≡ 8 * k → 8 * (a / 8) ≡ b
eighths a b k p q = omega arith

-- an eighth of the bits
pub octets_agree : (f : Format) (n : ℕ) → n ≡ sample_count f
    → Agree f (bits_of f.depth * n / 8) (sample_count f)
octets_agree f n e =
    let whole : bits_of f.depth * sample_count f ≡ 8 * raster_octets (fields_of f) =
    raster_bits f in
    let same : bits_of f.depth * n ≡ bits_of f.depth * sample_count f =
    ap (λ (k : ℕ). bits_of f.depth * k) e in
    eighths (bits_of f.depth * n) (bits_of f.depth * sample_count f)
    (raster_octets (fields_of f)) same whole
