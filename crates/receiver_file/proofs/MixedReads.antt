-- A group some of whose samples are contested, read from a source.
use Rattle.std.proofs.Common.{◌≡◌, ℕ, ◌^◌, Bool, true, false, cond, not, ◌||◌, eqb, ltb, List}
use Rattle.std.proofs.Common.{Option, None, Some, Result, Ok, Err, refl, sym, ap, ◌∙◌}
use Rattle.std.specs.Int.{w16, from_be_bytes}
use Rattle.st_format.specs.declared.cell.Cell.{Cell}
use Rattle.st_format.specs.Samples.{values_in}
use Rattle.media_file.specs.declared.fault.FileFault.{FileFault}
use Rattle.media_file.specs.declared.fault.FileFault.TheVariants.{MixedGroup}
use Rattle.media_file.specs.Fields.{Fails, field_at}
use Rattle.st_format.specs.Given.{Takes}
use Rattle.media_file.specs.Groups.{Shape, are_zeroed, cells_by, mixed_by}
use Rattle.receiver_file.specs.Known.{mixed_at}
use Rattle.st_format.proofs.Parsing.{fails_first, fails_then, gives_then, then_reads}
use Rattle.media_file.specs.Faults.{file_fault_origin}

abbrev Cells : Type 0
Cells = Result (List Cell × List ℕ) FileFault

-- what is read behind a mask
abbrev behind : Shape → List ℕ → List ℕ → Cells
behind s m octets =
    then_reads (field_at s.octets)
    (λ x rest. mixed_by s (from_be_bytes w16 m) (values_in s.bits x) rest) octets

-- whether a mask and values aren't those of such a group
abbrev pub is_other : Shape → ℕ → List ℕ → Bool
is_other s mask values =
    eqb mask 0 || not (ltb mask (2 ^ s.samples)) || not (are_zeroed mask values)

pub mixed_cut : (s : Shape) (old : Option (List ℕ)) (f : FileFault) → Fails (field_at 2) old f
    → Fails (mixed_at s) old f
unfolding mixed_at
mixed_cut s old f p = fails_first file_fault_origin (field_at 2) (behind s) old f p

pub mixed_short : (s : Shape) (old mid : Option (List ℕ)) (m : List ℕ) (f : FileFault)
    → Takes (field_at 2) old mid m → Fails (field_at s.octets) mid f → Fails (mixed_at s) old f
unfolding mixed_at
mixed_short s old mid m f p q =
    fails_then file_fault_origin (field_at 2) (behind s) old mid m f p
    (fails_first file_fault_origin (field_at s.octets)
    (λ x rest. mixed_by s (from_be_bytes w16 m) (values_in s.bits x) rest) mid f q)

other_fails : (s : Shape) (mask : ℕ) (values : List ℕ) (known : Option (List ℕ))
    → is_other s mask values ≡ true → Fails (mixed_by s mask values) known MixedGroup
other_fails s mask values None e = tt
other_fails s mask values (Some o) e =
    ap (λ (b : Bool). let r : Cells = cond b (Err MixedGroup) (Ok (cells_by mask values, o)) in r) e

one_gives : (s : Shape) (mask : ℕ) (values : List ℕ) (known : Option (List ℕ))
    → is_other s mask values ≡ false
    → Takes (mixed_by s mask values) known known (cells_by mask values)
one_gives s mask values None e = tt
one_gives s mask values (Some o) e =
    ap (λ (b : Bool). let r : Cells = cond b (Err MixedGroup) (Ok (cells_by mask values, o)) in r) e

pub mixed_other : (s : Shape) (old mid new : Option (List ℕ)) (m octets : List ℕ)
    → Takes (field_at 2) old mid m → Takes (field_at s.octets) mid new octets
    → is_other s (from_be_bytes w16 m) (values_in s.bits octets) ≡ true
    → Fails (mixed_at s) old MixedGroup
unfolding mixed_at
mixed_other s old mid new m octets p q e =
    fails_then file_fault_origin (field_at 2) (behind s) old mid m MixedGroup p
    (fails_then file_fault_origin (field_at s.octets)
    (λ x rest. mixed_by s (from_be_bytes w16 m)
    (values_in s.bits x) rest) mid new octets MixedGroup q
    (other_fails s (from_be_bytes w16 m) (values_in s.bits octets) new e))

pub mixed_gives : (s : Shape) (old mid new : Option (List ℕ)) (m octets : List ℕ)
    → Takes (field_at 2) old mid m → Takes (field_at s.octets) mid new octets
    → is_other s (from_be_bytes w16 m) (values_in s.bits octets) ≡ false
    → Takes (mixed_at s) old new (cells_by (from_be_bytes w16 m) (values_in s.bits octets))
unfolding mixed_at
mixed_gives s old mid new m octets p q e =
    gives_then (field_at 2) (behind s) old mid new m
    (cells_by (from_be_bytes w16 m) (values_in s.bits octets)) p
    (gives_then (field_at s.octets)
    (λ x rest. mixed_by s (from_be_bytes w16 m) (values_in s.bits x) rest) mid new new octets
    (cells_by (from_be_bytes w16 m) (values_in s.bits octets)) q
    (one_gives s (from_be_bytes w16 m) (values_in s.bits octets) new e))

-- a test whose negation was made
pub not_flipped : (b v r : Bool) → r ≡ not b → r ≡ not v → b ≡ v
not_flipped true true r p q = refl
not_flipped true false r p q = let bad : false ≡ true = sym p ∙ q in absurd cc
not_flipped false true r p q = let bad : true ≡ false = sym p ∙ q in absurd cc
not_flipped false false r p q = refl
