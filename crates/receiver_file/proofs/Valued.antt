-- A value that is made of what was read.
use Rattle.std.proofs.Common.{◌≡◌, ℕ, List, Option, None, Some, Result, Ok, Err, ap, get_or, sym}
use Rattle.std.specs.Prelude.{IfErr, IfOk}
use Rattle.media_file.specs.declared.fault.FileFault.{FileFault}
use Rattle.media_file.specs.declared.fault.FileFault.TheVariants.{NoMemory}
use Rattle.std.specs.Int.{w32, from_be_bytes}
use Rattle.media_file.specs.Fields.{Fails, field_at}
use Rattle.st_format.specs.Given.{Takes, with_rest}
use Rattle.receiver_file.specs.Numbers.{number_at, octet_at}
use Rattle.st_format.proofs.Parsing.{fails_first, fails_pure, fails_then, gives_pure, gives_then}
use Rattle.st_format.proofs.Parsing.{then_reads}
use Rattle.media_file.specs.Faults.{file_fault_origin}

abbrev Reading : Type 0 → Type 0
Reading X = List ℕ → Result (X × List ℕ) FileFault

-- a reading whose value is tested or turned into another
abbrev pub valued : {A X : Type 0} → Reading A → (A → Result X FileFault) → Reading X
valued first make = then_reads first (λ a rest. with_rest (make a) rest)

pub value_gives : {A X : Type 0} (first : Reading A) (make : A → Result X FileFault)
    (old mid : Option (List ℕ)) (a : A) (x : X) → Takes first old mid a → make a ≡ Ok x
    → Takes (valued first make) old mid x
value_gives first make old mid a x p e =
    gives_then first (λ b rest. with_rest (make b) rest) old mid mid a x p
    (gives_pure (make a) mid x e)

pub value_fails : {A X : Type 0} (first : Reading A) (make : A → Result X FileFault)
    (old mid : Option (List ℕ)) (a : A) (f : FileFault) → Takes first old mid a → make a ≡ Err f
    → Fails (valued first make) old f
value_fails first make old mid a f p e =
    fails_then file_fault_origin first (λ b rest. with_rest (make b) rest) old mid a f p
    (fails_pure file_fault_origin (make a) mid f e)

-- where a call made it
pub call_gives : {A X : Type 0} (first : Reading A) (make : A → Result X FileFault)
    (old mid : Option (List ℕ)) (a : A) (r : Result X FileFault) → Takes first old mid a
    → r ≡ make a → IfOk r (λ x. Takes (valued first make) old mid x)
call_gives first make old mid a (Ok x) p e = value_gives first make old mid a x p (sym e)
call_gives first make old mid a (Err f) p e = tt

pub call_fails : {A X : Type 0} (first : Reading A) (make : A → Result X FileFault)
    (old mid : Option (List ℕ)) (a : A) (r : Result X FileFault) → Takes first old mid a
    → r ≡ make a → IfErr r (λ f. Fails (valued first make) old f)
call_fails first make old mid a (Ok x) p e = tt
call_fails first make old mid a (Err f) p e = value_fails first make old mid a f p (sym e)

-- a reading whose first part fails
pub value_cut : {A X : Type 0} (first : Reading A) (make : A → Result X FileFault)
    (old : Option (List ℕ)) (f : FileFault) → Fails first old f → Fails (valued first make) old f
value_cut first make old f p =
    fails_first file_fault_origin first (λ b rest. with_rest (make b) rest) old f p

-- the memory's fault says nothing of the content
pub memory_fails : {A : Type 0} (reading : Reading A) (old : Option (List ℕ))
    → Fails reading old NoMemory
memory_fails reading None = tt
memory_fails reading (Some o) = tt

-- ---- numbers

abbrev ok_number : ℕ → Result ℕ FileFault
ok_number n = Ok n

pub octet_gives : (old mid : Option (List ℕ)) (octets : List ℕ) (n : ℕ) → n ≡ get_or octets 0 0
    → Takes (field_at 1) old mid octets → Takes octet_at old mid n
unfolding octet_at
octet_gives old mid octets n e p =
    value_gives (field_at 1) (λ os. ok_number (get_or os 0 0)) old mid octets n p
    (ap ok_number (sym e))

pub octet_cut : (old : Option (List ℕ)) (f : FileFault) → Fails (field_at 1) old f
    → Fails octet_at old f
unfolding octet_at
octet_cut old f p = value_cut (field_at 1) (λ os. ok_number (get_or os 0 0)) old f p

pub number_gives : (old mid : Option (List ℕ)) (octets : List ℕ) (n : ℕ)
    → n ≡ from_be_bytes w32 octets → Takes (field_at 4) old mid octets → Takes number_at old mid n
unfolding number_at
number_gives old mid octets n e p =
    value_gives (field_at 4) (λ os. ok_number (from_be_bytes w32 os)) old mid octets n p
    (ap ok_number (sym e))

pub number_cut : (old : Option (List ℕ)) (f : FileFault) → Fails (field_at 4) old f
    → Fails number_at old f
unfolding number_at
number_cut old f p = value_cut (field_at 4) (λ os. ok_number (from_be_bytes w32 os)) old f p
