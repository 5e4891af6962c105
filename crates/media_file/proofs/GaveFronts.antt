-- The front of a file and a format block, as a source gave them.
use Rattle.std.proofs.Common.{◌≡◌, ℕ, List, [], Result, Ok, Err, subst}
use Rattle.std.specs.Prelude.{IfOk, IfErr, take}
use Rattle.std.specs.Int.{w16, from_be_bytes}
use Rattle.st_format.specs.declared.format.Format.{Format}
use Rattle.st_format.specs.Fields.{fields_of, made_fields}
use Rattle.media_file.specs.declared.fault.FileFault.{FileFault}
use Rattle.media_file.specs.declared.front.Version.{Version}
use Rattle.media_file.specs.declared.front.Version.TheVariants.{One, Two}
use Rattle.media_file.specs.Blocks.{block_at, block_of}
use Rattle.media_file.specs.Fields.{GaveFault, field_at}
use Rattle.st_format.specs.Given.{GaveValue}
use Rattle.media_file.specs.Fronts.{capture_name, front_at, kind_at, kind_of, text_at}
use Rattle.media_file.proofs.Blocked.{block_fails, block_gives}
use Rattle.media_file.proofs.Fronted.{front_fails, front_gives, front_gives_one, kind_fails}
use Rattle.media_file.proofs.Fronted.{kind_gives, text_fails, text_gives}
use Rattle.st_format.proofs.Gave.{fault_of, fault_two, gave_one, gave_two}
use Rattle.media_file.specs.Faults.{file_fault_origin}

-- a name and a version
pub kind_gave : (name a b octets : List ℕ) (r : Result Version FileFault)
    → GaveValue (field_at 8) a b octets → r ≡ kind_of name octets
    → IfOk r (λ v. GaveValue (kind_at name) a b v)
kind_gave name a b octets (Ok v) p e =
    gave_one (field_at 8) (kind_at name) octets v a b
    (λ was left q. kind_gives name was left octets (Ok v) q e) p
kind_gave name a b octets (Err f) p e = tt

pub kind_gave_wrong : (name a b : List ℕ) (ended : Type 0) (octets : List ℕ)
    (r : Result Version FileFault) → GaveValue (field_at 8) a b octets
    → r ≡ kind_of name octets → IfErr r (λ f. GaveFault (kind_at name) a b ended f)
kind_gave_wrong name a b ended octets (Ok v) p e = tt
kind_gave_wrong name a b ended octets (Err f) p e =
    fault_of file_fault_origin (field_at 8) (kind_at name) octets a b ended f
    (λ was left q. kind_fails name was left octets (Err f) q e) p

-- a text behind its length
pub text_gave : (a b c octets text : List ℕ) (n : ℕ) → n ≡ from_be_bytes w16 octets
    → GaveValue (field_at 2) a b octets → GaveValue (field_at n) b c text
    → GaveValue text_at a c text
text_gave a b c octets text n is p q =
    gave_two (field_at 2) (field_at n) text_at octets text text a b c
    (λ was mid left. text_gives was mid left octets text n is) p q

pub text_gave_wrong : (a b c : List ℕ) (ended : Type 0) (octets : List ℕ) (n : ℕ) (f : FileFault)
    → n ≡ from_be_bytes w16 octets → GaveValue (field_at 2) a b octets
    → GaveFault (field_at n) b c ended f → GaveFault text_at a c ended f
text_gave_wrong a b c ended octets n f is p q =
    fault_two file_fault_origin (field_at 2) (field_at n) text_at octets a b c ended f
    (λ was mid. text_fails was mid octets n f is) p q

-- the front of a capture
pub front_gave_one : (a b : List ℕ) (v : Version) → v ≡ One
    → GaveValue (kind_at capture_name) a b v → GaveValue front_at a b []
front_gave_one a b v e p =
    gave_one (kind_at capture_name) front_at v [] a b
    (λ was left. front_gives_one was left v e) p

pub front_gave_two : (a b c : List ℕ) (v : Version) (buf : List ℕ) (r : Result ℕ FileFault)
    → v ≡ Two → GaveValue (kind_at capture_name) a b v
    → IfOk r (λ n. GaveValue text_at b c (take n buf))
    → IfOk r (λ n. GaveValue front_at a c (take n buf))
front_gave_two a b c v buf (Ok n) e p q =
    gave_two (kind_at capture_name) text_at front_at Two (take n buf) (take n buf) a b c
    (λ was mid left. front_gives was mid left Two (take n buf))
    (subst (GaveValue (kind_at capture_name) a b) e p) q
front_gave_two a b c v buf (Err f) e p q = tt

pub front_gave_wrong : (a b c : List ℕ) (ended : Type 0) (v : Version) (r : Result ℕ FileFault)
    → v ≡ Two → GaveValue (kind_at capture_name) a b v
    → IfErr r (λ f. GaveFault text_at b c ended f) → IfErr r (λ f. GaveFault front_at a c ended f)
front_gave_wrong a b c ended v (Ok n) e p q = tt
front_gave_wrong a b c ended v (Err f) e p q =
    fault_two file_fault_origin (kind_at capture_name) text_at front_at Two a b c ended f
    (λ was mid. front_fails was mid Two f) (subst (GaveValue (kind_at capture_name) a b) e p) q

-- a format block
pub block_gave : (a b octets : List ℕ) (r : Result Format FileFault)
    → GaveValue (field_at 14) a b octets → made_fields r ≡ block_of octets
    → IfOk r (λ f. GaveValue block_at a b (fields_of f))
block_gave a b octets (Ok f) p e =
    gave_one (field_at 14) block_at octets (fields_of f) a b
    (λ was left q. block_gives was left octets (Ok f) q e) p
block_gave a b octets (Err e') p e = tt

pub block_gave_wrong : (a b : List ℕ) (ended : Type 0) (octets : List ℕ)
    (r : Result Format FileFault) → GaveValue (field_at 14) a b octets
    → made_fields r ≡ block_of octets → IfErr r (λ f. GaveFault block_at a b ended f)
block_gave_wrong a b ended octets (Ok f) p e = tt
block_gave_wrong a b ended octets (Err f) p e =
    fault_of file_fault_origin (field_at 14) block_at octets a b ended f
    (λ was left q. block_fails was left octets (Err f) q e) p
