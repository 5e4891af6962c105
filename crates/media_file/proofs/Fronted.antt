-- The front of a file, read from a source.
use Rattle.std.proofs.Common.{◌≡◌, ℕ, List, [], Option, None, Some, Result, Ok, Err, refl, sym}
use Rattle.std.proofs.Common.{subst}
use Rattle.std.specs.Prelude.{IfOk, IfErr, take}
use Rattle.std.specs.Int.{w16, from_be_bytes}
use Rattle.media_file.specs.declared.fault.FileFault.{FileFault}
use Rattle.media_file.specs.declared.front.Version.{Version}
use Rattle.media_file.specs.declared.front.Version.TheVariants.{One, Two}
use Rattle.media_file.specs.Fields.{field_at, Fails}
use Rattle.st_format.specs.Given.{Takes, with_rest}
use Rattle.media_file.specs.Fronts.{capture_name, front_at, kind_at, kind_of, text_at, text_by}
use Rattle.st_format.proofs.Parsing.{gives_then, fails_first, fails_then, gives_pure, fails_pure}
use Rattle.media_file.specs.Faults.{file_fault_origin}

-- a name and a version
pub kind_gives : (name : List ℕ) (old mid : Option (List ℕ)) (octets : List ℕ)
    (r : Result Version FileFault) → Takes (field_at 8) old mid octets → r ≡ kind_of name octets
    → IfOk r (λ v. Takes (kind_at name) old mid v)
unfolding kind_at
kind_gives name old mid octets (Ok v) p e =
    gives_then (field_at 8) (λ x rest. with_rest (kind_of name x) rest) old mid mid octets v p
    (gives_pure (kind_of name octets) mid v (sym e))
kind_gives name old mid octets (Err f) p e = tt

pub kind_fails : (name : List ℕ) (old mid : Option (List ℕ)) (octets : List ℕ)
    (r : Result Version FileFault) → Takes (field_at 8) old mid octets → r ≡ kind_of name octets
    → IfErr r (λ f. Fails (kind_at name) old f)
unfolding kind_at
kind_fails name old mid octets (Ok v) p e = tt
kind_fails name old mid octets (Err f) p e =
    fails_then file_fault_origin (field_at 8) (λ x rest. with_rest (kind_of name x) rest) old mid
    octets f p
    (fails_pure file_fault_origin (kind_of name octets) mid f (sym e))

pub kind_cut : (name : List ℕ) (old : Option (List ℕ)) (f : FileFault) → Fails (field_at 8) old f
    → Fails (kind_at name) old f
unfolding kind_at
kind_cut name old f p =
    fails_first file_fault_origin (field_at 8) (λ x rest. with_rest (kind_of name x) rest) old f p

-- a text behind its length
pub text_gives : (old mid new : Option (List ℕ)) (octets text : List ℕ) (n : ℕ)
    → n ≡ from_be_bytes w16 octets → Takes (field_at 2) old mid octets
    → Takes (field_at n) mid new text → Takes text_at old new text
unfolding text_at
text_gives old mid new octets text n is p q =
    gives_then (field_at 2)
    (λ x rest. field_at (from_be_bytes w16 x) rest) old mid new octets text p
    (subst (λ (k : ℕ). Takes (field_at k) mid new text) is q)

pub text_fails : (old mid : Option (List ℕ)) (octets : List ℕ) (n : ℕ) (f : FileFault)
    → n ≡ from_be_bytes w16 octets → Takes (field_at 2) old mid octets → Fails (field_at n) mid f
    → Fails text_at old f
unfolding text_at
text_fails old mid octets n f is p q =
    fails_then file_fault_origin (field_at 2) (λ x rest. field_at (from_be_bytes w16 x) rest) old
    mid octets f p
    (subst (λ (k : ℕ). Fails (field_at k) mid f) is q)

pub text_cut : (old : Option (List ℕ)) (f : FileFault) → Fails (field_at 2) old f
    → Fails text_at old f
unfolding text_at
text_cut old f p =
    fails_first file_fault_origin (field_at 2) (λ x rest. field_at (from_be_bytes w16 x) rest) old f
    p

-- the front of a capture
pub front_gives : (old mid new : Option (List ℕ)) (v : Version) (text : List ℕ)
    → Takes (kind_at capture_name) old mid v → Takes (text_by v) mid new text
    → Takes front_at old new text
unfolding front_at
front_gives old mid new v text p q =
    gives_then (kind_at capture_name) text_by old mid new v text p q

pub front_fails : (old mid : Option (List ℕ)) (v : Version) (f : FileFault)
    → Takes (kind_at capture_name) old mid v → Fails (text_by v) mid f → Fails front_at old f
unfolding front_at
front_fails old mid v f p q =
    fails_then file_fault_origin (kind_at capture_name) text_by old mid v f p q

pub front_cut : (old : Option (List ℕ)) (f : FileFault) → Fails (kind_at capture_name) old f
    → Fails front_at old f
unfolding front_at
front_cut old f p = fails_first file_fault_origin (kind_at capture_name) text_by old f p

pub front_gives_two : (old mid new : Option (List ℕ)) (v : Version) (buf : List ℕ)
    (r : Result ℕ FileFault) → v ≡ Two → Takes (kind_at capture_name) old mid v
    → IfOk r (λ n. Takes text_at mid new (take n buf))
    → IfOk r (λ n. Takes front_at old new (take n buf))
front_gives_two old mid new v buf (Ok n) e p q =
    front_gives old mid new Two (take n buf) (subst (Takes (kind_at capture_name) old mid) e p) q
front_gives_two old mid new v buf (Err f) e p q = tt

pub front_fails_two : (old mid : Option (List ℕ)) (v : Version) (r : Result ℕ FileFault) → v ≡ Two
    → Takes (kind_at capture_name) old mid v → IfErr r (λ f. Fails text_at mid f)
    → IfErr r (λ f. Fails front_at old f)
front_fails_two old mid v (Ok n) e p q = tt
front_fails_two old mid v (Err f) e p q =
    front_fails old mid Two f (subst (Takes (kind_at capture_name) old mid) e p) q

nothing : (known : Option (List ℕ)) → Takes (text_by One) known known []
nothing None = tt
nothing (Some o) = refl

pub front_gives_one : (old new : Option (List ℕ)) (v : Version) → v ≡ One
    → Takes (kind_at capture_name) old new v → Takes front_at old new []
front_gives_one old new v e p =
    front_gives old new new One [] (subst (Takes (kind_at capture_name) old new) e p) (nothing new)
