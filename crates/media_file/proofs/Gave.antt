-- What a reading makes of the octets that a source gave: what it makes of those that a source was
-- to give, whatever is behind them. So each step from a reading to the next is one of both.
use Rattle.std.proofs.Common.{◌≡◌, ℕ, zero, suc, ◌<◌, List, [], ◌∷◌, ◌++◌, length, Option, Some}
use Rattle.std.proofs.Common.{Result, Ok, Err}
use Rattle.std.proofs.Common.{append-nil, refl, sym, ap, subst, ◌∙◌}
use Rattle.media_file.specs.declared.fault.FileFault.{FileFault}
use Rattle.media_file.specs.declared.fault.FileFault.TheVariants.{NoMemory, Truncated}
use Rattle.media_file.specs.declared.fault.FileFault.TheVariants.{TrailingBytes}
use Rattle.media_file.specs.Faults.{IsDevice, file_fault_origin}
use Rattle.media_file.specs.Fields.{Fails, GaveFault}
use Rattle.st_format.specs.Given.{GaveOctets, GaveValue, GaveWhole, Takes}
use Rattle.media_file.specs.Fields.{field_at, nothing_at}
use Rattle.std.specs.Prelude.{OnOk, slice_index}
use Rattle.st_format.specs.Device.{AreOctets}
use Rattle.st_format.specs.History.{GrewFrom, IsRead, since}
use Rattle.st_format.proofs.Histories.{since_is}
use Rattle.media_file.proofs.Content.{of_device}
use Rattle.media_file.proofs.Raster.{not_end}
use Rattle.st_format.proofs.Gave.{grew_twice}
use Rattle.st_format.proofs.Parsing.{fails_field, gives_field}

abbrev Reading : Type 0 → Type 0
Reading X = List ℕ → Result (X × List ℕ) FileFault

-- ---- fields

-- so many octets were given
pub gave_field : (n : ℕ) (a b octets : List ℕ) → length octets ≡ n → b ≡ a ++ octets
    → GaveValue (field_at n) a b octets
gave_field n a b octets size grown = record {
  part = octets;
  grown = grown;
  says = λ behind. gives_field Truncated n (Some (octets ++ behind)) (Some behind) octets size refl;
}

-- fewer were, and then the end
pub cut_field : (n : ℕ) (a b part : List ℕ) (ended : Type 0) → length part < n → b ≡ a ++ part
    → ended → GaveFault (field_at n) a b ended Truncated
cut_field n a b part ended lt grown over = record {
  part = part;
  grown = grown;
  says = λ behind all.
      fails_field file_fault_origin Truncated n (Some (part ++ behind)) (Some behind) part lt refl
      (all over);
}

-- the device failed: nothing is said of the content
pub fault_device : {X : Type 0} (r : Reading X) (a b part : List ℕ) (ended : Type 0)
    (f : FileFault) → IsDevice f → b ≡ a ++ part → GaveFault r a b ended f
fault_device r a b part ended f device grown = record {
  part = part;
  grown = grown;
  says = λ behind all. of_device f (r (part ++ behind) ≡ Err f) device;
}

-- ---- the end

-- an octet was given behind what was read
pub gave_more : (a b xs : List ℕ) (ended : Type 0) → 0 < length xs → b ≡ a ++ xs
    → GaveFault nothing_at a b ended TrailingBytes
gave_more a b xs ended some grown = record {
  part = xs;
  grown = grown;
  says = λ behind all. not_end (Some (xs ++ behind)) (Some behind) xs some refl;
}

-- a value, and nothing behind it
pub gave_whole : {X Z : Type 0} (p : Reading X) (r : Reading Z) (x : X) (z : Z) (a b c : List ℕ)
    (ended : Type 0)
    → ((was mid left : Option (List ℕ)) → Takes p was mid x → Takes nothing_at mid left tt
    → Takes r was left z) → GaveValue p a b x → c ≡ b → ended → GaveWhole r a c ended z
gave_whole p r x z a b c ended step g same over = record {
  part = g.part;
  grown = same ∙ g.grown;
  over = over;
  says =
      subst (λ (o : List ℕ). Takes r (Some o) (Some []) z) (append-nil g.part)
      (step (Some (g.part ++ [])) (Some []) (Some []) (g.says []) refl);
}

-- ---- what was read

pub whole_grew : {X : Type 0} (r : Reading X) (x : X) (a b : List ℕ) (ended : Type 0)
    → GaveWhole r a b ended x → GrewFrom a b
whole_grew r x a b ended g =
    g.grown ∙ ap (λ (l : List ℕ). a ++ l) (sym (since_is a b g.part g.grown))

pub fault_grew : {X : Type 0} (r : Reading X) (a b : List ℕ) (ended : Type 0) (f : FileFault)
    → GaveFault r a b ended f → GrewFrom a b
fault_grew r a b ended f g =
    g.grown ∙ ap (λ (l : List ℕ). a ++ l) (sym (since_is a b g.part g.grown))

pub whole_read : {X : Type 0} (r : Reading X) (x : X) (a b : List ℕ) (ended : Type 0)
    (octets : List ℕ) → GaveWhole r a b ended x → IsRead a b ended octets
    → Takes r (Some octets) (Some []) x
whole_read r x a b ended octets g q =
    subst (λ (o : List ℕ). Takes r (Some o) (Some []) x)
    (sym
    (q.parts ∙ ap (λ (l : List ℕ). since a b ++ l) (q.all g.over) ∙ append-nil (since a b)
    ∙ since_is a b g.part g.grown)) g.says

pub fault_read : {X : Type 0} (r : Reading X) (a b : List ℕ) (ended : Type 0) (f : FileFault)
    (octets : List ℕ) → GaveFault r a b ended f → IsRead a b ended octets
    → Fails r (Some octets) f
fault_read r a b ended f octets g q =
    subst (λ (o : List ℕ). Fails r (Some o) f)
    (sym (q.parts ∙ ap (λ (l : List ℕ). l ++ q.behind) (since_is a b g.part g.grown)))
    (g.says q.behind q.all)

-- ---- octets

octet_at : (xs ys : List ℕ) → AreOctets xs → AreOctets ys → (i : ℕ)
    → slice_index (xs ++ ys) i < 256
octet_at [] ys p q i = q i
octet_at (x ∷ xs) ys p q zero = p 0
octet_at (x ∷ xs) ys p q (suc i) = octet_at xs ys (λ j. p (suc j)) q i

pub octets_append : (xs ys : List ℕ) → AreOctets xs → AreOctets ys → AreOctets (xs ++ ys)
octets_append xs ys p q = λ i. octet_at xs ys p q i

-- one part behind another
pub octets_both : (a b c : List ℕ) → GaveOctets a b → GaveOctets b c → GaveOctets a c
octets_both a b c p q = record {
  part = p.part ++ q.part;
  grown = grew_twice a b c p.part q.part p.grown q.grown;
  small = octets_append p.part q.part p.small q.small;
}

-- nothing more
pub octets_same : (a b c : List ℕ) → GaveOctets a b → c ≡ b → GaveOctets a c
octets_same a b c p same =
    record { part = p.part; grown = same ∙ p.grown; small = p.small }

-- what was read up to the end
pub octets_read : (a b : List ℕ) (ended : Type 0) (octets : List ℕ) → GaveOctets a b → ended
    → IsRead a b ended octets → AreOctets octets
octets_read a b ended octets g over q =
    subst AreOctets
    (sym
    (q.parts ∙ ap (λ (l : List ℕ). since a b ++ l) (q.all over) ∙ append-nil (since a b)
    ∙ since_is a b g.part g.grown)) g.small

-- ---- faults of the memory

pub fault_memory : {X : Type 0} (r : Reading X) (a b : List ℕ) (ended : Type 0) → GrewFrom a b
    → GaveFault r a b ended NoMemory
fault_memory r a b ended grown =
    record { part = since a b; grown = grown; says = λ behind all. tt }

-- ---- results

pub on_any : {V E : Type 0} {P : Type 0} (r : Result V E) → P → OnOk r P
on_any (Ok v) p = p
on_any (Err e) p = tt
