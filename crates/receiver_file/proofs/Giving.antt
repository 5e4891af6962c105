-- What readings make of what a source gave, one behind the other.
use Rattle.std.proofs.Common.{◌≡◌, ℕ, List, [], ◌++◌, Option, Some, Result, Ok, Err, append_assoc}
use Rattle.std.proofs.Common.{append-nil, arith, ap, refl, sym, subst, ◌∙◌}
use Rattle.std.specs.Prelude.{IfErr, IfOk}
use Rattle.media_file.specs.declared.fault.FileFault.{FileFault}
use Rattle.media_file.specs.Fields.{Fails, GaveFault, nothing_at}
use Rattle.st_format.specs.Given.{GaveOctets, GaveValue, Takes}
use Rattle.media_file.proofs.Gave.{octets_append}
use Rattle.st_format.specs.Device.{AreOctets}
use Rattle.st_format.specs.History.{GrewFrom, IsRead, since}
use Rattle.st_format.proofs.Histories.{grew_by, since_is}
use Rattle.receiver_file.specs.Giving.{GaveAllOf, GaveOf}
use Rattle.st_format.proofs.Gave.{fault_one, grew_twice}
use Rattle.st_format.proofs.Parsing.{fails_first, fails_then, gives_then, then_reads}
use Rattle.media_file.specs.Faults.{file_fault_origin}

abbrev Reading : Type 0 → Type 0
Reading X = List ℕ → Result (X × List ℕ) FileFault

-- what a call read whose octets are told by themselves
pub gave_octets : {X : Type 0} (p : Reading X) (x : X) (a b : List ℕ) → GaveValue p a b x
    → GaveOctets a b → GaveOf p a b x
gave_octets p x a b g o = record {
  part = g.part;
  bytes = subst AreOctets (sym (since_is a b o.part o.grown) ∙ since_is a b g.part g.grown) o.small;
  grown = g.grown;
  says = g.says;
}

-- ---- from readings to a reading

-- of one value
pub gave_one : {X Z : Type 0} (p : Reading X) (r : Reading Z) (x : X) (z : Z) (a b : List ℕ)
    → ((was left : Option (List ℕ)) → Takes p was left x → Takes r was left z)
    → GaveOf p a b x → GaveOf r a b z
gave_one p r x z a b step g = record {
  part = g.part;
  bytes = g.bytes;
  grown = g.grown;
  says = λ behind. step (Some (g.part ++ behind)) (Some behind) (g.says behind);
}

-- of two values, one behind the other
pub gave_two : {X Y Z : Type 0} (p : Reading X) (q : Reading Y) (r : Reading Z) (x : X) (y : Y)
    (z : Z) (a b c : List ℕ)
    → ((was mid left : Option (List ℕ)) → Takes p was mid x → Takes q mid left y
    → Takes r was left z) → GaveOf p a b x → GaveOf q b c y → GaveOf r a c z
gave_two p q r x y z a b c step g h = record {
  part = g.part ++ h.part;
  bytes = octets_append g.part h.part g.bytes h.bytes;
  grown = grew_twice a b c g.part h.part g.grown h.grown;
  says = λ behind.
      subst (λ (o : List ℕ). Takes r (Some o) (Some behind) z)
      (sym (append_assoc g.part h.part behind))
      (step (Some (g.part ++ (h.part ++ behind))) (Some (h.part ++ behind)) (Some behind)
      (g.says (h.part ++ behind)) (h.says behind));
}

-- of none, which took no octet
pub gave_none : {Z : Type 0} (r : Reading Z) (z : Z) (a : List ℕ)
    → ((known : Option (List ℕ)) → Takes r known known z) → GaveOf r a a z
gave_none r z a step = record {
  part = [];
  bytes = λ i. omega arith;
  grown = sym (append-nil a);
  says = λ behind. step (Some behind);
}

-- a fault of a value that was read
pub fault_of : {X Z : Type 0} (p : Reading X) (r : Reading Z) (x : X) (a b : List ℕ)
    (ended : Type 0) (f : FileFault)
    → ((was left : Option (List ℕ)) → Takes p was left x → Fails r was f)
    → GaveOf p a b x → GaveFault r a b ended f
fault_of p r x a b ended f step g = record {
  part = g.part;
  grown = g.grown;
  says = λ behind all. step (Some (g.part ++ behind)) (Some behind) (g.says behind);
}

-- a fault of the second reading
pub fault_two : {X Y Z : Type 0} (p : Reading X) (q : Reading Y) (r : Reading Z) (x : X)
    (a b c : List ℕ) (ended : Type 0) (f : FileFault)
    → ((was mid : Option (List ℕ)) → Takes p was mid x → Fails q mid f → Fails r was f)
    → GaveOf p a b x → GaveFault q b c ended f → GaveFault r a c ended f
fault_two p q r x a b c ended f step g h = record {
  part = g.part ++ h.part;
  grown = grew_twice a b c g.part h.part g.grown h.grown;
  says = λ behind all.
      subst (λ (o : List ℕ). Fails r (Some o) f) (sym (append_assoc g.part h.part behind))
      (step (Some (g.part ++ (h.part ++ behind))) (Some (h.part ++ behind))
      (g.says (h.part ++ behind)) (h.says behind all));
}

-- ---- a reading whose value a call made

pub gave_made : {X Y : Type 0} (p : Reading X) (q : Reading Y) (x : X) (r : Result Y FileFault)
    (a b : List ℕ)
    → ((was left : Option (List ℕ)) → Takes p was left x → IfOk r (λ y. Takes q was left y))
    → GaveOf p a b x → IfOk r (λ y. GaveOf q a b y)
gave_made p q x (Ok y) a b step g = gave_one p q x y a b step g
gave_made p q x (Err f) a b step g = tt

pub fault_made : {X Y : Type 0} (p : Reading X) (q : Reading Y) (x : X) (r : Result Y FileFault)
    (a b : List ℕ) (ended : Type 0)
    → ((was left : Option (List ℕ)) → Takes p was left x → IfErr r (λ f. Fails q was f))
    → GaveOf p a b x → IfErr r (λ f. GaveFault q a b ended f)
fault_made p q x (Ok y) a b ended step g = tt
fault_made p q x (Err f) a b ended step g = fault_of p q x a b ended f step g

-- of two values
pub gave_both : {X Y Z : Type 0} (p : Reading X) (q : Reading Y) (s : Reading Z) (x : X) (y : Y)
    (r : Result Z FileFault) (a b c : List ℕ)
    → ((was mid left : Option (List ℕ)) → Takes p was mid x → Takes q mid left y
    → IfOk r (λ z. Takes s was left z))
    → GaveOf p a b x → GaveOf q b c y → IfOk r (λ z. GaveOf s a c z)
gave_both p q s x y (Ok z) a b c step g h = gave_two p q s x y z a b c step g h
gave_both p q s x y (Err f) a b c step g h = tt

pub fault_both_so : {X Y Z : Type 0} (p : Reading X) (q : Reading Y) (s : Reading Z) (x : X) (y : Y)
    (a b c : List ℕ) (ended : Type 0) (f : FileFault)
    → ((was mid left : Option (List ℕ)) → Takes p was mid x → Takes q mid left y
    → Fails s was f) → GaveOf p a b x → GaveOf q b c y → GaveFault s a c ended f
fault_both_so p q s x y a b c ended f step g h = record {
  part = g.part ++ h.part;
  grown = grew_twice a b c g.part h.part g.grown h.grown;
  says = λ behind all.
      subst (λ (o : List ℕ). Fails s (Some o) f) (sym (append_assoc g.part h.part behind))
      (step (Some (g.part ++ (h.part ++ behind))) (Some (h.part ++ behind)) (Some behind)
      (g.says (h.part ++ behind)) (h.says behind));
}

pub fault_both : {X Y Z : Type 0} (p : Reading X) (q : Reading Y) (s : Reading Z) (x : X) (y : Y)
    (r : Result Z FileFault) (a b c : List ℕ) (ended : Type 0)
    → ((was mid left : Option (List ℕ)) → Takes p was mid x → Takes q mid left y
    → IfErr r (λ f. Fails s was f))
    → GaveOf p a b x → GaveOf q b c y → IfErr r (λ f. GaveFault s a c ended f)
fault_both p q s x y (Ok z) a b c ended step g h = tt
fault_both p q s x y (Err f) a b c ended step g h =
    fault_both_so p q s x y a b c ended f step g h

-- where the call read the second value
pub gave_next : {X Y V : Type 0} (p : Reading X) (q s : Reading Y) (x : X) (of : V → Y)
    (r : Result V FileFault) (a b c : List ℕ)
    → ((was mid left : Option (List ℕ)) → Takes p was mid x
    → IfOk r (λ v. Takes q mid left (of v)) → IfOk r (λ v. Takes s was left (of v)))
    → GaveOf p a b x → IfOk r (λ v. GaveOf q b c (of v))
    → IfOk r (λ v. GaveOf s a c (of v))
gave_next p q s x of (Ok v) a b c step g h = gave_two p q s x (of v) (of v) a b c step g h
gave_next p q s x of (Err f) a b c step g h = tt

pub fault_next : {X Y V : Type 0} (p : Reading X) (q s : Reading Y) (x : X) (r : Result V FileFault)
    (a b c : List ℕ) (ended : Type 0)
    → ((was mid : Option (List ℕ)) → Takes p was mid x
    → IfErr r (λ f. Fails q mid f) → IfErr r (λ f. Fails s was f))
    → GaveOf p a b x → IfErr r (λ f. GaveFault q b c ended f)
    → IfErr r (λ f. GaveFault s a c ended f)
fault_next p q s x (Ok v) a b c ended step g h = tt
fault_next p q s x (Err f) a b c ended step g h = fault_two p q s x a b c ended f step g h

-- ---- three of them

order : (a b c d : List ℕ) → ((a ++ b) ++ c) ++ d ≡ a ++ (b ++ (c ++ d))
order a b c d = append_assoc (a ++ b) c d ∙ append_assoc a b (c ++ d)

pub gave_three : {X Y Z V : Type 0} (p : Reading X) (q : Reading Y) (r : Reading Z) (s : Reading V)
    (x : X) (y : Y) (z : Z) (v : V) (a b c d : List ℕ)
    → ((was mid next left : Option (List ℕ)) → Takes p was mid x → Takes q mid next y
    → Takes r next left z → Takes s was left v)
    → GaveOf p a b x → GaveOf q b c y → GaveOf r c d z → GaveOf s a d v
gave_three p q r s x y z v a b c d step g h k = record {
  part = (g.part ++ h.part) ++ k.part;
  bytes = octets_append (g.part ++ h.part) k.part (octets_append g.part h.part g.bytes h.bytes)
      k.bytes;
  grown =
      grew_twice a c d (g.part ++ h.part) k.part
      (grew_twice a b c g.part h.part g.grown h.grown) k.grown;
  says = λ behind.
      subst (λ (o : List ℕ). Takes s (Some o) (Some behind) v)
      (sym (order g.part h.part k.part behind))
      (step (Some (g.part ++ (h.part ++ (k.part ++ behind))))
      (Some (h.part ++ (k.part ++ behind))) (Some (k.part ++ behind)) (Some behind)
      (g.says (h.part ++ (k.part ++ behind))) (h.says (k.part ++ behind)) (k.says behind));
}

pub fault_three : {X Y Z V : Type 0} (p : Reading X) (q : Reading Y) (r : Reading Z)
    (s : Reading V) (x : X) (y : Y) (a b c d : List ℕ) (ended : Type 0) (f : FileFault)
    → ((was mid next : Option (List ℕ)) → Takes p was mid x → Takes q mid next y
    → Fails r next f → Fails s was f)
    → GaveOf p a b x → GaveOf q b c y → GaveFault r c d ended f → GaveFault s a d ended f
fault_three p q r s x y a b c d ended f step g h k = record {
  part = (g.part ++ h.part) ++ k.part;
  grown =
      grew_twice a c d (g.part ++ h.part) k.part
      (grew_twice a b c g.part h.part g.grown h.grown) k.grown;
  says = λ behind all.
      subst (λ (o : List ℕ). Fails s (Some o) f) (sym (order g.part h.part k.part behind))
      (step (Some (g.part ++ (h.part ++ (k.part ++ behind))))
      (Some (h.part ++ (k.part ++ behind))) (Some (k.part ++ behind))
      (g.says (h.part ++ (k.part ++ behind))) (h.says (k.part ++ behind)) (k.says behind all));
}

-- ---- a reading, and one that its value chooses

pub fault_first : {A X : Type 0} (first : Reading A) (then : A → Reading X) (a b : List ℕ)
    (ended : Type 0) (f : FileFault) → GaveFault first a b ended f
    → GaveFault (then_reads first then) a b ended f
fault_first first then a b ended f g =
    fault_one file_fault_origin first (then_reads first then) a b ended f
    (λ was. fails_first file_fault_origin first then was f) g

pub fault_then : {A X : Type 0} (first : Reading A) (then : A → Reading X) (v : A) (a b c : List ℕ)
    (ended : Type 0) (f : FileFault) → GaveOf first a b v → GaveFault (then v) b c ended f
    → GaveFault (then_reads first then) a c ended f
fault_then first then v a b c ended f g h =
    fault_two first (then v) (then_reads first then) v a b c ended f
    (λ was mid. fails_then file_fault_origin first then was mid v f) g h

pub whole_then : {A X : Type 0} (first : Reading A) (then : A → Reading X) (v : A) (x : X)
    (a b c : List ℕ) (ended : Type 0) → GaveOf first a b v → GaveAllOf (then v) b c ended x
    → GaveAllOf (then_reads first then) a c ended x
whole_then first then v x a b c ended g h = record {
  part = g.part ++ h.part;
  bytes = octets_append g.part h.part g.bytes h.bytes;
  grown = grew_twice a b c g.part h.part g.grown h.grown;
  over = h.over;
  says =
      gives_then first then (Some (g.part ++ h.part)) (Some h.part) (Some []) v x
      (g.says h.part) h.says;
}

-- a value, and nothing behind it
pub whole_end : {A X : Type 0} (first : Reading A) (r : Reading X) (v : A) (x : X)
    (a b c : List ℕ) (ended : Type 0)
    → ((was mid left : Option (List ℕ)) → Takes first was mid v → Takes nothing_at mid left tt
    → Takes r was left x) → GaveOf first a b v → c ≡ b → ended → GaveAllOf r a c ended x
whole_end first r v x a b c ended step g same over = record {
  part = g.part;
  bytes = g.bytes;
  grown = same ∙ g.grown;
  over = over;
  says =
      subst (λ (o : List ℕ). Takes r (Some o) (Some []) x) (append-nil g.part)
      (step (Some (g.part ++ [])) (Some []) (Some []) (g.says []) refl);
}

-- ---- what was read

read_is : {X : Type 0} (r : Reading X) (x : X) (a b : List ℕ) (ended : Type 0) (octets : List ℕ)
    → (g : GaveAllOf r a b ended x) → IsRead a b ended octets → octets ≡ g.part
read_is r x a b ended octets g q =
    q.parts ∙ ap (λ (l : List ℕ). since a b ++ l) (q.all g.over) ∙ append-nil (since a b)
    ∙ since_is a b g.part g.grown

pub all_read : {X : Type 0} (r : Reading X) (x : X) (a b : List ℕ) (ended : Type 0)
    (octets : List ℕ) → GaveAllOf r a b ended x → IsRead a b ended octets
    → Takes r (Some octets) (Some []) x
all_read r x a b ended octets g q =
    subst (λ (o : List ℕ). Takes r (Some o) (Some []) x)
    (sym (read_is r x a b ended octets g q)) g.says

pub all_octets : {X : Type 0} (r : Reading X) (x : X) (a b : List ℕ) (ended : Type 0)
    (octets : List ℕ) → GaveAllOf r a b ended x → IsRead a b ended octets → AreOctets octets
all_octets r x a b ended octets g q =
    subst AreOctets (sym (read_is r x a b ended octets g q)) g.bytes

pub all_grew : {X : Type 0} (r : Reading X) (x : X) (a b : List ℕ) (ended : Type 0)
    → GaveAllOf r a b ended x → GrewFrom a b
all_grew r x a b ended g =
    g.grown ∙ ap (λ (l : List ℕ). a ++ l) (sym (since_is a b g.part g.grown))

pub three_grew : {X Y Z : Type 0} (p : Reading X) (q : Reading Y) (r : Reading Z) (x : X) (y : Y)
    (z : Z) (a b c d : List ℕ) → GaveOf p a b x → GaveOf q b c y → GaveOf r c d z → GrewFrom a d
three_grew p q r x y z a b c d g h k =
    grew_by a d ((g.part ++ h.part) ++ k.part)
    (grew_twice a c d (g.part ++ h.part) k.part
    (grew_twice a b c g.part h.part g.grown h.grown) k.grown)
