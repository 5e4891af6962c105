-- What a reading makes of the octets that a source gave: what it makes of those that a source was
-- to give, whatever is behind them. So each step from a reading to the next is one of both.
use Rattle.std.proofs.Common.{◌≡◌, ℕ, ◌≤◌, List, [], ◌++◌, length, take, Option, Some, Result}
use Rattle.std.proofs.Common.{append_assoc, append-nil, sym, ap, subst, ◌∙◌}
use Rattle.std.proofs.lemmas.List.{take_all}
use Rattle.st_format.specs.Given.{FailsBy, GaveFaultBy, GaveValue, Origin, Takes}

abbrev Reading : Type 0 → Type 0 → Type 0
Reading F X = List ℕ → Result (X × List ℕ) F

-- one part behind another
pub grew_twice : (old mid new xs ys : List ℕ) → mid ≡ old ++ xs → new ≡ mid ++ ys
    → new ≡ old ++ (xs ++ ys)
grew_twice old mid new xs ys first then =
    then ∙ ap (λ (l : List ℕ). l ++ ys) first ∙ append_assoc old xs ys

-- a source gave all of a list
pub grew_all : (old new : List ℕ) (n : ℕ) (given : List ℕ) → new ≡ old ++ take n given
    → length given ≤ n → new ≡ old ++ given
grew_all old new n given is le = is ∙ ap (λ (l : List ℕ). old ++ l) (take_all n given le)

-- ---- from readings to a reading

-- of one value
pub gave_one : {F X Z : Type 0} (p : Reading F X) (r : Reading F Z) (x : X) (z : Z) (a b : List ℕ)
    → ((was left : Option (List ℕ)) → Takes p was left x → Takes r was left z)
    → GaveValue p a b x → GaveValue r a b z
gave_one p r x z a b step g = record {
  part = g.part;
  grown = g.grown;
  says = λ behind. step (Some (g.part ++ behind)) (Some behind) (g.says behind);
}

-- of two values, one behind the other
pub gave_two : {F X Y Z : Type 0} (p : Reading F X) (q : Reading F Y) (r : Reading F Z) (x : X)
    (y : Y) (z : Z) (a b c : List ℕ)
    → ((was mid left : Option (List ℕ)) → Takes p was mid x → Takes q mid left y
    → Takes r was left z) → GaveValue p a b x → GaveValue q b c y → GaveValue r a c z
gave_two p q r x y z a b c step g h = record {
  part = g.part ++ h.part;
  grown = grew_twice a b c g.part h.part g.grown h.grown;
  says = λ behind.
      subst (λ (o : List ℕ). Takes r (Some o) (Some behind) z)
      (sym (append_assoc g.part h.part behind))
      (step (Some (g.part ++ (h.part ++ behind))) (Some (h.part ++ behind)) (Some behind)
      (g.says (h.part ++ behind)) (h.says behind));
}

-- of what was read already, which took no octet
pub gave_none : {F Z : Type 0} (r : Reading F Z) (z : Z) (a b : List ℕ)
    → ((known : Option (List ℕ)) → Takes r known known z) → b ≡ a → GaveValue r a b z
gave_none r z a b step same = record {
  part = [];
  grown = same ∙ sym (append-nil a);
  says = λ behind. step (Some behind);
}

-- ---- from a fault to a fault

-- of the first reading
pub fault_one : {F X Z : Type 0} (origin : F → Origin) (p : Reading F X) (r : Reading F Z)
    (a b : List ℕ) (ended : Type 0) (f : F)
    → ((was : Option (List ℕ)) → FailsBy origin p was f → FailsBy origin r was f)
    → GaveFaultBy origin p a b ended f → GaveFaultBy origin r a b ended f
fault_one origin p r a b ended f step g = record {
  part = g.part;
  grown = g.grown;
  says = λ behind all. step (Some (g.part ++ behind)) (g.says behind all);
}

-- of a value that was read
pub fault_of : {F X Z : Type 0} (origin : F → Origin) (p : Reading F X) (r : Reading F Z) (x : X)
    (a b : List ℕ) (ended : Type 0) (f : F)
    → ((was left : Option (List ℕ)) → Takes p was left x → FailsBy origin r was f)
    → GaveValue p a b x → GaveFaultBy origin r a b ended f
fault_of origin p r x a b ended f step g = record {
  part = g.part;
  grown = g.grown;
  says = λ behind all. step (Some (g.part ++ behind)) (Some behind) (g.says behind);
}

-- of the second reading
pub fault_two : {F X Y Z : Type 0} (origin : F → Origin) (p : Reading F X) (q : Reading F Y)
    (r : Reading F Z) (x : X) (a b c : List ℕ) (ended : Type 0) (f : F)
    → ((was mid : Option (List ℕ)) → Takes p was mid x → FailsBy origin q mid f
    → FailsBy origin r was f)
    → GaveValue p a b x → GaveFaultBy origin q b c ended f → GaveFaultBy origin r a c ended f
fault_two origin p q r x a b c ended f step g h = record {
  part = g.part ++ h.part;
  grown = grew_twice a b c g.part h.part g.grown h.grown;
  says = λ behind all.
      subst (λ (o : List ℕ). FailsBy origin r (Some o) f) (sym (append_assoc g.part h.part behind))
      (step (Some (g.part ++ (h.part ++ behind))) (Some (h.part ++ behind))
      (g.says (h.part ++ behind)) (h.says behind all));
}
