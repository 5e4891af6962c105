-- One text written after another.
use Rattle.std.proofs.Common.{◌≡◌, ℕ, ◌+◌, ◌-◌, ◌<◌, ◌≤◌, List, [], ◌++◌, length, take, Option}
use Rattle.std.proofs.Common.{None}
use Rattle.std.proofs.Common.{Some, append_assoc, append-nil, sym, ap, ◌∙◌, subst, arith}
use Rattle.std.specs.Io.KnownBytes.{Appends}
use Rattle.std.proofs.KnownBytes.{Appends-trans}
use Rattle.std.proofs.Math.Seq.{take-append-add}
use Rattle.std.proofs.lemmas.List.{length-append, take-append-le}
use Rattle.st_format.specs.Device.{AppendsPrefix, GrowsPart}
use Rattle.picture_forms.specs.declared.planes.Spelling.{Spelling}
use Rattle.picture_forms.specs.Planes.{every_text}
use Rattle.picture_forms.specs.Writing.{Writes, WritesPart}
use Rattle.picture_forms.proofs.Texts.{every_front, every_none}

prefix_first : (old new : Option (List ℕ)) (xs ys : List ℕ) → AppendsPrefix old new xs
    → AppendsPrefix old new (xs ++ ys)
prefix_first old new xs ys p = record {
  count = p.count;
  short = let s : p.count < length xs = p.short in omega (arith, length-append xs ys);
  taken = let s : p.count ≤ length xs =
      omega (arith, p.short) in subst (Appends old new)
      (sym (take-append-le p.count xs ys s)) p.taken;
}

prefix_then : (old mid new : Option (List ℕ)) (xs ys : List ℕ) → Appends old mid xs
    → AppendsPrefix mid new ys → AppendsPrefix old new (xs ++ ys)
prefix_then old mid new xs ys p q = record {
  count = length xs + q.count;
  short = let s : q.count < length ys = q.short in omega (arith, length-append xs ys);
  taken =
      subst (Appends old new) (sym (take-append-add xs ys q.count))
      (Appends-trans old mid new xs (take q.count ys) p q.taken);
}

-- what a sink took is as what one holds that tells it
part_held : (old new xs : List ℕ) → GrowsPart old new xs → AppendsPrefix (Some old) (Some new) xs
part_held old new xs p = record { count = p.count; short = p.short; taken = p.grown }

held_part : (old new xs : List ℕ) → AppendsPrefix (Some old) (Some new) xs → GrowsPart old new xs
held_part old new xs p = record { count = p.count; short = p.short; grown = p.taken }

-- two texts
pub writes_both : (was mid is : Option (List ℕ)) (old now new xs ys : List ℕ)
    → Writes was mid old now xs → Writes mid is now new ys → Writes was is old new (xs ++ ys)
writes_both was mid is old now new xs ys p q = record {
  held = Appends-trans was mid is xs ys p.held q.held;
  took = q.took ∙ ap (λ (l : List ℕ). l ++ ys) p.took ∙ append_assoc old xs ys;
}

-- what was cut within a text is cut within it and what follows
pub part_first : (was is : Option (List ℕ)) (old new xs ys : List ℕ)
    → WritesPart was is old new xs → WritesPart was is old new (xs ++ ys)
part_first was is old new xs ys p = record {
  held = prefix_first was is xs ys p.held;
  took =
      held_part old new (xs ++ ys)
      (prefix_first (Some old) (Some new) xs ys (part_held old new xs p.took));
}

-- what was cut behind a text
pub part_then : (was mid is : Option (List ℕ)) (old now new xs ys : List ℕ)
    → Writes was mid old now xs → WritesPart mid is now new ys
    → WritesPart was is old new (xs ++ ys)
part_then was mid is old now new xs ys p q = record {
  held = prefix_then was mid is xs ys p.held q.held;
  took =
      held_part old new (xs ++ ys)
      (prefix_then (Some old) (Some now) (Some new) xs ys p.took
      (part_held now new ys q.took));
}

-- nothing
nothing_written : (o : Option (List ℕ)) → Appends o o []
nothing_written None = tt
nothing_written (Some x) = sym (append-nil x)

pub none_written : (o : Option (List ℕ)) (l : List ℕ) (s : Spelling) (xs : List ℕ)
    (first step : ℕ) → Writes o o l l (every_text s xs first step 0 0)
none_written o l s xs first step =
    subst (Writes o o l l) (sym (every_none s xs first step 0))
    (record { held = nothing_written o; took = sym (append-nil l) })

-- a piece more
pub piece_written : (was mid is : Option (List ℕ)) (old now new : List ℕ) (s : Spelling)
    (xs : List ℕ) (first step done n : ℕ)
    → Writes was mid old now (every_text s xs first step 0 done)
    → Writes mid is now new (every_text s xs first step done n)
    → Writes was is old new (every_text s xs first step 0 (done + n))
piece_written was mid is old now new s xs first step done n p q =
    subst (Writes was is old new) (sym (every_front s xs first step done n))
    (writes_both was mid is old now new (every_text s xs first step 0 done)
    (every_text s xs first step done n) p q)

-- and what was cut within it
pub piece_cut : (was mid is : Option (List ℕ)) (old now new : List ℕ) (s : Spelling)
    (xs : List ℕ) (first step done n count : ℕ) → done + n ≤ count
    → Writes was mid old now (every_text s xs first step 0 done)
    → WritesPart mid is now new (every_text s xs first step done n)
    → WritesPart was is old new (every_text s xs first step 0 count)
piece_cut was mid is old now new s xs first step done n count le p q =
    let e : count ≡ done + n + (count - (done + n)) = omega arith in
    subst (λ (k : ℕ). WritesPart was is old new (every_text s xs first step 0 k)) (sym e)
    (subst (WritesPart was is old new)
    (sym (every_front s xs first step (done + n) (count - (done + n))))
    (part_first was is old new (every_text s xs first step 0 (done + n))
    (every_text s xs first step (done + n) (count - (done + n)))
    (subst (WritesPart was is old new) (sym (every_front s xs first step done n))
    (part_then was mid is old now new (every_text s xs first step 0 done)
    (every_text s xs first step done n) p q))))
