-- One text written after another.
use Rattle.std.proofs.Common.{get_or, drop, map, ◌≡◌, ℕ, ◌+◌, ◌<◌, ◌≤◌, List, [], ◌∷◌, ◌++◌, length}
use Rattle.std.proofs.Common.{take, Option, Some, append_assoc, append-nil, refl, sym, ap, ◌∙◌}
use Rattle.std.proofs.Common.{arith, subst}
use Rattle.std.specs.Io.KnownBytes.{Appends}
use Rattle.std.proofs.KnownBytes.{Appends-trans}
use Rattle.std.proofs.Math.Seq.{take-append-add}
use Rattle.std.proofs.lemmas.List.{length-append, map-append, take-append-drop, take-append-le}
use Rattle.std.proofs.lemmas.List.{take_more}
use Rattle.media_file.specs.declared.record.Record.{Record}
use Rattle.media_file.specs.Capture.{entry_seen}
use Rattle.media_file.specs.Records.{Entry, record_text, records_text}
use Rattle.st_format.specs.Device.{AppendsPrefix, GrowsPart}

-- what was cut within a text is cut within it and what follows
pub prefix_first : (old new : Option (List ℕ)) (xs ys : List ℕ) → AppendsPrefix old new xs
    → AppendsPrefix old new (xs ++ ys)
prefix_first old new xs ys p = record {
  count = p.count;
  short = let s : p.count < length xs = p.short in omega (arith, length-append xs ys);
  taken = let s : p.count ≤ length xs =
      omega (arith, p.short) in subst (Appends old new)
      (sym (take-append-le p.count xs ys s)) p.taken;
}

-- what was cut behind a text
pub prefix_then : (old mid new : Option (List ℕ)) (xs ys : List ℕ) → Appends old mid xs
    → AppendsPrefix mid new ys → AppendsPrefix old new (xs ++ ys)
prefix_then old mid new xs ys p q = record {
  count = length xs + q.count;
  short = let s : q.count < length ys = q.short in omega (arith, length-append xs ys);
  taken =
      subst (Appends old new) (sym (take-append-add xs ys q.count))
      (Appends-trans old mid new xs (take q.count ys) p q.taken);
}

-- two texts and nothing behind them
pub both_whole : (old mid new : Option (List ℕ)) (xs ys : List ℕ) → Appends old mid xs
    → Appends mid new ys → Appends old new (xs ++ (ys ++ []))
both_whole old mid new xs ys p q =
    subst (λ (t : List ℕ). Appends old new (xs ++ t)) (sym (append-nil ys))
    (Appends-trans old mid new xs ys p q)

pub both_cut : (old mid new : Option (List ℕ)) (xs ys : List ℕ) → Appends old mid xs
    → AppendsPrefix mid new ys → AppendsPrefix old new (xs ++ (ys ++ []))
both_cut old mid new xs ys p q =
    subst (λ (t : List ℕ). AppendsPrefix old new (xs ++ t)) (sym (append-nil ys))
    (prefix_then old mid new xs ys p q)

pub records_append : (xs ys : List Entry)
    → records_text (xs ++ ys) ≡ records_text xs ++ records_text ys
records_append [] ys = refl
records_append (x ∷ xs) ys =
    ap (λ (t : List ℕ). record_text x ++ t) (records_append xs ys)
    ∙ sym (append_assoc (record_text x) (records_text xs) (records_text ys))

-- one record more
pub texts_more : {A : Type 0} (rs : List (Record A)) (i : ℕ) (r : Record A) → i < length rs
    → r ≡ get_or rs i r
    → records_text (map entry_seen (take (i + 1) rs))
    ≡ records_text (map entry_seen (take i rs)) ++ record_text (entry_seen r)
texts_more {A} rs i r lt is =
    ap (λ (xs : List (Record A)). records_text (map entry_seen xs))
    (take_more rs i r lt ∙ ap (λ (x : Record A). take i rs ++ x ∷ []) (sym is))
    ∙ ap records_text (map-append entry_seen (take i rs) (r ∷ []))
    ∙ records_append (map entry_seen (take i rs)) (entry_seen r ∷ [])
    ∙ ap (λ (t : List ℕ). records_text (map entry_seen (take i rs)) ++ t)
    (append-nil (record_text (entry_seen r)))

-- and the others
pub texts_all : {A : Type 0} (rs : List (Record A)) (i : ℕ) (r : Record A) → i < length rs
    → r ≡ get_or rs i r
    → (records_text (map entry_seen (take i rs)) ++ record_text (entry_seen r)) ++ records_text
    (map entry_seen (drop (i + 1) rs)) ≡ records_text (map entry_seen rs)
texts_all {A} rs i r lt is =
    ap (λ (t : List ℕ). t ++ records_text (map entry_seen (drop (i + 1) rs)))
    (sym (texts_more rs i r lt is))
    ∙ sym (records_append (map entry_seen (take (i + 1) rs)) (map entry_seen (drop (i + 1) rs)))
    ∙ ap records_text (sym (map-append entry_seen (take (i + 1) rs) (drop (i + 1) rs)))
    ∙ ap (λ (xs : List (Record A)). records_text (map entry_seen xs)) (take-append-drop (i + 1) rs)

-- ---- the same of what a sink took

pub part_first : (old new xs ys : List ℕ) → GrowsPart old new xs → GrowsPart old new (xs ++ ys)
part_first old new xs ys p = record {
  count = p.count;
  short = let s : p.count < length xs = p.short in omega (arith, length-append xs ys);
  grown = let s : p.count ≤ length xs =
      omega (arith, p.short) in
      p.grown ∙ ap (λ (l : List ℕ). old ++ l) (sym (take-append-le p.count xs ys s));
}

pub took_both : (old mid new xs ys : List ℕ) → mid ≡ old ++ xs → new ≡ mid ++ ys
    → new ≡ old ++ (xs ++ ys)
took_both old mid new xs ys p q =
    q ∙ ap (λ (l : List ℕ). l ++ ys) p ∙ append_assoc old xs ys

pub part_then : (old mid new xs ys : List ℕ) → mid ≡ old ++ xs → GrowsPart mid new ys
    → GrowsPart old new (xs ++ ys)
part_then old mid new xs ys p q = record {
  count = length xs + q.count;
  short = let s : q.count < length ys = q.short in omega (arith, length-append xs ys);
  grown = took_both old mid new xs (take q.count ys) p q.grown
      ∙ ap (λ (l : List ℕ). old ++ l) (sym (take-append-add xs ys q.count));
}

pub took_whole : (old mid new xs ys : List ℕ) → mid ≡ old ++ xs → new ≡ mid ++ ys
    → new ≡ old ++ (xs ++ (ys ++ []))
took_whole old mid new xs ys p q =
    subst (λ (t : List ℕ). new ≡ old ++ (xs ++ t)) (sym (append-nil ys))
    (took_both old mid new xs ys p q)

pub took_cut : (old mid new xs ys : List ℕ) → mid ≡ old ++ xs → GrowsPart mid new ys
    → GrowsPart old new (xs ++ (ys ++ []))
took_cut old mid new xs ys p q =
    subst (λ (t : List ℕ). GrowsPart old new (xs ++ t)) (sym (append-nil ys))
    (part_then old mid new xs ys p q)

-- what a sink took is as what one holds that tells it
pub part_held : (old new xs : List ℕ) → GrowsPart old new xs
    → AppendsPrefix (Some old) (Some new) xs
part_held old new xs p = record { count = p.count; short = p.short; taken = p.grown }

pub held_part : (old new xs : List ℕ) → AppendsPrefix (Some old) (Some new) xs
    → GrowsPart old new xs
held_part old new xs p = record { count = p.count; short = p.short; grown = p.taken }
