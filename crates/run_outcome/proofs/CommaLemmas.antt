-- Timestamps parted by commas.
use Rattle.std.proofs.Common.{◌≡◌, ℕ, List, [], ◌∷◌, ◌++◌, Option, None, Some, refl, ap, sym, subst}
use Rattle.std.proofs.Common.{◌∙◌, append_assoc}
use Rattle.std.specs.Str.Parse.{digits_value}
use Rattle.std.proofs.lemmas.Option.{some_pair_parts}
use Rattle.st_format.specs.Text.{parted}
use Rattle.run_outcome.specs.Timestamps.{AreTimestamps, IsNumberOf}

-- some were read, and the rest of the text has what is left
pub record SoFar (text done rest : List ℕ) : Type 0 where
  pub forth : (left : List ℕ) → AreTimestamps rest left → AreTimestamps text (done ++ left)
  pub back : (all : List ℕ) → AreTimestamps text all → (left : List ℕ) × (all ≡ done ++ left)
      × AreTimestamps rest left

pub none_yet : (text : List ℕ) → SoFar text [] text
none_yet text = record { forth = λ left is. is; back = λ all is. (all, refl, is) }

one_forth : (rest first more : List ℕ) (t : ℕ) (left : List ℕ) → parted 44 rest ≡ Some (first, more)
    → IsNumberOf first t → AreTimestamps more left → AreTimestamps rest (t ∷ left)
one_forth rest first more t [] parts is are = absurd are
one_forth rest first more t (u ∷ us) parts is are = (first, more, parts, is, are)

same_value : (t u : ℕ) (a b : List ℕ) → a ≡ b → IsNumberOf a u → IsNumberOf b t → u ≡ t
same_value t u a b same is_u is_t =
    is_u.value ∙ ap (λ (l : List ℕ). digits_value 10 l) same ∙ sym is_t.value

one_back : (rest first more : List ℕ) (t : ℕ) (all : List ℕ) → parted 44 rest ≡ Some (first, more)
    → IsNumberOf first t → AreTimestamps rest all → (left : List ℕ) × (all ≡ t ∷ left)
    × AreTimestamps more left
one_back rest first more t [] parts is are = absurd are
one_back rest first more t (u ∷ []) parts is are = absurd (none_some (sym are.0 ∙ parts))
  where
    none_some : (let r : Option (List ℕ × List ℕ) = None in r ≡ Some (first, more)) → ⊥
    none_some h = cc
one_back rest first more t (u ∷ v ∷ us) parts is are =
    let same = some_pair_parts are.0 first are.1 more (sym are.2 ∙ parts) in (
      v ∷ us,
      ap (λ (x : ℕ). x ∷ v ∷ us) (same_value t u are.0 first same.0 are.3 is),
      subst (λ (l : List ℕ). AreTimestamps l (v ∷ us)) same.1 are.4,
    )

pub one_more : (text done rest first more : List ℕ) (t : ℕ) → SoFar text done rest
    → parted 44 rest ≡ Some (first, more) → IsNumberOf first t → SoFar text (done ++ t ∷ []) more
one_more text done rest first more t so_far parts is = record {
  forth = λ left are. subst (λ (xs : List ℕ). AreTimestamps text xs)
      (sym (append_assoc done (t ∷ []) left))
      (so_far.forth (t ∷ left) (one_forth rest first more t left parts is are));
  back = λ all are.
      let b = so_far.back all are in
      let o = one_back rest first more t b.0 parts is b.2 in
      (o.0, b.1 ∙ ap (λ (xs : List ℕ). done ++ xs) o.1 ∙ sym (append_assoc done (t ∷ []) o.0), o.2);
}

-- ---- texts that are none

no_first : (rest first more : List ℕ) (left : List ℕ) → parted 44 rest ≡ Some (first, more)
    → ((n : ℕ) → IsNumberOf first n → ⊥) → AreTimestamps rest left → ⊥
no_first rest first more [] parts none are = are
no_first rest first more (u ∷ []) parts none are = absurd (none_some (sym are.0 ∙ parts))
  where
    none_some : (let r : Option (List ℕ × List ℕ) = None in r ≡ Some (first, more)) → ⊥
    none_some h = cc
no_first rest first more (u ∷ v ∷ us) parts none are =
    let same = some_pair_parts are.0 first are.1 more (sym are.2 ∙ parts) in
    none u (subst (λ (l : List ℕ). IsNumberOf l u) same.0 are.3)

pub field_none : (text done rest first more : List ℕ) → SoFar text done rest
    → parted 44 rest ≡ Some (first, more) → ((n : ℕ) → IsNumberOf first n → ⊥) → (said : List ℕ)
    → AreTimestamps text said → ⊥
field_none text done rest first more so_far parts none said are =
    let b = so_far.back said are in no_first rest first more b.0 parts none b.2

no_last : (rest : List ℕ) (left : List ℕ) → parted 44 rest ≡ None
    → ((n : ℕ) → IsNumberOf rest n → ⊥) → AreTimestamps rest left → ⊥
no_last rest [] parts none are = are
no_last rest (u ∷ []) parts none are = none u are.1
no_last rest (u ∷ v ∷ us) parts none are = absurd (none_some are.0 are.1 (sym parts ∙ are.2))
  where
    none_some : (a b : List ℕ) → (let r : Option (List ℕ × List ℕ) = None in r ≡ Some (a, b)) → ⊥
    none_some a b h = cc

pub last_none : (text done rest : List ℕ) → SoFar text done rest → parted 44 rest ≡ None
    → ((n : ℕ) → IsNumberOf rest n → ⊥) → (said : List ℕ) → AreTimestamps text said → ⊥
last_none text done rest so_far parts none said are =
    let b = so_far.back said are in no_last rest b.0 parts none b.2
