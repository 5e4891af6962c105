-- Which items are wrong by themselves.
use Rattle.std.proofs.Common.{◌≡◌, ℕ, Bool, true, false, cond, List, [], ◌∷◌, length, Option, Some}
use Rattle.std.proofs.Common.{None, refl, ap, ◌∙◌, arith, ◌⊎◌, inl, inr, codes}
use Rattle.std.specs.Prelude.{Contains, ◌==◌, is_none}
use Rattle.std.specs.List.{list_any}
use Rattle.std.specs.Str.{bytes_eq}
use Rattle.std.proofs.lemmas.Bool.Decides.{nat_tests}
use Rattle.st_format.specs.Words.{number}
use Rattle.sdp_format.specs.Naming.{Item, is_bad, rate, colorimetry, range_named}
use Rattle.sdp_format.specs.Grammar.{Says, IsBadItem}
use Rattle.sdp_format.specs.Grammar.IsBadItem.{NoName, NoWidth, NoHeight, NoRate, NoColorimetry}
use Rattle.sdp_format.specs.Grammar.IsBadItem.{NoRange}
use Rattle.sdp_format.proofs.Members.{not_both, any_member, member_any}
use Rattle.sdp_format.proofs.Doubles.{bytes_same}

pub cond_true : (t a b : Bool) → cond t a b ≡ true
    → ((t ≡ true) × (a ≡ true)) ⊎ ((t ≡ false) × (b ≡ true))
cond_true true a b e = inl (refl, e)
cond_true false a b e = inr (refl, e)

pub none_is : {A : Type 0} (o : Option A) → is_none o ≡ true → o ≡ None
none_is None e = refl
none_is (Some x) e = absurd (not_both false e refl)

empty_is : (xs : List ℕ) → (length xs == 0) ≡ true → xs ≡ []
empty_is [] e = refl
empty_is (x ∷ xs) e = absurd (grind (arith, nat_tests))

pub bad_says : (i : Item) → is_bad i ≡ true → IsBadItem i
unfolding is_bad
bad_says i e =
    elim (cond_true (length i.0 == 0) true _ e) [
      | inl h ↦ NoName (empty_is i.0 h.0)
      | inr a ↦
          elim (cond_true (bytes_eq i.0 (codes "width")) (is_none (number i.1)) _ a.1) [
            | inl h ↦ NoWidth (bytes_same i.0 _ h.0) (none_is (number i.1) h.1)
            | inr b ↦
                elim (cond_true (bytes_eq i.0 (codes "height")) (is_none (number i.1)) _ b.1) [
                  | inl h ↦ NoHeight (bytes_same i.0 _ h.0) (none_is (number i.1) h.1)
                  | inr c ↦
                      elim (cond_true (bytes_eq i.0 (codes "exactframerate"))
                      (is_none (rate i.1)) _ c.1) [
                        | inl h ↦ NoRate (bytes_same i.0 _ h.0) (none_is (rate i.1) h.1)
                        | inr d ↦
                            elim (cond_true (bytes_eq i.0 (codes "colorimetry"))
                            (is_none (colorimetry i.1)) _ d.1) [
                              | inl h ↦ NoColorimetry (bytes_same i.0 _ h.0)
                                  (none_is (colorimetry i.1) h.1)
                              | inr f ↦
                                  elim (cond_true (bytes_eq i.0 (codes "RANGE"))
                                  (is_none (range_named i.1)) false f.1) [
                                    | inl h ↦ NoRange (bytes_same i.0 _ h.0)
                                        (none_is (range_named i.1) h.1)
                                    | inr g ↦ absurd (not_both false g.1 refl)
                                  ]
                            ]
                      ]
                ]
          ]
    ]

named : (i : Item) (name : List ℕ) → i.0 ≡ name → is_bad i ≡ is_bad (name, i.1)
named i name e = ap (λ (n : List ℕ). is_bad (n, i.1)) e

pub says_bad : (i : Item) → IsBadItem i → is_bad i ≡ true
unfolding is_bad
says_bad i (NoName e) = named i [] e
says_bad i (NoWidth e f) = named i (codes "width") e ∙ ap is_none f
says_bad i (NoHeight e f) = named i (codes "height") e ∙ ap is_none f
says_bad i (NoRate e f) = named i (codes "exactframerate") e ∙ ap is_none f
says_bad i (NoColorimetry e f) = named i (codes "colorimetry") e ∙ ap is_none f
says_bad i (NoRange e f) = named i (codes "RANGE") e ∙ ap is_none f

pub any_bad : (is : List Item) → list_any is_bad is ≡ true
    → (i : Item) × Contains is i × IsBadItem i
any_bad is e = let r = any_member is_bad is e in (r.0, r.1, bad_says r.0 r.2)

pub bad_any : (is : List Item) → (i : Item) × Contains is i × IsBadItem i
    → list_any is_bad is ≡ true
bad_any is h = member_any is_bad is h.0 h.1 (says_bad h.0 h.2)

-- where no item is wrong by itself, what is said has its form
no_bad : (is : List Item) (name value : List ℕ) → list_any is_bad is ≡ false → Says is name value
    → IsBadItem (name, value) → ⊥
no_bad is name value e m b = not_both _ (bad_any is ((name, value), m, b)) e

pub said_width : (is : List Item) (value : List ℕ) → list_any is_bad is ≡ false
    → Says is (codes "width") value → number value ≡ None → ⊥
said_width is value e m n = no_bad is (codes "width") value e m (NoWidth refl n)

pub said_height : (is : List Item) (value : List ℕ) → list_any is_bad is ≡ false
    → Says is (codes "height") value → number value ≡ None → ⊥
said_height is value e m n = no_bad is (codes "height") value e m (NoHeight refl n)

pub said_rate : (is : List Item) (value : List ℕ) → list_any is_bad is ≡ false
    → Says is (codes "exactframerate") value → rate value ≡ None → ⊥
said_rate is value e m n = no_bad is (codes "exactframerate") value e m (NoRate refl n)

pub said_colorimetry : (is : List Item) (value : List ℕ) → list_any is_bad is ≡ false
    → Says is (codes "colorimetry") value → colorimetry value ≡ None → ⊥
said_colorimetry is value e m n = no_bad is (codes "colorimetry") value e m (NoColorimetry refl n)

pub said_range : (is : List Item) (value : List ℕ) → list_any is_bad is ≡ false
    → Says is (codes "RANGE") value → range_named value ≡ None → ⊥
said_range is value e m n = no_bad is (codes "RANGE") value e m (NoRange refl n)
