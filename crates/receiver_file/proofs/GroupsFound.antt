-- What is read as a pgroup is its text.
use Rattle.std.proofs.Common.{◌≡◌, ℕ, zero, suc, ◌+◌, ◌*◌, ◌/◌, ◌%◌, ◌^◌, ◌<◌, Bool, true, false}
use Rattle.std.proofs.Common.{cond, not, ◌&&◌, ◌||◌, eqb, ltb, List, [], ◌∷◌, ◌++◌, length, map}
use Rattle.std.proofs.Common.{replicate, drop, Result, Ok, Err, append_assoc, refl, sym, ap, ◌∙◌}
use Rattle.std.proofs.Common.{subst, inl, inr, arith}
use Rattle.std.specs.Prelude.{◌⊎◌}
use Rattle.std.specs.Int.{w16, from_be_bytes, to_be_bytes}
use Rattle.std.specs.List.{list_all}
use Rattle.std.proofs.lemmas.Bool.{and_parts, cases_lt, eq-eqb, eqb-true, ltb-true, ne_eqb}
use Rattle.std.proofs.lemmas.List.{length-take-le, take-append-drop}
use Rattle.std.proofs.lemmas.Nat.{be_bytes_2}
use Rattle.std.proofs.Math.Nat.{mul-div_right, pow-suc}
use Rattle.st_format.specs.declared.cell.Cell.{Cell}
use Rattle.st_format.specs.declared.cell.Cell.TheVariants.{Missing, Value, Contested}
use Rattle.st_format.specs.Cell.{is_missing, known_value}
use Rattle.st_format.specs.Device.{AreOctets}
use Rattle.st_format.specs.Samples.{octets_in, values_in}
use Rattle.st_format.proofs.SpelledOctets.{octets_in-spelled}
use Rattle.st_format.proofs.WholeOctets.{Spells-values_in}
use Rattle.pgroup_pack.proofs.Values.{length-values_in}
use Rattle.media_file.specs.declared.fault.FileFault.{FileFault}
use Rattle.media_file.specs.declared.fault.FileFault.TheVariants.{BadField, MixedGroup, Truncated}
use Rattle.media_file.specs.Fields.{field_at}
use Rattle.st_format.specs.Reading.{◌>>=◌}
use Rattle.media_file.specs.Groups.{IsShape, Shape, are_zeroed, cells_by, contested_bit, group_at}
use Rattle.media_file.specs.Groups.{group_text, groups_at, groups_text, mask_of, mixed_by}
use Rattle.media_file.specs.Groups.{samples_text}
use Rattle.media_file.proofs.Entries.{chosen}
use Rattle.media_file.proofs.Found.{field_takes, given, split_then}
use Rattle.st_format.proofs.Octets.{all_octets}
use Rattle.media_file.proofs.Splits.{AreOctets-back}
use Rattle.st_format.proofs.Octets.{AreOctets-drop, AreOctets-take}
use Rattle.media_file.proofs.Splits.{AreOctets-tail}
use Rattle.media_file.proofs.Grouped.{all_missing}

-- ---- octets that are cut off

pub record Cut (n : ℕ) (octets : List ℕ) (y : List ℕ × List ℕ) : Type 0 where
  pub size : length y.0 ≡ n
  pub text : octets ≡ y.0 ++ y.1
  pub front : AreOctets y.0
  pub rest : AreOctets y.1

pub cut_takes : (n : ℕ) (octets : List ℕ) (y : List ℕ × List ℕ) → AreOctets octets
    → field_at n octets ≡ Ok y → Cut n octets y
cut_takes n octets y bytes e =
    let f = field_takes n octets y e in
    record {
      size = ap length (sym f.front) ∙ length-take-le n octets f.long;
      text = sym (take-append-drop n octets) ∙ ap (λ (t : List ℕ). t ++ drop n octets) f.front
          ∙ ap (λ (t : List ℕ). y.0 ++ t) f.rest;
      front = subst AreOctets f.front (AreOctets-take n octets bytes);
      rest = subst AreOctets f.rest (AreOctets-drop n octets bytes);
    }

pub behind : (front octets rest : List ℕ) → AreOctets octets → octets ≡ front ++ rest
    → AreOctets rest
behind front octets rest bytes e = AreOctets-back front rest (subst AreOctets e bytes)

-- ---- the values of a group's octets

pub values_long : (s : Shape) (o : List ℕ) → IsShape s → length o ≡ s.octets
    → length (values_in s.bits o) ≡ s.samples
values_long s o is size =
    length-values_in s.bits o ∙ ap (λ (n : ℕ). n / s.bits)
    (ap (λ (k : ℕ). 8 * k) size ∙ sym is.octets)
    ∙ mul-div_right s.samples is.some_bits

values_back : (s : Shape) (o : List ℕ) → IsShape s → length o ≡ s.octets → AreOctets o
    → octets_in s.bits (values_in s.bits o) ≡ o
values_back s o is size bytes =
    octets_in-spelled s.bits o (values_in s.bits o) (all_octets o bytes)
    (Spells-values_in s.bits o s.samples is.some_bits (ap (λ (k : ℕ). 8 * k) size ∙ sym is.octets))

some_long : (n : ℕ) (vs : List ℕ) → 0 < n → length vs ≡ n → 0 < length vs
some_long n vs some e = omega (arith, some, e)

-- ---- the choices of a group's text

abbrev mixed_by_mask : Shape → List Cell → List ℕ
mixed_by_mask s cells = 2 ∷ (to_be_bytes w16 (mask_of cells) ++ samples_text s cells)

abbrev text_by : Bool → Bool → Shape → List Cell → List ℕ
text_by gone plain s cells =
    cond gone (0 ∷ []) (cond plain (1 ∷ samples_text s cells) (mixed_by_mask s cells))

text_chosen : (s : Shape) (cells : List Cell) (gone plain : Bool) → list_all is_missing cells ≡ gone
    → eqb (mask_of cells) 0 ≡ plain → group_text s cells ≡ text_by gone plain s cells
unfolding group_text
text_chosen s cells gone plain e f =
    ap (λ (b : Bool). text_by b (eqb (mask_of cells) 0) s cells) e
    ∙ ap (λ (b : Bool). text_by gone b s cells) f

gone_text : (s : Shape) → 0 ∷ [] ≡ group_text s (replicate s.samples Missing)
gone_text s =
    let cells : List Cell = replicate s.samples Missing in sym
    (text_chosen s cells true (eqb (mask_of cells) 0) (all_missing s.samples) refl)

-- ---- with no contested sample

plain_there : (vs : List ℕ) → 0 < length vs → list_all is_missing (map Value vs) ≡ false
plain_there [] some = absurd (omega (arith, some))
plain_there (v ∷ vs) some = refl

plain_mask : (vs : List ℕ) → mask_of (map Value vs) ≡ 0
unfolding mask_of
plain_mask [] = refl
plain_mask (v ∷ vs) = let rest : mask_of (map Value vs) ≡ 0 = plain_mask vs in omega (arith, rest)

plain_values : (vs : List ℕ) → map known_value (map Value vs) ≡ vs
unfolding known_value
plain_values [] = refl
plain_values (v ∷ vs) = ap (λ (t : List ℕ). v ∷ t) (plain_values vs)

plain_text : (s : Shape) (o : List ℕ) → IsShape s → length o ≡ s.octets → AreOctets o
    → 1 ∷ o ≡ group_text s (map Value (values_in s.bits o))
plain_text s o is size bytes =
    let vs : List ℕ = values_in s.bits o in
    let some : 0 < length vs = some_long s.samples vs is.some (values_long s o is size) in
    let none : eqb (mask_of (map Value vs)) 0 ≡ true
    = eq-eqb (mask_of (map Value vs)) 0 (plain_mask vs) in
    sym (text_chosen s (map Value vs) false true (plain_there vs some) none
    ∙ ap (λ (t : List ℕ). 1 ∷ octets_in s.bits t) (plain_values vs)
    ∙ ap (λ (t : List ℕ). 1 ∷ t) (values_back s o is size bytes))

-- ---- with one

odd_or_even : (m : ℕ) → (m % 2 ≡ 1) ⊎ (m % 2 ≡ 0)
odd_or_even m =
    elim (cases_lt (m % 2) 1) [
      | inl lt ↦ inr (omega (arith, lt))
      | inr le ↦ inl (omega (arith, le))
    ]

abbrev mask_if : ℕ → ℕ → List ℕ → Bool → ℕ
mask_if m v vs b = contested_bit (cond b Contested (Value v)) + 2 * mask_of (cells_by (m / 2) vs)

mixed_mask : (m : ℕ) (vs : List ℕ) → m < 2 ^ length vs → mask_of (cells_by m vs) ≡ m
unfolding mask_of cells_by
mixed_mask m [] below = omega (arith, below)
mixed_mask m (v ∷ vs) below =
    let half : m / 2 < 2 ^ length vs = omega (arith, below, pow-suc 2 (length vs)) in
    let rest : mask_of (cells_by (m / 2) vs) ≡ m / 2 = mixed_mask (m / 2) vs half in
    elim (odd_or_even m) [
      | inl odd ↦
          ap (mask_if m v vs) (eq-eqb (m % 2) 1 odd) ∙ omega (arith, odd, rest)
      | inr even ↦
          let other : eqb (m % 2) 1 ≡ false
          = ne_eqb (m % 2) 1 (λ (e : m % 2 ≡ 1). absurd (omega (arith, e, even))) in
          ap (mask_if m v vs) other ∙ omega (arith, even, rest)
    ]

value_is : (b : Bool) (v : ℕ) → (not b || eqb v 0) ≡ true
    → known_value (cond b Contested (Value v)) ≡ v
unfolding known_value
value_is true v h = sym (eqb-true v 0 h)
value_is false v h = refl

mixed_values : (m : ℕ) (vs : List ℕ) → are_zeroed m vs ≡ true → map known_value (cells_by m vs) ≡ vs
unfolding cells_by are_zeroed
mixed_values m [] zeroed = refl
mixed_values m (v ∷ vs) zeroed =
    let p = and_parts (not (eqb (m % 2) 1) || eqb v 0) (are_zeroed (m / 2) vs) zeroed in
    ap (λ (x : ℕ). x ∷ map known_value (cells_by (m / 2) vs)) (value_is (eqb (m % 2) 1) v p.0)
    ∙ ap (λ (t : List ℕ). v ∷ t) (mixed_values (m / 2) vs p.1)

cell_there : (b : Bool) (v : ℕ) → is_missing (cond b Contested (Value v)) ≡ false
cell_there true v = refl
cell_there false v = refl

mixed_there : (m : ℕ) (vs : List ℕ) → 0 < length vs → list_all is_missing (cells_by m vs) ≡ false
unfolding cells_by
mixed_there m [] some = absurd (omega (arith, some))
mixed_there m (v ∷ vs) some =
    ap (λ (b : Bool). b && list_all is_missing (cells_by (m / 2) vs)) (cell_there (eqb (m % 2) 1) v)

-- a mask that names some of a group's samples and no others, which are 0
record IsMixed (s : Shape) (m : ℕ) (vs : List ℕ) : Type 0 where
  some : m ≡ 0 → ⊥
  below : m < 2 ^ s.samples
  zeroed : are_zeroed m vs ≡ true

mixed_text : (s : Shape) (m : ℕ) (two o : List ℕ) → IsShape s → length two ≡ 2 → AreOctets two
    → m ≡ from_be_bytes w16 two → length o ≡ s.octets → AreOctets o
    → IsMixed s m (values_in s.bits o)
    → 2 ∷ (two ++ o) ≡ group_text s (cells_by m (values_in s.bits o))
mixed_text s m two o is len pair told size bytes mixed =
    let vs : List ℕ = values_in s.bits o in
    let long : length vs ≡ s.samples = values_long s o is size in
    let mask : mask_of (cells_by m vs) ≡ m
    = mixed_mask m vs (subst (λ (n : ℕ). m < 2 ^ n) (sym long) mixed.below) in
    let other : eqb (mask_of (cells_by m vs)) 0 ≡ false
    = ne_eqb (mask_of (cells_by m vs)) 0
    (λ (e : mask_of (cells_by m vs) ≡ 0). mixed.some (sym mask ∙ e)) in
    let some : 0 < length vs = some_long s.samples vs is.some long in
    sym (text_chosen s (cells_by m vs) false false (mixed_there m vs some) other
    ∙ ap (λ (n : ℕ). 2 ∷ (to_be_bytes w16 n ++ samples_text s (cells_by m vs))) mask
    ∙ ap (λ (t : List ℕ). 2 ∷ (t ++ samples_text s (cells_by m vs)))
    (be_bytes_2 two m len pair told)
    ∙ ap (λ (t : List ℕ). 2 ∷ (two ++ octets_in s.bits t)) (mixed_values m vs mixed.zeroed)
    ∙ ap (λ (t : List ℕ). 2 ∷ (two ++ t)) (values_back s o is size bytes))

-- ---- groups that are read

abbrev pub Cells : Type 0
Cells = Result (List Cell × List ℕ) FileFault

abbrev pub ok_cells : List Cell → List ℕ → Cells
ok_cells cells rest = Ok (cells, rest)

abbrev pub no_cells : FileFault → Cells
no_cells f = Err f

abbrev text_of : Shape → List Cell × List ℕ → List ℕ
text_of s x = group_text s x.0 ++ x.1

abbrev pub plain_at : Shape → List ℕ → Cells
plain_at s octets =
    field_at s.octets octets >>= λ y. ok_cells (map Value (values_in s.bits y.0)) y.1

abbrev pub mixed_behind : Shape → List ℕ → List ℕ → Cells
mixed_behind s two octets =
    field_at s.octets octets >>= λ y. mixed_by s (from_be_bytes w16 two) (values_in s.bits y.0) y.1

abbrev pub mixed_octets_at : Shape → List ℕ → Cells
mixed_octets_at s octets = field_at 2 octets >>= λ y. mixed_behind s y.0 y.1

gone_takes : (s : Shape) (octets : List ℕ) (x : List Cell × List ℕ)
    → ok_cells (replicate s.samples Missing) octets ≡ Ok x → 0 ∷ octets ≡ text_of s x
gone_takes s octets x e =
    let same : (replicate s.samples Missing, octets) ≡ x = ap (λ (r : Cells). given r x) e in
    ap (λ (t : List ℕ). t ++ octets) (gone_text s) ∙ ap (text_of s) same

plain_takes : (s : Shape) (octets : List ℕ) (x : List Cell × List ℕ) → IsShape s → AreOctets octets
    → plain_at s octets ≡ Ok x → 1 ∷ octets ≡ text_of s x
plain_takes s octets x is bytes e =
    let a
    = split_then (field_at s.octets octets)
    (λ y. ok_cells (map Value (values_in s.bits y.0)) y.1) x e in
    let c = cut_takes s.octets octets a.first bytes a.is in
    let same : (map Value (values_in s.bits a.first.0), a.first.1) ≡ x
    = ap (λ (r : Cells). given r x) a.next in
    ap (λ (t : List ℕ). 1 ∷ t) c.text
    ∙ ap (λ (t : List ℕ). t ++ a.first.1) (plain_text s a.first.0 is c.size c.front)
    ∙ ap (text_of s) same

record Passed (a b c : Bool) : Type 0 where
  some : a ≡ false
  below : b ≡ true
  zeroed : c ≡ true

passed : (a b c : Bool) → (a || not b || not c) ≡ false → Passed a b c
passed true b c e = let bad : true ≡ false = e in absurd cc
passed false false c e = let bad : true ≡ false = e in absurd cc
passed false true false e = let bad : true ≡ false = e in absurd cc
passed false true true e = record { some = refl; below = refl; zeroed = refl }

record TakesMixed (s : Shape) (m : ℕ) (vs rest : List ℕ) (x : List Cell × List ℕ) : Type 0 where
  is : IsMixed s m vs
  same : (cells_by m vs, rest) ≡ x

mixed_passed : (s : Shape) (m : ℕ) (vs rest : List ℕ) (x : List Cell × List ℕ)
    → mixed_by s m vs rest ≡ Ok x → TakesMixed s m vs rest x
mixed_passed s m vs rest x e =
    let wrong : Bool = eqb m 0 || not (ltb m (2 ^ s.samples)) || not (are_zeroed m vs) in
    let right : Cells = ok_cells (cells_by m vs) rest in
    elim (chosen wrong (no_cells MixedGroup) right (Ok x) e) [
      | inl w ↦ let bad : no_cells MixedGroup ≡ Ok x = w.1 in absurd cc
      | inr w ↦
          let p = passed (eqb m 0) (ltb m (2 ^ s.samples)) (are_zeroed m vs) w.0 in
          record {
            is = record {
              some = λ (z : m ≡ 0).
                  let bad : true ≡ false = sym (eq-eqb m 0 z) ∙ p.some in
                  absurd cc;
              below = ltb-true m (2 ^ s.samples) p.below;
              zeroed = p.zeroed;
            };
            same = ap (λ (r : Cells). given r x) w.1;
          }
    ]

mixed_takes : (s : Shape) (octets : List ℕ) (x : List Cell × List ℕ) → IsShape s → AreOctets octets
    → mixed_octets_at s octets ≡ Ok x → 2 ∷ octets ≡ text_of s x
mixed_takes s octets x is bytes e =
    let a = split_then (field_at 2 octets) (λ y. mixed_behind s y.0 y.1) x e in
    let c = cut_takes 2 octets a.first bytes a.is in
    let m : ℕ = from_be_bytes w16 a.first.0 in
    let b
    = split_then (field_at s.octets a.first.1)
    (λ y. mixed_by s m (values_in s.bits y.0) y.1) x a.next in
    let d = cut_takes s.octets a.first.1 b.first c.rest b.is in
    let t = mixed_passed s m (values_in s.bits b.first.0) b.first.1 x b.next in
    let both : octets ≡ (a.first.0 ++ b.first.0) ++ b.first.1
    = c.text ∙ ap (λ (k : List ℕ). a.first.0 ++ k) d.text
    ∙ sym (append_assoc a.first.0 b.first.0 b.first.1) in
    ap (λ (k : List ℕ). 2 ∷ k) both
    ∙ ap (λ (k : List ℕ). k ++ b.first.1)
    (mixed_text s m a.first.0 b.first.0 is c.size c.front refl d.size d.front t.is)
    ∙ ap (text_of s) t.same

-- what is read behind a state that isn't 0, or isn't 0 or 1
abbrev pub from_2 : Shape → ℕ → List ℕ → Cells
from_2 s n octets = cond (eqb n 2) (mixed_octets_at s octets) (no_cells BadField)

abbrev pub from_1 : Shape → ℕ → List ℕ → Cells
from_1 s n octets = cond (eqb n 1) (plain_at s octets) (from_2 s n octets)

pub group_takes : (s : Shape) (octets : List ℕ) (x : List Cell × List ℕ) → IsShape s
    → AreOctets octets → group_at s octets ≡ Ok x → octets ≡ group_text s x.0 ++ x.1
unfolding group_at
group_takes s [] x is bytes e = let bad : no_cells Truncated ≡ Ok x = e in absurd cc
group_takes s (n ∷ octets) x is bytes e =
    let small : AreOctets octets = AreOctets-tail n octets bytes in
    let gone : Cells = ok_cells (replicate s.samples Missing) octets in
    elim (chosen (eqb n 0) gone (from_1 s n octets) (Ok x) e) [
      | inl w ↦ ap (λ (k : ℕ). k ∷ octets) (eqb-true n 0 w.0) ∙ gone_takes s octets x w.1
      | inr w ↦
          elim (chosen (eqb n 1) (plain_at s octets) (from_2 s n octets) (Ok x) w.1) [
            | inl u ↦
                ap (λ (k : ℕ). k ∷ octets) (eqb-true n 1 u.0) ∙ plain_takes s octets x is small u.1
            | inr u ↦
                elim (chosen (eqb n 2) (mixed_octets_at s octets) (no_cells BadField) (Ok x) u.1) [
                  | inl v ↦
                      ap (λ (k : ℕ). k ∷ octets) (eqb-true n 2 v.0)
                      ∙ mixed_takes s octets x is small v.1
                  | inr v ↦ let bad : no_cells BadField ≡ Ok x = v.1 in absurd cc
                ]
          ]
    ]

abbrev pub Many : Type 0
Many = Result (List (List Cell) × List ℕ) FileFault

abbrev pub ok_many : List (List Cell) → List ℕ → Many
ok_many gs rest = Ok (gs, rest)

pub groups_take : (s : Shape) (n : ℕ) (octets : List ℕ) (x : List (List Cell) × List ℕ) → IsShape s
    → AreOctets octets → groups_at s n octets ≡ Ok x → octets ≡ groups_text s x.0 ++ x.1
unfolding groups_at
groups_take s zero octets x is bytes e =
    ap (λ (r : Many). let y : List (List Cell) × List ℕ = given r x in groups_text s y.0 ++ y.1) e
groups_take s (suc n) octets x is bytes e =
    let a
    = split_then (group_at s octets)
    (λ y. groups_at s n y.1 >>= λ z. ok_many (y.0 ∷ z.0) z.1) x e in
    let b = split_then (groups_at s n a.first.1) (λ z. ok_many (a.first.0 ∷ z.0) z.1) x a.next in
    let same : (a.first.0 ∷ b.first.0, b.first.1) ≡ x = ap (λ (r : Many). given r x) b.next in
    let front : octets ≡ group_text s a.first.0 ++ a.first.1
    = group_takes s octets a.first is bytes a.is in
    let rest : a.first.1 ≡ groups_text s b.first.0 ++ b.first.1
    = groups_take s n a.first.1 b.first is
    (behind (group_text s a.first.0) octets a.first.1 bytes front) b.is in
    front ∙ ap (λ (t : List ℕ). group_text s a.first.0 ++ t) rest
    ∙ sym (append_assoc (group_text s a.first.0) (groups_text s b.first.0) b.first.1)
    ∙ ap (λ (y : List (List Cell) × List ℕ). groups_text s y.0 ++ y.1) same
