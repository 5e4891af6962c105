-- Pgroups: each fault is read exactly where its condition holds, and what is read is a group.
use Rattle.std.proofs.Common.{◌≡◌, ℕ, zero, suc, ◌+◌, ◌-◌, ◌/◌, ◌%◌, ◌^◌, ◌<◌, Bool, true, false}
use Rattle.std.proofs.Common.{cond, not, ◌&&◌, ◌||◌, eqb, ltb, List, [], ◌∷◌, ◌++◌, length, map}
use Rattle.std.proofs.Common.{replicate, take, drop, Result, Ok, Err, append_assoc, refl, sym, ap}
use Rattle.std.proofs.Common.{◌∙◌, subst, inl, inr, arith}
use Rattle.std.specs.Int.{w16, from_be_bytes, to_be_bytes}
use Rattle.std.specs.List.{AllByRecursion}
use Rattle.std.proofs.lemmas.Bool.{cases_lt, eq-eqb, eqb-true, eqb-false, le-ltb, ltb-false, ne_eqb}
use Rattle.std.proofs.lemmas.List.{length-append, length-drop, length-map, length-replicate}
use Rattle.std.proofs.lemmas.Nat.{be_bytes_2, from_be_bytes-to_be_bytes_2}
use Rattle.st_format.specs.declared.cell.Cell.{Cell}
use Rattle.st_format.specs.declared.cell.Cell.TheVariants.{Missing, Value, Contested}
use Rattle.st_format.specs.Device.{AreOctets}
use Rattle.st_format.specs.Samples.{values_in}
use Rattle.st_format.proofs.WholeOctets.{values_in-fit}
use Rattle.media_file.specs.declared.fault.FileFault.{FileFault}
use Rattle.media_file.specs.declared.fault.FileFault.TheVariants.{BadField, MixedGroup, Truncated}
use Rattle.media_file.specs.Fields.{field_at}
use Rattle.st_format.specs.Reading.{◌>>=◌}
use Rattle.media_file.specs.Groups.{IsGroup, IsHad, IsShape, Shape, are_zeroed, cells_by}
use Rattle.media_file.specs.Groups.{group_at, group_text, groups_at, groups_text, mixed_by}
use Rattle.media_file.proofs.Entries.{chosen}
use Rattle.media_file.proofs.Failing.{field_fails, field_short, field_whole, not_both, same_fault}
use Rattle.media_file.proofs.Failing.{split_fails}
use Rattle.media_file.proofs.Found.{given, split_then}
use Rattle.media_file.proofs.Grouped.{group_again}
use Rattle.media_file.proofs.Splits.{AreOctets-tail, below_16, field_again}
use Rattle.receiver_file.specs.StateFaults.{HasContestedValue, HasOctet, HasWrongMask, IsCutGroup}
use Rattle.receiver_file.specs.StateFaults.{IsWrongMask}
use Rattle.receiver_file.specs.StateFaults.IsWrongMask.{NamesNone, NamesMore, NamesValue}
use Rattle.receiver_file.proofs.GroupsFound.{Cells, Many, behind, cut_takes, from_1, from_2}
use Rattle.receiver_file.proofs.GroupsFound.{group_takes, mixed_behind, mixed_octets_at, no_cells}
use Rattle.receiver_file.proofs.GroupsFound.{ok_cells, ok_many, plain_at, values_long}

abbrev Read : Type 0
Read = List Cell × List ℕ

abbrev Part : Type 0
Part = List ℕ × List ℕ

abbrev Group : Type 0
Group = List Cell

-- ---- wrong masks

contested_by : (m v : ℕ) (vs : List ℕ) (odd nought : Bool) → eqb (m % 2) 1 ≡ odd → eqb v 0 ≡ nought
    → ((not odd || nought) && are_zeroed (m / 2) vs) ≡ false
    → (are_zeroed (m / 2) vs ≡ false → HasContestedValue vs (m / 2))
    → HasContestedValue (v ∷ vs) m
contested_by m v vs true true p q e rest = inr (rest e)
contested_by m v vs true false p q e rest = inl (eqb-true (m % 2) 1 p, eqb-false v 0 q)
contested_by m v vs false nought p q e rest = inr (rest e)

contested_from : (m : ℕ) (vs : List ℕ) → are_zeroed m vs ≡ false → HasContestedValue vs m
unfolding are_zeroed
contested_from m [] e = let bad : true ≡ false = e in absurd cc
contested_from m (v ∷ vs) e =
    contested_by m v vs (eqb (m % 2) 1) (eqb v 0) refl refl e (contested_from (m / 2) vs)

nothing : (b : Bool) → (b && false) ≡ false
nothing true = refl
nothing false = refl

second : (a c : Bool) → (a || true || c) ≡ true
second true c = refl
second false c = refl

third : (a b : Bool) → (a || not b || true) ≡ true
third true b = refl
third false true = refl
third false false = refl

contested_is : (m : ℕ) (vs : List ℕ) → HasContestedValue vs m → are_zeroed m vs ≡ false
unfolding are_zeroed
contested_is m [] h = absurd h
contested_is m (v ∷ vs) (inl p) =
    ap (λ (b : Bool). (not b || eqb v 0) && are_zeroed (m / 2) vs) (eq-eqb (m % 2) 1 p.0)
    ∙ ap (λ (b : Bool). b && are_zeroed (m / 2) vs) (ne_eqb v 0 p.1)
contested_is m (v ∷ vs) (inr h) =
    ap (λ (b : Bool). (not (eqb (m % 2) 1) || eqb v 0) && b) (contested_is (m / 2) vs h)
    ∙ nothing (not (eqb (m % 2) 1) || eqb v 0)

abbrev is_wrong : Shape → ℕ → List ℕ → Bool
is_wrong s m vs = eqb m 0 || not (ltb m (2 ^ s.samples)) || not (are_zeroed m vs)

wrong_by : (s : Shape) (m : ℕ) (vs : List ℕ) (a b c : Bool) → eqb m 0 ≡ a
    → ltb m (2 ^ s.samples) ≡ b → are_zeroed m vs ≡ c → (a || not b || not c) ≡ true
    → IsWrongMask m s vs
wrong_by s m vs true b c p q r e = NamesNone (eqb-true m 0 p)
wrong_by s m vs false false c p q r e = NamesMore (ltb-false m (2 ^ s.samples) q)
wrong_by s m vs false true false p q r e = NamesValue (contested_from m vs r)
wrong_by s m vs false true true p q r e = let bad : false ≡ true = e in absurd cc

wrong_is : (s : Shape) (m : ℕ) (vs : List ℕ) → IsWrongMask m s vs → is_wrong s m vs ≡ true
wrong_is s m vs (NamesNone p) =
    ap (λ (b : Bool). b || not (ltb m (2 ^ s.samples)) || not (are_zeroed m vs)) (eq-eqb m 0 p)
wrong_is s m vs (NamesMore p) =
    ap (λ (b : Bool). eqb m 0 || not b || not (are_zeroed m vs)) (le-ltb m (2 ^ s.samples) p)
    ∙ second (eqb m 0) (not (are_zeroed m vs))
wrong_is s m vs (NamesValue p) =
    ap (λ (b : Bool). eqb m 0 || not (ltb m (2 ^ s.samples)) || not b) (contested_is m vs p)
    ∙ third (eqb m 0) (ltb m (2 ^ s.samples))

-- ---- what is read has the fault

pub data GroupFails (s : Shape) (octets : List ℕ) (e : FileFault) : Type 0 where
  Cut : Truncated ≡ e → IsCutGroup octets s → GroupFails s octets e
  State : BadField ≡ e → HasOctet (λ state. 2 < state) octets → GroupFails s octets e
  Mask : MixedGroup ≡ e → HasWrongMask octets s → GroupFails s octets e

plain_fails : (s : Shape) (octets : List ℕ) (e : FileFault) → plain_at s octets ≡ Err e
    → (Truncated ≡ e) × (length octets < s.octets)
plain_fails s octets e h =
    elim (split_fails (field_at s.octets octets)
    (λ y. ok_cells (map Value (values_in s.bits y.0)) y.1) e h) [
      | inl p ↦ let f = field_fails s.octets octets e p in (f.is, f.short)
      | inr t ↦
          absurd (not_both Read (map Value (values_in s.bits t.first.0), t.first.1) e t.next)
    ]

mask_fails : (s : Shape) (m : ℕ) (vs rest : List ℕ) (e : FileFault) → mixed_by s m vs rest ≡ Err e
    → (MixedGroup ≡ e) × IsWrongMask m s vs
mask_fails s m vs rest e h =
    elim (chosen (is_wrong s m vs) (no_cells MixedGroup) (ok_cells (cells_by m vs) rest)
    (no_cells e) h) [
      | inl w ↦ (
        same_fault Read MixedGroup e w.1,
        wrong_by s m vs (eqb m 0)
            (ltb m (2 ^ s.samples)) (are_zeroed m vs) refl refl refl w.0,
      )
      | inr w ↦ absurd (not_both Read (cells_by m vs, rest) e w.1)
    ]

-- the octets of a contested group behind its state
data MixedFails (s : Shape) (octets : List ℕ) (e : FileFault) : Type 0 where
  CutMixed : Truncated ≡ e → length octets < 2 + s.octets → MixedFails s octets e
  WrongMixed : MixedGroup ≡ e → HasWrongMask (2 ∷ octets) s → MixedFails s octets e

packed_fails : (s : Shape) (two rest octets : List ℕ) (e : FileFault) → octets ≡ two ++ rest
    → length two ≡ 2 → AreOctets two → AreOctets rest → mixed_behind s two rest ≡ Err e
    → MixedFails s octets e
packed_fails s two rest octets e whole pair bytes more h =
    let m : ℕ = from_be_bytes w16 two in
    elim (split_fails (field_at s.octets rest) (λ y. mixed_by s m (values_in s.bits y.0) y.1) e h) [
      | inl p ↦
          let f = field_fails s.octets rest e p in
          let short : length rest < s.octets = f.short in
          let sum : length octets ≡ 2 + length rest
          = ap length whole ∙ length-append two rest ∙ ap (λ (n : ℕ). n + length rest) pair in
          CutMixed f.is (omega (arith, short, sum))
      | inr b ↦
          let d = cut_takes s.octets rest b.first more b.is in
          let w = mask_fails s m (values_in s.bits b.first.0) b.first.1 e b.next in
          WrongMixed w.0 (record {
            mask = m;
            packed = b.first.0;
            behind = b.first.1;
            fits = below_16 two bytes;
            long = d.size;
            whole = ap (λ (t : List ℕ). 2 ∷ t) (whole
                ∙ ap (λ (t : List ℕ). t ++ rest) (sym (be_bytes_2 two m pair bytes refl))
                ∙ ap (λ (t : List ℕ). to_be_bytes w16 m ++ t) d.text);
            wrong = w.1;
          })
    ]

mixed_fails : (s : Shape) (octets : List ℕ) (e : FileFault) → AreOctets octets
    → mixed_octets_at s octets ≡ Err e → MixedFails s octets e
mixed_fails s octets e bytes h =
    elim (split_fails (field_at 2 octets) (λ y. mixed_behind s y.0 y.1) e h) [
      | inl p ↦
          let f = field_fails 2 octets e p in
          let short : length octets < 2 = f.short in
          CutMixed f.is (omega (arith, short))
      | inr a ↦
          let c = cut_takes 2 octets a.first bytes a.is in
          packed_fails s a.first.0 a.first.1 octets e c.text c.size c.front c.rest a.next
    ]

by_mixed : (s : Shape) (n : ℕ) (octets : List ℕ) (e : FileFault) → n ≡ 2 → MixedFails s octets e
    → GroupFails s (n ∷ octets) e
by_mixed s n octets e two (CutMixed is short) = Cut is (inr (two, short))
by_mixed s n octets e two (WrongMixed is mask) =
    Mask is (subst (λ (k : ℕ). HasWrongMask (k ∷ octets) s) (sym two) mask)

above_2 : (n : ℕ) → (n ≡ 0 → ⊥) → (n ≡ 1 → ⊥) → (n ≡ 2 → ⊥) → 2 < n
above_2 zero a b c = absurd (a refl)
above_2 (suc zero) a b c = absurd (b refl)
above_2 (suc (suc zero)) a b c = absurd (c refl)
above_2 (suc (suc (suc n))) a b c = omega arith

pub group_fails : (s : Shape) (octets : List ℕ) (e : FileFault) → AreOctets octets
    → group_at s octets ≡ Err e → GroupFails s octets e
unfolding group_at
group_fails s [] e bytes h = Cut (same_fault Read Truncated e h) tt
group_fails s (n ∷ octets) e bytes h =
    let gone : Cells = ok_cells (replicate s.samples Missing) octets in
    elim (chosen (eqb n 0) gone (from_1 s n octets) (no_cells e) h) [
      | inl w ↦ absurd (not_both Read (replicate s.samples Missing, octets) e w.1)
      | inr w ↦
          elim (chosen (eqb n 1) (plain_at s octets) (from_2 s n octets) (no_cells e) w.1) [
            | inl u ↦
                let p = plain_fails s octets e u.1 in
                Cut p.0 (inl (eqb-true n 1 u.0, p.1))
            | inr u ↦
                elim (chosen (eqb n 2) (mixed_octets_at s octets) (no_cells BadField) (no_cells e)
                u.1) [
                  | inl v ↦ by_mixed s n octets e (eqb-true n 2 v.0)
                      (mixed_fails s octets e (AreOctets-tail n octets bytes) v.1)
                  | inr v ↦ State (same_fault Read BadField e v.1) (record {
                    first = n;
                    behind = octets;
                    whole = refl;
                    is = above_2 n (eqb-false n 0 w.0) (eqb-false n 1 u.0) (eqb-false n 2 v.0);
                  })
                ]
          ]
    ]

-- ---- what has the fault is read so

packed_short : (s : Shape) (octets : List ℕ) → length octets < 2 + s.octets
    → mixed_octets_at s octets ≡ Err Truncated
packed_short s octets lt =
    elim (cases_lt (length octets) 2) [
      | inl few ↦ ap (λ (r : Result Part FileFault). r >>= λ y. mixed_behind s y.0 y.1)
          (field_short 2 octets few)
      | inr two ↦
          let size : length (drop 2 octets) ≡ length octets - 2 = length-drop 2 octets in
          ap (λ (r : Result Part FileFault). r >>= λ y. mixed_behind s y.0 y.1)
          (field_whole 2 octets two)
          ∙ ap (λ (r : Result Part FileFault). r >>= λ y.
          mixed_by s (from_be_bytes w16 (take 2 octets)) (values_in s.bits y.0) y.1)
          (field_short s.octets (drop 2 octets) (omega (arith, lt, two, size)))
    ]

pub group_cut : (s : Shape) (octets : List ℕ) → IsCutGroup octets s
    → group_at s octets ≡ Err Truncated
unfolding group_at
group_cut s [] h = refl
group_cut s (n ∷ octets) (inl p) =
    ap (λ (k : ℕ). group_at s (k ∷ octets)) p.0
    ∙ ap (λ (r : Result Part FileFault). r >>= λ y. ok_cells (map Value (values_in s.bits y.0)) y.1)
    (field_short s.octets octets p.1)
group_cut s (n ∷ octets) (inr p) =
    ap (λ (k : ℕ). group_at s (k ∷ octets)) p.0 ∙ packed_short s octets p.1

state_above : (s : Shape) (n : ℕ) (octets : List ℕ) → 2 < n → group_at s (n ∷ octets) ≡ Err BadField
unfolding group_at
state_above s n octets lt =
    ap (λ (b : Bool). cond b (ok_cells (replicate s.samples Missing) octets) (from_1 s n octets))
    (ne_eqb n 0 (λ (e : n ≡ 0). absurd (omega (arith, lt, e))))
    ∙ ap (λ (b : Bool). cond b (plain_at s octets) (from_2 s n octets))
    (ne_eqb n 1 (λ (e : n ≡ 1). absurd (omega (arith, lt, e))))
    ∙ ap (λ (b : Bool). cond b (mixed_octets_at s octets) (no_cells BadField))
    (ne_eqb n 2 (λ (e : n ≡ 2). absurd (omega (arith, lt, e))))

pub group_state : (s : Shape) (octets : List ℕ) → HasOctet (λ state. 2 < state) octets
    → group_at s octets ≡ Err BadField
group_state s octets h = ap (group_at s) h.whole ∙ state_above s h.first h.behind h.is

pub group_mask : (s : Shape) (octets : List ℕ) → HasWrongMask octets s
    → group_at s octets ≡ Err MixedGroup
unfolding group_at
group_mask s octets h =
    let two : List ℕ = to_be_bytes w16 h.mask in
    let vs : List ℕ = values_in s.bits h.packed in
    ap (group_at s) h.whole
    ∙ ap (λ (r : Result Part FileFault). r >>= λ y. mixed_behind s y.0 y.1)
    (field_again 2 two (h.packed ++ h.behind) refl)
    ∙ ap (λ (r : Result Part FileFault). r >>= λ y.
    mixed_by s (from_be_bytes w16 two) (values_in s.bits y.0) y.1)
    (field_again s.octets h.packed h.behind h.long)
    ∙ ap (λ (m : ℕ). mixed_by s m vs h.behind) (from_be_bytes-to_be_bytes_2 h.mask h.fits)
    ∙ ap (λ (b : Bool). cond b (no_cells MixedGroup) (ok_cells (cells_by h.mask vs) h.behind))
    (wrong_is s h.mask vs h.wrong)

-- ---- what is read is a group

values_had : (bits : ℕ) (vs : List ℕ) → AllByRecursion (λ (v : ℕ). v < 2 ^ bits) vs
    → AllByRecursion (IsHad bits) (map Value vs)
values_had bits [] fit = tt
values_had bits (v ∷ vs) fit = (fit.0, values_had bits vs fit.1)

cell_had : (bits v : ℕ) (b : Bool) → v < 2 ^ bits → IsHad bits (cond b Contested (Value v))
cell_had bits v true fit = tt
cell_had bits v false fit = fit

cells_had : (bits m : ℕ) (vs : List ℕ) → AllByRecursion (λ (v : ℕ). v < 2 ^ bits) vs
    → AllByRecursion (IsHad bits) (cells_by m vs)
unfolding cells_by
cells_had bits m [] fit = tt
cells_had bits m (v ∷ vs) fit =
    (cell_had bits v (eqb (m % 2) 1) fit.0, cells_had bits (m / 2) vs fit.1)

cells_long : (m : ℕ) (vs : List ℕ) → length (cells_by m vs) ≡ length vs
unfolding cells_by
cells_long m [] = refl
cells_long m (v ∷ vs) = ap suc (cells_long (m / 2) vs)

gone_is : (s : Shape) → IsGroup s (replicate s.samples Missing)
gone_is s = record { whole = length-replicate s.samples Missing; alike = inl refl }

plain_is : (s : Shape) (octets : List ℕ) (x : Read) → IsShape s → AreOctets octets
    → plain_at s octets ≡ Ok x → IsGroup s x.0
plain_is s octets x is bytes e =
    let a
    = split_then (field_at s.octets octets)
    (λ y. ok_cells (map Value (values_in s.bits y.0)) y.1) x e in
    let c = cut_takes s.octets octets a.first bytes a.is in
    let vs : List ℕ = values_in s.bits a.first.0 in
    let same : (map Value vs, a.first.1) ≡ x = ap (λ (r : Cells). given r x) a.next in
    let made : IsGroup s (map Value vs) = record {
      whole = length-map vs Value ∙ values_long s a.first.0 is c.size;
      alike = inr (values_had s.bits vs (values_in-fit s.bits a.first.0));
    } in
    subst (λ (p : Read). IsGroup s p.0) same made

masked_is : (s : Shape) (m : ℕ) (o rest : List ℕ) (x : Read) → IsShape s → length o ≡ s.octets
    → mixed_by s m (values_in s.bits o) rest ≡ Ok x → IsGroup s x.0
masked_is s m o rest x is size e =
    let vs : List ℕ = values_in s.bits o in
    elim (chosen (is_wrong s m vs) (no_cells MixedGroup) (ok_cells (cells_by m vs) rest) (Ok x) e) [
      | inl w ↦ absurd (not_both Read x MixedGroup (sym w.1))
      | inr w ↦
          let same : (cells_by m vs, rest) ≡ x = ap (λ (r : Cells). given r x) w.1 in
          let made : IsGroup s (cells_by m vs) = record {
            whole = cells_long m vs ∙ values_long s o is size;
            alike = inr (cells_had s.bits m vs (values_in-fit s.bits o));
          } in
          subst (λ (p : Read). IsGroup s p.0) same made
    ]

mixed_is : (s : Shape) (octets : List ℕ) (x : Read) → IsShape s → AreOctets octets
    → mixed_octets_at s octets ≡ Ok x → IsGroup s x.0
mixed_is s octets x is bytes e =
    let a = split_then (field_at 2 octets) (λ y. mixed_behind s y.0 y.1) x e in
    let c = cut_takes 2 octets a.first bytes a.is in
    let m : ℕ = from_be_bytes w16 a.first.0 in
    let b
    = split_then (field_at s.octets a.first.1)
    (λ y. mixed_by s m (values_in s.bits y.0) y.1) x a.next in
    let d = cut_takes s.octets a.first.1 b.first c.rest b.is in
    masked_is s m b.first.0 b.first.1 x is d.size b.next

pub group_read : (s : Shape) (octets : List ℕ) (x : Read) → IsShape s → AreOctets octets
    → group_at s octets ≡ Ok x → IsGroup s x.0
unfolding group_at
group_read s [] x is bytes e = absurd (not_both Read x Truncated (sym e))
group_read s (n ∷ octets) x is bytes e =
    let small : AreOctets octets = AreOctets-tail n octets bytes in
    let gone : Cells = ok_cells (replicate s.samples Missing) octets in
    elim (chosen (eqb n 0) gone (from_1 s n octets) (Ok x) e) [
      | inl w ↦
          let same : (replicate s.samples Missing, octets) ≡ x
          = ap (λ (r : Cells). given r x) w.1 in
          subst (λ (p : Read). IsGroup s p.0) same (gone_is s)
      | inr w ↦
          elim (chosen (eqb n 1) (plain_at s octets) (from_2 s n octets) (Ok x) w.1) [
            | inl u ↦ plain_is s octets x is small u.1
            | inr u ↦
                elim (chosen (eqb n 2) (mixed_octets_at s octets) (no_cells BadField) (Ok x) u.1) [
                  | inl v ↦ mixed_is s octets x is small v.1
                  | inr v ↦ absurd (not_both Read x BadField (sym v.1))
                ]
          ]
    ]

-- ---- groups, one after the other

abbrev behind_group : Shape → ℕ → Read → Many
behind_group s n x = groups_at s n x.1 >>= λ y. ok_many (x.0 ∷ y.0) y.1

pub record AreGroups (s : Shape) (n : ℕ) (gs : List Group) : Type 0 where
  pub all : AllByRecursion (IsGroup s) gs
  pub count : length gs ≡ n

pub groups_read : (s : Shape) (n : ℕ) (octets : List ℕ) (x : List Group × List ℕ) → IsShape s
    → AreOctets octets → groups_at s n octets ≡ Ok x → AreGroups s n x.0
unfolding groups_at
groups_read s zero octets x is bytes e =
    let same : ([], octets) ≡ x = ap (λ (r : Many). given r x) e in
    let made : AreGroups s zero [] = record { all = tt; count = refl } in
    subst (λ (p : List Group × List ℕ). AreGroups s zero p.0) same made
groups_read s (suc n) octets x is bytes e =
    let a = split_then (group_at s octets) (behind_group s n) x e in
    let b = split_then (groups_at s n a.first.1) (λ z. ok_many (a.first.0 ∷ z.0) z.1) x a.next in
    let same : (a.first.0 ∷ b.first.0, b.first.1) ≡ x = ap (λ (r : Many). given r x) b.next in
    let front : octets ≡ group_text s a.first.0 ++ a.first.1
    = group_takes s octets a.first is bytes a.is in
    let rest = groups_read s n a.first.1 b.first is
    (behind (group_text s a.first.0) octets a.first.1 bytes front) b.is in
    let made : AreGroups s (suc n) (a.first.0 ∷ b.first.0) = record {
      all = (group_read s octets a.first is bytes a.is, rest.all);
      count = ap suc rest.count;
    } in
    subst (λ (p : List Group × List ℕ). AreGroups s (suc n) p.0) same made

-- groups, and one that fails behind them
pub record GroupsFail (s : Shape) (n : ℕ) (octets : List ℕ) (e : FileFault) : Type 0 where
  pub groups : List Group
  pub rest : List ℕ
  pub all : AllByRecursion (IsGroup s) groups
  pub fewer : length groups < n
  pub text : octets ≡ groups_text s groups ++ rest
  pub wrong : group_at s rest ≡ no_cells e

pub groups_fail : (s : Shape) (n : ℕ) (octets : List ℕ) (e : FileFault) → IsShape s
    → AreOctets octets → groups_at s n octets ≡ Err e → GroupsFail s n octets e
unfolding groups_at
groups_fail s zero octets e is bytes h = absurd (not_both (List Group × List ℕ) ([], octets) e h)
groups_fail s (suc n) octets e is bytes h =
    elim (split_fails (group_at s octets) (behind_group s n) e h) [
      | inl p ↦ record {
        groups = [];
        rest = octets;
        all = tt;
        fewer = omega arith;
        text = refl;
        wrong = p;
      }
      | inr a ↦
          let front : octets ≡ group_text s a.first.0 ++ a.first.1
          = group_takes s octets a.first is bytes a.is in
          elim (split_fails (groups_at s n a.first.1) (λ z. ok_many (a.first.0 ∷ z.0) z.1) e
          a.next) [
            | inl p ↦
                let r = groups_fail s n a.first.1 e is
                (behind (group_text s a.first.0) octets a.first.1 bytes front) p in
                let fewer : length r.groups < n = r.fewer in
                record {
                  groups = a.first.0 ∷ r.groups;
                  rest = r.rest;
                  all = (group_read s octets a.first is bytes a.is, r.all);
                  fewer = omega (arith, fewer);
                  text = front ∙ ap (λ (t : List ℕ). group_text s a.first.0 ++ t) r.text
                      ∙ sym (append_assoc (group_text s a.first.0) (groups_text s r.groups) r.rest);
                  wrong = r.wrong;
                }
            | inr b ↦ absurd (not_both (List Group × List ℕ)
                (a.first.0 ∷ b.first.0, b.first.1) e b.next)
          ]
    ]

pub groups_stop : (s : Shape) (n : ℕ) (gs : List Group) (rest : List ℕ) (e : FileFault) → IsShape s
    → AllByRecursion (IsGroup s) gs → length gs < n → group_at s rest ≡ Err e
    → groups_at s n (groups_text s gs ++ rest) ≡ Err e
unfolding groups_at
groups_stop s zero gs rest e is all few h = absurd (omega (arith, few))
groups_stop s (suc n) [] rest e is all few h = ap (λ (r : Cells). r >>= behind_group s n) h
groups_stop s (suc n) (g ∷ gs) rest e is all few h =
    ap (groups_at s (suc n)) (append_assoc (group_text s g) (groups_text s gs) rest)
    ∙ ap (λ (r : Cells). r >>= behind_group s n)
    (group_again s g (groups_text s gs ++ rest) is all.0)
    ∙ ap (λ (r : Many). r >>= λ y. ok_many (g ∷ y.0) y.1)
    (groups_stop s n gs rest e is all.1 (omega (arith, few)) h)
