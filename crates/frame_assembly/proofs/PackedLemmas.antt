-- Groups as a frame keeps them: one part after the other.
use Rattle.std.proofs.Common.{◌≡◌, ℕ, suc, ◌+◌, ◌*◌, ◌/◌, ◌<◌, ◌≤◌, List, [], ◌∷◌, ◌++◌, length}
use Rattle.std.proofs.Common.{take, drop, map, refl, sym, ap, ◌∙◌, arith, append_assoc}
use Rattle.std.proofs.Common.{length-append}
use Rattle.std.specs.List.{AllByRecursion}
use Rattle.std.proofs.lemmas.List.{drop-append-le, length-drop, length-take-le, map-append}
use Rattle.std.proofs.lemmas.List.{nil_from_length, take-append-le}
use Rattle.std.proofs.Math.Nat.{mul-add, mul-div_cancel_left, mul-suc, mul_assoc}
use Rattle.st_format.specs.declared.cell.Cell.{Cell}
use Rattle.st_format.specs.declared.sampling.Sampling.{Sampling}
use Rattle.st_format.specs.declared.sampling.Sampling.TheVariants.{Ycc422, Ycc444, Rgb}
use Rattle.st_format.specs.declared.sampling.Depth.{Depth}
use Rattle.st_format.specs.declared.sampling.Depth.TheVariants.{D8, D10, D12, D16}
use Rattle.st_format.specs.Cell.{join, known_value}
use Rattle.st_format.specs.Pgroup.{bits_of, pixel_group}
use Rattle.st_format.specs.Raster.{joined_cells}
use Rattle.st_format.specs.Samples.{values_in}
use Rattle.st_format.proofs.WholeOctets.{AllByRecursion-append}
use Rattle.pgroup_pack.proofs.Values.{length-values_in, values_in-append}
use Rattle.frame_assembly.specs.Packed.{IsMark, IsPacked, Joins, cells_from}
use Rattle.frame_assembly.specs.Packed.{packed_cells}

-- A group's bits are those of its samples.
pub record AreSizes (n size samples : ℕ) : Type 0 where
  pub bits : 0 < n
  pub octets : 0 < size
  pub some : 0 < samples
  pub few : samples ≤ 12
  pub agree : 8 * size ≡ n * samples

pub sizes : (s : Sampling) (d : Depth)
    → AreSizes (bits_of d) (pixel_group s d).octets (pixel_group s d).samples
sizes Ycc422 D8 =
    record {
      bits = omega arith;
      octets = omega arith;
      some = omega arith;
      few =
          omega arith;
      agree = refl;
    }
sizes Ycc422 D10 =
    record {
      bits = omega arith;
      octets = omega arith;
      some = omega arith;
      few =
          omega arith;
      agree = refl;
    }
sizes Ycc422 D12 =
    record {
      bits = omega arith;
      octets = omega arith;
      some = omega arith;
      few =
          omega arith;
      agree = refl;
    }
sizes Ycc422 D16 =
    record {
      bits = omega arith;
      octets = omega arith;
      some = omega arith;
      few =
          omega arith;
      agree = refl;
    }
sizes Ycc444 D8 =
    record {
      bits = omega arith;
      octets = omega arith;
      some = omega arith;
      few =
          omega arith;
      agree = refl;
    }
sizes Ycc444 D10 =
    record {
      bits = omega arith;
      octets = omega arith;
      some = omega arith;
      few =
          omega arith;
      agree = refl;
    }
sizes Ycc444 D12 =
    record {
      bits = omega arith;
      octets = omega arith;
      some = omega arith;
      few =
          omega arith;
      agree = refl;
    }
sizes Ycc444 D16 =
    record {
      bits = omega arith;
      octets = omega arith;
      some = omega arith;
      few =
          omega arith;
      agree = refl;
    }
sizes Rgb D8 =
    record {
      bits = omega arith;
      octets = omega arith;
      some = omega arith;
      few =
          omega arith;
      agree = refl;
    }
sizes Rgb D10 =
    record {
      bits = omega arith;
      octets = omega arith;
      some = omega arith;
      few =
          omega arith;
      agree = refl;
    }
sizes Rgb D12 =
    record {
      bits = omega arith;
      octets = omega arith;
      some = omega arith;
      few =
          omega arith;
      agree = refl;
    }
sizes Rgb D16 =
    record {
      bits = omega arith;
      octets = omega arith;
      some = omega arith;
      few =
          omega arith;
      agree = refl;
    }

-- ---- how long the parts are

pub groups_agree : (n size samples k : ℕ) → AreSizes n size samples
    → 8 * (size * k) ≡ n * (samples * k)
groups_agree n size samples k is =
    sym (mul_assoc 8 size k) ∙ ap (λ (x : ℕ). x * k) is.agree ∙ mul_assoc n samples k

pub length-groups : (n size samples k : ℕ) (octets : List ℕ) → AreSizes n size samples
    → length octets ≡ size * k → length (values_in n octets) ≡ samples * k
length-groups n size samples k octets is long =
    length-values_in n octets ∙ ap (λ (x : ℕ). 8 * x / n) long
    ∙ ap (λ (x : ℕ). x / n) (groups_agree n size samples k is)
    ∙ mul-div_cancel_left (samples * k) is.bits

pub length-cells_from : (mark i : ℕ) (vs : List ℕ) → length (cells_from mark i vs) ≡ length vs
unfolding cells_from
length-cells_from mark i [] = refl
length-cells_from mark i (v ∷ vs) = ap suc (length-cells_from mark (i + 1) vs)

-- the first group, and the others
pub first_long : (size k len : ℕ) → len ≡ size * suc k → size ≤ len
first_long size k len e = omega (arith, mul-suc size k)

pub rest_long : (size k : ℕ) (octets : List ℕ) → length octets ≡ size * suc k
    → length (drop size octets) ≡ size * k
rest_long size k octets e = omega (arith, mul-suc size k, length-drop size octets)

pub one_long : (n size samples : ℕ) (octets : List ℕ) → AreSizes n size samples
    → length octets ≡ size → length (values_in n octets) ≡ samples
one_long n size samples octets is long =
    length-groups n size samples 1 octets is (long ∙ (let e : size ≡ size * 1 = omega arith in e))
    ∙ (let e : samples * 1 ≡ samples = omega arith in e)

pub length-packed_cells : (n size samples : ℕ) (marks octets : List ℕ) → AreSizes n size samples
    → length octets ≡ size * length marks
    → length (packed_cells n size marks octets) ≡ samples * length marks
unfolding packed_cells
length-packed_cells n size samples [] octets is long = omega arith
length-packed_cells n size samples (m ∷ marks) octets is long =
    let first : length (take size octets) ≡ size =
    length-take-le size octets (first_long size (length marks) (length octets) long) in
    let here : length (cells_from m 0 (values_in n (take size octets))) ≡ samples =
    length-cells_from m 0 (values_in n (take size octets))
    ∙ one_long n size samples (take size octets) is first in
    let rest : length (packed_cells n size marks (drop size octets)) ≡ samples * length marks =
    length-packed_cells n size samples marks (drop size octets) is
    (rest_long size (length marks) octets long) in
    length-append (cells_from m 0 (values_in n (take size octets)))
    (packed_cells n size marks (drop size octets))
    ∙ omega (arith, here, rest, mul-suc samples (length marks))

-- ---- one part after the other

pub packed_cells-append : (n size : ℕ) (marks octets others rest : List ℕ)
    → length octets ≡ size * length marks
    → packed_cells n size (marks ++ others) (octets ++ rest)
    ≡ packed_cells n size marks octets ++ packed_cells n size others rest
unfolding packed_cells
packed_cells-append n size [] octets others rest long =
    let nil : octets ≡ [] = nil_from_length octets (omega arith) in
    ap (λ (os : List ℕ). packed_cells n size others (os ++ rest)) nil
packed_cells-append n size (m ∷ marks) octets others rest long =
    let le : size ≤ length octets = first_long size (length marks) (length octets) long in
    let here : List Cell = cells_from m 0 (values_in n (take size octets)) in
    ap (λ (os : List ℕ). cells_from m 0 (values_in n os) ++ packed_cells n size (marks ++ others)
    (drop size (octets ++ rest))) (take-append-le size octets rest le)
    ∙ ap (λ (os : List ℕ). here ++ packed_cells n size (marks ++ others) os)
    (drop-append-le size octets rest le)
    ∙ ap (λ (cs : List Cell). here ++ cs)
    (packed_cells-append n size marks (drop size octets) others rest
    (rest_long size (length marks) octets long))
    ∙ sym
    (append_assoc here (packed_cells n size marks (drop size octets))
    (packed_cells n size others rest))

pub both_values : (n size samples k l : ℕ) (os ps : List ℕ) → AreSizes n size samples
    → length os ≡ size * k → length ps ≡ size * l
    → values_in n (os ++ ps) ≡ values_in n os ++ values_in n ps
both_values n size samples k l os ps is first second =
    values_in-append n (samples * k) (samples * l) os ps is.bits
    (ap (λ (x : ℕ). 8 * x) first ∙ groups_agree n size samples k is)
    (ap (λ (x : ℕ). 8 * x) second ∙ groups_agree n size samples l is)

pub IsPacked-append : (n size samples : ℕ) (marks octets others rest : List ℕ)
    → AreSizes n size samples → IsPacked n size samples marks octets
    → IsPacked n size samples others rest
    → IsPacked n size samples (marks ++ others) (octets ++ rest)
IsPacked-append n size samples marks octets others rest is a b = record {
  long =
      length-append octets rest
      ∙ omega (arith, a.long, b.long, mul-add size (length marks) (length others))
      ∙ ap (λ (k : ℕ). size * k) (sym (length-append marks others));
  words = AllByRecursion-append (IsMark samples) marks others a.words b.words;
  known =
      both_values n size samples (length marks) (length others) octets rest is a.long b.long
      ∙ ap (λ (vs : List ℕ). vs ++ values_in n rest) a.known
      ∙ ap (λ (vs : List ℕ). map known_value (packed_cells n size marks octets) ++ vs) b.known
      ∙ sym
      (map-append known_value (packed_cells n size marks octets)
      (packed_cells n size others rest))
      ∙ ap (map known_value) (sym (packed_cells-append n size marks octets others rest a.long));
}

-- lists whose parts are as long have the same parts
pub first_part : {X : Type 0} (xs ys zs ws : List X) → length xs ≡ length zs → xs ++ ys ≡ zs ++ ws
    → xs ≡ zs
first_part [] ys [] ws long e = refl
first_part [] ys (z ∷ zs) ws long e = absurd (omega arith)
first_part (x ∷ xs) ys [] ws long e = absurd (omega arith)
first_part {X} (x ∷ xs) ys (z ∷ zs) ws long e =
    let tails : xs ++ ys ≡ zs ++ ws = cc in
    let heads : x ≡ z = cc in
    let same : xs ≡ zs = first_part xs ys zs ws (omega arith) tails in
    cc

pub second_part : {X : Type 0} (xs ys zs ws : List X) → length xs ≡ length zs → xs ++ ys ≡ zs ++ ws
    → ys ≡ ws
second_part [] ys [] ws long e = e
second_part [] ys (z ∷ zs) ws long e = absurd (omega arith)
second_part (x ∷ xs) ys [] ws long e = absurd (omega arith)
second_part (x ∷ xs) ys (z ∷ zs) ws long e =
    let tails : xs ++ ys ≡ zs ++ ws = cc in
    second_part xs ys zs ws (omega arith) tails

all_first : (P : ℕ → Type 0) (xs ys : List ℕ) → AllByRecursion P (xs ++ ys) → AllByRecursion P xs
all_first P [] ys h = tt
all_first P (x ∷ xs) ys h = (h.0, all_first P xs ys h.1)

all_second : (P : ℕ → Type 0) (xs ys : List ℕ) → AllByRecursion P (xs ++ ys) → AllByRecursion P ys
all_second P [] ys h = h
all_second P (x ∷ xs) ys h = all_second P xs ys h.1

-- the parts of groups that are kept so are kept so
pub record AreParts (n size samples : ℕ) (marks octets others rest : List ℕ) : Type 0 where
  pub first : IsPacked n size samples marks octets
  pub second : IsPacked n size samples others rest

length-map : {X Y : Type 0} (g : X → Y) (xs : List X) → length (map g xs) ≡ length xs
length-map g [] = refl
length-map g (x ∷ xs) = ap suc (length-map g xs)

pub IsPacked-parts : (n size samples : ℕ) (marks octets others rest : List ℕ)
    → AreSizes n size samples → length octets ≡ size * length marks
    → IsPacked n size samples (marks ++ others) (octets ++ rest)
    → AreParts n size samples marks octets others rest
IsPacked-parts n size samples marks octets others rest is long a =
    let rest_long : length rest ≡ size * length others =
    omega (
      arith,
      a.long,
      long,
      length-append octets rest,
      ap (λ (k : ℕ). size * k) (length-append marks others),
      mul-add size (length marks) (length others),
    ) in
    let cs : List Cell = packed_cells n size marks octets in
    let ds : List Cell = packed_cells n size others rest in
    let split : values_in n octets ++ values_in n rest ≡ map known_value cs ++ map known_value ds =
    sym (both_values n size samples (length marks) (length others) octets rest is long rest_long)
    ∙ a.known
    ∙ ap (map known_value) (packed_cells-append n size marks octets others rest long)
    ∙ map-append known_value cs ds in
    let alike : length (values_in n octets) ≡ length (map known_value cs) =
    length-groups n size samples (length marks) octets is long
    ∙ sym
    (length-map known_value cs ∙ length-packed_cells n size samples marks octets is long) in
    record {
      first = record {
        long = long;
        words = all_first (IsMark samples) marks others a.words;
        known =
            first_part (values_in n octets) (values_in n rest) (map known_value cs)
            (map known_value ds) alike split;
      };
      second = record {
        long = rest_long;
        words = all_second (IsMark samples) marks others a.words;
        known =
            second_part (values_in n octets) (values_in n rest) (map known_value cs)
            (map known_value ds) alike split;
      };
    }

pub joined-append : (xs0 bs cs ds : List Cell) → length xs0 ≡ length cs
    → joined_cells (xs0 ++ bs) (cs ++ ds) ≡ joined_cells xs0 cs ++ joined_cells bs ds
joined-append [] bs [] ds long = refl
joined-append [] bs (c ∷ cs) ds long = absurd (omega arith)
joined-append (a ∷ xs0) bs [] ds long = absurd (omega arith)
joined-append (a ∷ xs0) bs (c ∷ cs) ds long =
    ap (λ (xs : List Cell). join a c ∷ xs) (joined-append xs0 bs cs ds (omega arith))

-- Joins of one part and of the next are the joins of both.
pub Joins-append : (n size samples : ℕ) (ms os ms1 os1 ms2 os2 ns ps ns1 ps1 ns2 ps2 : List ℕ)
    → AreSizes n size samples
    → length os ≡ size * length ms → length os1 ≡ size * length ms1 → length ms1 ≡ length ms
    → Joins n size samples ms os ms1 os1 ms2 os2 → Joins n size samples ns ps ns1 ps1 ns2 ps2
    → Joins n size samples (ms ++ ns) (os ++ ps) (ms1 ++ ns1) (os1 ++ ps1) (ms2 ++ ns2) (os2 ++ ps2)
Joins-append n size samples ms os ms1 os1 ms2 os2 ns ps ns1 ps1 ns2 ps2 is long long1 alike a b =
    let xs0 : List Cell = packed_cells n size ms os in
    let bs : List Cell = packed_cells n size ns ps in
    let cs : List Cell = packed_cells n size ms1 os1 in
    let ds : List Cell = packed_cells n size ns1 ps1 in
    let same : length xs0 ≡ length cs =
    length-packed_cells n size samples ms os is long ∙ ap (λ (k : ℕ). samples * k) (sym alike)
    ∙ sym (length-packed_cells n size samples ms1 os1 is long1) in
    record {
      packed = IsPacked-append n size samples ms2 os2 ns2 ps2 is a.packed b.packed;
      long = omega (arith, length-append ms2 ns2, length-append ms ns, a.long, b.long);
      cells =
          packed_cells-append n size ms2 os2 ns2 ps2 a.packed.long
          ∙ ap (λ (xs : List Cell). xs ++ packed_cells n size ns2 ps2) a.cells
          ∙ ap (λ (xs : List Cell). joined_cells xs0 cs ++ xs) b.cells
          ∙ sym (joined-append xs0 bs cs ds same)
          ∙ ap (λ (xs : List Cell). joined_cells xs (cs ++ ds))
          (sym (packed_cells-append n size ms os ns ps long))
          ∙ ap (joined_cells (packed_cells n size (ms ++ ns) (os ++ ps)))
          (sym (packed_cells-append n size ms1 os1 ns1 ps1 long1));
    }
