-- Runs of the raster: their rows, their samples and their octets.
use Rattle.std.proofs.Common.{◌≡◌, ℕ, zero, suc, ◌+◌, ◌-◌, ◌*◌, ◌/◌, ◌%◌, ◌<◌, ◌≤◌, inl, inr, List}
use Rattle.std.proofs.Common.{[], ◌∷◌, ◌++◌, length, map, get_or, take, drop, drop-cons, refl, sym}
use Rattle.std.proofs.Common.{ap, ◌∙◌, subst, arith}
use Rattle.std.specs.List.{All, flat_map, range_with_len, AllByRecursion}
use Rattle.std.proofs.lemmas.Bool.{cases_lt}
use Rattle.std.proofs.lemmas.Nat.{mul-le}
use Rattle.std.proofs.Math.Nat.{div-mul-le_self, mul_assoc}
use Rattle.std.proofs.Common.{append_assoc}
use Rattle.std.proofs.lemmas.List.{length-append, length-take-le, length-drop, map-append}
use Rattle.std.proofs.lemmas.List.{take_all}
use Rattle.std.proofs.lemmas.List.Elements.{All-from_recursion, All-take, All-drop}
use Rattle.std.proofs.lemmas.List.FromFn.{length-map-range_with_len}
use Rattle.st_format.specs.declared.format.Format.{Format}
use Rattle.st_format.specs.declared.sampling.Sampling.{Sampling}
use Rattle.st_format.specs.declared.sampling.Sampling.TheVariants.{Ycc422, Ycc444, Rgb}
use Rattle.st_format.specs.declared.sampling.Depth.{Depth}
use Rattle.st_format.specs.declared.sampling.Depth.TheVariants.{D8, D10, D12, D16}
use Rattle.st_format.specs.Pgroup.{pixel_group, bits_of}
use Rattle.st_format.specs.Picture.{Values, IsPicture, FitsDepth}
use Rattle.st_format.specs.Position.{run_columns, run_samples, sample_count, row_groups}
use Rattle.pgroup_pack.specs.Packing.{Agree}
use Rattle.payload_header.specs.Payload.{group_of}
use Rattle.packet_plan.specs.declared.run.PacketRun.{PacketRun}
use Rattle.packet_plan.specs.Plan.{IsRun, group_octets, run_groups, numbers}
use Rattle.st_format.specs.Position.{group_count}
use Rattle.packet_plan.specs.Sent.{sample, group_samples, group_values, run_values}
use Rattle.packet_plan.specs.Text.{HasHead, run_octets}
use Rattle.st_format.proofs.SpelledOctets.{length-octets_in}
use Rattle.packet_plan.proofs.RunOctets.{groups_bits}
use Rattle.packet_plan.proofs.Packets.{range-append, split}

-- ---- rows

before_end : (r h w : ℕ) → r * w < h * w → r < h
before_end r h w lt =
    elim (cases_lt r h) [
      | inl a ↦ a
      | inr a ↦ absurd
          (omega (arith, mul-le h w r w a (omega arith)))
    ]

-- Runs that join to groups of the raster are of its rows.
pub rows_below : (f : Format) (rs : List PacketRun) (a n : ℕ) → AllByRecursion (IsRun f) rs
    → flat_map (numbers f) rs ≡ range_with_len a n → a + n ≤ group_count f
    → AllByRecursion (λ r. r.row < f.height) rs
rows_below f [] a n runs whole le = tt
rows_below f (r ∷ rs) a n runs whole le =
    let w : ℕ = row_groups f in
    let s = split r.groups a n (r.row * w + r.first) (flat_map (numbers f) rs) runs.0.some whole in
    let some = runs.0.some in
    let start = s.start in
    let sum = s.sum in (
      before_end r.row f.height w (omega arith),
      rows_below f rs (a + r.groups) s.left runs.1 s.rest (omega arith),
    )

-- ---- heads

columns_of : (s : Sampling) (d : Depth) (w : ℕ)
    → w / (pixel_group s d).pixels * (pixel_group s d).pixels ≤ w
columns_of s d w = div-mul-le_self w (pixel_group s d).pixels

-- a run lies in the columns
pub columns : (f : Format) (r : PacketRun) → IsRun f r
    → (r.first + r.groups) * (group_of f).pixels ≤ f.width
columns f r is =
    let more =
    mul-le (r.first + r.groups) (group_of f).pixels (row_groups f)
    (group_of f).pixels is.inside (omega arith) in
    omega (arith, columns_of f.sampling f.depth f.width)

pub have_heads : (f : Format) (size : ℕ) (rs : List PacketRun) → size ≤ 9000
    → group_octets f * run_groups rs ≤ size → AllByRecursion (IsRun f) rs
    → AllByRecursion (λ r. r.row < f.height) rs
    → AllByRecursion (HasHead f) rs
have_heads f size [] most le runs rows = tt
have_heads f size (r ∷ rs) most le runs rows =
    let o : ℕ = group_octets f in
    let up : o * (r.groups + run_groups rs) ≡ r.groups * o + o * run_groups rs = omega arith in
    let inside : (r.first + r.groups) * (group_of f).pixels ≤ f.width = columns f r runs.0 in
    let parts : (r.first + r.groups) * (group_of f).pixels
    ≡ r.first * (group_of f).pixels + r.groups * (group_of f).pixels = omega arith in (
      record {
        run = runs.0;
        row = rows.0;
        small = omega arith;
        column =
            omega (arith, f.whole_width.most);
      },
      have_heads f size rs most (omega arith) runs.1 rows.1,
    )

-- ---- samples

map-range-append : {X : Type 0} (h : ℕ → X) (a m n b t : ℕ) → a + m ≡ b → m + n ≡ t
    → map h (range_with_len a m) ++ map h (range_with_len b n) ≡ map h (range_with_len a t)
map-range-append h a m n b t e f =
    sym (map-append h (range_with_len a m) (range_with_len b n))
    ∙ ap (map h) (range-append a m n b t e f)

pub groups_joined : {X : Type 0} (h : ℕ → X) (s g n : ℕ)
    → flat_map (λ i. map h (range_with_len (i * s) s)) (range_with_len g n)
    ≡ map h (range_with_len (g * s) (n * s))
groups_joined h s g zero = let z : zero * s ≡ 0 =
    omega arith in sym (ap (λ (k : ℕ). map h (range_with_len (g * s) k)) z)
groups_joined h s g (suc n) =
    ap (λ (xs : List _). map h (range_with_len (g * s) s) ++ xs) (groups_joined h s (g + 1) n)
    ∙ map-range-append h (g * s) s (n * s) ((g + 1) * s) (suc n * s) (omega arith) (omega arith)

pub row_by : (s : Sampling) (d : Depth) (w : ℕ) → w % (pixel_group s d).pixels ≡ 0
    → w / (pixel_group s d).pixels * (pixel_group s d).samples ≡ w / run_columns s * run_samples s
row_by Ycc422 D8 w e = omega arith
row_by Ycc422 D10 w e = omega arith
row_by Ycc422 D12 w e = omega arith
row_by Ycc422 D16 w e = omega arith
row_by Ycc444 D8 w e = omega arith
row_by Ycc444 D10 w e = omega arith
row_by Ycc444 D12 w e = omega arith
row_by Ycc444 D16 w e = omega arith
row_by Rgb D8 w e = omega arith
row_by Rgb D10 w e = omega arith
row_by Rgb D12 w e = omega arith
row_by Rgb D16 w e = omega arith

-- the samples of all groups are all samples
pub count_is : (f : Format) → group_count f * group_samples f ≡ sample_count f
count_is f =
    mul_assoc f.height (f.width / (group_of f).pixels) (group_samples f)
    ∙ ap (λ (k : ℕ). f.height * k) (row_by f.sampling f.depth f.width f.whole_width.whole_groups)

slice_map : (xs : List ℕ) (a n : ℕ) → a + n ≤ length xs
    → map (λ k. get_or xs k 0) (range_with_len a n) ≡ take n (drop a xs)
slice_map xs a zero le = refl
slice_map xs a (suc n) le =
    let up : a + 1 ≡ suc a = omega arith in
    ap (λ (ys : List ℕ). get_or xs a 0 ∷ ys)
    (slice_map xs (a + 1) n (omega arith) ∙ ap (λ (k : ℕ). take n (drop k xs)) up)
    ∙ ap (take (suc n)) (sym (drop-cons xs a 0 (omega arith)))

pub group_below : (f : Format) (r : PacketRun) → IsRun f r → r.row < f.height
    → r.row * row_groups f + r.first + r.groups ≤ group_count f
group_below f r is lt =
    let up : (r.row + 1) * row_groups f ≡ r.row * row_groups f + row_groups f = omega arith in
    omega (
      arith,
      is.inside,
      mul-le (r.row + 1) (row_groups f) f.height (row_groups f) (omega arith) (omega arith),
    )

-- A run's samples are of the raster.
pub run_within : (f : Format) (r : PacketRun) → IsRun f r → r.row < f.height
    → (r.row * row_groups f + r.first) * group_samples f + r.groups * group_samples f
    ≤ sample_count f
run_within f r is lt =
    let s : ℕ = group_samples f in
    let g : ℕ = r.row * row_groups f + r.first in
    let up : (g + r.groups) * s ≡ g * s + r.groups * s = omega arith in
    omega (
      arith,
      mul-le (g + r.groups) s (group_count f) s (group_below f r is lt) (omega arith),
      count_is f,
    )

-- A run's values are a slice of the picture's.
pub run_slice : (p : Values) (r : PacketRun) → length p.samples ≡ sample_count p.format
    → IsRun p.format r → r.row < p.format.height
    → run_values p r
    ≡ take (r.groups * group_samples p.format)
    (drop ((r.row * row_groups p.format + r.first) * group_samples p.format) p.samples)
run_slice p r whole is lt =
    let s : ℕ = group_samples p.format in
    groups_joined (sample p) s (r.row * row_groups p.format + r.first) r.groups
    ∙ slice_map p.samples ((r.row * row_groups p.format + r.first) * s) (r.groups * s)
    (omega (arith, run_within p.format r is lt))

-- A run's values fit the depth.
pub run_fits : (p : Values) (r : PacketRun) → IsPicture p → HasHead p.format r
    → All (FitsDepth p.format) (run_values p r)
run_fits p r is head =
    let s : ℕ = group_samples p.format in
    let a : ℕ = (r.row * row_groups p.format + r.first) * s in
    subst (All (FitsDepth p.format)) (sym (run_slice p r is.whole head.run head.row))
    (All-take (FitsDepth p.format) (r.groups * s) (drop a p.samples)
    (All-drop (FitsDepth p.format) a p.samples
    (All-from_recursion (FitsDepth p.format) p.samples is.fit)))

-- in the code's numbers
pub run_inside : (p : Values) (r : PacketRun) (w s n : ℕ) → IsPicture p → HasHead p.format r
    → w ≡ row_groups p.format → s ≡ group_samples p.format → n ≡ length p.samples
    → (r.row * w + r.first) * s + r.groups * s ≤ n
run_inside p r w s n is head ew es en =
    rw (ew, es, en, is.whole) (run_within p.format r head.run head.row)

pub run_is : (p : Values) (r : PacketRun) (w s : ℕ) (xs mid out : List ℕ) → IsPicture p
    → HasHead p.format r
    → w ≡ row_groups p.format → s ≡ group_samples p.format → xs ≡ p.samples
    → mid ≡ drop ((r.row * w + r.first) * s) xs → out ≡ take (r.groups * s) mid
    → out ≡ run_values p r
run_is p r w s xs mid out is head ew es ex em eo =
    eo ∙ ap (take (r.groups * s)) em
    ∙ ap (λ (k : ℕ). take (r.groups * s) (drop ((r.row * k + r.first) * s) xs)) ew
    ∙ ap (λ (k : ℕ). take (r.groups * k) (drop ((r.row * row_groups p.format + r.first) * k) xs)) es
    ∙ ap
    (λ (ys : List ℕ). take (r.groups * group_samples p.format)
    (drop ((r.row * row_groups p.format + r.first) * group_samples p.format) ys)) ex
    ∙ sym (run_slice p r is.whole head.run head.row)

-- ---- octets

length-groups : (p : Values) (g n : ℕ)
    → length (flat_map (group_values p) (range_with_len g n)) ≡ n * group_samples p.format
length-groups p g zero = omega arith
length-groups p g (suc n) =
    let s : ℕ = group_samples p.format in
    let one : length (group_values p g) ≡ s = length-map-range_with_len (sample p) (g * s) s in
    let more = length-groups p (g + 1) n in
    let up : suc n * s ≡ n * s + s = omega arith in
    omega (
      arith,
      length-append (group_values p g) (flat_map (group_values p) (range_with_len (g + 1) n)),
    )

-- as many bits as its octets have
pub run_bits : (p : Values) (r : PacketRun)
    → bits_of p.format.depth * length (run_values p r) ≡ 8 * (r.groups * group_octets p.format)
unfolding group_octets
run_bits p r =
    ap (λ (k : ℕ). bits_of p.format.depth * k)
    (length-groups p (r.row * row_groups p.format + r.first) r.groups)
    ∙ groups_bits p.format.sampling p.format.depth r.groups

pub length-run : (p : Values) (r : PacketRun)
    → length (run_octets p r) ≡ r.groups * group_octets p.format
length-run p r =
    length-octets_in (bits_of p.format.depth) (run_values p r) (r.groups * group_octets p.format)
    (run_bits p r)

-- in the code's numbers
pub octets_are : (p : Values) (r : PacketRun) (f : Format) (o : ℕ) → f ≡ p.format
    → o ≡ group_octets f → r.groups * o ≡ length (run_octets p r)
octets_are p r f o ef eo =
    ap (λ (k : ℕ). r.groups * k) (eo ∙ ap group_octets ef) ∙ sym (length-run p r)

pub run_agrees : (p : Values) (r : PacketRun) (f : Format) (o at : ℕ) (buf vs : List ℕ)
    → f ≡ p.format → o ≡ group_octets f → vs ≡ run_values p r
    → at + length (run_octets p r) ≤ length buf
    → Agree f (length (take (at + r.groups * o - at) (drop at buf))) (length vs)
run_agrees p r f o at buf vs ef eo ev room =
    let n : ℕ = r.groups * o in
    let count : at + n - at ≡ n = omega arith in
    let long : length (take n (drop at buf)) ≡ n =
    length-take-le n (drop at buf)
    (omega (arith, room, octets_are p r f o ef eo, length-drop at buf)) in
    ap (λ (k : ℕ). 8 * length (take k (drop at buf))) count
    ∙ ap (λ (k : ℕ). 8 * k) (long ∙ ap (λ (k : ℕ). r.groups * k) (eo ∙ ap group_octets ef))
    ∙ sym (run_bits p r)
    ∙ ap (λ (g : Format). bits_of g.depth * length (run_values p r)) (sym ef)
    ∙ ap (λ (xs : List ℕ). bits_of f.depth * length xs) (sym ev)

pub length-runs : (p : Values) (rs : List PacketRun)
    → length (flat_map (run_octets p) rs) ≡ group_octets p.format * run_groups rs
length-runs p [] = omega arith
length-runs p (r ∷ rs) =
    let up : group_octets p.format * (r.groups + run_groups rs)
    ≡ r.groups * group_octets p.format + group_octets p.format * run_groups rs = omega arith in
    omega (
      arith,
      length-append (run_octets p r) (flat_map (run_octets p) rs),
      length-run p r,
      length-runs p rs,
    )

-- ---- bounds

pub place_below : (f : Format) (r : PacketRun) (w : ℕ) → HasHead f r → w ≡ row_groups f → w ≤ 8192
    → r.row * w + r.first ≤ 8192 * 8192 + 8192
place_below f r w head e most =
    omega (
      arith,
      head.run.inside,
      mul-le r.row w 8192 8192 (omega (arith, head.row, f.whole_height.most)) most,
    )

pub groups_below : (f : Format) (r : PacketRun) (w : ℕ) → HasHead f r → w ≡ row_groups f → w ≤ 8192
    → r.groups ≤ 8192
groups_below f r w head e most = omega (arith, head.run.inside)

-- ---- the first of the runs that are left, and those behind it

abbrev pub rest_of : List PacketRun → List PacketRun
rest_of rest = take (length rest - 1) (drop 1 rest)

pub first_written : (h : PacketRun → List ℕ) (rest : List PacketRun) (d : PacketRun)
    (old new text : List ℕ) → 1 ≤ length rest → new ≡ old ++ h (get_or rest 0 d)
    → old ++ flat_map h rest ≡ text → new ++ flat_map h (rest_of rest) ≡ text
first_written h [] d old new text some step all = absurd (omega arith)
first_written h (r ∷ rs) d old new text some step all =
    ap (λ (xs : List ℕ). xs ++ flat_map h (rest_of (r ∷ rs))) step
    ∙ ap (λ (qs : List PacketRun). (old ++ h r) ++ flat_map h qs)
    (take_all (length (r ∷ rs) - 1) rs (omega arith))
    ∙ append_assoc old (h r) (flat_map h rs) ∙ all

pub first_counted : (h : PacketRun → List ℕ) (rest : List PacketRun) (d : PacketRun) (a b n : ℕ)
    → 1 ≤ length rest → b ≡ a + length (h (get_or rest 0 d)) → a + length (flat_map h rest) ≡ n
    → b + length (flat_map h (rest_of rest)) ≡ n
first_counted h [] d a b n some step all = absurd (omega arith)
first_counted h (r ∷ rs) d a b n some step all =
    ap (λ (qs : List PacketRun). b + length (flat_map h qs))
    (take_all (length (r ∷ rs) - 1) rs (omega arith))
    ∙ omega (arith, step, all, length-append (h r) (flat_map h rs))

pub first_fits : (h : PacketRun → List ℕ) (rest : List PacketRun) (d : PacketRun) (a n : ℕ)
    → 1 ≤ length rest → a + length (flat_map h rest) ≤ n → a + length (h (get_or rest 0 d)) ≤ n
first_fits h [] d a n some le = absurd (omega arith)
first_fits h (r ∷ rs) d a n some le = omega (arith, le, length-append (h r) (flat_map h rs))

pub first_holds : (P : PacketRun → Type 0) (rest : List PacketRun) (d : PacketRun)
    → 1 ≤ length rest → AllByRecursion P rest → P (get_or rest 0 d)
first_holds P [] d some all = absurd (omega arith)
first_holds P (r ∷ rs) d some all = all.0

pub rest_holds : (P : PacketRun → Type 0) (rest : List PacketRun) → 1 ≤ length rest
    → AllByRecursion P rest → AllByRecursion P (rest_of rest)
rest_holds P [] some all = absurd (omega arith)
rest_holds P (r ∷ rs) some all =
    subst (AllByRecursion P) (sym (take_all (length (r ∷ rs) - 1) rs (omega arith))) all.1
