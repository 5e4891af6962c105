-- Groups of which each sample is offered, and the part of a raster that a segment writes.
use Rattle.std.proofs.Common.{◌≡◌, ℕ, zero, suc, ◌+◌, ◌-◌, ◌*◌, ◌/◌, ◌%◌, ◌<◌, ◌≤◌, List, [], ◌∷◌}
use Rattle.std.proofs.Common.{◌++◌, length, get_or, set, take, drop, map, refl, sym, ap, ◌∙◌, subst}
use Rattle.std.proofs.Common.{inr, arith, append_assoc, length-append}
use Rattle.std.specs.Int.{bit_at}
use Rattle.std.specs.List.{AllByRecursion}
use Rattle.std.proofs.lemmas.List.{length-drop, length-take-le, length-replicate, map-append}
use Rattle.std.proofs.lemmas.List.{nil_from_length}
use Rattle.std.proofs.lemmas.List.{take-append-drop}
use Rattle.std.proofs.lemmas.Nat.Bits.{bit_at-pow_other}
use Rattle.std.proofs.Math.Nat.{div-le_self, mul-add, mul_assoc, mul_comm}
use Rattle.std.proofs.Math.Seq.{get_or-append_seam}
use borrow.Rule.Slice.PartMut.{put_mid}
use Rattle.st_format.specs.declared.cell.Cell.{Cell}
use Rattle.st_format.specs.declared.cell.Cell.TheVariants.{Missing, Value}
use Rattle.st_format.specs.declared.sampling.Sampling.{Sampling}
use Rattle.st_format.specs.declared.sampling.Sampling.TheVariants.{Ycc422, Ycc444, Rgb}
use Rattle.st_format.specs.declared.sampling.Depth.{Depth}
use Rattle.st_format.specs.declared.sampling.Depth.TheVariants.{D8, D10, D12, D16}
use Rattle.st_format.specs.declared.format.Format.{Format}
use Rattle.st_format.specs.Cell.{join, known_value}
use Rattle.st_format.specs.Pgroup.{bits_of, pixel_group}
use Rattle.st_format.specs.Position.{row_groups, row_samples, sample_count, group_count}
use Rattle.st_format.specs.Raster.{Segment, first_number, joined_cells}
use Rattle.st_format.specs.Samples.{values_in}
use Rattle.st_format.proofs.Columns.{row_samples_groups, samples_before}
use Rattle.payload_header.specs.Payload.{IsInside}
use Rattle.frame_assembly.specs.Packed.{IsMark, IsPacked, Joins, cells_from}
use Rattle.frame_assembly.specs.Packed.{marked, packed_cells, whole_marks}
use Rattle.frame_assembly.specs.Written.{written_from}
use Rattle.frame_assembly.proofs.PackedLemmas.{AreSizes, IsPacked-append, both_values, first_long}
use Rattle.frame_assembly.proofs.PackedLemmas.{length-groups, length-packed_cells, one_long}
use Rattle.frame_assembly.proofs.PackedLemmas.{packed_cells-append, rest_long, sizes}
use Rattle.frame_assembly.proofs.Runs.{IsPart, packed_first, times_le}

-- ---- each sample is offered

low_bit : (i : ℕ) → i < 15 → bit_at 32768 i ≡ 0
low_bit i lt = let ne : i ≡ 15 → ⊥ = λ e. absurd (omega arith) in bit_at-pow_other 15 i ne

pub marked_whole : (i v : ℕ) → i < 15 → marked 32768 i v ≡ Value v
unfolding marked
marked_whole i v lt = rw (low_bit i lt) refl

cells_whole : (i : ℕ) (vs : List ℕ) → i + length vs ≤ 15 → cells_from 32768 i vs ≡ map Value vs
unfolding cells_from
cells_whole i [] le = refl
cells_whole i (v ∷ vs) le =
    let here : marked 32768 i v ≡ Value v = marked_whole i v (omega arith) in
    let rest : cells_from 32768 (i + 1) vs ≡ map Value vs = cells_whole (i + 1) vs (omega arith) in
    rw (here, rest) refl

pub whole_cells : (n size samples k : ℕ) (octets : List ℕ) → AreSizes n size samples
    → length octets ≡ size * k
    → packed_cells n size (whole_marks k) octets ≡ map Value (values_in n octets)
unfolding packed_cells
whole_cells n size samples zero octets is long =
    let none : length (values_in n octets) ≡ 0 =
    length-groups n size samples 0 octets is long ∙ omega arith in
    sym (ap (map Value) (nil_from_length (values_in n octets) none))
whole_cells n size samples (suc k) octets is long =
    let first : length (take size octets) ≡ size =
    length-take-le size octets (first_long size k (length octets) long) in
    let rest : length (drop size octets) ≡ size * k = rest_long size k octets long in
    let one : size ≡ size * 1 = omega arith in
    let vs : List ℕ = values_in n (take size octets) in
    let vs_long : length vs ≡ samples = one_long n size samples (take size octets) is first in
    let few = is.few in
    ap (λ (cs : List Cell). cs ++ packed_cells n size (whole_marks k) (drop size octets))
    (cells_whole 0 vs (omega arith))
    ∙ ap (λ (cs : List Cell). map Value vs ++ cs)
    (whole_cells n size samples k (drop size octets) is rest)
    ∙ sym (map-append Value vs (values_in n (drop size octets)))
    ∙ ap (map Value)
    (sym (both_values n size samples 1 k (take size octets) (drop size octets) is
    (first ∙ one) rest))
    ∙ ap (λ (os : List ℕ). map Value (values_in n os)) (take-append-drop size octets)

known_values : (vs : List ℕ) → map known_value (map Value vs) ≡ vs
unfolding known_value
known_values [] = refl
known_values (v ∷ vs) = ap (λ (xs : List ℕ). v ∷ xs) (known_values vs)

whole_words : (samples k : ℕ) → AllByRecursion (IsMark samples) (whole_marks k)
unfolding IsMark
whole_words samples zero = tt
whole_words samples (suc k) = (inr (refl, λ i le lt. low_bit i lt), whole_words samples k)

pub whole_packed : (n size samples k : ℕ) (octets : List ℕ) → AreSizes n size samples
    → length octets ≡ size * k → IsPacked n size samples (whole_marks k) octets
whole_packed n size samples k octets is long = record {
  long = long ∙ ap (λ (j : ℕ). size * j) (sym (length-replicate k 32768));
  words = whole_words samples k;
  known =
      sym (ap (map known_value) (whole_cells n size samples k octets is long)
      ∙ known_values (values_in n octets));
}

-- ---- a part is written

set_seam : (xs ys : List Cell) (x c : Cell) → set (xs ++ x ∷ ys) (length xs) c ≡ xs ++ c ∷ ys
set_seam [] ys x c = refl
set_seam (w ∷ xs) ys x c = ap (λ (zs : List Cell). w ∷ zs) (set_seam xs ys x c)

written_parts : (vs : List ℕ) (xs bs cs : List Cell) → length bs ≡ length vs
    → written_from (length xs) vs (xs ++ (bs ++ cs)) ≡ xs ++ (joined_cells bs (map Value vs) ++ cs)
unfolding written_from
written_parts [] xs [] cs long = refl
written_parts [] xs (b ∷ bs) cs long = absurd (omega arith)
written_parts (v ∷ vs) xs [] cs long = absurd (omega arith)
written_parts (v ∷ vs) xs (b ∷ bs) cs long =
    let c : Cell = join b (Value v) in
    let rest : List Cell = bs ++ cs in
    let read : get_or (xs ++ b ∷ rest) (length xs) Missing ≡ b =
    get_or-append_seam xs b rest Missing in
    let split : xs ++ c ∷ rest ≡ (xs ++ c ∷ []) ++ rest = sym (append_assoc xs (c ∷ []) rest) in
    let long_more : length xs + 1 ≡ length (xs ++ c ∷ []) = sym (length-append xs (c ∷ [])) in
    ap (λ (d : Cell). written_from (length xs + 1) vs
    (set (xs ++ b ∷ rest) (length xs) (join d (Value v)))) read
    ∙ ap (written_from (length xs + 1) vs) (set_seam xs rest b c ∙ split)
    ∙ ap (λ (k : ℕ). written_from k vs ((xs ++ c ∷ []) ++ rest)) long_more
    ∙ written_parts vs (xs ++ c ∷ []) bs cs (omega arith)
    ∙ append_assoc xs (c ∷ []) (joined_cells bs (map Value vs) ++ cs)

-- what a run of a raster's groups leaves when whole groups were joined to it
pub record IsPut (n size samples at : ℕ)
    (marks octets others new_marks new_octets : List ℕ) : Type 0 where
  pub packed : IsPacked n size samples new_marks new_octets
  pub cells : packed_cells n size new_marks new_octets
      ≡ written_from (samples * at) (values_in n others) (packed_cells n size marks octets)

put_here : (n size samples at count : ℕ) (marks octets others part_marks part_octets : List ℕ)
    → AreSizes n size samples → at + count ≤ length marks → length others ≡ size * count
    → IsPacked n size samples marks octets
    → Joins n size samples (take count (drop at marks))
    (take (size * count) (drop (size * at) octets))
    (whole_marks count) others part_marks part_octets
    → IsPut n size samples at marks octets others (put_mid at count marks part_marks)
    (put_mid (size * at) (size * count) octets part_octets)
put_here n size samples at count marks octets others part_marks part_octets is le long packed
    joins =
    let a = packed_first n size samples at marks octets is (omega arith) packed in
    let bc =
    packed_first n size samples count (drop at marks) (drop (size * at) octets) is
    (omega (arith, length-drop at marks)) a.second in
    let am : List ℕ = take at marks in
    let ao : List ℕ = take (size * at) octets in
    let bm : List ℕ = take count (drop at marks) in
    let bo : List ℕ = take (size * count) (drop (size * at) octets) in
    let cm : List ℕ = drop count (drop at marks) in
    let co : List ℕ = drop (size * count) (drop (size * at) octets) in
    let xs : List Cell = packed_cells n size am ao in
    let bs : List Cell = packed_cells n size bm bo in
    let cs : List Cell = packed_cells n size cm co in
    let vs : List ℕ = values_in n others in
    let am_long : length am ≡ at = length-take-le at marks (omega arith) in
    let bm_long : length bm ≡ count =
    length-take-le count (drop at marks) (omega (arith, length-drop at marks)) in
    let xs_long : length xs ≡ samples * at =
    length-packed_cells n size samples am ao is a.first.long
    ∙ ap (λ (k : ℕ). samples * k) am_long in
    let bs_long : length bs ≡ length vs =
    length-packed_cells n size samples bm bo is bc.first.long ∙ ap (λ (k : ℕ). samples * k) bm_long
    ∙ sym (length-groups n size samples count others is long) in
    let tail : IsPacked n size samples (part_marks ++ cm) (part_octets ++ co) =
    IsPacked-append n size samples part_marks part_octets cm co is joins.packed bc.second in
    let old : packed_cells n size marks octets ≡ xs ++ (bs ++ cs) =
    ap (λ (ms : List ℕ). packed_cells n size ms octets) (sym (take-append-drop at marks))
    ∙ ap (packed_cells n size (am ++ drop at marks)) (sym (take-append-drop (size * at) octets))
    ∙ packed_cells-append n size am ao (drop at marks) (drop (size * at) octets) a.first.long
    ∙ ap (λ (zs : List Cell). xs ++ zs)
    (ap (λ (ms : List ℕ). packed_cells n size ms (drop (size * at) octets))
    (sym (take-append-drop count (drop at marks)))
    ∙ ap (packed_cells n size (bm ++ cm))
    (sym (take-append-drop (size * count) (drop (size * at) octets)))
    ∙ packed_cells-append n size bm bo cm co bc.first.long) in
    record {
      packed =
          IsPacked-append n size samples am ao (part_marks ++ cm)
          (part_octets ++ co) is a.first tail;
      cells =
          packed_cells-append n size am ao (part_marks ++ cm) (part_octets ++ co) a.first.long
          ∙ ap (λ (zs : List Cell). xs ++ zs)
          (packed_cells-append n size part_marks part_octets cm co joins.packed.long)
          ∙ ap (λ (zs : List Cell). xs ++ (zs ++ cs))
          (joins.cells ∙ ap (joined_cells bs) (whole_cells n size samples count others is long))
          ∙ sym (written_parts vs xs bs cs bs_long)
          ∙ ap (λ (k : ℕ). written_from k vs (xs ++ (bs ++ cs))) xs_long
          ∙ ap (written_from (samples * at) vs) (sym old);
    }

-- the same in the numbers of the code's slices
pub put_part : (n size samples at count a c oa oc whole : ℕ)
    (marks octets others part_marks part_octets : List ℕ) → IsPart size at count a c oa oc
    → AreSizes n size samples → at + count ≤ length marks
    → length others ≡ size * count → whole ≡ count → IsPacked n size samples marks octets
    → Joins n size samples (take c (drop a marks)) (take oc (drop oa octets))
    (whole_marks whole) others part_marks part_octets
    → IsPut n size samples at marks octets others (put_mid a c marks part_marks)
    (put_mid oa oc octets part_octets)
put_part n size samples at count a c oa oc whole marks octets others part_marks part_octets here is
    le long same packed joins =
    let step : Joins n size samples (take count (drop at marks))
    (take (size * count) (drop (size * at) octets))
    (whole_marks count) others part_marks part_octets =
    subst (λ (k : ℕ). Joins n size samples (take count (drop at marks))
    (take k (drop (size * at) octets))
    (whole_marks count) others part_marks part_octets) here.octets_count_is
    (subst (λ (k : ℕ). Joins n size samples (take count (drop at marks)) (take oc (drop k octets))
    (whole_marks count) others part_marks part_octets) here.octets_at_is
    (subst (λ (k : ℕ). Joins n size samples (take k (drop at marks)) (take oc (drop oa octets))
    (whole_marks count) others part_marks part_octets) here.marks_count_is
    (subst (λ (k : ℕ). Joins n size samples (take c (drop k marks)) (take oc (drop oa octets))
    (whole_marks count) others part_marks part_octets) here.marks_at_is
    (subst (λ (k : ℕ). Joins n size samples (take c (drop a marks)) (take oc (drop oa octets))
    (whole_marks k) others part_marks part_octets) same joins)))) in
    rw (here.marks_at_is, here.marks_count_is, here.octets_at_is, here.octets_count_is)
    (put_here n size samples at count marks octets others part_marks part_octets is le long
    packed step)

-- ---- the groups of a segment

in_row : (s : Sampling) (d : Depth) (width offset len : ℕ) → width % (pixel_group s d).pixels ≡ 0
    → offset % (pixel_group s d).pixels ≡ 0
    → offset + len / (pixel_group s d).octets * (pixel_group s d).pixels ≤ width
    → offset / (pixel_group s d).pixels + len / (pixel_group s d).octets
    ≤ width / (pixel_group s d).pixels
in_row Ycc422 D8 width offset len even at le = omega arith
in_row Ycc422 D10 width offset len even at le = omega arith
in_row Ycc422 D12 width offset len even at le = omega arith
in_row Ycc422 D16 width offset len even at le = omega arith
in_row Ycc444 D8 width offset len even at le = omega arith
in_row Ycc444 D10 width offset len even at le = omega arith
in_row Ycc444 D12 width offset len even at le = omega arith
in_row Ycc444 D16 width offset len even at le = omega arith
in_row Rgb D8 width offset len even at le = omega arith
in_row Rgb D10 width offset len even at le = omega arith
in_row Rgb D12 width offset len even at le = omega arith
in_row Rgb D16 width offset len even at le = omega arith

whole_octets : (s : Sampling) (d : Depth) (len : ℕ) → len % (pixel_group s d).octets ≡ 0
    → len ≡ (pixel_group s d).octets * (len / (pixel_group s d).octets)
whole_octets Ycc422 D8 len whole = omega arith
whole_octets Ycc422 D10 len whole = omega arith
whole_octets Ycc422 D12 len whole = omega arith
whole_octets Ycc422 D16 len whole = omega arith
whole_octets Ycc444 D8 len whole = omega arith
whole_octets Ycc444 D10 len whole = omega arith
whole_octets Ycc444 D12 len whole = omega arith
whole_octets Ycc444 D16 len whole = omega arith
whole_octets Rgb D8 len whole = omega arith
whole_octets Rgb D10 len whole = omega arith
whole_octets Rgb D12 len whole = omega arith
whole_octets Rgb D16 len whole = omega arith

-- the first group of a segment
abbrev pub first_group : Format → Segment → ℕ
first_group f s = s.row * row_groups f + s.offset / (pixel_group f.sampling f.depth).pixels

pub swap_first : (a b c : ℕ) → a * (b * c) ≡ b * (a * c)
swap_first a b c = sym (mul_assoc a b c) ∙ ap (λ (x : ℕ). x * c) (mul_comm a b) ∙ mul_assoc b a c

pub sample_count_groups : (f : Format)
    → (pixel_group f.sampling f.depth).samples * group_count f ≡ sample_count f
sample_count_groups f =
    swap_first (pixel_group f.sampling f.depth).samples f.height (row_groups f)
    ∙ ap (λ (x : ℕ). f.height * x) (row_samples_groups f)

pub first_sample : (f : Format) (s : Segment) → IsInside s f
    → (pixel_group f.sampling f.depth).samples * first_group f s ≡ first_number f s
first_sample f s is =
    let k : ℕ = (pixel_group f.sampling f.depth).samples in
    mul-add k (s.row * row_groups f) (s.offset / (pixel_group f.sampling f.depth).pixels)
    ∙ ap (λ (x : ℕ). x + k * (s.offset / (pixel_group f.sampling f.depth).pixels))
    (swap_first k s.row (row_groups f) ∙ ap (λ (x : ℕ). s.row * x) (row_samples_groups f))
    ∙ ap (λ (x : ℕ). s.row * row_samples f + x)
    (samples_before f.sampling f.depth s.offset is.at_group)

pub row_ends : (row height w n : ℕ) → row < height → n ≤ w → row * w + n ≤ height * w
row_ends row height w n lt le = grind (arith)

pub groups_end : (f : Format) (s : Segment) → IsInside s f
    → first_group f s + length s.octets / (pixel_group f.sampling f.depth).octets ≤ group_count f
groups_end f s is =
    let inner =
    in_row f.sampling f.depth f.width s.offset
    (length s.octets) f.whole_width.whole_groups is.at_group is.columns in
    omega (
      arith,
      row_ends s.row f.height (row_groups f)
          (s.offset / (pixel_group f.sampling f.depth).pixels + length s.octets /
          (pixel_group f.sampling f.depth).octets) is.row inner,
    )

-- a segment has no more groups than a row may have
pub few_groups : (f : Format) (s : Segment) → IsInside s f
    → length s.octets / (pixel_group f.sampling f.depth).octets ≤ 8192
few_groups f s is =
    let inner =
    in_row f.sampling f.depth f.width s.offset
    (length s.octets) f.whole_width.whole_groups is.at_group is.columns in
    omega (
      arith,
      inner,
      div-le_self f.width (pixel_group f.sampling f.depth).pixels,
      f.whole_width.most,
    )

pub segment_octets : (f : Format) (s : Segment) → IsInside s f
    → length s.octets
    ≡ (pixel_group f.sampling f.depth).octets *
    (length s.octets / (pixel_group f.sampling f.depth).octets)
segment_octets f s is = whole_octets f.sampling f.depth (length s.octets) is.whole_groups

pub cells_long : (f : Format) (marks octets : List ℕ) → length marks ≡ group_count f
    → IsPacked (bits_of f.depth) (pixel_group f.sampling f.depth).octets
    (pixel_group f.sampling f.depth).samples marks octets
    → length (packed_cells (bits_of f.depth) (pixel_group f.sampling f.depth).octets marks octets)
    ≡ sample_count f
cells_long f marks octets whole packed =
    length-packed_cells (bits_of f.depth) (pixel_group f.sampling f.depth).octets
    (pixel_group f.sampling f.depth).samples marks octets (sizes f.sampling f.depth) packed.long
    ∙ ap (λ (k : ℕ). (pixel_group f.sampling f.depth).samples * k) whole ∙ sample_count_groups f

-- a part of whole marks
pub other_marks_same : (n size samples : ℕ) (marks same_marks octets : List ℕ) → marks ≡ same_marks
    → IsPacked n size samples marks octets → IsPacked n size samples same_marks octets
other_marks_same n size samples marks same_marks octets e packed =
    subst (λ (ms : List ℕ). IsPacked n size samples ms octets) e packed

-- as many octets as a segment has
pub slice_long : (size z at len many : ℕ) (octets : List ℕ) → z ≡ size → len ≡ size * (len / size)
    → length octets ≡ size * many → at + len / size ≤ many
    → len ≡ length (take (z * (at + len / z) - z * at) (drop (z * at) octets))
slice_long size z at len many octets same whole long le =
    let count : ℕ = len / size in
    let room : size * (at + count) ≤ size * many = times_le size (at + count) many le in
    let both : size * (at + count) ≡ size * at + size * count = mul-add size at count in
    let here : len ≡ length (take (size * (at + count) - size * at) (drop (size * at) octets)) =
    whole ∙ sym
    (length-take-le (size * (at + count) - size * at) (drop (size * at) octets)
    (omega (arith, length-drop (size * at) octets)) ∙ omega arith) in
    subst (λ (x : ℕ). len ≡ length (take (x * (at + len / x) - x * at) (drop (x * at) octets)))
    (sym same) here
