-- Samples of groups that are settled part by part.
use Rattle.std.proofs.Common.{◌≡◌, ℕ, ◌+◌, ◌-◌, ◌*◌, ◌/◌, ◌%◌, ◌<◌, ◌≤◌, List, [], ◌∷◌, ◌++◌}
use Rattle.std.proofs.Common.{length, get_or, take, drop, map, refl, sym, ap, ◌∙◌, subst, inl, inr}
use Rattle.std.proofs.Common.{arith, length-append}
use Rattle.std.specs.List.{range_with_len}
use Rattle.std.proofs.lemmas.Bool.{cases_lt}
use Rattle.std.proofs.lemmas.List.{get_or-append-add, get_or-drop, get_or-take, get_or_past}
use Rattle.std.proofs.lemmas.List.{length-drop, length-take-le}
use Rattle.std.proofs.lemmas.List.FromFn.{get_or-map-range_with_len}
use Rattle.std.proofs.Math.ListN.{get_or-append}
use Rattle.std.proofs.Math.Nat.{div-add-mod, dvd-mul_left, mod-eq_of_lt, mod-lt, mod-mod_of_dvd}
use Rattle.std.proofs.Math.Nat.{mul-add, mul-add-mod_self_left, mul_assoc}
use borrow.Rule.Slice.PartMut.{put_mid}
use Rattle.st_format.specs.declared.cell.Cell.{Cell}
use Rattle.st_format.specs.declared.cell.Cell.TheVariants.{Missing}
use Rattle.st_format.specs.declared.sampling.Depth.{Depth}
use Rattle.st_format.specs.declared.sampling.Depth.TheVariants.{D8, D10, D12, D16}
use Rattle.st_format.specs.declared.format.Format.{Format}
use Rattle.st_format.specs.declared.sampling.Sampling.{Sampling}
use Rattle.st_format.specs.declared.sampling.Sampling.TheVariants.{Ycc422, Ycc444, Rgb}
use Rattle.st_format.specs.Pgroup.{bits_of, pixel_group}
use Rattle.st_format.specs.Position.{component_in_row, run}
use Rattle.st_format.specs.Samples.{values_in}
use Rattle.st_format.proofs.PictureLemmas.{all_set}
use Rattle.frame_assembly.specs.Packed.{ArePacked, cells_in, marked}
use Rattle.frame_assembly.specs.Settled.{IsSettledTo, settled_cell, settled_numbers}
use Rattle.frame_assembly.proofs.PackedLemmas.{length-groups, length-packed_cells, sizes}
use Rattle.frame_assembly.proofs.CellLemmas.{get_or-number, group_below}
use Rattle.frame_assembly.proofs.Runs.{IsPart, times_le}
use Rattle.frame_assembly.proofs.Segments.{marked_whole}
use Rattle.frame_assembly.proofs.GroupJoins.{marked_absent}

-- ---- elements of a part, and of a list with a part written over

pub get_or-part : (a c j : ℕ) (xs : List ℕ) → j < c
    → get_or (take c (drop a xs)) j 0 ≡ get_or xs (a + j) 0
get_or-part a c j xs lt = get_or-take c (drop a xs) j 0 lt ∙ get_or-drop a xs j 0

length-put_mid : (a c : ℕ) (xs part : List ℕ) → a + c ≤ length xs → length part ≡ c
    → length (put_mid a c xs part) ≡ length xs
length-put_mid a c xs part le long =
    omega (
      arith,
      length-append (take a xs) (part ++ drop c (drop a xs)),
      length-append part (drop c (drop a xs)),
      length-take-le a xs (omega arith),
      length-drop c (drop a xs),
      length-drop a xs,
      long,
    )

before_part : (a c k : ℕ) (xs part : List ℕ) → a ≤ length xs → k < a
    → get_or (put_mid a c xs part) k 0 ≡ get_or xs k 0
before_part a c k xs part le lt =
    get_or-append (take a xs) (part ++ drop c (drop a xs)) 0 k
    (omega (arith, length-take-le a xs le)) ∙ get_or-take a xs k 0 lt

in_part : (a c j : ℕ) (xs part : List ℕ) → a ≤ length xs → j < length part
    → get_or (put_mid a c xs part) (a + j) 0 ≡ get_or part j 0
in_part a c j xs part le lt =
    ap (λ (k : ℕ). get_or (take a xs ++ (part ++ drop c (drop a xs))) (k + j) 0)
    (sym (length-take-le a xs le))
    ∙ get_or-append-add (take a xs) (part ++ drop c (drop a xs)) j 0
    ∙ get_or-append part (drop c (drop a xs)) 0 j lt

behind_part : (a c k : ℕ) (xs part : List ℕ) → a ≤ length xs → length part ≡ c → a + c ≤ k
    → get_or (put_mid a c xs part) k 0 ≡ get_or xs k 0
behind_part a c k xs part le long past =
    let h : ℕ = k - (a + c) in
    let here : k ≡ length (take a xs) + (length part + h) = omega (arith, length-take-le a xs le) in
    let there : a + (c + h) ≡ k = omega arith in
    ap (λ (j : ℕ). get_or (take a xs ++ (part ++ drop c (drop a xs))) j 0) here
    ∙ get_or-append-add (take a xs) (part ++ drop c (drop a xs)) (length part + h) 0
    ∙ get_or-append-add part (drop c (drop a xs)) h 0
    ∙ get_or-drop c (drop a xs) h 0 ∙ get_or-drop a xs (c + h) 0
    ∙ ap (λ (j : ℕ). get_or xs j 0) there

-- ---- a loop over the parts

pub none_settled : (s : ℕ) (marks : List ℕ) (b : ℕ → ℕ) (old : List ℕ)
    → IsSettledTo s 0 marks b old old
none_settled s marks b old = record {
  long = refl;
  settled = λ g i below inside. absurd (omega arith);
  others = λ k le. refl;
}

sample_below : (s g i many : ℕ) → g < many → i < s → s * g + i < s * many
sample_below s g i many below inside =
    omega (arith, times_le s (g + 1) many (omega arith), mul-add s g 1)

-- one part more
more_settled : (s at count : ℕ) (marks part_marks : List ℕ) (b pb : ℕ → ℕ) (old now part : List ℕ)
    → at + count ≤ length marks → length old ≡ s * length marks
    → ((h : ℕ) → h < count → get_or part_marks h 0 ≡ get_or marks (at + h) 0)
    → ((j : ℕ) → j < s * count → pb j ≡ b (s * at + j))
    → IsSettledTo s at marks b old now
    → IsSettledTo s count part_marks pb (take (s * count) (drop (s * at) now)) part
    → IsSettledTo s (at + count) marks b old (put_mid (s * at) (s * count) now part)
more_settled s at count marks part_marks b pb old now part le long marks_are base_is so_far step =
    let a : ℕ = s * at in
    let c : ℕ = s * count in
    let room : a + c ≤ length now =
    omega (
      arith,
      so_far.long,
      long,
      times_le s (at + count) (length marks) le,
      mul-add s at count,
    ) in
    let part_long : length part ≡ c =
    step.long ∙ length-take-le c (drop a now) (omega (arith, length-drop a now)) in
    let new : List ℕ = put_mid a c now part in
    record {
      long = length-put_mid a c now part room part_long ∙ so_far.long;
      settled = λ g i below inside. elim (cases_lt g at) [
        | inl lt ↦ before_part a c (s * g + i) now part (omega arith)
            (sample_below s g i at lt inside) ∙ so_far.settled g i lt inside
        | inr ge ↦
            let h : ℕ = g - at in
            let j : ℕ = s * h + i in
            let group : at + h ≡ g = omega arith in
            let number : s * g + i ≡ a + j =
            ap (λ (x : ℕ). s * x + i) (sym group) ∙ omega (arith, mul-add s at h) in
            let lt : j < c = sample_below s h i count (omega arith) inside in
            let mark : get_or part_marks h 0 ≡ get_or marks g 0 =
            marks_are h (omega arith) ∙ ap (λ (x : ℕ). get_or marks x 0) group in
            let was : get_or (take c (drop a now)) j 0 ≡ get_or old (s * g + i) 0 =
            get_or-part a c j now lt ∙ so_far.others (a + j) (omega arith)
            ∙ ap (λ (x : ℕ). get_or old x 0) (sym number) in
            let base : pb j ≡ b (s * g + i) = base_is j lt ∙ ap b (sym number) in
            ap (λ (x : ℕ). get_or new x 0) number
            ∙ in_part a c j now part (omega arith) (omega arith)
            ∙ step.settled h i (omega arith) inside
            ∙ ap
            (λ (m : ℕ). settled_cell (marked m i (get_or (take c (drop a now)) j 0))
            (pb j)) mark
            ∙ ap (λ (v : ℕ). settled_cell (marked (get_or marks g 0) i v) (pb j)) was
            ∙ ap
            (λ (v : ℕ). settled_cell
            (marked (get_or marks g 0) i (get_or old (s * g + i) 0)) v) base
      ];
      others = λ k past. let past_part : a + c ≤ k = omega (arith, mul-add s at count) in
          behind_part a c k now part (omega arith) part_long past_part
          ∙ so_far.others k (omega arith);
    }

pub part_settled : (s at count end a c oa oc : ℕ) (marks part_marks : List ℕ) (b pb : ℕ → ℕ)
    (old now part : List ℕ)
    → IsPart s at count a c oa oc → end ≡ at + count → at + count ≤ length marks
    → length old ≡ s * length marks
    → ((h : ℕ) → h < count → get_or part_marks h 0 ≡ get_or marks (at + h) 0)
    → ((j : ℕ) → j < s * count → pb j ≡ b (s * at + j))
    → IsSettledTo s at marks b old now
    → IsSettledTo s count part_marks pb (take oc (drop oa now)) part
    → IsSettledTo s end marks b old (put_mid oa oc now part)
part_settled s at count end a c oa oc marks part_marks b pb old now part here e le long marks_are
    base_is so_far step =
    let first : IsSettledTo s count part_marks pb (take (s * count) (drop oa now)) part =
    subst (λ (x : ℕ). IsSettledTo s count part_marks pb
    (take x (drop oa now)) part) here.octets_count_is step in
    let second : IsSettledTo s count part_marks pb (take (s * count) (drop (s * at) now)) part =
    subst (λ (x : ℕ). IsSettledTo s count part_marks pb
    (take (s * count) (drop x now)) part) here.octets_at_is first in
    subst (λ (x : ℕ). IsSettledTo s x marks b old (put_mid oa oc now part)) (sym e)
    (subst (λ (x : ℕ). IsSettledTo s (at + count) marks b old (put_mid x oc now part))
    (sym here.octets_at_is)
    (subst (λ (x : ℕ). IsSettledTo s (at + count) marks b old (put_mid (s * at) x now part))
    (sym here.octets_count_is)
    (more_settled s at count marks part_marks b pb old now part le long marks_are base_is so_far
    second)))

-- the marks of a part
pub part_marks : (s at count a c oa oc : ℕ) (marks : List ℕ) → IsPart s at count a c oa oc
    → (h : ℕ) → h < count → get_or (take c (drop a marks)) h 0 ≡ get_or marks (at + h) 0
part_marks s at count a c oa oc marks here h lt =
    get_or-part a c h marks (omega (arith, here.marks_count_is))
    ∙ ap (λ (x : ℕ). get_or marks (x + h) 0) here.marks_at_is

-- and the values of a part of what is held
pub part_held : (s at count a c oa oc : ℕ) (held : List ℕ) → IsPart s at count a c oa oc → (j : ℕ)
    → j < s * count → get_or (take oc (drop oa held)) j 0 ≡ get_or held (s * at + j) 0
part_held s at count a c oa oc held here j lt =
    get_or-part oa oc j held (omega (arith, here.octets_count_is))
    ∙ ap (λ (x : ℕ). get_or held (x + j) 0) here.octets_at_is

-- how long a part is
pub part_count : (s at count a c oa oc : ℕ) (marks : List ℕ) → IsPart s at count a c oa oc
    → at + count ≤ length marks → length (take c (drop a marks)) ≡ count
part_count s at count a c oa oc marks here le =
    length-take-le c (drop a marks)
    (omega (arith, here.marks_at_is, here.marks_count_is, length-drop a marks))
    ∙ here.marks_count_is

pub part_long : (s at count a c oa oc groups : ℕ) (xs : List ℕ) → IsPart s at count a c oa oc
    → at + count ≤ groups → length xs ≡ s * groups → length (take oc (drop oa xs)) ≡ s * count
part_long s at count a c oa oc groups xs here le long =
    length-take-le oc (drop oa xs)
    (omega (
      arith,
      here.octets_at_is,
      here.octets_count_is,
      length-drop oa xs,
      times_le s (at + count) groups le,
      mul-add s at count,
    )) ∙ here.octets_count_is

pub part_agrees : (s at count a c oa oc : ℕ) (marks xs : List ℕ) → IsPart s at count a c oa oc
    → at + count ≤ length marks → length xs ≡ s * length marks
    → length (take oc (drop oa xs)) ≡ s * length (take c (drop a marks))
part_agrees s at count a c oa oc marks xs here le long =
    part_long s at count a c oa oc (length marks) xs here le long
    ∙ ap (λ (k : ℕ). s * k) (sym (part_count s at count a c oa oc marks here le))

-- a part is within the whole
pub within : (s from to many long : ℕ) → s * many ≤ long → from ≤ to → to ≤ many
    → s * from + s * (to - from) ≤ long
within s from to many long is order inside =
    let end : from + (to - from) ≡ to = omega arith in
    let split : s * to ≡ s * from + s * (to - from) =
    ap (λ (x : ℕ). s * x) (sym end) ∙ mul-add s from (to - from) in
    omega (arith, is, split, times_le s to many inside)

-- as many groups by another number
pub settled_end : (s at many : ℕ) (marks : List ℕ) (b : ℕ → ℕ) (old new : List ℕ) → at ≡ many
    → IsSettledTo s at marks b old new → IsSettledTo s many marks b old new
settled_end s at many marks b old new e = subst (λ (k : ℕ). IsSettledTo s k marks b old new) e

-- ---- blocks and groups

pub whole_settled : (s : ℕ) (marks : List ℕ) (b : ℕ → ℕ) (old : List ℕ) → s ≤ 12
    → ((k : ℕ) → k < length marks → get_or marks k 0 ≡ 32768)
    → IsSettledTo s (length marks) marks b old old
whole_settled s marks b old few whole = record {
  long = refl;
  settled =
      λ g i below inside. sym
      (ap (λ (m : ℕ). settled_cell (marked m i (get_or old (s * g + i) 0)) (b (s * g + i)))
      (whole g below)
      ∙ ap (λ (c : Cell). settled_cell c (b (s * g + i)))
      (marked_whole i (get_or old (s * g + i) 0) (omega arith)));
  others = λ k le. refl;
}

pub missing_settled : (s : ℕ) (marks base old new : List ℕ)
    → ((k : ℕ) → k < length marks → get_or marks k 0 < 32768) → length old ≡ s * length marks
    → s * length marks ≤ length base
    → new ≡ take (length old) base
    → IsSettledTo s (length marks) marks (λ k. get_or base k 0) old new
missing_settled s marks base old new missing long room is =
    let new_long : length new ≡ length old =
    ap length is ∙ length-take-le (length old) base (omega arith) in
    record {
      long = new_long;
      settled = λ g i below inside.
          let k : ℕ = s * g + i in
          let lt : k < s * length marks = sample_below s g i (length marks) below inside in
          ap (λ (xs : List ℕ). get_or xs k 0) is ∙ get_or-take (length old) base k 0 (omega arith)
          ∙ ap (λ (c : Cell). settled_cell c (get_or base k 0))
          (marked_absent (get_or marks g 0) i (get_or old k 0) (missing g below));
      others = λ k past. let behind : length old ≤ k = omega arith in
          get_or_past new k 0 (omega arith) ∙ sym (get_or_past old k 0 behind);
    }

-- a group by itself
pub group_settled : (s mark : ℕ) (base old new : List ℕ) → length old ≡ s → length new ≡ length old
    → ((i : ℕ) → i < length old
    → get_or new i 0 ≡ settled_cell (marked mark i (get_or old i 0)) (get_or base i 0))
    → IsSettledTo s 1 (mark ∷ []) (λ k. get_or base k 0) old new
group_settled s mark base old new long same each = record {
  long = same;
  settled = λ g i below inside.
      let first : g ≡ 0 = omega arith in
      let number : s * g + i ≡ i = ap (λ (x : ℕ). s * x + i) first ∙ omega arith in
      let one : get_or (mark ∷ []) g 0 ≡ mark = ap (λ (x : ℕ). get_or (mark ∷ []) x 0) first in
      ap (λ (x : ℕ). get_or new x 0) number ∙ each i (omega arith)
      ∙ ap (λ (x : ℕ). settled_cell (marked mark i (get_or old x 0)) (get_or base x 0)) (sym number)
      ∙ ap
      (λ (m : ℕ). settled_cell (marked m i (get_or old (s * g + i) 0))
      (get_or base (s * g + i) 0)) (sym one);
  others = λ k past. let behind : length old ≤ k = omega arith in
      get_or_past new k 0 (omega arith) ∙ sym (get_or_past old k 0 behind);
}

pub one_mark : (at mark : ℕ) (marks : List ℕ) → mark ≡ get_or marks at 0 → (h : ℕ) → h < 1
    → get_or (mark ∷ []) h 0 ≡ get_or marks (at + h) 0
one_mark at mark marks is h lt =
    let first : h ≡ 0 = omega arith in
    let number : at ≡ at + h = omega arith in
    ap (λ (x : ℕ). get_or (mark ∷ []) x 0) first ∙ is ∙ ap (λ (x : ℕ). get_or marks x 0) number

-- ---- a pattern that comes again with each block

pub part_pattern : (s i count : ℕ) (pattern : List ℕ) → count ≤ 64 → (j : ℕ) → j < s * count
    → get_or pattern (s * 0 + j) 0 ≡ get_or pattern ((s * (64 * i) + j) % (s * 64)) 0
part_pattern s i count pattern le j lt =
    let below : j < s * 64 = omega (arith, times_le s count 64 le) in
    let front : s * 0 + j ≡ j = omega arith in
    ap (λ (x : ℕ). get_or pattern x 0)
    (front ∙ sym (ap (λ (x : ℕ). (x + j) % (s * 64)) (sym (mul_assoc s 64 i))
    ∙ mul-add-mod_self_left (s * 64) i j ∙ mod-eq_of_lt below))

-- the runs of samples in a block of groups
of_runs : (s : Sampling) (d : Depth) (k : ℕ)
    → component_in_row s (k % ((pixel_group s d).samples * 64)) ≡ component_in_row s k
of_runs Ycc422 D8 k =
    ap (λ (x : ℕ). (get_or (run Ycc422) x (0, 0)).1) (mod-mod_of_dvd 4 k (dvd-mul_left 4 64))
of_runs Ycc422 D10 k =
    ap (λ (x : ℕ). (get_or (run Ycc422) x (0, 0)).1) (mod-mod_of_dvd 4 k (dvd-mul_left 4 64))
of_runs Ycc422 D12 k =
    ap (λ (x : ℕ). (get_or (run Ycc422) x (0, 0)).1) (mod-mod_of_dvd 4 k (dvd-mul_left 4 64))
of_runs Ycc422 D16 k =
    ap (λ (x : ℕ). (get_or (run Ycc422) x (0, 0)).1) (mod-mod_of_dvd 4 k (dvd-mul_left 4 64))
of_runs Ycc444 D8 k =
    ap (λ (x : ℕ). (get_or (run Ycc444) x (0, 0)).1) (mod-mod_of_dvd 3 k (dvd-mul_left 3 64))
of_runs Ycc444 D10 k =
    ap (λ (x : ℕ). (get_or (run Ycc444) x (0, 0)).1) (mod-mod_of_dvd 3 k (dvd-mul_left 3 256))
of_runs Ycc444 D12 k =
    ap (λ (x : ℕ). (get_or (run Ycc444) x (0, 0)).1) (mod-mod_of_dvd 3 k (dvd-mul_left 3 128))
of_runs Ycc444 D16 k =
    ap (λ (x : ℕ). (get_or (run Ycc444) x (0, 0)).1) (mod-mod_of_dvd 3 k (dvd-mul_left 3 64))
of_runs Rgb D8 k =
    ap (λ (x : ℕ). (get_or (run Rgb) x (0, 0)).1) (mod-mod_of_dvd 3 k (dvd-mul_left 3 64))
of_runs Rgb D10 k =
    ap (λ (x : ℕ). (get_or (run Rgb) x (0, 0)).1) (mod-mod_of_dvd 3 k (dvd-mul_left 3 256))
of_runs Rgb D12 k =
    ap (λ (x : ℕ). (get_or (run Rgb) x (0, 0)).1) (mod-mod_of_dvd 3 k (dvd-mul_left 3 128))
of_runs Rgb D16 k =
    ap (λ (x : ℕ). (get_or (run Rgb) x (0, 0)).1) (mod-mod_of_dvd 3 k (dvd-mul_left 3 64))

-- settled over another base of the same values
pub same_base : (s at : ℕ) (marks : List ℕ) (b other : ℕ → ℕ) (old new : List ℕ)
    → ((k : ℕ) → b k ≡ other k) → IsSettledTo s at marks b old new
    → IsSettledTo s at marks other old new
same_base s at marks b other old new same is = record {
  long = is.long;
  settled =
      λ g i below inside. is.settled g i below inside
      ∙ ap (settled_cell (marked (get_or marks g 0) i (get_or old (s * g + i) 0)))
      (same (s * g + i));
  others = is.others;
}

pub pattern_settled : (f : Format) (z at : ℕ) (marks fill pattern old new : List ℕ)
    → z ≡ (pixel_group f.sampling f.depth).samples
    → pattern ≡ map (λ k. get_or fill (component_in_row f.sampling k) 0) (range_with_len 0 768)
    → IsSettledTo z at marks (λ k. get_or pattern (k % (z * 64)) 0) old new
    → IsSettledTo (pixel_group f.sampling f.depth).samples at marks
    (λ k. get_or fill (component_in_row f.sampling k) 0) old new
pattern_settled f z at marks fill pattern old new same is_pattern is =
    let s : ℕ = (pixel_group f.sampling f.depth).samples in
    let agree = sizes f.sampling f.depth in
    let long : 0 < s * 64 = omega (arith, agree.some) in
    let here : IsSettledTo s at marks (λ k. get_or pattern (k % (s * 64)) 0) old new =
    subst (λ (x : ℕ). IsSettledTo x at marks
    (λ k. get_or pattern (k % (x * 64)) 0) old new) same is in
    same_base s at marks (λ k. get_or pattern (k % (s * 64)) 0)
    (λ k. get_or fill (component_in_row f.sampling k) 0) old new
    (λ k.
    let lt : k % (s * 64) < s * 64 = mod-lt k long in
    let below : k % (s * 64) < 768 = omega (arith, agree.few) in
    ap (λ (xs : List ℕ). get_or xs (k % (s * 64)) 0) is_pattern
    ∙ get_or-map-range_with_len (λ j. get_or fill (component_in_row f.sampling j) 0) 0 768
    (k % (s * 64)) (k % (s * 64)) 0 below (omega arith)
    ∙ ap (λ (c : ℕ). get_or fill c 0) (of_runs f.sampling f.depth k)) here

-- ---- all groups

pub all_settled : (f : Format) (marks octets old new : List ℕ) (b : ℕ → ℕ)
    → ArePacked f marks octets → old ≡ values_in (bits_of f.depth) octets
    → IsSettledTo (pixel_group f.sampling f.depth).samples (length marks) marks b old new
    → new ≡ settled_numbers (cells_in f marks octets) b
all_settled f marks octets old new b packed are is =
    let s : ℕ = (pixel_group f.sampling f.depth).samples in
    let n : ℕ = bits_of f.depth in
    let size : ℕ = (pixel_group f.sampling f.depth).octets in
    let agree = sizes f.sampling f.depth in
    let cells_long : length (cells_in f marks octets) ≡ s * length marks =
    length-packed_cells n size s marks octets agree packed.long in
    let old_long : length old ≡ s * length marks =
    ap length are ∙ length-groups n size s (length marks) octets agree packed.long in
    all_set (λ k. settled_cell (get_or (cells_in f marks octets) k Missing) (b k)) new
    (length (cells_in f marks octets)) (is.long ∙ old_long ∙ sym cells_long)
    (λ k below.
    let inside : k < s * length marks = omega arith in
    let e : s * (k / s) + k % s ≡ k = div-add-mod k s in
    let cell : get_or (cells_in f marks octets) k Missing
    ≡ marked (get_or marks (k / s) 0) (k % s) (get_or (values_in n octets) k 0) =
    get_or-number n size s k marks octets agree packed.long inside in
    ap (λ (x : ℕ). get_or new x 0) (sym e)
    ∙ is.settled (k / s) (k % s) (group_below k s (length marks) agree.some inside)
    (mod-lt k agree.some)
    ∙ ap
    (λ (x : ℕ). settled_cell (marked (get_or marks (k / s) 0) (k % s) (get_or old x 0)) (b x)) e
    ∙ ap
    (λ (xs : List ℕ). settled_cell (marked (get_or marks (k / s) 0) (k % s) (get_or xs k 0))
    (b k)) are
    ∙ ap (λ (c : Cell). settled_cell c (b k)) (sym cell))
