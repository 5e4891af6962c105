-- Planes that are written by pgroups: what a pgroup has of each, and one piece behind the others.
use Rattle.std.proofs.Common.{◌≡◌, ℕ, zero, suc, ◌+◌, ◌*◌, ◌/◌, ◌%◌, ◌^◌, ◌<◌, ◌≤◌, List, [], ◌∷◌}
use Rattle.std.proofs.Common.{◌++◌, length, get_or, take, drop, refl, sym, ap, ◌∙◌, subst, arith}
use Rattle.std.proofs.Common.{Option}
use Rattle.std.specs.List.{All, AllByRecursion}
use Rattle.std.proofs.Math.Nat.{div-le_self, mul-add, mul_assoc}
use Rattle.std.proofs.lemmas.List.{get_or-drop, get_or-take, length-drop, length-take}
use Rattle.std.proofs.lemmas.Nat.{mul-le}
use Rattle.st_format.specs.declared.format.Format.{Format}
use Rattle.st_format.specs.declared.sampling.Depth.{Depth}
use Rattle.st_format.specs.declared.sampling.Depth.TheVariants.{D8, D10, D12, D16}
use Rattle.st_format.specs.declared.sampling.Sampling.{Sampling}
use Rattle.st_format.specs.declared.sampling.Sampling.TheVariants.{Ycc422, Ycc444, Rgb}
use Rattle.st_format.specs.Pgroup.{bits_of, pixel_group}
use Rattle.st_format.specs.Picture.{FitsDepth, Values}
use Rattle.st_format.specs.Position.{group_count, row_groups}
use Rattle.frame_assembly.proofs.Segments.{swap_first}
use Rattle.picture_forms.specs.Layouts.{IsYcc, column_step, plane_count, plane_first, plane_step}
use Rattle.picture_forms.specs.Layouts.{plane_text, y4m_spelling}
use Rattle.picture_forms.specs.Planes.{Inside, every, every_text, sample_limit, sample_text}
use Rattle.picture_forms.proofs.Placed.{plane_every}
use Rattle.picture_forms.proofs.Written.{none_written, piece_cut, piece_written}
use Rattle.picture_forms.specs.Writing.{Writes, WritesPart}
use Rattle.settled_forms.specs.Pieces.{group_share, groups_text, part_text, rows_text}

-- ---- numbers

pub times_le : (n a b : ℕ) → a ≤ b → n * a ≤ n * b
times_le n a b le = mul-le n a n b (omega arith) le

-- a product of three, of which the first two make another number
pub times_both : (step share group n : ℕ) → step * share ≡ group → step * (share * n) ≡ group * n
times_both step share group n same =
    sym (mul_assoc step share n) ∙ ap (λ (x : ℕ). x * n) same

-- ---- what a pgroup has of a component

share_columns : (s : Sampling) (d : Depth) (w c : ℕ) → w % (pixel_group s d).pixels ≡ 0
    → (pixel_group s d).pixels / column_step s c * (w / (pixel_group s d).pixels)
    ≡ w / column_step s c
share_columns Ycc422 D8 w zero whole = omega (arith, whole)
share_columns Ycc422 D8 w (suc c) whole = omega (arith, whole)
share_columns Ycc422 D10 w zero whole = omega (arith, whole)
share_columns Ycc422 D10 w (suc c) whole = omega (arith, whole)
share_columns Ycc422 D12 w zero whole = omega (arith, whole)
share_columns Ycc422 D12 w (suc c) whole = omega (arith, whole)
share_columns Ycc422 D16 w zero whole = omega (arith, whole)
share_columns Ycc422 D16 w (suc c) whole = omega (arith, whole)
share_columns Ycc444 D8 w c whole = omega (arith, whole)
share_columns Ycc444 D10 w c whole = omega (arith, whole)
share_columns Ycc444 D12 w c whole = omega (arith, whole)
share_columns Ycc444 D16 w c whole = omega (arith, whole)
share_columns Rgb D8 w c whole = omega (arith, whole)
share_columns Rgb D10 w c whole = omega (arith, whole)
share_columns Rgb D12 w c whole = omega (arith, whole)
share_columns Rgb D16 w c whole = omega (arith, whole)

-- all pgroups have all samples of it
pub shares_count : (f : Format) (c : ℕ) → group_share f c * group_count f ≡ plane_count f c
shares_count f c =
    swap_first (group_share f c) f.height (row_groups f)
    ∙ ap (λ (n : ℕ). f.height * n)
    (share_columns f.sampling f.depth f.width c f.whole_width.whole_groups)

some_columns : (s : Sampling) (d : Depth) (c : ℕ)
    → 0 < (pixel_group s d).pixels / column_step s c
some_columns Ycc422 D8 zero = omega arith
some_columns Ycc422 D8 (suc c) = omega arith
some_columns Ycc422 D10 zero = omega arith
some_columns Ycc422 D10 (suc c) = omega arith
some_columns Ycc422 D12 zero = omega arith
some_columns Ycc422 D12 (suc c) = omega arith
some_columns Ycc422 D16 zero = omega arith
some_columns Ycc422 D16 (suc c) = omega arith
some_columns Ycc444 D8 c = omega arith
some_columns Ycc444 D10 c = omega arith
some_columns Ycc444 D12 c = omega arith
some_columns Ycc444 D16 c = omega arith
some_columns Rgb D8 c = omega arith
some_columns Rgb D10 c = omega arith
some_columns Rgb D12 c = omega arith
some_columns Rgb D16 c = omega arith

-- a pgroup has some
pub share_some : (f : Format) (c : ℕ) → 0 < group_share f c
share_some f c = some_columns f.sampling f.depth c

-- a row has at most as many as it has columns
pub share_most : (f : Format) (c : ℕ) → group_share f c * row_groups f ≤ 8192
share_most f c =
    let columns : group_share f c * row_groups f ≡ f.width / column_step f.sampling c =
    share_columns f.sampling f.depth f.width c f.whole_width.whole_groups in
    omega (arith, columns, div-le_self f.width (column_step f.sampling c), f.whole_width.most)

-- they stand as many steps apart as a pgroup has samples
steps_of : (s : Sampling) (d : Depth) (c : ℕ)
    → plane_step s c * ((pixel_group s d).pixels / column_step s c) ≡ (pixel_group s d).samples
steps_of Ycc422 D8 zero = refl
steps_of Ycc422 D8 (suc c) = refl
steps_of Ycc422 D10 zero = refl
steps_of Ycc422 D10 (suc c) = refl
steps_of Ycc422 D12 zero = refl
steps_of Ycc422 D12 (suc c) = refl
steps_of Ycc422 D16 zero = refl
steps_of Ycc422 D16 (suc c) = refl
steps_of Ycc444 D8 c = refl
steps_of Ycc444 D10 c = refl
steps_of Ycc444 D12 c = refl
steps_of Ycc444 D16 c = refl
steps_of Rgb D8 c = refl
steps_of Rgb D10 c = refl
steps_of Rgb D12 c = refl
steps_of Rgb D16 c = refl

pub share_steps : (f : Format) (c : ℕ)
    → plane_step f.sampling c * group_share f c ≡ (pixel_group f.sampling f.depth).samples
share_steps f c = steps_of f.sampling f.depth c

pub first_low : (s : Sampling) (c : ℕ) → c < 3 → plane_first s c < plane_step s c
first_low Ycc422 zero lt = omega arith
first_low Ycc422 (suc zero) lt = omega arith
first_low Ycc422 (suc (suc c)) lt = omega arith
first_low Ycc444 zero lt = omega arith
first_low Ycc444 (suc zero) lt = omega arith
first_low Ycc444 (suc (suc c)) lt = omega arith
first_low Rgb c lt = lt

-- the samples of some pgroups have those of a component of as many
pub share_inside : (f : Format) (c count : ℕ) (samples : List ℕ) → c < 3
    → length samples ≡ (pixel_group f.sampling f.depth).samples * count
    → Inside samples (plane_first f.sampling c) (plane_step f.sampling c) (group_share f c * count)
share_inside f c count samples lt long =
    let all : plane_step f.sampling c * (group_share f c * count)
    ≡ (pixel_group f.sampling f.depth).samples * count =
    times_both (plane_step f.sampling c) (group_share f c)
    (pixel_group f.sampling f.depth).samples count (share_steps f c) in
    record { low = first_low f.sampling c lt; within = omega (arith, all, long) }

-- a piece's samples of a component are some of its plane's
pub samples_within : (f : Format) (c first count : ℕ) → first + count ≤ group_count f
    → group_share f c * first + group_share f c * count ≤ plane_count f c
samples_within f c first count le =
    let share : ℕ = group_share f c in
    let both : share * (first + count) ≡ share * first + share * count =
    mul-add share first count in
    let most : share * (first + count) ≤ plane_count f c =
    subst (λ (n : ℕ). share * (first + count) ≤ n) (shares_count f c)
    (times_le share (first + count) (group_count f) le) in
    omega (arith, both, most)

-- ---- values

all_at : (P : ℕ → Type 0) (xs : List ℕ) → AllByRecursion P xs → (k d : ℕ) → k < length xs
    → P (get_or xs k d)
all_at P [] all k d lt = absurd (omega (arith, lt))
all_at P (x ∷ xs) all zero d lt = all.0
all_at P (x ∷ xs) all (suc k) d lt = all_at P xs all.1 k d (omega (arith, lt))

-- as many samples from the first on
pub inside_from_zero : (samples : List ℕ) (first step count : ℕ) → Inside samples first step count
    → Inside samples first step (0 + count)
inside_from_zero samples first step count within =
    subst (λ (n : ℕ). Inside samples first step n) (omega arith) within

within_limit : (d : Depth) (v : ℕ) → v < 2 ^ bits_of d → v < sample_limit (y4m_spelling d)
within_limit D8 v lt = lt
within_limit D10 v lt = omega (arith, lt)
within_limit D12 v lt = omega (arith, lt)
within_limit D16 v lt = lt

-- some of the values that fit the depth
pub part_fits : (f : Format) (xs ys : List ℕ) (a n : ℕ) → AllByRecursion (FitsDepth f) xs
    → ys ≡ take n (drop a xs) → All (λ v. v < sample_limit (y4m_spelling f.depth)) ys
part_fits f xs ys a n fit of =
    subst (All (λ v. v < sample_limit (y4m_spelling f.depth))) (sym of)
    (λ k d lt.
    let few : k < n = omega (arith, lt, length-take n (drop a xs)) in
    let here : a + k < length xs =
    omega (arith, lt, length-take n (drop a xs), length-drop a xs) in
    subst (λ (v : ℕ). v < sample_limit (y4m_spelling f.depth))
    (sym (get_or-take n (drop a xs) k d few ∙ get_or-drop a xs k d))
    (within_limit f.depth (get_or xs (a + k) d) (all_at (FitsDepth f) xs fit (a + k) d here)))

-- ---- texts

-- the same samples have the same octets
every_part : (d : Depth) (xs ys : List ℕ) (first step a b n : ℕ)
    → ((k : ℕ) → k < n → every xs first step (a + k) ≡ every ys first step (b + k))
    → every_text (y4m_spelling d) xs first step a n ≡ every_text (y4m_spelling d) ys first step b n
unfolding every_text
every_part d xs ys first step a b zero h = refl
every_part d xs ys first step a b (suc n) h =
    let x : a + 0 ≡ a = omega arith in
    let y : b + 0 ≡ b = omega arith in
    let here : every xs first step a ≡ every ys first step b =
    ap (every xs first step) (sym x) ∙ h 0 (omega arith) ∙ ap (every ys first step) y in
    ap (λ (v : ℕ). sample_text (y4m_spelling d) v
    ++ every_text (y4m_spelling d) xs first step (a + 1) n) here
    ∙ ap (λ (t : List ℕ). sample_text (y4m_spelling d) (every ys first step b) ++ t)
    (every_part d xs ys first step (a + 1) (b + 1) n
    (λ k lt.
    let i : a + 1 + k ≡ a + suc k = omega arith in
    let j : b + suc k ≡ b + 1 + k = omega arith in
    ap (every xs first step) i ∙ h (suc k) (omega (arith, lt)) ∙ ap (every ys first step) j))

at_part : (xs : List ℕ) (first step share group at n k : ℕ) → first < step
    → step * share ≡ group → k < share * n
    → every (take (group * n) (drop (group * at) xs)) first step (0 + k)
    ≡ every xs first step (share * at + k)
at_part xs first step share group at n k low same lt =
    let z : 0 + k ≡ k = omega arith in
    let here : first + step * k < group * n =
    omega (
      arith,
      low,
      mul-add step k 1,
      times_le step (k + 1) (share * n) (omega (arith, lt)),
      times_both step share group n same,
    ) in
    let e : group * at + (first + step * k) ≡ first + step * (share * at + k) =
    omega (arith, mul-add step (share * at) k, times_both step share group at same) in
    ap (every (take (group * n) (drop (group * at) xs)) first step) z
    ∙ get_or-take (group * n) (drop (group * at) xs) (first + step * k) 0 here
    ∙ get_or-drop (group * at) xs (first + step * k) 0
    ∙ ap (λ (j : ℕ). get_or xs j 0) e

-- octets of a component of some pgroups
pub piece_text : (d : Depth) (xs ys : List ℕ) (first step share group at n : ℕ) → first < step
    → step * share ≡ group → ys ≡ take (group * n) (drop (group * at) xs)
    → every_text (y4m_spelling d) ys first step 0 (share * n)
    ≡ every_text (y4m_spelling d) xs first step (share * at) (share * n)
piece_text d xs ys first step share group at n low same of =
    subst (λ (t : List ℕ). every_text (y4m_spelling d) t first step 0 (share * n)
    ≡ every_text (y4m_spelling d) xs first step (share * at) (share * n)) (sym of)
    (every_part d (take (group * n) (drop (group * at) xs)) xs first step 0 (share * at)
    (share * n) (λ k lt. at_part xs first step share group at n k low same lt))

-- ---- a plane that is written by pieces

-- the octets of some pgroups, of their samples alone
pub groups_apart : (v : Values) (c first count : ℕ) (samples : List ℕ) → c < 3
    → samples ≡ take ((pixel_group v.format.sampling v.format.depth).samples * count)
    (drop ((pixel_group v.format.sampling v.format.depth).samples * first) v.samples)
    → part_text v.format c samples (group_share v.format c * count)
    ≡ groups_text v c first count
groups_apart v c first count samples lt of =
    let f : Format = v.format in
    piece_text f.depth v.samples samples (plane_first f.sampling c) (plane_step f.sampling c)
    (group_share f c) (pixel_group f.sampling f.depth).samples first count
    (first_low f.sampling c lt) (share_steps f c) of

-- nothing was written of it
pub plane_none : (v : Values) (c : ℕ) (o : Option (List ℕ)) (l : List ℕ)
    → Writes o o l l
    (part_text v.format c v.samples (group_share v.format c * (row_groups v.format * 0)))
plane_none v c o l =
    let f : Format = v.format in
    let none : group_share f c * (row_groups f * 0) ≡ 0 = omega arith in
    subst (λ (n : ℕ). Writes o o l l (part_text f c v.samples n)) (sym none)
    (none_written o l (y4m_spelling f.depth) v.samples (plane_first f.sampling c)
    (plane_step f.sampling c))

-- and some rows more
pub plane_more : (v : Values) (c row n : ℕ) (was mid is : Option (List ℕ))
    (old now new : List ℕ)
    → Writes was mid old now
    (part_text v.format c v.samples (group_share v.format c * (row_groups v.format * row)))
    → Writes mid is now new (rows_text v c row n)
    → Writes was is old new
    (part_text v.format c v.samples (group_share v.format c * (row_groups v.format * (row + n))))
plane_more v c row n was mid is old now new p q =
    let f : Format = v.format in
    let share : ℕ = group_share f c in
    let wide : ℕ = row_groups f in
    let all : share * (wide * row) + share * (wide * n) ≡ share * (wide * (row + n)) =
    omega arith in
    subst (λ (k : ℕ). Writes was is old new (part_text f c v.samples k)) all
    (piece_written was mid is old now new (y4m_spelling f.depth) v.samples
    (plane_first f.sampling c) (plane_step f.sampling c) (share * (wide * row))
    (share * (wide * n)) p q)

-- within which it was cut
pub plane_cut : (v : Values) (c row n : ℕ) (was mid is : Option (List ℕ))
    (old now new : List ℕ) → IsYcc v.format.sampling → c < 3 → row + n ≤ v.format.height
    → Writes was mid old now
    (part_text v.format c v.samples (group_share v.format c * (row_groups v.format * row)))
    → WritesPart mid is now new (rows_text v c row n)
    → WritesPart was is old new (plane_text v c)
plane_cut v c row n was mid is old now new ycc lt le p q =
    let f : Format = v.format in
    let share : ℕ = group_share f c in
    let wide : ℕ = row_groups f in
    let inside : wide * row + wide * n ≤ group_count f =
    omega (arith, times_le wide (row + n) f.height le, mul-add wide row n) in
    subst (WritesPart was is old new) (sym (plane_every v c ycc lt))
    (piece_cut was mid is old now new (y4m_spelling f.depth) v.samples
    (plane_first f.sampling c) (plane_step f.sampling c) (share * (wide * row))
    (share * (wide * n)) (plane_count f c) (samples_within f c (wide * row) (wide * n) inside) p q)

-- all of it
pub plane_all : (v : Values) (c row : ℕ) (was is : Option (List ℕ)) (old new : List ℕ)
    → row ≡ v.format.height → IsYcc v.format.sampling → c < 3
    → Writes was is old new
    (part_text v.format c v.samples (group_share v.format c * (row_groups v.format * row)))
    → Writes was is old new (plane_text v c)
plane_all v c row was is old new same ycc lt p =
    let f : Format = v.format in
    let share : ℕ = group_share f c in
    let wide : ℕ = row_groups f in
    let all : share * (wide * row) ≡ share * (row * wide) = omega arith in
    subst (Writes was is old new)
    (ap (part_text f c v.samples) (all ∙ ap (λ (n : ℕ). share * (n * wide)) same
    ∙ shares_count f c) ∙ sym (plane_every v c ycc lt)) p

-- what was written by another name
pub writes_is : (was is : Option (List ℕ)) (old new xs ys : List ℕ) → xs ≡ ys
    → Writes was is old new xs → Writes was is old new ys
writes_is was is old new xs ys same p = subst (Writes was is old new) same p

pub part_is : (was is : Option (List ℕ)) (old new xs ys : List ℕ) → xs ≡ ys
    → WritesPart was is old new xs → WritesPart was is old new ys
part_is was is old new xs ys same p = subst (WritesPart was is old new) same p
