-- Runs of groups that are joined part by part.
use Rattle.std.proofs.Common.{◌≡◌, ℕ, zero, suc, ◌+◌, ◌-◌, ◌*◌, ◌<◌, ◌≤◌, List, [], ◌∷◌, ◌++◌}
use Rattle.std.proofs.Common.{length, get_or, set, take, drop, refl, sym, ap, ◌∙◌, subst, arith}
use Rattle.std.proofs.Common.{append_assoc, length-append}
use Rattle.std.proofs.lemmas.List.{append-nil, drop_more, drop-drop, drop_at, length-drop}
use Rattle.std.proofs.lemmas.List.{length-take-le, take-append-drop, take_at}
use Rattle.std.proofs.Math.Nat.{mul-add}
use borrow.Rule.Slice.PartMut.{put_mid}
use Rattle.std.proofs.Math.Seq.{take-add}
use Rattle.st_format.specs.Samples.{values_in}
use Rattle.st_format.proofs.Spelled.{values_in-spelled}
use Rattle.frame_assembly.specs.Packed.{IsPacked, Joins, packed_cells}
use Rattle.frame_assembly.proofs.PackedLemmas.{AreParts, AreSizes, IsPacked-parts, Joins-append}
use Rattle.frame_assembly.proofs.PackedLemmas.{sizes}
use Rattle.st_format.specs.declared.sampling.Sampling.{Sampling}
use Rattle.st_format.specs.declared.sampling.Depth.{Depth}
use Rattle.st_format.specs.Pgroup.{bits_of, pixel_group}

-- ---- parts of a run

-- the part of count groups from group number at on
abbrev pub marks_part : ℕ → ℕ → List ℕ → List ℕ
marks_part at count marks = take count (drop at marks)

abbrev pub octets_part : ℕ → ℕ → ℕ → List ℕ → List ℕ
octets_part size at count octets = take (size * count) (drop (size * at) octets)

pub times_le : (size a b : ℕ) → a ≤ b → size * a ≤ size * b
times_le size a b le =
    omega (
      arith,
      mul-add size a (b - a),
      (let e : a + (b - a) ≡ b = omega arith in ap (λ (x : ℕ). size * x) e),
    )

-- of groups that are all of a run's, the octets are too
pub end_below : (size z end many long : ℕ) → z ≡ size → end ≤ many → long ≡ size * many
    → z * end ≤ long
end_below size z end many long same le e =
    subst (λ (k : ℕ). k * end ≤ long) (sym same) (omega (arith, e, times_le size end many le))

pub packed_first : (n size samples at : ℕ) (marks octets : List ℕ) → AreSizes n size samples
    → at ≤ length marks → IsPacked n size samples marks octets
    → AreParts n size samples (take at marks) (take (size * at) octets) (drop at marks)
    (drop (size * at) octets)
packed_first n size samples at marks octets is le a =
    let short : size * at ≤ length octets =
    omega (arith, a.long, times_le size at (length marks) le) in
    let first : length (take at marks) ≡ at = length-take-le at marks le in
    let long : length (take (size * at) octets) ≡ size * length (take at marks) =
    length-take-le (size * at) octets short ∙ ap (λ (k : ℕ). size * k) (sym first) in
    IsPacked-parts n size samples (take at marks) (take (size * at) octets) (drop at marks)
    (drop (size * at) octets) is long
    (subst (λ (ms : List ℕ). IsPacked n size samples ms
    (take (size * at) octets ++ drop (size * at) octets)) (sym (take-append-drop at marks))
    (subst (IsPacked n size samples marks) (sym (take-append-drop (size * at) octets)) a))

pub packed_part : (n size samples at count : ℕ) (marks octets : List ℕ) → AreSizes n size samples
    → at + count ≤ length marks → IsPacked n size samples marks octets
    → IsPacked n size samples (marks_part at count marks) (octets_part size at count octets)
packed_part n size samples at count marks octets is le a =
    let rest : IsPacked n size samples (drop at marks) (drop (size * at) octets) =
    (packed_first n size samples at marks octets is (omega arith) a).second in
    (packed_first n size samples count (drop at marks) (drop (size * at) octets) is
    (omega (arith, length-drop at marks)) rest).first

-- ---- a loop over the parts

-- the first groups are joined, and the others are as they were
pub record JoinedTo (n size samples at : ℕ)
    (marks octets other_marks others new_marks new_octets : List ℕ) : Type 0 where
  pub marks_long : length new_marks ≡ length marks
  pub octets_long : length new_octets ≡ length octets
  pub done : Joins n size samples (take at marks) (take (size * at) octets) (take at other_marks)
      (take (size * at) others) (take at new_marks) (take (size * at) new_octets)
  pub marks_left : drop at new_marks ≡ drop at marks
  pub octets_left : drop (size * at) new_octets ≡ drop (size * at) octets

-- the groups of two runs, as many of each
pub record AreAlike (n size samples : ℕ) (marks octets other_marks others : List ℕ) : Type 0 where
  pub sizes : AreSizes n size samples
  pub packed : IsPacked n size samples marks octets
  pub other : IsPacked n size samples other_marks others
  pub alike : length other_marks ≡ length marks

nothing : (n : ℕ) → 0 < n → values_in n [] ≡ []
nothing n pos = values_in-spelled n [] [] pos (record { fit = tt; same_bits = refl })

none_joined_parts : (n size samples : ℕ) → 0 < n → Joins n size samples [] [] [] [] [] []
unfolding packed_cells
none_joined_parts n size samples pos = record {
  packed = record { long = omega arith; words = tt; known = nothing n pos };
  long = refl;
  cells = refl;
}

pub none_joined_to : (n size samples : ℕ) (marks octets other_marks others : List ℕ)
    → AreSizes n size samples
    → JoinedTo n size samples 0 marks octets other_marks others marks octets
none_joined_to n size samples marks octets other_marks others is =
    let e : size * 0 ≡ 0 = omega arith in
    record {
      marks_long = refl;
      octets_long = refl;
      done =
          subst (λ (k : ℕ). Joins n size samples [] (take k octets) [] (take k others) []
          (take k octets)) (sym e) (none_joined_parts n size samples is.bits);
      marks_left = refl;
      octets_left = refl;
    }

-- what a loop's step reads of the groups that it joins to
pub left_part : (n size samples at count : ℕ)
    (marks octets other_marks others new_marks new_octets : List ℕ)
    → AreAlike n size samples marks octets other_marks others → at + count ≤ length marks
    → JoinedTo n size samples at marks octets other_marks others new_marks new_octets
    → IsPacked n size samples (marks_part at count new_marks) (octets_part size at count new_octets)
left_part n size samples at count marks octets other_marks others new_marks new_octets are le
    so_far =
    subst (λ (ms : List ℕ). IsPacked n size samples (take count ms)
    (octets_part size at count new_octets)) (sym so_far.marks_left)
    (subst (λ (os : List ℕ). IsPacked n size samples (marks_part at count marks)
    (take (size * count) os)) (sym so_far.octets_left)
    (packed_part n size samples at count marks octets are.sizes le are.packed))

pub left_long : (n size samples at : ℕ)
    (marks octets other_marks others new_marks new_octets : List ℕ)
    → AreAlike n size samples marks octets other_marks others
    → JoinedTo n size samples at marks octets other_marks others new_marks new_octets
    → length new_octets ≡ size * length new_marks
left_long n size samples at marks octets other_marks others new_marks new_octets are so_far =
    so_far.octets_long ∙ are.packed.long ∙ ap (λ (k : ℕ). size * k) (sym so_far.marks_long)

-- a part written over
abbrev pub written_part : {X : Type 0} → ℕ → ℕ → List X → List X → List X
written_part at count xs part = take at xs ++ (part ++ drop count (drop at xs))

take_written : (at count : ℕ) (xs part : List ℕ) → at + count ≤ length xs → length part ≡ count
    → take (at + count) (written_part at count xs part) ≡ take at xs ++ part
take_written at count xs part le long =
    let rest : List ℕ = drop count (drop at xs) in
    let first : length (take at xs) ≡ at = length-take-le at xs (omega arith) in
    let both : length (take at xs ++ part) ≡ at + count =
    length-append (take at xs) part ∙ omega arith in
    ap (take (at + count)) (sym (append_assoc (take at xs) part rest))
    ∙ take_at (take at xs ++ part) rest (at + count) both

drop_written : (at count : ℕ) (xs part : List ℕ) → at + count ≤ length xs → length part ≡ count
    → drop (at + count) (written_part at count xs part) ≡ drop count (drop at xs)
drop_written at count xs part le long =
    let rest : List ℕ = drop count (drop at xs) in
    let first : length (take at xs) ≡ at = length-take-le at xs (omega arith) in
    let both : length (take at xs ++ part) ≡ at + count =
    length-append (take at xs) part ∙ omega arith in
    ap (drop (at + count)) (sym (append_assoc (take at xs) part rest))
    ∙ drop_at (take at xs ++ part) rest (at + count) both

length_written : (at count : ℕ) (xs part : List ℕ) → at + count ≤ length xs → length part ≡ count
    → length (written_part at count xs part) ≡ length xs
length_written at count xs part le long =
    omega (
      arith,
      length-append (take at xs) (part ++ drop count (drop at xs)),
      length-append part (drop count (drop at xs)),
      length-take-le at xs (omega arith),
      length-drop count (drop at xs),
      length-drop at xs,
      long,
    )

-- one part more
pub joined_more : (n size samples at count end : ℕ)
    (marks octets other_marks others now_marks now_octets part_marks part_octets : List ℕ)
    → AreAlike n size samples marks octets other_marks others → at + count ≤ length marks
    → end ≡ at + count
    → JoinedTo n size samples at marks octets other_marks others now_marks now_octets
    → Joins n size samples (marks_part at count now_marks) (octets_part size at count now_octets)
    (marks_part at count other_marks) (octets_part size at count others) part_marks part_octets
    → JoinedTo n size samples end marks octets other_marks others
    (written_part at count now_marks part_marks)
    (written_part (size * at) (size * count) now_octets part_octets)
joined_more n size samples at count end marks octets other_marks others now_marks now_octets
    part_marks part_octets are le e so_far step =
    let room : at + count ≤ length now_marks = omega (arith, so_far.marks_long) in
    let split : size * end ≡ size * at + size * count =
    ap (λ (x : ℕ). size * x) e ∙ mul-add size at count in
    let fits : size * at + size * count ≤ length now_octets =
    omega (
      arith,
      so_far.octets_long,
      are.packed.long,
      times_le size (at + count) (length marks) le,
      mul-add size at count,
    ) in
    let part_long : length part_marks ≡ count =
    step.long ∙ length-take-le count (drop at now_marks)
    (omega (arith, length-drop at now_marks)) in
    let octets_long : length part_octets ≡ size * count =
    step.packed.long ∙ ap (λ (k : ℕ). size * k) part_long in
    let ms : List ℕ = written_part at count now_marks part_marks in
    let os : List ℕ = written_part (size * at) (size * count) now_octets part_octets in
    -- what was joined before, by parts of the whole
    let before = packed_first n size samples at marks octets are.sizes (omega arith) are.packed in
    let before_others =
    packed_first n size samples at other_marks others are.sizes
    (omega (arith, are.alike)) are.other in
    let alike : length (take at other_marks) ≡ length (take at marks) =
    length-take-le at other_marks (omega (arith, are.alike))
    ∙ sym (length-take-le at marks (omega arith)) in
    let here : Joins n size samples (marks_part at count marks) (octets_part size at count octets)
    (marks_part at count other_marks)
    (octets_part size at count others) part_marks part_octets =
    subst (λ (xs : List ℕ). Joins n size samples (take count xs) (octets_part size at count octets)
    (marks_part at count other_marks)
    (octets_part size at count others) part_marks part_octets) so_far.marks_left
    (subst (λ (xs : List ℕ). Joins n size samples (marks_part at count now_marks)
    (take (size * count) xs) (marks_part at count other_marks)
    (octets_part size at count others) part_marks part_octets) so_far.octets_left step) in
    let both =
    Joins-append n size samples (take at marks) (take (size * at) octets) (take at other_marks)
    (take (size * at) others) (take at now_marks) (take (size * at) now_octets)
    (marks_part at count marks) (octets_part size at count octets)
    (marks_part at count other_marks) (octets_part size at count others) part_marks part_octets
    are.sizes before.first.long before_others.first.long alike so_far.done here in
    let marks_is : (xs : List ℕ)
    → take end xs ≡ take at xs ++ marks_part at count xs =
    λ xs. ap (λ (k : ℕ). take k xs) e ∙ take-add at count xs in
    let octets_is : (xs : List ℕ)
    → take (size * end) xs ≡ take (size * at) xs ++ octets_part size at count xs =
    λ xs. ap (λ (k : ℕ). take k xs) split ∙ take-add (size * at) (size * count) xs in
    let new_marks : take end ms ≡ take at now_marks ++ part_marks =
    ap (λ (k : ℕ). take k ms) e ∙ take_written at count now_marks part_marks room part_long in
    let new_octets : take (size * end) os ≡ take (size * at) now_octets ++ part_octets =
    ap (λ (k : ℕ). take k os) split
    ∙ take_written (size * at) (size * count) now_octets part_octets fits octets_long in
    record {
      marks_long = length_written at count now_marks part_marks room part_long ∙ so_far.marks_long;
      octets_long =
          length_written (size * at) (size * count) now_octets part_octets fits octets_long
          ∙ so_far.octets_long;
      done =
          rw (
            marks_is marks,
            octets_is octets,
            marks_is other_marks,
            octets_is others,
            new_marks,
            new_octets,
          ) both;
      marks_left =
          ap (λ (k : ℕ). drop k ms) e ∙ drop_written at count now_marks part_marks room part_long
          ∙ ap (drop count) so_far.marks_left ∙ drop-drop count at marks
          ∙ ap (λ (k : ℕ). drop k marks) (sym e);
      octets_left =
          ap (λ (k : ℕ). drop k os) split
          ∙ drop_written (size * at) (size * count) now_octets part_octets fits octets_long
          ∙ ap (drop (size * count)) so_far.octets_left
          ∙ drop-drop (size * count) (size * at) octets
          ∙ ap (λ (k : ℕ). drop k octets) (sym split);
    }

take_whole : (k : ℕ) (xs : List ℕ) → k ≡ length xs → take k xs ≡ xs
take_whole k xs e = ap (take k) (sym (append-nil xs)) ∙ take_at xs [] k (sym e)

-- all of them
pub joined_all : (n size samples at : ℕ)
    (marks octets other_marks others new_marks new_octets : List ℕ)
    → AreAlike n size samples marks octets other_marks others → at ≡ length marks
    → JoinedTo n size samples at marks octets other_marks others new_marks new_octets
    → Joins n size samples marks octets other_marks others new_marks new_octets
joined_all n size samples at marks octets other_marks others new_marks new_octets are end so_far =
    let times : size * at ≡ size * length marks = ap (λ (k : ℕ). size * k) end in
    let before = so_far.done in
    let e0 = take_whole at marks end in
    let e1 = take_whole (size * at) octets (times ∙ sym are.packed.long) in
    let e2 = take_whole at other_marks (end ∙ sym are.alike) in
    let e3 =
    take_whole (size * at) others
    (times ∙ ap (λ (k : ℕ). size * k) (sym are.alike) ∙ sym are.other.long) in
    let e4 = take_whole at new_marks (end ∙ sym so_far.marks_long) in
    let e5 =
    take_whole (size * at) new_octets (times ∙ sym are.packed.long ∙ sym so_far.octets_long) in
    rw (e0, e1, e2, e3, e4, e5) at before

-- ---- the same in the numbers that the code's slices have

-- a part from group number at on, as slices of marks and of octets have it
pub record IsPart (size at count marks_at marks_count octets_at octets_count : ℕ) : Type 0 where
  pub marks_at_is : marks_at ≡ at
  pub marks_count_is : marks_count ≡ count
  pub octets_at_is : octets_at ≡ size * at
  pub octets_count_is : octets_count ≡ size * count

-- from one number to another
pub part_between : (size z at count end : ℕ) → z ≡ size → end ≡ at + count
    → IsPart size at count at (end - at) (z * at) (z * end - z * at)
part_between size z at count end same e = record {
  marks_at_is = refl;
  marks_count_is = omega arith;
  octets_at_is = ap (λ (x : ℕ). x * at) same;
  octets_count_is =
      ap (λ (x : ℕ). x * end - x * at) same ∙ ap (λ (x : ℕ). size * x - size * at) e
      ∙ omega (arith, mul-add size at count);
}

-- from a number to the end
pub part_behind : (size z at a count marks_long octets_long : ℕ) → z ≡ size → a ≡ at
    → at + count ≡ marks_long → octets_long ≡ size * marks_long
    → IsPart size at count a (marks_long - a) (z * a) (octets_long - z * a)
part_behind size z at a count marks_long octets_long same here e long = record {
  marks_at_is = here;
  marks_count_is = omega arith;
  octets_at_is = ap (λ (x : ℕ). x * a) same ∙ ap (λ (x : ℕ). size * x) here;
  octets_count_is =
      ap (λ (x : ℕ). octets_long - x * a) same ∙ ap (λ (x : ℕ). octets_long - size * x) here
      ∙ ap (λ (x : ℕ). x - size * at) (long ∙ ap (λ (x : ℕ). size * x) (sym e))
      ∙ omega (arith, mul-add size at count);
}

pub part_packed : (n size samples at count a c oa oc : ℕ) (marks octets : List ℕ)
    → IsPart size at count a c oa oc → AreSizes n size samples → at + count ≤ length marks
    → IsPacked n size samples marks octets
    → IsPacked n size samples (take c (drop a marks)) (take oc (drop oa octets))
part_packed n size samples at count a c oa oc marks octets at_part is le packed =
    rw (at_part.marks_at_is, at_part.marks_count_is, at_part.octets_at_is, at_part.octets_count_is)
    (packed_part n size samples at count marks octets is le packed)

pub left_packed : (n size samples at count a c oa oc : ℕ)
    (marks octets other_marks others new_marks new_octets : List ℕ) → IsPart size at count a c oa oc
    → AreAlike n size samples marks octets other_marks others → at + count ≤ length marks
    → JoinedTo n size samples at marks octets other_marks others new_marks new_octets
    → IsPacked n size samples (take c (drop a new_marks)) (take oc (drop oa new_octets))
left_packed n size samples at count a c oa oc marks octets other_marks others new_marks new_octets
    at_part are le so_far =
    rw (at_part.marks_at_is, at_part.marks_count_is, at_part.octets_at_is, at_part.octets_count_is)
    (left_part n size samples at count marks octets other_marks others new_marks new_octets are
    le so_far)

pub part_joined : (n size samples at count end a c oa oc a1 c1 oa1 oc1 : ℕ)
    (marks octets other_marks others now_marks now_octets part_marks part_octets : List ℕ)
    → IsPart size at count a c oa oc → IsPart size at count a1 c1 oa1 oc1
    → AreAlike n size samples marks octets other_marks others → at + count ≤ length marks
    → end ≡ at + count
    → JoinedTo n size samples at marks octets other_marks others now_marks now_octets
    → Joins n size samples (take c (drop a now_marks)) (take oc (drop oa now_octets))
    (take c1 (drop a1 other_marks)) (take oc1 (drop oa1 others)) part_marks part_octets
    → JoinedTo n size samples end marks octets other_marks others
    (put_mid a c now_marks part_marks) (put_mid oa oc now_octets part_octets)
part_joined n size samples at count end a c oa oc a1 c1 oa1 oc1 marks octets other_marks others
    now_marks now_octets part_marks part_octets here there are le e so_far step =
    let others_here : Joins n size samples (take c (drop a now_marks))
    (take oc (drop oa now_octets)) (marks_part at count other_marks)
    (octets_part size at count others) part_marks part_octets =
    rw (
      ← there.octets_at_is,
      ← there.octets_count_is,
      ← there.marks_at_is,
      ← there.marks_count_is,
    ) step in
    let step_here : Joins n size samples (marks_part at count now_marks)
    (octets_part size at count now_octets) (marks_part at count other_marks)
    (octets_part size at count others) part_marks part_octets =
    subst (λ (k : ℕ). Joins n size samples (marks_part at count now_marks)
    (take k (drop (size * at) now_octets)) (marks_part at count other_marks)
    (octets_part size at count others) part_marks part_octets) here.octets_count_is
    (subst (λ (k : ℕ). Joins n size samples (marks_part at count now_marks)
    (take oc (drop k now_octets)) (marks_part at count other_marks)
    (octets_part size at count others) part_marks part_octets) here.octets_at_is
    (subst (λ (k : ℕ). Joins n size samples (take k (drop at now_marks))
    (take oc (drop oa now_octets)) (marks_part at count other_marks)
    (octets_part size at count others) part_marks part_octets) here.marks_count_is
    (subst (λ (k : ℕ). Joins n size samples (take c (drop k now_marks))
    (take oc (drop oa now_octets)) (marks_part at count other_marks)
    (octets_part size at count others) part_marks part_octets) here.marks_at_is
    others_here))) in
    rw (here.marks_at_is, here.marks_count_is, here.octets_at_is, here.octets_count_is)
    (joined_more n size samples at count end marks octets other_marks others now_marks now_octets
    part_marks part_octets are le e so_far step_here)

pub are_alike : (s : Sampling) (d : Depth) (marks octets other_marks others : List ℕ)
    → IsPacked (bits_of d) (pixel_group s d).octets (pixel_group s d).samples marks octets
    → IsPacked (bits_of d) (pixel_group s d).octets (pixel_group s d).samples other_marks others
    → length other_marks ≡ length marks
    → AreAlike (bits_of d) (pixel_group s d).octets
    (pixel_group s d).samples marks octets other_marks others
are_alike s d marks octets other_marks others packed other alike =
    record { sizes = sizes s d; packed = packed; other = other; alike = alike }

-- ---- one group

one_part : (i : ℕ) (xs : List ℕ) → i < length xs
    → take ((i + 1) - i) (drop i xs) ≡ get_or xs i 0 ∷ []
one_part i xs lt =
    let e : (i + 1) - i ≡ 1 = omega arith in
    ap (λ (k : ℕ). take k (drop i xs)) e ∙ ap (take 1) (drop_more xs i 0 lt)

pub set_split : (i : ℕ) (xs : List ℕ) (x : ℕ) → i < length xs
    → take i xs ++ x ∷ drop 1 (drop i xs) ≡ set xs i x
set_split i [] x lt = absurd (omega arith)
set_split zero (y ∷ ys) x lt = refl
set_split (suc i) (y ∷ ys) x lt = ap (λ (zs : List ℕ). y ∷ zs) (set_split i ys x (omega arith))

one_set : (i : ℕ) (xs : List ℕ) (x : ℕ) → i < length xs
    → put_mid i ((i + 1) - i) xs (x ∷ []) ≡ set xs i x
one_set i xs x lt =
    let e : (i + 1) - i ≡ 1 = omega arith in
    ap (λ (k : ℕ). put_mid i k xs (x ∷ [])) e ∙ set_split i xs x lt

pub one_packed : (n size samples i oa oc : ℕ) (marks octets : List ℕ)
    → IsPart size i 1 i ((i + 1) - i) oa oc → AreSizes n size samples → i < length marks
    → IsPacked n size samples marks octets
    → IsPacked n size samples (get_or marks i 0 ∷ []) (take oc (drop oa octets))
one_packed n size samples i oa oc marks octets here is lt packed =
    subst (λ (ms : List ℕ). IsPacked n size samples ms (take oc (drop oa octets)))
    (one_part i marks lt)
    (part_packed n size samples i 1 i ((i + 1) - i) oa oc marks octets here is (omega arith) packed)

pub one_left : (n size samples i oa oc : ℕ)
    (marks octets other_marks others new_marks new_octets : List ℕ)
    → IsPart size i 1 i ((i + 1) - i) oa oc
    → AreAlike n size samples marks octets other_marks others → i < length marks
    → JoinedTo n size samples i marks octets other_marks others new_marks new_octets
    → IsPacked n size samples (get_or new_marks i 0 ∷ []) (take oc (drop oa new_octets))
one_left n size samples i oa oc marks octets other_marks others new_marks new_octets here are lt
    so_far =
    subst (λ (ms : List ℕ). IsPacked n size samples ms (take oc (drop oa new_octets)))
    (one_part i new_marks (omega (arith, so_far.marks_long)))
    (left_packed n size samples i 1 i
    ((i + 1) - i) oa oc marks octets other_marks others new_marks new_octets here are
    (omega arith) so_far)

pub one_joined : (n size samples i oa oc : ℕ)
    (marks octets other_marks others now_marks now_octets : List ℕ) (mark : ℕ)
    (part_octets : List ℕ)
    → IsPart size i 1 i ((i + 1) - i) oa oc
    → AreAlike n size samples marks octets other_marks others → i < length marks
    → JoinedTo n size samples i marks octets other_marks others now_marks now_octets
    → Joins n size samples (get_or now_marks i 0 ∷ []) (take oc (drop oa now_octets))
    (get_or other_marks i 0 ∷ []) (take oc (drop oa others)) (mark ∷ []) part_octets
    → JoinedTo n size samples (i + 1) marks octets other_marks others (set now_marks i mark)
    (put_mid oa oc now_octets part_octets)
one_joined n size samples i oa oc marks octets other_marks others now_marks now_octets mark
    part_octets here are lt so_far step =
    let inside : i < length now_marks = omega (arith, so_far.marks_long) in
    let others_inside : i < length other_marks = omega (arith, are.alike) in
    let step_here : Joins n size samples (take ((i + 1) - i) (drop i now_marks))
    (take oc (drop oa now_octets)) (take ((i + 1) - i) (drop i other_marks))
    (take oc (drop oa others)) (mark ∷ []) part_octets =
    rw (one_part i now_marks inside, one_part i other_marks others_inside) step in
    subst (λ (ms : List ℕ). JoinedTo n size samples (i + 1) marks octets other_marks others ms
    (put_mid oa oc now_octets part_octets)) (one_set i now_marks mark inside)
    (part_joined n size samples i 1 (i + 1) i ((i + 1) - i) oa oc i
    ((i + 1) - i) oa oc marks octets other_marks others now_marks now_octets
    (mark ∷ []) part_octets
    here here are (omega arith) refl so_far step_here)

-- the marks alone, where the numbers are the part's own
pub part_marks : {size at count a c oa oc : ℕ} → IsPart size at count a c oa oc
    → IsPart size at count at count oa oc
part_marks here =
    record {
      marks_at_is = refl;
      marks_count_is = refl;
      octets_at_is =
          here.octets_at_is;
      octets_count_is = here.octets_count_is;
    }

pub marks_same : (n size samples : ℕ)
    (marks octets other_marks same_marks others new_marks new_octets : List ℕ)
    → other_marks ≡ same_marks
    → Joins n size samples marks octets other_marks others new_marks new_octets
    → Joins n size samples marks octets same_marks others new_marks new_octets
marks_same n size samples marks octets other_marks same_marks others new_marks new_octets e joins =
    subst (λ
    (ms : List ℕ). Joins n size samples marks octets ms others new_marks new_octets) e joins

-- the octets of one group
pub one_octets : (n size samples g : ℕ) (marks octets : List ℕ) → AreSizes n size samples
    → g < length marks → IsPacked n size samples marks octets
    → length (take size (drop (size * g) octets)) ≡ size
one_octets n size samples g marks octets is lt packed =
    let room : size * (g + 1) ≤ size * length marks =
    times_le size (g + 1) (length marks) (omega arith) in
    let both : size * (g + 1) ≡ size * g + size * 1 = mul-add size g 1 in
    let one : size * 1 ≡ size = omega arith in
    length-take-le size (drop (size * g) octets)
    (omega (arith, packed.long, length-drop (size * g) octets))

pub first_one : (i : ℕ) (xs : List ℕ) → i < length xs → take 1 (drop i xs) ≡ get_or xs i 0 ∷ []
first_one i xs lt = ap (take 1) (drop_more xs i 0 lt)
