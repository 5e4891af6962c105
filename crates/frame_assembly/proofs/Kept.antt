-- What a frame keeps, and its cells.
use Rattle.std.proofs.Common.{◌≡◌, ℕ, zero, suc, ◌+◌, ◌*◌, ◌^◌, ◌<◌, Bool, true, false, ◌==◌}
use Rattle.std.proofs.Common.{if◌then◌else◌, List, [], ◌∷◌, ◌++◌, length, get_or, take, drop, map}
use Rattle.std.proofs.Common.{replicate, refl, sym, ap, ◌∙◌, subst, inl, arith}
use Rattle.std.specs.Int.{bit_at}
use Rattle.std.specs.List.{AllByRecursion, flat_map}
use Rattle.std.proofs.lemmas.List.{get_or-replicate, length-replicate, replicate-append-replicate}
use Rattle.std.proofs.lemmas.List.{take_at}
use Rattle.std.proofs.Math.Nat.{mul-suc, zero-div}
use Rattle.std.proofs.lemmas.Nat.{pow_pos}
use Rattle.st_format.specs.declared.cell.Cell.{Cell}
use Rattle.st_format.specs.declared.cell.Cell.TheVariants.{Missing, Value, Contested}
use Rattle.st_format.specs.declared.format.Format.{Format}
use Rattle.st_format.specs.Fit.{CellFits}
use Rattle.st_format.specs.Pgroup.{bits_of, pixel_group}
use Rattle.st_format.specs.Picture.{FitsDepth}
use Rattle.st_format.specs.Position.{sample_count, group_count}
use Rattle.st_format.specs.Raster.{Raster, cells_of, joined_cells, joined_rasters, offers_in_all}
use Rattle.payload_header.specs.declared.payload.Segment.{Segment as SegmentView}
use Rattle.payload_header.specs.declared.payload.PayloadView.{PayloadView}
use Rattle.payload_header.specs.Payload.{seen_segment}
use Rattle.payload_header.specs.View.{segments_of}
use Rattle.st_format.specs.Samples.{bits, values_in}
use Rattle.st_format.proofs.Spelled.{values_in-spelled}
use Rattle.st_format.proofs.WholeOctets.{values_in-fit}
use Rattle.frame_assembly.specs.Packed.{ArePacked, HasAllGroups, IsMark, IsPacked, cells_from}
use Rattle.frame_assembly.specs.Packed.{cells_in}
use Rattle.frame_assembly.specs.Packed.{marked, packed_cells}
use Rattle.st_format.specs.Cell.{known_value}
use Rattle.frame_assembly.proofs.PackedLemmas.{AreSizes, groups_agree, length-packed_cells, sizes}
use Rattle.frame_assembly.proofs.GroupJoins.{AreMissing, packed_missing}
use Rattle.frame_assembly.proofs.Segments.{cells_long, sample_count_groups}

-- ---- values fit

seen_fits : (f : Format) (v : ℕ) (b : Bool) → FitsDepth f v
    → CellFits f (if b then Contested else Value v)
seen_fits f v true fits = tt
seen_fits f v false fits = fits

present_fits : (f : Format) (v : ℕ) (p b : Bool) → FitsDepth f v
    → CellFits f (if p then (if b then Contested else Value v) else Missing)
present_fits f v true b fits = seen_fits f v b fits
present_fits f v false b fits = tt

marked_fits : (f : Format) (m i v : ℕ) → FitsDepth f v → CellFits f (marked m i v)
unfolding marked
marked_fits f m i v fits = present_fits f v (bit_at m 15 == 1) (bit_at m i == 1) fits

cells_fit : (f : Format) (m i : ℕ) (vs : List ℕ) → AllByRecursion (FitsDepth f) vs
    → AllByRecursion (CellFits f) (cells_from m i vs)
unfolding cells_from
cells_fit f m i [] fits = tt
cells_fit f m i (v ∷ vs) fits = (marked_fits f m i v fits.0, cells_fit f m (i + 1) vs fits.1)

both_fit : (f : Format) (cs ds : List Cell) → AllByRecursion (CellFits f) cs
    → AllByRecursion (CellFits f) ds → AllByRecursion (CellFits f) (cs ++ ds)
both_fit f [] ds a b = b
both_fit f (c ∷ cs) ds a b = (a.0, both_fit f cs ds a.1 b)

packed_fit : (f : Format) (size : ℕ) (marks octets : List ℕ)
    → AllByRecursion (CellFits f) (packed_cells (bits_of f.depth) size marks octets)
unfolding packed_cells
packed_fit f size [] octets = tt
packed_fit f size (m ∷ marks) octets =
    both_fit f (cells_from m 0 (values_in (bits_of f.depth) (take size octets)))
    (packed_cells (bits_of f.depth) size marks (drop size octets))
    (cells_fit f m 0 (values_in (bits_of f.depth) (take size octets))
    (values_in-fit (bits_of f.depth) (take size octets)))
    (packed_fit f size marks (drop size octets))

pub kept : (f : Format) (marks octets : List ℕ) → length marks ≡ group_count f
    → ArePacked f marks octets → HasAllGroups f marks octets
kept f marks octets groups packed = record {
  groups = groups;
  packed = packed;
  frame =
      record {
        whole = cells_long f marks octets groups packed;
        fit =
            packed_fit f (pixel_group f.sampling f.depth).octets marks octets;
      };
}

-- ---- nothing is known

zero_bits : (w : ℕ) → bits w 0 ≡ replicate w 0
unfolding bits
zero_bits zero = refl
zero_bits (suc w) = rw (zero_bits w, zero-div (2 ^ w)) refl

all_zero_bits : (w k : ℕ) → flat_map (bits w) (replicate k 0) ≡ replicate (w * k) 0
all_zero_bits w zero = let e : w * 0 ≡ 0 = omega arith in rw e refl
all_zero_bits w (suc k) =
    let e : w + w * k ≡ w * suc k = omega (arith, mul-suc w k) in
    ap (λ (xs : List ℕ). xs ++ flat_map (bits w) (replicate k 0)) (zero_bits w)
    ∙ ap (λ (xs : List ℕ). replicate w 0 ++ xs) (all_zero_bits w k)
    ∙ replicate-append-replicate w (w * k) 0 ∙ ap (λ (j : ℕ). replicate {A = ℕ} j 0) e

zeros_fit : (n k : ℕ) → AllByRecursion (λ v. v < 2 ^ n) (replicate k 0)
zeros_fit n zero = tt
zeros_fit n (suc k) = (pow_pos n, zeros_fit n k)

zero_values : (n k l : ℕ) → 0 < n → 8 * k ≡ n * l → values_in n (replicate k 0) ≡ replicate l 0
zero_values n k l pos e = values_in-spelled n (replicate k 0) (replicate l 0) pos (record {
  fit = zeros_fit n l;
  same_bits = all_zero_bits 8 k ∙ ap (λ (j : ℕ). replicate {A = ℕ} j 0) e ∙ sym (all_zero_bits n l);
})

missing_list : (cs : List Cell) → AreMissing cs → cs ≡ replicate (length cs) Missing
missing_list [] are = refl
missing_list (c ∷ cs) are = let rest =
    missing_list cs are.1 in ap (λ (d : Cell). d ∷ cs) are.0
    ∙ ap (λ (ds : List Cell). Missing ∷ ds) rest

known_missing : (k : ℕ) → map known_value (replicate k Missing) ≡ replicate k 0
unfolding known_value
known_missing zero = refl
known_missing (suc k) = ap (λ (xs : List ℕ). 0 ∷ xs) (known_missing k)

zero_words : (samples k : ℕ) → AllByRecursion (IsMark samples) (replicate k 0)
unfolding IsMark
zero_words samples zero = tt
zero_words samples (suc k) = (inl refl, zero_words samples k)

low_zero : (k j : ℕ) → j < length {A = ℕ} (replicate k 0)
    → get_or {A = ℕ} (replicate k 0) j 0 < 32768
low_zero k j lt =
    let e : get_or {A = ℕ} (replicate k 0) j 0 ≡ 0 =
    get_or-replicate {A = ℕ} k j 0 0 (omega (arith, length-replicate {A = ℕ} k 0)) in
    omega arith

pub zero_cells : (n size samples k : ℕ) → AreSizes n size samples
    → packed_cells n size (replicate k 0) (replicate (size * k) 0) ≡ replicate (samples * k) Missing
zero_cells n size samples k is =
    let marks : List ℕ = replicate k 0 in
    let octets : List ℕ = replicate (size * k) 0 in
    let marks_long : length marks ≡ k = length-replicate {A = ℕ} k 0 in
    let long : length octets ≡ size * length marks =
    length-replicate {A = ℕ} (size * k) 0 ∙ ap (λ (j : ℕ). size * j) (sym marks_long) in
    let many : length (packed_cells n size marks octets) ≡ samples * k =
    length-packed_cells n size samples marks octets is long
    ∙ ap (λ (j : ℕ). samples * j) marks_long in
    missing_list (packed_cells n size marks octets)
    (packed_missing n size marks octets (low_zero k))
    ∙ ap (λ (j : ℕ). replicate {A = Cell} j Missing) many

pub zero_packed : (n size samples k : ℕ) → AreSizes n size samples
    → IsPacked n size samples (replicate k 0) (replicate (size * k) 0)
zero_packed n size samples k is = record {
  long =
      length-replicate {A = ℕ} (size * k) 0
      ∙ ap (λ (j : ℕ). size * j) (sym (length-replicate {A = ℕ} k 0));
  words = zero_words samples k;
  known =
      zero_values n (size * k) (samples * k) is.bits (groups_agree n size samples k is)
      ∙ sym (ap (map known_value) (zero_cells n size samples k is) ∙ known_missing (samples * k));
}

pub blank_cells : (f : Format) (marks octets : List ℕ) (k : ℕ) → k ≡ group_count f
    → marks ≡ replicate k 0 → octets ≡ replicate ((pixel_group f.sampling f.depth).octets * k) 0
    → cells_in f marks octets ≡ replicate (sample_count f) Missing
blank_cells f marks octets k many is_marks is_octets =
    let size : ℕ = (pixel_group f.sampling f.depth).octets in
    ap (λ (ms : List ℕ). cells_in f ms octets) is_marks ∙ ap (cells_in f (replicate k 0)) is_octets
    ∙ zero_cells (bits_of f.depth) size (pixel_group f.sampling f.depth).samples k
    (sizes f.sampling f.depth)
    ∙ ap (λ (j : ℕ). replicate {A = Cell} j Missing)
    (ap (λ (j : ℕ). (pixel_group f.sampling f.depth).samples * j) many ∙ sample_count_groups f)

pub blank_kept : (f : Format) (marks octets : List ℕ) (k : ℕ) → k ≡ group_count f
    → marks ≡ replicate k 0 → octets ≡ replicate ((pixel_group f.sampling f.depth).octets * k) 0
    → HasAllGroups f marks octets
blank_kept f marks octets k many is_marks is_octets =
    kept f marks octets (ap length is_marks ∙ length-replicate {A = ℕ} k 0 ∙ many)
    (subst (λ (ms : List ℕ). ArePacked f ms octets) (sym is_marks)
    (subst (ArePacked f (replicate k 0)) (sym is_octets)
    (zero_packed (bits_of f.depth) (pixel_group f.sampling f.depth).octets
    (pixel_group f.sampling f.depth).samples k (sizes f.sampling f.depth))))

-- ---- through the vectors that keep them

-- what a vector holds once a slice of it was written
abbrev pub put_back : ℕ → List ℕ → List ℕ → List ℕ
put_back len items new = take len (new ++ drop (length new) items)

pub back : (len : ℕ) (items new : List ℕ) → length new ≡ len → put_back len items new ≡ new
back len items new long = take_at new (drop (length new) items) len long

pub kept_back : (f : Format) (marks_len octets_len : ℕ)
    (marks octets new_marks new_octets : List ℕ) → length new_marks ≡ marks_len
    → length new_octets ≡ octets_len
    → HasAllGroups f new_marks new_octets
    → HasAllGroups f (put_back marks_len marks new_marks) (put_back octets_len octets new_octets)
kept_back f marks_len octets_len marks octets new_marks new_octets long other_long is =
    subst (λ (ms : List ℕ). HasAllGroups f ms (put_back octets_len octets new_octets))
    (sym (back marks_len marks new_marks long))
    (subst (HasAllGroups f new_marks) (sym (back octets_len octets new_octets other_long)) is)

pub cells_back : (f : Format) (marks_len octets_len : ℕ)
    (marks octets new_marks new_octets : List ℕ) → length new_marks ≡ marks_len
    → length new_octets ≡ octets_len
    → cells_in f (put_back marks_len marks new_marks) (put_back octets_len octets new_octets)
    ≡ cells_in f new_marks new_octets
cells_back f marks_len octets_len marks octets new_marks new_octets long other_long =
    ap (λ (ms : List ℕ). cells_in f ms (put_back octets_len octets new_octets))
    (back marks_len marks new_marks long)
    ∙ ap (cells_in f new_marks) (back octets_len octets new_octets other_long)

abbrev pub frame_view : Format → List Cell → Raster
frame_view f cells = record { format = f; cells = cells }

-- what joining segments leaves, over plain variables
pub frame_put : (ts marks_len octets_len : ℕ) (f : Format) (r : Raster)
    (marks octets cells_marks cells_octets new_marks new_octets : List ℕ) (v : PayloadView)
    (segs : List SegmentView)
    → frame_view f (cells_in f marks octets) ≡ r → cells_marks ≡ marks → cells_octets ≡ octets
    → length new_marks ≡ marks_len → length new_octets ≡ octets_len → segs ≡ v.segments.items
    → cells_in f new_marks new_octets
    ≡ joined_cells (cells_in f cells_marks cells_octets)
    (cells_of f (offers_in_all f ts (map seen_segment segs)) ts)
    → cells_in f (put_back marks_len marks new_marks) (put_back octets_len octets new_octets)
    ≡ joined_cells r.cells (cells_of r.format (offers_in_all r.format ts (segments_of v)) ts)
frame_put ts marks_len octets_len f r marks octets cells_marks cells_octets new_marks new_octets v
    segs is_view same_marks same_octets long other_long is_segs joins =
    cells_back f marks_len octets_len marks octets new_marks new_octets long other_long ∙ joins
    ∙ ap
    (λ (ms : List ℕ). joined_cells (cells_in f ms cells_octets)
    (cells_of f (offers_in_all f ts (map seen_segment segs)) ts)) same_marks
    ∙ ap
    (λ (os : List ℕ). joined_cells (cells_in f marks os)
    (cells_of f (offers_in_all f ts (map seen_segment segs)) ts)) same_octets
    ∙ ap
    (λ (ss : List SegmentView). joined_cells (cells_in f marks octets)
    (cells_of f (offers_in_all f ts (map seen_segment ss)) ts)) is_segs
    ∙ ap
    (λ (q : Raster). joined_cells q.cells
    (cells_of q.format (offers_in_all q.format ts (segments_of v)) ts)) is_view

-- and what joining another frame leaves
pub frame_absorb : (marks_len octets_len : ℕ) (f g : Format) (r q : Raster)
    (marks octets cells_marks cells_octets other_marks others items_marks items_octets new_marks
    new_octets : List ℕ)
    → frame_view f (cells_in f marks octets) ≡ r
    → frame_view g (cells_in g items_marks items_octets) ≡ q → q.format ≡ r.format
    → cells_marks ≡ marks → cells_octets ≡ octets → other_marks ≡ items_marks
    → others ≡ items_octets → length new_marks ≡ marks_len → length new_octets ≡ octets_len
    → cells_in f new_marks new_octets
    ≡ joined_cells (cells_in f cells_marks cells_octets) (cells_in f other_marks others)
    → frame_view f
    (cells_in f (put_back marks_len marks new_marks) (put_back octets_len octets new_octets))
    ≡ joined_rasters r q
frame_absorb marks_len octets_len f g r q marks octets cells_marks cells_octets other_marks others
    items_marks items_octets new_marks new_octets is_view other_view same_format
    same_marks same_octets same_other_marks same_others long other_long joins =
    let formats : f ≡ g =
    ap (λ (x : Raster). x.format) is_view ∙ sym same_format
    ∙ sym (ap (λ (x : Raster). x.format) other_view) in
    ap (frame_view f)
    (cells_back f marks_len octets_len marks octets new_marks new_octets long other_long ∙ joins
    ∙ ap
    (λ (ms : List ℕ). joined_cells (cells_in f ms cells_octets)
    (cells_in f other_marks others)) same_marks
    ∙ ap (λ (os : List ℕ). joined_cells (cells_in f marks os) (cells_in f other_marks others))
    same_octets
    ∙ ap (λ (ms : List ℕ). joined_cells (cells_in f marks octets) (cells_in f ms others))
    same_other_marks
    ∙ ap (λ (os : List ℕ). joined_cells (cells_in f marks octets) (cells_in f items_marks os))
    same_others
    ∙ ap
    (λ (h : Format). joined_cells (cells_in f marks octets)
    (cells_in h items_marks items_octets)) formats)
    ∙ ap (λ (x : Raster). joined_rasters (frame_view f (cells_in f marks octets)) x) other_view
    ∙ ap (λ (x : Raster). joined_rasters x q) is_view
