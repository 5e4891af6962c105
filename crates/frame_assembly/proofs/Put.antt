-- What writing a segment's samples does to the cells.
use Rattle.std.proofs.Common.{◌≡◌, ℕ, ◌+◌, ◌*◌, ◌/◌, ◌%◌, ◌<◌, ◌≤◌, List, [], ◌∷◌, length, get_or}
use Rattle.std.proofs.Common.{drop, map, add-one, refl, sym, ap, ◌∙◌, arith}
use Rattle.std.proofs.lemmas.List.{nil_from_length, drop_all}
use Rattle.std.proofs.Math.Seq.{drop-cons}
use Rattle.st_format.specs.declared.cell.Cell.{Cell}
use Rattle.st_format.specs.declared.sampling.Sampling.{Sampling}
use Rattle.st_format.specs.declared.sampling.Sampling.TheVariants.{Ycc422, Ycc444, Rgb}
use Rattle.st_format.specs.declared.sampling.Depth.{Depth}
use Rattle.st_format.specs.declared.sampling.Depth.TheVariants.{D8, D10, D12, D16}
use Rattle.st_format.specs.declared.format.Format.{Format}
use Rattle.st_format.specs.Samples.{values_in}
use Rattle.st_format.specs.Position.{run_columns, run_samples, row_samples, sample_count}
use Rattle.st_format.specs.Pgroup.{pixel_group, bits_of}
use Rattle.st_format.specs.Raster.{Segment, first_number, offers_from, offers_in, offers_in_all}
use Rattle.st_format.specs.Raster.{cells_of, joined_cells}
use Rattle.pgroup_pack.proofs.Values.{length-values_in}
use Rattle.pgroup_pack.proofs.Values.{spelled_values}
use Rattle.st_format.proofs.Rasters.{cells_of-append, joined-assoc, joined_none}
use Rattle.payload_header.specs.declared.payload.Segment.{Segment as SegmentView}
use Rattle.payload_header.specs.Payload.{IsInside, seen_segment}
use Rattle.frame_assembly.specs.Written.{written_from}
use Rattle.frame_assembly.proofs.WrittenLemmas.{written_from-joined}

-- a segment ends in its row
fits_row : (s : Sampling) (d : Depth) (width offset len : ℕ) → width % 2 ≡ 0
    → offset % (pixel_group s d).pixels ≡ 0 → len % (pixel_group s d).octets ≡ 0
    → offset + len / (pixel_group s d).octets * (pixel_group s d).pixels ≤ width
    → offset / run_columns s * run_samples s + 8 * len / bits_of d
    ≤ width / run_columns s * run_samples s
fits_row Ycc422 D8 width offset len even at whole le = omega arith
fits_row Ycc422 D10 width offset len even at whole le = omega arith
fits_row Ycc422 D12 width offset len even at whole le = omega arith
fits_row Ycc422 D16 width offset len even at whole le = omega arith
fits_row Ycc444 D8 width offset len even at whole le = omega arith
fits_row Ycc444 D10 width offset len even at whole le = omega arith
fits_row Ycc444 D12 width offset len even at whole le = omega arith
fits_row Ycc444 D16 width offset len even at whole le = omega arith
fits_row Rgb D8 width offset len even at whole le = omega arith
fits_row Rgb D10 width offset len even at whole le = omega arith
fits_row Rgb D12 width offset len even at whole le = omega arith
fits_row Rgb D16 width offset len even at whole le = omega arith

begins_in_row : (s : Sampling) (d : Depth) (width offset len : ℕ) → 0 < len
    → len % (pixel_group s d).octets ≡ 0
    → offset + len / (pixel_group s d).octets * (pixel_group s d).pixels ≤ width → offset < width
begins_in_row Ycc422 D8 width offset len some whole le = omega arith
begins_in_row Ycc422 D10 width offset len some whole le = omega arith
begins_in_row Ycc422 D12 width offset len some whole le = omega arith
begins_in_row Ycc422 D16 width offset len some whole le = omega arith
begins_in_row Ycc444 D8 width offset len some whole le = omega arith
begins_in_row Ycc444 D10 width offset len some whole le = omega arith
begins_in_row Ycc444 D12 width offset len some whole le = omega arith
begins_in_row Ycc444 D16 width offset len some whole le = omega arith
begins_in_row Rgb D8 width offset len some whole le = omega arith
begins_in_row Rgb D10 width offset len some whole le = omega arith
begins_in_row Rgb D12 width offset len some whole le = omega arith
begins_in_row Rgb D16 width offset len some whole le = omega arith

pub offset_below : (f : Format) (s : Segment) → 0 < length s.octets → IsInside s f
    → s.offset < f.width
offset_below f s some is =
    begins_in_row f.sampling f.depth f.width s.offset
    (length s.octets) some is.whole_groups is.columns

-- a row that ends in the raster
row_ends : (row height w n : ℕ) → row < height → n ≤ w → row * w + n ≤ height * w
row_ends row height w n lt le = grind (arith)

pub segment_ends : (f : Format) (s : Segment) → IsInside s f
    → first_number f s + 8 * length s.octets / bits_of f.depth ≤ sample_count f
segment_ends f s is =
    let inner =
    fits_row f.sampling f.depth f.width s.offset
    (length s.octets) f.whole_width.even is.at_group is.whole_groups is.columns in
    omega (
      arith,
      row_ends s.row f.height (row_samples f)
          (s.offset / run_columns f.sampling * run_samples f.sampling
          + 8 * length s.octets / bits_of f.depth) is.row inner,
    )

-- no octets spell no values
no_values : (d : Depth) → values_in (bits_of d) [] ≡ []
no_values d = sym (spelled_values d {octets = []} {vs = []} (record { fit = tt; same_bits = refl }))

-- A segment without octets offers nothing.
pub no_octets : (f : Format) (ts : ℕ) (cells : List Cell) (s : Segment)
    → length cells ≡ sample_count f → length s.octets ≡ 0
    → cells ≡ joined_cells cells (cells_of f (offers_in f ts s) ts)
no_octets f ts cells s whole none =
    let nil : s.octets ≡ [] = nil_from_length s.octets none in
    sym (ap
    (λ (os : List ℕ). joined_cells cells
    (cells_of f (offers_from f ts (first_number f s) (values_in (bits_of f.depth) os)) ts)) nil
    ∙ ap (λ (vs : List ℕ). joined_cells cells (cells_of f (offers_from f ts (first_number f s) vs)
    ts))
    (no_values f.depth)
    ∙ joined_none f ts cells whole)

-- Writing a segment's samples joins its offers.
pub segment_written : (f : Format) (ts : ℕ) (cells : List Cell) (s : Segment)
    → length cells ≡ sample_count f → IsInside s f
    → written_from (first_number f s) (values_in (bits_of f.depth) s.octets) cells
    ≡ joined_cells cells (cells_of f (offers_in f ts s) ts)
segment_written f ts cells s whole is =
    written_from-joined f ts (first_number f s) (values_in (bits_of f.depth) s.octets) cells whole
    (omega (arith, segment_ends f s is, length-values_in (bits_of f.depth) s.octets))

-- One segment joined, and the segments that are left
pub segments_more : (f : Format) (ts i : ℕ) (old cells new : List Cell) (ss : List SegmentView)
    (d : SegmentView) → i < length ss
    → new ≡ joined_cells cells (cells_of f (offers_in f ts (seen_segment (get_or ss i d))) ts)
    → joined_cells cells (cells_of f (offers_in_all f ts (map seen_segment (drop i ss))) ts) ≡ old
    → joined_cells new (cells_of f (offers_in_all f ts (map seen_segment (drop (i + 1) ss))) ts)
    ≡ old
segments_more f ts i old cells new ss d lt is before =
    let rest : List Segment = map seen_segment (drop (i + 1) ss) in
    let s : Segment = seen_segment (get_or ss i d) in
    let split : map seen_segment (drop i ss) ≡ s ∷ rest = rw (drop-cons ss i d lt, add-one) refl in
    ap (λ (cs : List Cell). joined_cells cs (cells_of f (offers_in_all f ts rest) ts)) is
    ∙ joined-assoc cells (cells_of f (offers_in f ts s) ts)
    (cells_of f (offers_in_all f ts rest) ts)
    ∙ ap (joined_cells cells) (sym (cells_of-append f (offers_in f ts s) (offers_in_all f ts rest)
    ts))
    ∙ ap (λ (xs : List Segment). joined_cells cells (cells_of f (offers_in_all f ts xs) ts))
    (sym split)
    ∙ before

pub segments_all : (f : Format) (ts i : ℕ) (old cells : List Cell) (ss : List SegmentView)
    → length cells ≡ sample_count f → length ss ≤ i
    → joined_cells cells (cells_of f (offers_in_all f ts (map seen_segment (drop i ss))) ts) ≡ old
    → cells ≡ old
segments_all f ts i old cells ss whole le before =
    let none : drop i ss ≡ [] = drop_all i ss le in
    sym (joined_none f ts cells whole)
    ∙ ap
    (λ (xs : List SegmentView). joined_cells cells
    (cells_of f (offers_in_all f ts (map seen_segment xs)) ts)) (sym none) ∙ before
