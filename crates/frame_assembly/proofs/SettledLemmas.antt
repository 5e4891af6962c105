-- Settled cells, by position and by number.
use Rattle.std.proofs.Common.{◌≡◌, ℕ, ◌+◌, ◌*◌, ◌≤◌, List, sym, ap, ◌∙◌, subst, length, get_or}
use Rattle.std.proofs.Common.{arith, map}
use Rattle.std.specs.List.{range_with_len}
use Rattle.std.proofs.lemmas.List.FromFn.{length-map-range_with_len}
use Rattle.std.proofs.Math.Nat.{mul-add}
use Rattle.st_format.specs.declared.cell.Cell.{Cell}
use Rattle.st_format.specs.declared.cell.Cell.TheVariants.{Missing, Value, Contested}
use Rattle.st_format.specs.declared.format.Format.{Format}
use Rattle.st_format.specs.Fit.{CellFits, IsFrame}
use Rattle.st_format.specs.Pgroup.{pixel_group}
use Rattle.st_format.specs.Picture.{FitsDepth, IsPicture, Values}
use Rattle.st_format.specs.Position.{Position, number_of, place, places, sample_count, group_count}
use Rattle.st_format.specs.Raster.{Raster, cell_at}
use Rattle.st_format.proofs.Fits.{cell_number-fits, each_fits, value_number-fits}
use Rattle.st_format.proofs.Numbering.{number_of-place}
use Rattle.st_format.proofs.PictureLemmas.{component-place}
use Rattle.st_format.proofs.Rasters.{map-map, map_same}
use Rattle.frame_assembly.specs.declared.base.Base.{Base}
use Rattle.frame_assembly.specs.declared.base.Base.TheVariants.{Fill, Hold}
use Rattle.frame_assembly.specs.Settled.{HoldsPicture, IsBaseOf, base_number, base_value}
use Rattle.frame_assembly.specs.Settled.{settled_picture}
use Rattle.frame_assembly.specs.Settled.{settled_cell, settled_numbers}
use Rattle.frame_assembly.proofs.Kept.{frame_view}
use Rattle.frame_assembly.proofs.Runs.{times_le}
use Rattle.frame_assembly.proofs.Segments.{sample_count_groups}

-- ---- by number

base_place : {A : Type 0} (f : Format) (base : Base A) (k : ℕ) → IsBaseOf base f
    → base_value base (place f k) ≡ base_number f.sampling base k
base_place f (Fill fill) k is = ap (λ (c : ℕ). get_or fill c 0) (component-place f k)
base_place f (Hold picture) k is =
    ap (λ (g : Format). get_or picture.now.samples (number_of g (place f k)) 0) is
    ∙ ap (λ (n : ℕ). get_or picture.now.samples n 0) (number_of-place f k)

-- the value at a position, by its number
at_number : {A : Type 0} (r : Raster) (base : Base A) (k : ℕ) → IsBaseOf base r.format
    → settled_cell (cell_at r (place r.format k)) (base_value base (place r.format k))
    ≡ settled_cell (get_or r.cells k Missing) (base_number r.format.sampling base k)
at_number r base k is =
    ap (λ (n : ℕ). settled_cell (get_or r.cells n Missing) (base_value base (place r.format k)))
    (number_of-place r.format k)
    ∙ ap (settled_cell (get_or r.cells k Missing)) (base_place r.format base k is)

by_count : {A : Type 0} (r : Raster) (base : Base A) → IsBaseOf base r.format
    → (settled_picture r base).samples
    ≡ map (λ k. settled_cell (get_or r.cells k Missing) (base_number r.format.sampling base k))
    (range_with_len 0 (sample_count r.format))
by_count r base is =
    map-map (λ (p : Position). settled_cell (cell_at r p) (base_value base p)) (place r.format)
    (range_with_len 0 (sample_count r.format))
    ∙ map_same
    (λ (k : ℕ). settled_cell (cell_at r (place r.format k))
    (base_value base (place r.format k)))
    (λ k. settled_cell (get_or r.cells k Missing) (base_number r.format.sampling base k))
    (range_with_len 0 (sample_count r.format)) (λ k. at_number r base k is)

pub settled-samples : {A : Type 0} (r : Raster) (base : Base A) → IsBaseOf base r.format
    → length r.cells ≡ sample_count r.format
    → settled_numbers r.cells (base_number r.format.sampling base)
    ≡ (settled_picture r base).samples
settled-samples r base is whole =
    ap (λ (n : ℕ). map
    (λ k. settled_cell (get_or r.cells k Missing) (base_number r.format.sampling base k))
    (range_with_len 0 n)) whole
    ∙ sym (by_count r base is)

-- ---- the values fit

value_fits : (f : Format) (c : Cell) (v : ℕ) → CellFits f c → FitsDepth f v
    → FitsDepth f (settled_cell c v)
value_fits f Missing v a b = b
value_fits f (Value w) v a b = a
value_fits f Contested v a b = b

base_fits : {A : Type 0} (f : Format) (base : Base A) (p : Position) → IsBaseOf base f
    → HoldsPicture base → FitsDepth f (base_value base p)
base_fits f (Fill fill) p is held = value_number-fits f fill p.component is
base_fits f (Hold picture) p is held =
    subst (λ (g : Format). FitsDepth g
    (get_or picture.now.samples (number_of picture.now.format p) 0)) is
    (value_number-fits picture.now.format picture.now.samples
    (number_of picture.now.format p) held.fit)

pub settled-is_picture : {A : Type 0} (r : Raster) (base : Base A) → IsFrame r
    → IsBaseOf base r.format → HoldsPicture base → IsPicture (settled_picture r base)
settled-is_picture r base frame is held =
    record {
      whole =
          ap length (by_count r base is)
          ∙ length-map-range_with_len
          (λ k. settled_cell (get_or r.cells k Missing) (base_number r.format.sampling base k)) 0
          (sample_count r.format);
      fit =
          each_fits (FitsDepth r.format)
          (λ (p : Position). settled_cell (cell_at r p) (base_value base p)) (places r.format)
          (λ p. value_fits r.format (cell_at r p) (base_value base p)
          (cell_number-fits r.format r.cells (number_of r.format p) frame.fit)
          (base_fits r.format base p is held));
    }

-- what is held from a group on has enough values for those behind it
pub held_room : {f : Format} {v : Values} {z : ℕ} {xs : List ℕ} (first count : ℕ)
    → v.format ≡ f → IsPicture v → xs ≡ v.samples → z ≡ (pixel_group f.sampling f.depth).samples
    → first + count ≤ group_count f → z * first + z * count ≤ length xs
held_room {f} {v} {z} {xs} first count same is are of_group le =
    let long : length xs ≡ z * group_count f =
    ap length are ∙ is.whole ∙ ap sample_count same ∙ sym (sample_count_groups f)
    ∙ ap (λ (k : ℕ). k * group_count f) (sym of_group) in
    omega (arith, long, times_le z (first + count) (group_count f) le, mul-add z first count)

-- What settling the cells of a frame gives, over plain variables
pub settled_as : {A : Type 0} (f : Format) (items cells : List Cell) (xs : List ℕ) (base : Base A)
    → IsBaseOf base f → length items ≡ sample_count f → cells ≡ items
    → xs ≡ settled_numbers cells (base_number f.sampling base)
    → xs ≡ (settled_picture (frame_view f items) base).samples
settled_as f items cells xs base is_base whole same is =
    is ∙ ap (λ (cs : List Cell). settled_numbers cs (base_number f.sampling base)) same
    ∙ settled-samples (frame_view f items) base is_base whole
