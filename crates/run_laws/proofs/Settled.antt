-- Frames of which nothing is missing, settled, are their pictures.
use Rattle.std.proofs.Common.{◌≡◌, ◌∙◌, ℕ, ◌<◌, List, [], ◌∷◌, Option, None, Some, ap, get_or}
use Rattle.std.proofs.Common.{length, map, refl, slice_index, subst, sym}
use Rattle.std.specs.List.{AllByRecursion, range_with_len}
use Rattle.std.proofs.lemmas.List.{get_or-map}
use Rattle.std.proofs.lemmas.List.FromFn.{fill_by_all}
use Rattle.frame_assembly.specs.Settled.{settled_cell}
use Rattle.path_receiver.specs.Sender.{picture_raster}
use Rattle.receiver_engines.specs.Inputs.{settled_by_fill, settled_frames, settled_over}
use Rattle.st_format.specs.declared.cell.Cell.{Cell}
use Rattle.st_format.specs.declared.cell.Cell.TheVariants.{Missing, Value}
use Rattle.st_format.specs.declared.format.Format.{Format}
use Rattle.st_format.specs.Picture.{Values, value_at}
use Rattle.st_format.specs.Position.{Position, place, places, sample_count}
use Rattle.st_format.specs.Raster.{cell_at}
use Rattle.st_format.proofs.Numbering.{number_of-place}
use Rattle.st_format.proofs.Rasters.{map-map}

-- ---- one frame

-- the value of a number, whatever lies below it
settled_at : (base : Position → ℕ) (p : Values) (k : ℕ) → k < length p.samples
    → get_or p.samples k 0
    ≡ settled_cell (cell_at (picture_raster p) (place p.format k)) (base (place p.format k))
settled_at base p k lt =
    let at : Position = place p.format k in
    let cells : List Cell = map (λ (v : ℕ). Value v) p.samples in
    sym
    (ap (λ (n : ℕ). settled_cell (get_or cells n Missing) (base at)) (number_of-place p.format k)
    ∙ ap (λ (c : Cell). settled_cell c (base at))
    (get_or-map (λ (v : ℕ). Value v) p.samples k 0 Missing lt))

settled_samples : (base : Position → ℕ) (p : Values) → length p.samples ≡ sample_count p.format
    → map (λ at. settled_cell (cell_at (picture_raster p) at) (base at)) (places p.format)
    ≡ p.samples
settled_samples base p long =
    map-map (λ (at : Position). settled_cell (cell_at (picture_raster p) at) (base at))
    (place p.format) (range_with_len 0 (sample_count p.format))
    ∙ sym
    (fill_by_all
    (λ (k : ℕ). settled_cell (cell_at (picture_raster p) (place p.format k))
    (base (place p.format k)))
    p.samples (sample_count p.format) 0 long
    (λ k lt. settled_at base p k (subst (λ (n : ℕ). k < n) (sym long) lt)))

abbrev values : Format → List ℕ → Values
values f samples = record { format = f; samples = samples }

pub settled_whole : (base : Position → ℕ) (p : Values)
    → length p.samples ≡ sample_count p.format → settled_over base (picture_raster p) ≡ p
settled_whole base p long =
    ap (λ (samples : List ℕ). values p.format samples) (settled_samples base p long)

-- ---- the frames of a job

-- each picture has a value for each position
abbrev pub AllWhole : List Values → Type 0
AllWhole ps = AllByRecursion (λ p. length p.samples ≡ sample_count p.format) ps

filled_whole : (fill : List ℕ) (ps : List Values) → AllWhole ps
    → map (settled_by_fill fill) (map picture_raster ps) ≡ ps
filled_whole fill [] all = refl
filled_whole fill (p ∷ ps) all =
    ap (λ (x : Values). x ∷ map (settled_by_fill fill) (map picture_raster ps))
    (settled_whole (λ at. slice_index fill at.component) p all.0)
    ∙ ap (λ (xs : List Values). p ∷ xs) (filled_whole fill ps all.1)

-- by whatever fill, and whatever is held
pub frames_whole : (held : Option Values) (fill : List ℕ) (ps : List Values) → AllWhole ps
    → settled_frames held fill (map picture_raster ps) ≡ ps
frames_whole None fill ps all = filled_whole fill ps all
frames_whole (Some q) fill [] all = refl
frames_whole (Some q) fill (p ∷ ps) all =
    ap (λ (x : Values). x ∷ map (settled_by_fill fill) (map picture_raster ps))
    (settled_whole (value_at q) p all.0)
    ∙ ap (λ (xs : List Values). p ∷ xs) (filled_whole fill ps all.1)
