-- What is kept of a receiver is what a file can say.
use Rattle.std.proofs.Common.{◌≡◌, ℕ, zero, suc, ◌+◌, ◌*◌, ◌/◌, ◌%◌, ◌^◌, ◌<◌, ◌≤◌, true, false}
use Rattle.std.proofs.Common.{List, [], ◌∷◌, length, take, drop, get_or, replicate, All, drop-drop}
use Rattle.std.proofs.Common.{refl, sym, ap, ◌∙◌, subst, inl, inr, arith}
use Rattle.std.specs.List.{AllByRecursion}
use Rattle.std.proofs.Math.Nat.{div-lt_iff_lt-mul}
use Rattle.st_format.specs.declared.cell.Cell.{Cell}
use Rattle.st_format.specs.declared.cell.Cell.TheVariants.{Missing, Value, Contested}
use Rattle.st_format.specs.declared.format.Format.{Format}
use Rattle.st_format.specs.Cell.{is_missing}
use Rattle.st_format.specs.Fields.{fields_of}
use Rattle.st_format.specs.Fit.{CellFits}
use Rattle.st_format.specs.Pgroup.{bits_of}
use Rattle.st_format.specs.Raster.{Raster}
use Rattle.st_format.proofs.Made.{format_at-fields}
use Rattle.st_format.specs.Position.{group_start, row_groups}
use Rattle.frame_assembly.specs.Rows.{group_cells}
use Rattle.path_receiver.specs.Frames.{State}
use Rattle.path_receiver.specs.Opening.{IsWindow}
use Rattle.media_file.specs.Groups.{IsGroup, IsHad}
use Rattle.media_file.specs.StateFile.{IsHeld, cut_cells, raster_groups, held_of}
use Rattle.receiver_file.specs.Known.{shape_in}
use Rattle.receiver_file.specs.Saved.{IsFilled, IsSaved, IsWritable, kept_frames, kept_of}
use Rattle.receiver_file.proofs.RowRuns.{group_long}
use Rattle.receiver_file.proofs.Stamped.{kept_stamps}

-- ---- cells of a group

fit_take : (f : Format) (n : ℕ) (cells : List Cell) → AllByRecursion (CellFits f) cells
    → AllByRecursion (CellFits f) (take n cells)
fit_take f zero cells all = tt
fit_take f (suc n) [] all = tt
fit_take f (suc n) (c ∷ cells) all = (all.0, fit_take f n cells all.1)

fit_drop : (f : Format) (n : ℕ) (cells : List Cell) → AllByRecursion (CellFits f) cells
    → AllByRecursion (CellFits f) (drop n cells)
fit_drop f zero cells all = all
fit_drop f (suc n) [] all = tt
fit_drop f (suc n) (c ∷ cells) all = fit_drop f n cells all.1

had_one : (f : Format) (c : Cell) → CellFits f c → is_missing c ≡ false → IsHad (bits_of f.depth) c
had_one f Missing fit e = absurd cc
had_one f (Value v) fit e = fit
had_one f Contested fit e = tt

had_all : (f : Format) (cells : List Cell) → AllByRecursion (CellFits f) cells
    → ((i : ℕ) → i < length cells → is_missing (get_or cells i Missing) ≡ false)
    → AllByRecursion (IsHad (bits_of f.depth)) cells
had_all f [] fit each = tt
had_all f (c ∷ cells) fit each = (
  had_one f c fit.0 (each 0 (omega arith)),
  had_all f cells fit.1 (λ i lt. each (suc i) (omega (arith, lt))),
)

gone_one : (c : Cell) → is_missing c ≡ true → c ≡ Missing
gone_one Missing e = refl
gone_one (Value v) e = absurd cc
gone_one Contested e = absurd cc

gone_all : (cells : List Cell)
    → ((i : ℕ) → i < length cells → is_missing (get_or cells i Missing) ≡ true)
    → cells ≡ replicate (length cells) Missing
gone_all [] each = refl
gone_all (c ∷ cells) each =
    ap (λ (x : Cell). x ∷ cells) (gone_one c (each 0 (omega arith)))
    ∙ ap (λ (t : List Cell). Missing ∷ t)
    (gone_all cells (λ i lt. each (suc i) (omega (arith, lt))))

filled_group : (r : Raster) (row group : ℕ) → IsFilled r → row < r.format.height
    → group < row_groups r.format → IsGroup (shape_in r.format) (group_cells r row group)
filled_group r row group is lt below =
    let cells : List Cell = group_cells r row group in
    let long : length cells ≡ (shape_in r.format).samples =
    group_long r row group is.whole lt below in
    record {
      whole = long;
      alike = elim (is.groups row group lt below) [
        | inl gone ↦ inl (gone_all cells gone ∙ ap (λ (n : ℕ). replicate n Missing) long)
        | inr had ↦ inr
            (had_all r.format cells
            (fit_take r.format (shape_in r.format).samples
            (drop (group_start r.format row group) r.cells)
            (fit_drop r.format (group_start r.format row group) r.cells is.fit)) had)
      ];
    }

-- ---- all groups of a frame

cut_all : (G : List Cell → Type 0) (size n k : ℕ) (cells : List Cell)
    → ((j : ℕ) → k ≤ j → j < k + n → G (take size (drop (size * j) cells)))
    → AllByRecursion G (cut_cells size n (drop (size * k) cells))
unfolding cut_cells
cut_all G size zero k cells each = tt
cut_all G size (suc n) k cells each =
    let z : size * k + size ≡ size * suc k = omega arith in
    let next : drop size (drop (size * k) cells) ≡ drop (size * suc k) cells =
    drop-drop size (size * k) cells ∙ ap (λ (m : ℕ). drop m cells) z in (
      each k (omega arith) (omega arith),
      subst (λ (t : List Cell). AllByRecursion G (cut_cells size n t)) (sym next)
          (cut_all G size n (suc k) cells
          (λ j le lt. each j (omega (arith, le)) (omega (arith, lt)))),
    )

cut_length : (size n : ℕ) (cells : List Cell) → length (cut_cells size n cells) ≡ n
unfolding cut_cells
cut_length size zero cells = refl
cut_length size (suc n) cells = ap suc (cut_length size n (drop size cells))

some_per : (h per j : ℕ) → j < h * per → 0 < per
some_per h zero j lt = absurd (omega (arith, lt))
some_per h (suc per) j lt = omega arith

group_at_place : (r : Raster) (j : ℕ) → IsFilled r → j < r.format.height * row_groups r.format
    → IsGroup (shape_in r.format)
    (take (shape_in r.format).samples (drop ((shape_in r.format).samples * j) r.cells))
group_at_place r j is lt =
    let per : ℕ = row_groups r.format in
    let some : 0 < per = some_per r.format.height per j lt in
    let row : j / per < r.format.height = (div-lt_iff_lt-mul {k = per} some).1 lt in
    let group : j % per < per = omega (arith, some) in
    let at : (j / per) * per + j % per ≡ j = omega (arith, some) in
    subst (λ (n : ℕ). IsGroup (shape_in r.format)
    (take (shape_in r.format).samples (drop ((shape_in r.format).samples * n) r.cells))) at
    (filled_group r (j / per) (j % per) is row group)

filled_groups : (r : Raster) → IsFilled r
    → AllByRecursion (IsGroup (shape_in r.format))
    (cut_cells (shape_in r.format).samples (raster_groups (fields_of r.format)) r.cells)
filled_groups r is =
    let s = shape_in r.format in
    let n : ℕ = raster_groups (fields_of r.format) in
    let z : s.samples * 0 ≡ 0 = omega arith in
    subst (λ (m : ℕ). AllByRecursion (IsGroup s) (cut_cells s.samples n (drop m r.cells))) z
    (cut_all (IsGroup s) s.samples n 0 r.cells
    (λ j le lt. group_at_place r j is (omega (arith, lt))))

-- ---- a receiver

held_one : (o : Format) (t : ℕ) (r : Raster) → t < 2 ^ 32 → IsFilled r → r.format ≡ o
    → IsHeld (fields_of o) (held_of (fields_of o) t r.cells)
held_one o t r lt is e =
    record {
      timestamp = lt;
      count = cut_length (shape_in o).samples (raster_groups (fields_of o)) r.cells;
      groups =
          subst (λ (x : Format). AllByRecursion (IsGroup (shape_in x))
          (cut_cells (shape_in x).samples (raster_groups (fields_of x)) r.cells)) e
          (filled_groups r is);
    }

held_all : (o : Format) (w : List ℕ) (rs : List Raster) → AllByRecursion (λ (t : ℕ). t < 2 ^ 32) w
    → AllByRecursion IsFilled rs → All (λ (r : Raster). r.format ≡ o) rs
    → AllByRecursion (IsHeld (fields_of o)) (kept_frames (fields_of o) w rs)
held_all o [] rs small is all = tt
held_all o (t ∷ w) [] small is all = tt
held_all o (t ∷ w) (r ∷ rs) small is all = (
  held_one o t r small.0 is.0 (all 0 r (omega arith)),
  held_all o w rs small.1 is.1 (λ k d lt. all (suc k) d (omega (arith, lt))),
)

pub writable_saved : (s : State) → IsWritable s → IsSaved (kept_of s)
writable_saved s is =
    let f : Format = s.opening.format in
    record {
      kept = record {
        room = record {
          width = omega (arith, f.whole_width.most);
          height = omega (arith, f.whole_height.most);
          n = omega (arith, f.sane_rate.most_n);
          d = omega (arith, f.sane_rate.most_d);
        };
        ssrc = is.ssrc;
        frames = held_all f s.opening.window s.frames is.timestamps is.frames is.receiver.of_format;
      };
      format = format_at-fields f;
      payload_type = is.receiver.payload_type;
      window =
          subst IsWindow
          (sym (kept_stamps
          (fields_of f) s.opening.window s.frames is.receiver.one_each)) is.receiver.window;
    }
