-- The marked view of a raster is a picture.
use Rattle.std.proofs.Common.{◌≡◌, ℕ, zero, suc, ◌+◌, ◌*◌, ◌/◌, ◌%◌, ◌^◌, ◌<◌, Bool, true, false}
use Rattle.std.proofs.Common.{cond}
use Rattle.std.proofs.Common.{◌||◌, List, [], ◌∷◌, ◌++◌, length, get_or, append_assoc, append-nil}
use Rattle.std.proofs.Common.{refl, sym}
use Rattle.std.proofs.Common.{ap, ◌∙◌, subst, arith}
use Rattle.std.specs.List.{AllByRecursion, flat_map, range_with_len}
use Rattle.std.proofs.lemmas.List.{length-append}
use Rattle.st_format.specs.declared.cell.Cell.{Cell}
use Rattle.st_format.specs.declared.cell.Cell.TheVariants.{Missing, Value, Contested}
use Rattle.st_format.specs.declared.format.Format.{Format}
use Rattle.st_format.specs.declared.sampling.Sampling.{Sampling}
use Rattle.st_format.specs.declared.sampling.Sampling.TheVariants.{Ycc422, Ycc444, Rgb}
use Rattle.st_format.specs.declared.sampling.Depth.{Depth}
use Rattle.st_format.specs.declared.sampling.Depth.TheVariants.{D8, D10, D12, D16}
use Rattle.st_format.specs.Cell.{is_contested, is_missing, known_value}
use Rattle.st_format.specs.Fields.{Fields, fields_of}
use Rattle.st_format.specs.Fit.{CellFits, ValuesFit}
use Rattle.st_format.specs.Pgroup.{bits_of}
use Rattle.st_format.specs.Picture.{IsPicture}
use Rattle.st_format.specs.Position.{Position, number_of, run_columns, run_samples}
use Rattle.st_format.specs.Raster.{Raster, cell_at}
use Rattle.marked_view.specs.Marked.{cell_there, eight_bits, magenta, pixel_seen, pixels_seen}
use Rattle.marked_view.specs.Marked.{red, seen_cells, shown, view_fields}

abbrev AreSmall : List ℕ → Type 0
AreSmall xs = AllByRecursion (λ v. v < 256) xs

small_both : (xs ys : List ℕ) → AreSmall xs → AreSmall ys → AreSmall (xs ++ ys)
small_both [] ys p q = q
small_both (x ∷ xs) ys p q = (p.0, small_both xs ys p.1 q)

-- ---- a pixel

pub value_shown : (s : Sampling) (depth : Depth) (x y z : ℕ)
    → seen_cells s depth (Value x) (Value y) (Value z) ≡ shown s depth x y z
unfolding known_value
value_shown s depth x y z = refl

cell_fits : (f : Format) (cells : List Cell) (k : ℕ) → AllByRecursion (CellFits f) cells
    → CellFits f (get_or cells k Missing)
cell_fits f [] k all = tt
cell_fits f (c ∷ cells) zero all = all.0
cell_fits f (c ∷ cells) (suc k) all = cell_fits f cells k all.1

some_room : (b : Depth) → 0 < 2 ^ bits_of b
some_room D8 = omega arith
some_room D10 = omega arith
some_room D12 = omega arith
some_room D16 = omega arith

known_fits : (f : Format) (c : Cell) → CellFits f c → known_value c < 2 ^ bits_of f.depth
unfolding known_value
known_fits f Missing fits = some_room f.depth
known_fits f (Value v) fits = fits
known_fits f Contested fits = some_room f.depth

eight_small : (b : Depth) (v : ℕ) → v < 2 ^ bits_of b → eight_bits b v < 256
eight_small D8 v lt = omega (arith, lt)
eight_small D10 v lt = omega (arith, lt)
eight_small D12 v lt = omega (arith, lt)
eight_small D16 v lt = omega (arith, lt)

shown_small : (s : Sampling) (b : Depth) (x y z : ℕ) → x < 2 ^ bits_of b → y < 2 ^ bits_of b
    → z < 2 ^ bits_of b → AreSmall (shown s b x y z)
shown_small Ycc422 b x y z p q r =
    (eight_small b x p, (eight_small b x p, (eight_small b x p, tt)))
shown_small Ycc444 b x y z p q r =
    (eight_small b x p, (eight_small b x p, (eight_small b x p, tt)))
shown_small Rgb b x y z p q r = (eight_small b x p, (eight_small b y q, (eight_small b z r, tt)))

shown_long : (s : Sampling) (b : Depth) (x y z : ℕ) → length (shown s b x y z) ≡ 3
shown_long Ycc422 b x y z = refl
shown_long Ycc444 b x y z = refl
shown_long Rgb b x y z = refl

chosen_small : (t u : Bool) (xs : List ℕ) → AreSmall xs
    → AreSmall (cond t magenta (cond u red xs))
chosen_small true u xs p = (omega arith, (omega arith, (omega arith, tt)))
chosen_small false true xs p = (omega arith, (omega arith, (omega arith, tt)))
chosen_small false false xs p = p

chosen_long : (t u : Bool) (xs : List ℕ) → length xs ≡ 3
    → length (cond t magenta (cond u red xs)) ≡ 3
chosen_long true u xs p = refl
chosen_long false true xs p = refl
chosen_long false false xs p = p

pixel_small : (r : Raster) (row column : ℕ) → ValuesFit r → AreSmall (pixel_seen r row column)
unfolding pixel_seen
pixel_small r row column fit =
    let a : Cell = cell_there r row column 0 in
    let b : Cell = cell_there r row column 1 in
    let c : Cell = cell_there r row column 2 in
    let known : (p : Position) → known_value (cell_at r p) < 2 ^ bits_of r.format.depth =
    λ p. known_fits r.format (cell_at r p)
    (cell_fits r.format r.cells (number_of r.format p) fit) in
    chosen_small (is_missing a || is_missing b || is_missing c)
    (is_contested a || is_contested b || is_contested c)
    (shown r.format.sampling r.format.depth (known_value a) (known_value b) (known_value c))
    (shown_small r.format.sampling r.format.depth (known_value a) (known_value b) (known_value c)
    (known _) (known _) (known _))

pixel_long : (r : Raster) (row column : ℕ) → length (pixel_seen r row column) ≡ 3
unfolding pixel_seen
pixel_long r row column =
    let a : Cell = cell_there r row column 0 in
    let b : Cell = cell_there r row column 1 in
    let c : Cell = cell_there r row column 2 in
    chosen_long (is_missing a || is_missing b || is_missing c)
    (is_contested a || is_contested b || is_contested c)
    (shown r.format.sampling r.format.depth (known_value a) (known_value b) (known_value c))
    (shown_long r.format.sampling r.format.depth (known_value a) (known_value b) (known_value c))

-- ---- all of them

flat_small : (f : ℕ → List ℕ) (a n : ℕ) → ((k : ℕ) → AreSmall (f k))
    → AreSmall (flat_map f (range_with_len a n))
flat_small f a zero h = tt
flat_small f a (suc n) h =
    small_both (f a) (flat_map f (range_with_len (a + 1) n)) (h a) (flat_small f (a + 1) n h)

flat_long : (f : ℕ → List ℕ) (a n : ℕ) → ((k : ℕ) → length (f k) ≡ 3)
    → length (flat_map f (range_with_len a n)) ≡ 3 * n
flat_long f a zero h = refl
flat_long f a (suc n) h =
    let more = flat_long f (a + 1) n h in
    let one = h a in
    length-append (f a) (flat_map f (range_with_len (a + 1) n)) ∙ omega (arith, more, one)

flat_more : (f : ℕ → List ℕ) (a n : ℕ)
    → flat_map f (range_with_len a (n + 1)) ≡ flat_map f (range_with_len a n) ++ f (a + n)
flat_more f a zero =
    let z : a + 0 ≡ a = omega arith in
    rw z (append-nil (f a))
flat_more f a (suc n) =
    let e : suc n + 1 ≡ suc (n + 1) = omega arith in
    let z : a + suc n ≡ a + 1 + n = omega arith in
    rw (e, z)
    (ap (λ (t : List ℕ). f a ++ t) (flat_more f (a + 1) n)
    ∙ sym (append_assoc (f a) (flat_map f (range_with_len (a + 1) n)) (f (a + 1 + n))))

pub pixels_more : (r : Raster) (k : ℕ)
    → pixels_seen r (k + 1)
    ≡ pixels_seen r k ++ pixel_seen r (k / r.format.width) (k % r.format.width)
pixels_more r k =
    let z : 0 + k ≡ k = omega arith in
    rw z at (flat_more (λ i. pixel_seen r (i / r.format.width) (i % r.format.width)) 0 k)

-- ---- the picture

abbrev count_by : Fields → ℕ
count_by x = x.height * (x.width / run_columns x.sampling * run_samples x.sampling)

pub view_picture : (r : Raster) (g : Format) (xs : List ℕ) → ValuesFit r
    → fields_of g ≡ view_fields r.format
    → xs ≡ pixels_seen r (r.format.width * r.format.height)
    → IsPicture (record { format = g; samples = xs })
view_picture r g xs fit same is =
    let w : ℕ = r.format.width in
    let h : ℕ = r.format.height in
    let f : ℕ → List ℕ = λ k. pixel_seen r (k / w) (k % w) in
    let long : length xs ≡ 3 * (w * h) =
    ap length is ∙ flat_long f 0 (w * h) (λ k. pixel_long r (k / w) (k % w)) in
    let one : w / 1 ≡ w = omega arith in
    let area : 3 * (w * h) ≡ h * (w * 3) = grind arith in
    let wide : h * (w / 1 * 3) ≡ h * (w * 3) = ap (λ (x : ℕ). h * (x * 3)) one in
    let small : AreSmall xs =
    subst AreSmall (sym is) (flat_small f 0 (w * h) (λ k. pixel_small r (k / w) (k % w) fit)) in
    let bits : bits_of g.depth ≡ 8 = ap (λ (x : Fields). bits_of x.depth) same in
    record {
      whole = long ∙ area ∙ sym wide ∙ sym (ap count_by same);
      fit = subst (λ (n : ℕ). AllByRecursion (λ v. v < 2 ^ n) xs) (sym bits) small;
    }
