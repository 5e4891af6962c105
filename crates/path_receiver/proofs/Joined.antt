-- What one datagram does to the frames of a receiver.
use Rattle.std.proofs.Common.{◌≡◌, ℕ, ◌+◌, ◌<◌, ◌≤◌, ◌⊎◌, inl, inr, Bool, true, false, cond, eqb}
use Rattle.std.proofs.Common.{zero, suc, List, [], ◌∷◌, ◌++◌, length, map, take, drop, get_or, set}
use Rattle.std.proofs.Common.{Option, Some, Ok, Err, refl, sym, ap, ◌∙◌, subst, arith}
use Rattle.std.proofs.Common.{length-append}
use Rattle.std.specs.Prelude.{slice_get}
use Rattle.std.specs.List.{AllByRecursion, flat_map}
use Rattle.std.proofs.lemmas.Bool.{eqb-true, eqb-false}
use Rattle.std.proofs.lemmas.List.{append-nil, length-map, length-set, length-replicate}
use Rattle.std.proofs.lemmas.List.Elements.{recursion_from_All, All-from_recursion}
use Rattle.st_format.specs.declared.cell.Cell.{Cell}
use Rattle.st_format.specs.declared.cell.Cell.TheVariants.{Missing}
use Rattle.st_format.specs.declared.format.Format.{Format}
use Rattle.st_format.specs.declared.path.Path.{Path}
use Rattle.st_format.specs.Cell.{join}
use Rattle.st_format.specs.Member.{IsMember}
use Rattle.st_format.specs.Offer.{Offer, cell_of}
use Rattle.st_format.specs.Position.{Position, IsPosition, sample_count}
use Rattle.st_format.specs.Raster.{Raster, IsWhole, blank, raster_of, cells_of, joined_cells}
use Rattle.st_format.specs.Raster.{joined_rasters, offers_in_all}
use Rattle.st_format.proofs.Rasters.{cell_at-raster_of, cell_at-joined, joined_none}
use Rattle.st_format.proofs.Rasters.{length-cells_of, length-joined}
use Rattle.path_receiver.specs.declared.answer.Refusal.{Refusal}
use Rattle.path_receiver.specs.Opening.{Opening, AreDifferent, IsWindow, IsWindowSize}
use Rattle.path_receiver.specs.Grammar.{Datagram}
use Rattle.path_receiver.specs.Admission.{datagram_walk}
use Rattle.path_receiver.specs.Offers.{offers, offers_of}
use Rattle.path_receiver.specs.Frames.{State, IsReceiver, Holds, SameFormats, frames_of, joined_frames}
use Rattle.path_receiver.specs.Frames.{frame_at, cell_if, cell_in}
use Rattle.path_receiver.specs.Sliding.{slid_state}
use Rattle.path_receiver.proofs.Frames.{cells_kept, frames_of-append}
use Rattle.path_receiver.proofs.Windows.{below_get, member_get}

-- ---- the offers of one datagram

alone : (o : Opening) (d : List ℕ) → flat_map (offers o) (d ∷ []) ≡ offers o d
alone o d = append-nil (offers o d)

alone_refused : (o : Opening) (d : List ℕ) (e : Refusal)
    → datagram_walk o.format o.payload_type o.ssrc d ≡ Err e → flat_map (offers o) (d ∷ []) ≡ []
alone_refused o d e read = alone o d ∙ ap (offers_of o.format) read

alone_admitted : (o : Opening) (d : List ℕ) (a : Datagram)
    → datagram_walk o.format o.payload_type o.ssrc d ≡ Ok a
    → flat_map (offers o) (d ∷ []) ≡ offers_in_all o.format a.timestamp a.segments
alone_admitted o d a read = alone o d ∙ ap (offers_of o.format) read

-- ---- frames that stay

abbrev pub state : Opening → List Raster → List (Path × Refusal) → State
state o frames refusals = record { opening = o; frames = frames; refusals = refusals }

abbrev with_cells : Raster → List Cell → Raster
with_cells r cells = record { format = r.format; cells = cells }

abbrev with_format : Format → List Cell → Raster
with_format f cells = record { format = f; cells = cells }

same_frame : (f : Format) (ts : ℕ) (r : Raster) → r.format ≡ f → IsWhole r
    → r ≡ with_cells r (joined_cells r.cells (cells_of f [] ts))
same_frame f ts r of_format whole =
    ap (with_cells r) (sym (joined_none f ts r.cells (whole ∙ ap sample_count of_format)))

-- Offers that give no cell at any timestamp of the window leave the frames.
same_frames : (f : Format) (os : List Offer) (w : List ℕ) (rs : List Raster) → length rs ≡ length w
    → AllByRecursion (λ r. r.format ≡ f) rs → AllByRecursion IsWhole rs
    → ((ts : ℕ) → IsMember ts w → cells_of f os ts ≡ cells_of f [] ts)
    → rs ≡ joined_frames rs (map (raster_of f os) w)
same_frames f os [] [] e formats whole none = refl
same_frames f os [] (r ∷ rs) e formats whole none = absurd (omega arith)
same_frames f os (t ∷ w) [] e formats whole none = absurd (omega arith)
same_frames f os (t ∷ w) (r ∷ rs) e formats whole none =
    let first : r ≡ with_cells r (joined_cells r.cells (cells_of f os t)) =
    same_frame f t r formats.0 whole.0
    ∙ ap (λ (cs : List Cell). with_cells r (joined_cells r.cells cs)) (sym (none t (inl refl))) in
    let rest : rs ≡ joined_frames rs (map (raster_of f os) w) =
    same_frames f os w rs (omega arith) formats.1 whole.1 (λ ts m. none ts (inr m)) in
    ap (λ (q : Raster). q ∷ rs) first
    ∙ ap (λ (qs : List Raster). with_cells r (joined_cells r.cells (cells_of f os t)) ∷ qs) rest

frames_left : (s : State) (os : List Offer) → IsReceiver s
    → ((ts : ℕ) → IsMember ts s.opening.window
    → cells_of s.opening.format os ts ≡ cells_of s.opening.format [] ts)
    → s.frames ≡ joined_frames s.frames (map (raster_of s.opening.format os) s.opening.window)
frames_left s os is none =
    same_frames s.opening.format os s.opening.window s.frames is.one_each
    (recursion_from_All (λ (r : Raster). r.format ≡ s.opening.format) s.frames is.of_format)
    (recursion_from_All IsWhole s.frames is.whole) none

-- A datagram that is refused joins nothing.
pub frames_refused : (s : State) (d : List ℕ) (e : Refusal) → IsReceiver s
    → datagram_walk s.opening.format s.opening.payload_type s.opening.ssrc d ≡ Err e
    → s.frames ≡ joined_frames s.frames (frames_of s.opening (d ∷ []))
frames_refused s d e is read =
    frames_left s (flat_map (offers s.opening) (d ∷ [])) is
    (λ ts m. ap (λ (os : List Offer). cells_of s.opening.format os ts)
    (alone_refused s.opening d e read))

-- Nor does one of another timestamp.
pub frames_outside : (s : State) (d : List ℕ) (a : Datagram) → IsReceiver s
    → datagram_walk s.opening.format s.opening.payload_type s.opening.ssrc d ≡ Ok a
    → (IsMember a.timestamp s.opening.window → ⊥)
    → s.frames ≡ joined_frames s.frames (frames_of s.opening (d ∷ []))
frames_outside s d a is read out =
    frames_left s (flat_map (offers s.opening) (d ∷ [])) is
    (λ ts m. ap (λ (os : List Offer). cells_of s.opening.format os ts)
    (alone_admitted s.opening d a read)
    ∙ cells_kept s.opening.format [] ts a.timestamp a.segments
    (λ e. out (subst (λ (x : ℕ). IsMember x s.opening.window) (sym e) m)))

pub ruleset frames_left_alone = (frames_refused, frames_outside)

-- Offers at the timestamp of one place are joined to its frame.
put_at : (f : Format) (os : List Offer) (ts i : ℕ) (w : List ℕ) (rs : List Raster) (new d : Raster)
    → AreDifferent w → slice_get w i ≡ Some ts → length rs ≡ length w
    → AllByRecursion (λ r. r.format ≡ f) rs → AllByRecursion IsWhole rs
    → ((t : ℕ) → (t ≡ ts → ⊥) → cells_of f os t ≡ cells_of f [] t)
    → new ≡ with_cells (get_or rs i d) (joined_cells (get_or rs i d).cells (cells_of f os ts))
    → set rs i new ≡ joined_frames rs (map (raster_of f os) w)
put_at f os ts i [] rs new d different at e formats whole none now = absurd cc
put_at f os ts i (t ∷ w) [] new d different at e formats whole none now = absurd (omega (arith, e))
put_at f os ts zero (t ∷ w) (r ∷ rs) new d different at e formats whole none now =
    let same : t ≡ ts = cc in
    let rest : rs ≡ joined_frames rs (map (raster_of f os) w) =
    same_frames f os w rs (omega (arith, e)) formats.1 whole.1
    (λ u m. none u (λ x. different.0 (subst (λ (y : ℕ). IsMember y w) (x ∙ sym same) m))) in
    ap (λ (q : Raster). q ∷ rs) now
    ∙ ap (λ (x : ℕ). with_cells r (joined_cells r.cells (cells_of f os x)) ∷ rs) (sym same)
    ∙ ap (λ (qs : List Raster). with_cells r (joined_cells r.cells (cells_of f os t)) ∷ qs) rest
put_at f os ts (suc i) (t ∷ w) (r ∷ rs) new d different at e formats whole none now =
    let other : t ≡ ts
    → ⊥ = λ x. different.0 (subst (λ (y : ℕ). IsMember y w) (sym x) (member_get ts i w at)) in
    let first : r ≡ with_cells r (joined_cells r.cells (cells_of f os t)) =
    same_frame f t r formats.0 whole.0
    ∙ ap (λ (cs : List Cell). with_cells r (joined_cells r.cells cs)) (sym (none t other)) in
    let rest : set rs i new ≡ joined_frames rs (map (raster_of f os) w) =
    put_at f os ts i w rs new d different.1 at (omega (arith, e)) formats.1 whole.1 none now in
    ap (λ (q : Raster). q ∷ set rs i new) first
    ∙ ap (λ (qs : List Raster). with_cells r (joined_cells r.cells (cells_of f os t)) ∷ qs) rest

-- One of a timestamp of the window is joined to the frame at its place.
pub frames_kept : (s : State) (octets : List ℕ) (a : Datagram) (place : ℕ) (new old : Raster)
    → IsReceiver s
    → datagram_walk s.opening.format s.opening.payload_type s.opening.ssrc octets ≡ Ok a
    → slice_get s.opening.window place ≡ Some a.timestamp → old ≡ get_or s.frames place old
    → new.format ≡ old.format
    → ((ts : ℕ)
    → new.cells
    ≡ joined_cells old.cells (cells_of old.format (offers_in_all old.format ts a.segments) ts))
    → set s.frames place new ≡ joined_frames s.frames (frames_of s.opening (octets ∷ []))
frames_kept s octets a place new old is read at is_old kept joins =
    let f : Format = s.opening.format in
    let ts : ℕ = a.timestamp in
    let os : List Offer = flat_map (offers s.opening) (octets ∷ []) in
    let lt : place < length s.opening.window = below_get ts place s.opening.window at in
    let of_format : old.format ≡ f =
    ap (λ (r : Raster). r.format) is_old
    ∙ is.of_format place old (omega (arith, lt, is.one_each)) in
    let cells : new.cells ≡ joined_cells old.cells (cells_of f os ts) =
    joins ts
    ∙ ap
    (λ (g : Format). joined_cells old.cells (cells_of g (offers_in_all g ts a.segments) ts))
    of_format
    ∙ ap (λ (xs : List Offer). joined_cells old.cells (cells_of f xs ts))
    (sym (alone_admitted s.opening octets a read)) in
    let now : new ≡ with_cells old (joined_cells old.cells (cells_of f os ts)) =
    ap (λ (cs : List Cell). with_cells new cs) cells
    ∙ ap (λ (g : Format). with_format g (joined_cells old.cells (cells_of f os ts))) kept in
    put_at f os ts place s.opening.window s.frames new old is.window.different at is.one_each
    (recursion_from_All (λ (r : Raster). r.format ≡ f) s.frames is.of_format)
    (recursion_from_All IsWhole s.frames is.whole)
    (λ t other. ap (λ (xs : List Offer). cells_of f xs t) (alone_admitted s.opening octets a read)
    ∙ cells_kept f [] t ts a.segments (λ e. other (sym e)))
    (now ∙ ap (λ (r : Raster). with_cells r (joined_cells r.cells (cells_of f os ts))) is_old)

-- ---- what it holds

-- Where the frames were those of some datagrams, they are then those of them and this one.
pub holds_more : (s t : State) (d : List ℕ) → t.opening ≡ s.opening
    → t.frames ≡ joined_frames s.frames (frames_of s.opening (d ∷ []))
    → (ds : List (List ℕ)) → Holds s ds → Holds t (ds ++ d ∷ [])
holds_more s t d opening frames ds holds =
    frames ∙ ap (λ (rs : List Raster). joined_frames rs (frames_of s.opening (d ∷ []))) holds
    ∙ sym (frames_of-append s.opening ds (d ∷ []))
    ∙ ap (λ (o : Opening). frames_of o (ds ++ d ∷ [])) (sym opening)

-- ---- cell by cell

abbrev chosen : Raster → Option Raster → Bool → Option Raster
chosen r rest b = cond b (Some r) rest

cells_at : (f : Format) (p : Position) (ts t : ℕ) (w : List ℕ) (r q : Raster) (rs qs : List Raster)
    (b : Bool) → eqb ts t ≡ b → IsPosition p f → r.format ≡ f → q.format ≡ f → IsWhole r
    → IsWhole q → IsMember ts (t ∷ w)
    → (IsMember ts w
    → cell_if (frame_at w (joined_frames rs qs) ts) p
    ≡ join (cell_if (frame_at w rs ts) p) (cell_if (frame_at w qs ts) p))
    → cell_if (chosen (joined_rasters r q) (frame_at w (joined_frames rs qs) ts) b) p
    ≡ join (cell_if (chosen r (frame_at w rs ts) b) p) (cell_if (chosen q (frame_at w qs ts) b) p)
cells_at f p ts t w r q rs qs true e is fr fq wr wq m rest =
    cell_at-joined r q p wr wq (fr ∙ sym fq) (subst (λ (g : Format). IsPosition p g) (sym fr) is)
cells_at f p ts t w r q rs qs false e is fr fq wr wq (inl same) rest =
    absurd (eqb-false ts t e same)
cells_at f p ts t w r q rs qs false e is fr fq wr wq (inr m) rest = rest m

-- At each position of the window's frames joined stands the join of their cells.
cells_both : (f : Format) (p : Position) (ts : ℕ) (w : List ℕ) (rs qs : List Raster)
    → IsPosition p f → length rs ≡ length w → length qs ≡ length w
    → AllByRecursion (λ r. r.format ≡ f) rs → AllByRecursion IsWhole rs
    → AllByRecursion (λ r. r.format ≡ f) qs → AllByRecursion IsWhole qs → IsMember ts w
    → cell_if (frame_at w (joined_frames rs qs) ts) p
    ≡ join (cell_if (frame_at w rs ts) p) (cell_if (frame_at w qs ts) p)
cells_both f p ts [] rs qs is e g fr wr fq wq m = absurd m
cells_both f p ts (t ∷ w) [] qs is e g fr wr fq wq m = absurd (omega (arith, e))
cells_both f p ts (t ∷ w) (r ∷ rs) [] is e g fr wr fq wq m = absurd (omega (arith, g))
cells_both f p ts (t ∷ w) (r ∷ rs) (q ∷ qs) is e g fr wr fq wq m =
    cells_at f p ts t w r q rs qs (eqb ts t) refl is fr.0 fq.0 wr.0 wq.0 m
    (λ n. cells_both f p ts w rs qs is (omega (arith, e))
    (omega (arith, g)) fr.1 wr.1 fq.1 wq.1 n)

-- the frames of offers
formats_of : (f : Format) (os : List Offer) (w : List ℕ)
    → AllByRecursion (λ r. r.format ≡ f) (map (raster_of f os) w)
formats_of f os [] = tt
formats_of f os (t ∷ w) = (refl, formats_of f os w)

wholes_of : (f : Format) (os : List Offer) (w : List ℕ)
    → AllByRecursion IsWhole (map (raster_of f os) w)
wholes_of f os [] = tt
wholes_of f os (t ∷ w) = (length-cells_of f os t, wholes_of f os w)

-- the cell in the frames of offers
cell_in_frames : (f : Format) (os : List Offer) (p : Position) (ts t : ℕ) (w : List ℕ) (b : Bool)
    → eqb ts t ≡ b → IsPosition p f → IsMember ts (t ∷ w)
    → (IsMember ts w → cell_if (frame_at w (map (raster_of f os) w) ts) p ≡ cell_of os ts p)
    → cell_if (chosen (raster_of f os t) (frame_at w (map (raster_of f os) w) ts) b) p
    ≡ cell_of os ts p
cell_in_frames f os p ts t w true e is m rest =
    cell_at-raster_of f os t p is ∙ ap (λ (x : ℕ). cell_of os x p) (sym (eqb-true ts t e))
cell_in_frames f os p ts t w false e is (inl same) rest = absurd (eqb-false ts t e same)
cell_in_frames f os p ts t w false e is (inr m) rest = rest m

cell_of_frames : (f : Format) (os : List Offer) (p : Position) (ts : ℕ) (w : List ℕ)
    → IsPosition p f → IsMember ts w
    → cell_if (frame_at w (map (raster_of f os) w) ts) p ≡ cell_of os ts p
cell_of_frames f os p ts [] is m = absurd m
cell_of_frames f os p ts (t ∷ w) is m =
    cell_in_frames f os p ts t w (eqb ts t) refl is m (λ n. cell_of_frames f os p ts w is n)

-- Each cell is the join of the old one and the cell of the datagram's offers.
pub cells_more : (s t : State) (d : List ℕ) → IsReceiver s → t.opening ≡ s.opening
    → t.frames ≡ joined_frames s.frames (frames_of s.opening (d ∷ []))
    → (ts : ℕ) (p : Position) → IsMember ts s.opening.window → IsPosition p s.opening.format
    → cell_in t ts p ≡ join (cell_in s ts p) (cell_of (offers s.opening d) ts p)
cells_more s t d receiver opening frames ts p m is =
    let f : Format = s.opening.format in
    let os : List Offer = flat_map (offers s.opening) (d ∷ []) in
    let w : List ℕ = s.opening.window in
    ap (λ (o : Opening). cell_if (frame_at o.window t.frames ts) p) opening
    ∙ ap (λ (rs : List Raster). cell_if (frame_at w rs ts) p) frames
    ∙ cells_both f p ts w s.frames (map (raster_of f os) w) is receiver.one_each
    (length-map w (raster_of f os))
    (recursion_from_All (λ (r : Raster). r.format ≡ f) s.frames receiver.of_format)
    (recursion_from_All IsWhole s.frames receiver.whole)
    (formats_of f os w) (wholes_of f os w) m
    ∙ ap (λ (c : Cell). join (cell_in s ts p) c) (cell_of_frames f os p ts w is m)
    ∙ ap (λ (xs : List Offer). join (cell_in s ts p) (cell_of xs ts p)) (alone s.opening d)

-- ---- a frame replaced

formats_set : (f : Format) (i : ℕ) (rs : List Raster) (new : Raster)
    → AllByRecursion (λ r. r.format ≡ f) rs → new.format ≡ f
    → AllByRecursion (λ r. r.format ≡ f) (set rs i new)
formats_set f i [] new fr now = tt
formats_set f zero (r ∷ rs) new fr now = (now, fr.1)
formats_set f (suc i) (r ∷ rs) new fr now = (fr.0, formats_set f i rs new fr.1 now)

wholes_set : (i : ℕ) (rs : List Raster) (new : Raster) → AllByRecursion IsWhole rs → IsWhole new
    → AllByRecursion IsWhole (set rs i new)
wholes_set i [] new wr now = tt
wholes_set zero (r ∷ rs) new wr now = (now, wr.1)
wholes_set (suc i) (r ∷ rs) new wr now = (wr.0, wholes_set i rs new wr.1 now)

-- A receiver with one frame replaced by another of its format is a receiver.
pub receiver_set : (s : State) (i : ℕ) (new : Raster) → IsReceiver s
    → new.format ≡ s.opening.format → IsWhole new
    → IsReceiver (state s.opening (set s.frames i new) s.refusals)
receiver_set s i new is kept now =
    let f : Format = s.opening.format in
    record {
      payload_type = is.payload_type;
      window = is.window;
      one_each = length-set s.frames i new ∙ is.one_each;
      of_format =
          All-from_recursion (λ (r : Raster). r.format ≡ f) (set s.frames i new)
          (formats_set f i s.frames new
          (recursion_from_All (λ (r : Raster). r.format ≡ f) s.frames is.of_format) kept);
      whole =
          All-from_recursion IsWhole (set s.frames i new)
          (wholes_set i s.frames new (recursion_from_All IsWhole s.frames is.whole) now);
      few_refusals = is.few_refusals;
    }

-- ---- a window moved on

member_snoc : (t n : ℕ) (w : List ℕ) → IsMember t (w ++ n ∷ []) → IsMember t w ⊎ (t ≡ n)
member_snoc t n [] (inl e) = inr e
member_snoc t n [] (inr m) = absurd m
member_snoc t n (x ∷ w) (inl e) = inl (inl e)
member_snoc t n (x ∷ w) (inr m) = member_later t x n w (member_snoc t n w m)
  where
    member_later : (t x n : ℕ) (w : List ℕ) → IsMember t w ⊎ (t ≡ n) → IsMember t (x ∷ w) ⊎ (t ≡ n)
    member_later t x n w (inl m) = inl (inr m)
    member_later t x n w (inr e) = inr e

apart : (t n : ℕ) (w : List ℕ) → (IsMember t w → ⊥) → (t ≡ n → ⊥) → IsMember t w ⊎ (t ≡ n) → ⊥
apart t n w out other (inl m) = out m
apart t n w out other (inr e) = other e

different_snoc : (n : ℕ) (w : List ℕ) → AreDifferent w → (IsMember n w → ⊥)
    → AreDifferent (w ++ n ∷ [])
different_snoc n [] different out = (λ m. m, tt)
different_snoc n (t ∷ w) different out = (
  λ m. apart t n w different.0 (λ e. out (inl (sym e))) (member_snoc t n w m),
  different_snoc n w different.1 (λ m. out (inr m)),
)

window_moved : (n : ℕ) (w : List ℕ) → IsWindow w → (IsMember n w → ⊥)
    → IsWindow (drop 1 w ++ n ∷ [])
window_moved n [] is out = absurd (omega (arith, is.size.some))
window_moved n (t ∷ w) is out =
    let same : length (w ++ n ∷ []) ≡ length (t ∷ w) = omega (arith, length-append w (n ∷ [])) in
    record {
      size = subst IsWindowSize (sym same) is.size;
      different =
          different_snoc n w is.different.1 (λ m. out (inr m));
    }

formats_snoc : (f : Format) (rs : List Raster) → AllByRecursion (λ r. r.format ≡ f) rs
    → AllByRecursion (λ r. r.format ≡ f) (rs ++ blank f ∷ [])
formats_snoc f [] fr = (refl, tt)
formats_snoc f (r ∷ rs) fr = (fr.0, formats_snoc f rs fr.1)

wholes_snoc : (f : Format) (rs : List Raster) → AllByRecursion IsWhole rs
    → AllByRecursion IsWhole (rs ++ blank f ∷ [])
wholes_snoc f [] wr = (length-replicate (sample_count f) Missing, tt)
wholes_snoc f (r ∷ rs) wr = (wr.0, wholes_snoc f rs wr.1)

frames_moved : (f : Format) (pt n : ℕ) (ssrc : Option ℕ) (w : List ℕ) (rs : List Raster)
    (refusals : List (Path × Refusal)) → pt < 128 → IsWindow (drop 1 w ++ n ∷ []) → 0 < length w
    → length rs ≡ length w
    → AllByRecursion (λ r. r.format ≡ f) rs → AllByRecursion IsWhole rs → length refusals ≤ 64
    → IsReceiver
    (state (record { format = f; payload_type = pt; ssrc = ssrc; window = drop 1 w ++ n ∷ [] })
    (drop 1 rs ++ blank f ∷ []) refusals)
frames_moved f pt n ssrc [] rs refusals bits is some e fr wr few = absurd (omega (arith, some))
frames_moved f pt n ssrc (t ∷ w) [] refusals bits is some e fr wr few = absurd (omega (arith, e))
frames_moved f pt n ssrc (t ∷ w) (r ∷ rs) refusals bits is some e fr wr few = record {
  payload_type = bits;
  window = is;
  one_each =
      length-append rs (blank f ∷ []) ∙ ap (λ (k : ℕ). k + 1) (same_length e)
      ∙ sym (length-append w (n ∷ []));
  of_format =
      All-from_recursion (λ (q : Raster). q.format ≡ f) (rs ++ blank f ∷ [])
      (formats_snoc f rs fr.1);
  whole = All-from_recursion IsWhole (rs ++ blank f ∷ []) (wholes_snoc f rs wr.1);
  few_refusals = few;
}
  where
    same_length : length (r ∷ rs) ≡ length (t ∷ w) → length rs ≡ length w
    same_length h = omega (arith, h)

-- A receiver that slid is a receiver.
pub receiver_slid : (s : State) (next : ℕ) → IsReceiver s → (IsMember next s.opening.window → ⊥)
    → IsReceiver (slid_state s next)
receiver_slid s next is out =
    let f : Format = s.opening.format in
    frames_moved f s.opening.payload_type next s.opening.ssrc s.opening.window s.frames s.refusals
    is.payload_type (window_moved next s.opening.window is.window out) is.window.size.some
    is.one_each
    (recursion_from_All (λ (r : Raster). r.format ≡ f) s.frames is.of_format)
    (recursion_from_All IsWhole s.frames is.whole) is.few_refusals

-- ---- the frames of two receivers

-- Receivers of one opening have frames of the same formats.
alike_by : (f : Format) (rs qs : List Raster) → length rs ≡ length qs
    → AllByRecursion (λ r. r.format ≡ f) rs → AllByRecursion (λ r. r.format ≡ f) qs
    → SameFormats rs qs
alike_by f [] [] e fr fq = tt
alike_by f [] (q ∷ qs) e fr fq = absurd (omega (arith, e))
alike_by f (r ∷ rs) [] e fr fq = absurd (omega (arith, e))
alike_by f (r ∷ rs) (q ∷ qs) e fr fq =
    (fq.0 ∙ sym fr.0, alike_by f rs qs (omega (arith, e)) fr.1 fq.1)

pub alike : (s t : State) → s.opening ≡ t.opening → IsReceiver s → IsReceiver t
    → SameFormats s.frames t.frames
alike s t same is it =
    let f : Format = s.opening.format in
    let w : length t.frames ≡ length s.opening.window =
    it.one_each ∙ ap (λ (o : Opening). length o.window) (sym same) in
    alike_by f s.frames t.frames (is.one_each ∙ sym w)
    (recursion_from_All (λ (r : Raster). r.format ≡ f) s.frames is.of_format)
    (subst (λ (o : Opening). AllByRecursion (λ (r : Raster). r.format ≡ o.format) t.frames)
    (sym same)
    (recursion_from_All (λ (r : Raster). r.format ≡ t.opening.format) t.frames it.of_format))

-- Frames joined one after the other: what is done and what is left make the whole.
frames_step : (i : ℕ) (rs qs : List Raster) (new : Raster) (d e : Raster) → SameFormats rs qs
    → i < length rs → new ≡ joined_rasters (get_or rs i d) (get_or qs i e)
    → take i rs ++ joined_frames (drop i rs) (drop i qs)
    ≡ take (suc i) (set rs i new) ++ joined_frames (drop (suc i) (set rs i new)) (drop (suc i) qs)
frames_step i [] qs new d e al lt now = absurd (omega (arith, lt))
frames_step i (r ∷ rs) [] new d e al lt now = absurd al
frames_step zero (r ∷ rs) (q ∷ qs) new d e al lt now =
    ap (λ (x : Raster). x ∷ joined_frames rs qs) (sym now)
frames_step (suc i) (r ∷ rs) (q ∷ qs) new d e al lt now =
    ap (λ (xs : List Raster). r ∷ xs) (frames_step i rs qs new d e al.1 (omega (arith, lt)) now)

pub frames_next : (i : ℕ) (rs qs : List Raster) (new : Raster) (d e : Raster) → SameFormats rs qs
    → i < length rs → new ≡ joined_rasters (get_or rs i d) (get_or qs i e)
    → take i rs ++ joined_frames (drop i rs) (drop i qs)
    ≡ take (i + 1) (set rs i new) ++ joined_frames (drop (i + 1) (set rs i new)) (drop (i + 1) qs)
frames_next i rs qs new d e al lt now =
    let one : suc i ≡ i + 1 = omega arith in
    subst (λ (j : ℕ). take i rs ++ joined_frames (drop i rs) (drop i qs)
    ≡ take j (set rs i new) ++ joined_frames (drop j (set rs i new)) (drop j qs)) one
    (frames_step i rs qs new d e al lt now)

-- The joins are alike too.
pub alike_set : (i : ℕ) (rs qs : List Raster) (new : Raster) (d : Raster) → SameFormats rs qs
    → new.format ≡ (get_or rs i d).format → SameFormats (set rs i new) qs
alike_set i [] [] new d al now = tt
alike_set i [] (q ∷ qs) new d al now = al
alike_set i (r ∷ rs) [] new d al now = absurd al
alike_set zero (r ∷ rs) (q ∷ qs) new d al now = (al.0 ∙ sym now, al.1)
alike_set (suc i) (r ∷ rs) (q ∷ qs) new d al now = (al.0, alike_set i rs qs new d al.1 now)

pub alike_length : (rs qs : List Raster) → SameFormats rs qs → length rs ≡ length qs
alike_length [] [] al = refl
alike_length [] (q ∷ qs) al = absurd al
alike_length (r ∷ rs) [] al = absurd al
alike_length (r ∷ rs) (q ∷ qs) al = ap suc (alike_length rs qs al.1)

pub alike_at : (i : ℕ) (rs qs : List Raster) (d e : Raster) → SameFormats rs qs → i < length rs
    → (get_or qs i e).format ≡ (get_or rs i d).format
alike_at i [] qs d e al lt = absurd (omega (arith, lt))
alike_at i (r ∷ rs) [] d e al lt = absurd al
alike_at zero (r ∷ rs) (q ∷ qs) d e al lt = al.0
alike_at (suc i) (r ∷ rs) (q ∷ qs) d e al lt = alike_at i rs qs d e al.1 (omega (arith, lt))

length_joined : (rs qs : List Raster) → length rs ≡ length qs
    → length (joined_frames rs qs) ≡ length rs
length_joined [] qs e = refl
length_joined (r ∷ rs) [] e = absurd (omega (arith, e))
length_joined (r ∷ rs) (q ∷ qs) e = ap suc (length_joined rs qs (omega (arith, e)))

formats_joined : (f : Format) (rs qs : List Raster) → AllByRecursion (λ r. r.format ≡ f) rs
    → AllByRecursion (λ r. r.format ≡ f) (joined_frames rs qs)
formats_joined f [] qs fr = tt
formats_joined f (r ∷ rs) [] fr = tt
formats_joined f (r ∷ rs) (q ∷ qs) fr = (fr.0, formats_joined f rs qs fr.1)

wholes_joined : (rs qs : List Raster) → SameFormats rs qs → AllByRecursion IsWhole rs
    → AllByRecursion IsWhole qs → AllByRecursion IsWhole (joined_frames rs qs)
wholes_joined [] qs al wr wq = tt
wholes_joined (r ∷ rs) [] al wr wq = tt
wholes_joined (r ∷ rs) (q ∷ qs) al wr wq = (
  length-joined r.cells q.cells (wr.0 ∙ ap sample_count (sym al.0) ∙ sym wq.0)
      ∙ wr.0,
  wholes_joined rs qs al.1 wr.1 wq.1,
)

-- A receiver of the joined frames is a receiver.
pub receiver_joined : (s t u : State) → s.opening ≡ t.opening → IsReceiver s → IsReceiver t
    → u.opening ≡ s.opening → u.refusals ≡ s.refusals → u.frames ≡ joined_frames s.frames t.frames
    → IsReceiver u
receiver_joined s t u same is it opening refusals frames =
    let f : Format = s.opening.format in
    let al : SameFormats s.frames t.frames = alike s t same is it in
    let wr = recursion_from_All IsWhole s.frames is.whole in
    let wq = recursion_from_All IsWhole t.frames it.whole in
    let js : List Raster = joined_frames s.frames t.frames in
    let v : State = record { opening = s.opening; frames = js; refusals = s.refusals } in
    let iv : IsReceiver v = record {
      payload_type = is.payload_type;
      window = is.window;
      one_each = length_joined s.frames t.frames (alike_length s.frames t.frames al) ∙ is.one_each;
      of_format =
          All-from_recursion (λ (r : Raster). r.format ≡ f) js
          (formats_joined f s.frames t.frames
          (recursion_from_All (λ (r : Raster). r.format ≡ f) s.frames is.of_format));
      whole = All-from_recursion IsWhole js (wholes_joined s.frames t.frames al wr wq);
      few_refusals = is.few_refusals;
    } in
    let e : v ≡ u =
    ap (λ (o : Opening). state o js s.refusals) (sym opening)
    ∙ ap (λ (xs : List Raster). state u.opening xs s.refusals) (sym frames)
    ∙ ap (λ (xs : List (Path × Refusal)). state u.opening u.frames xs) (sym refusals) in
    subst IsReceiver e iv

-- The cells of receivers of one opening.
pub cells_joined : (s t u : State) → s.opening ≡ t.opening → IsReceiver s → IsReceiver t
    → u.opening ≡ s.opening → u.frames ≡ joined_frames s.frames t.frames
    → (ts : ℕ) (p : Position) → IsMember ts s.opening.window → IsPosition p s.opening.format
    → cell_in u ts p ≡ join (cell_in s ts p) (cell_in t ts p)
cells_joined s t u same is it opening frames ts p m at =
    let f : Format = s.opening.format in
    let w : List ℕ = s.opening.window in
    let one : length t.frames ≡ length w =
    it.one_each ∙ ap (λ (o : Opening). length o.window) (sym same) in
    ap (λ (o : Opening). cell_if (frame_at o.window u.frames ts) p) opening
    ∙ ap (λ (rs : List Raster). cell_if (frame_at w rs ts) p) frames
    ∙ cells_both f p ts w s.frames t.frames at is.one_each one
    (recursion_from_All (λ (r : Raster). r.format ≡ f) s.frames is.of_format)
    (recursion_from_All IsWhole s.frames is.whole)
    (subst (λ (o : Opening). AllByRecursion (λ (r : Raster). r.format ≡ o.format) t.frames)
    (sym same)
    (recursion_from_All (λ (r : Raster). r.format ≡ t.opening.format) t.frames it.of_format))
    (recursion_from_All IsWhole t.frames it.whole) m
    ∙ ap (λ (o : Opening). join (cell_in s ts p) (cell_if (frame_at o.window t.frames ts) p)) same

-- Where two receivers hold the frames of two lists, they joined hold those of both lists.
pub holds_both : (s t u : State) → s.opening ≡ t.opening → u.opening ≡ s.opening
    → u.frames ≡ joined_frames s.frames t.frames
    → (xs ys : List (List ℕ)) → Holds s xs → Holds t ys → Holds u (xs ++ ys)
holds_both s t u same opening frames xs ys hs ht =
    frames ∙ ap (λ (rs : List Raster). joined_frames rs t.frames) hs
    ∙ ap (λ (qs : List Raster). joined_frames (frames_of s.opening xs) qs)
    (ht ∙ ap (λ (o : Opening). frames_of o ys) (sym same))
    ∙ sym (frames_of-append s.opening xs ys)
    ∙ ap (λ (o : Opening). frames_of o (xs ++ ys)) (sym opening)
