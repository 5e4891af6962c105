-- Joins of frames, in any order.
use Rattle.std.proofs.Common.{◌≡◌, ℕ, Bool, true, false, cond, eqb, List, [], ◌∷◌, refl, sym, ap}
use Rattle.std.proofs.Common.{◌∙◌}
use Rattle.std.proofs.lemmas.Bool.{eqb-true, eqb-false, eq-eqb}
use Rattle.st_format.specs.declared.cell.Cell.{Cell}
use Rattle.st_format.specs.declared.cell.Cell.TheVariants.{Missing, Value, Contested}
use Rattle.st_format.specs.declared.format.Format.{Format}
use Rattle.st_format.specs.Cell.{join}
use Rattle.st_format.specs.Raster.{Raster, joined_cells, joined_rasters}
use Rattle.st_format.proofs.Rasters.{joined-assoc}
use Rattle.path_receiver.specs.Frames.{SameFormats, IsReceiver, State, joined_frames}
use Rattle.path_receiver.proofs.Joined.{alike}

pub joined_frames-assoc : (rs qs ps : List Raster)
    → joined_frames (joined_frames rs qs) ps ≡ joined_frames rs (joined_frames qs ps)
joined_frames-assoc [] qs ps = refl
joined_frames-assoc (r ∷ rs) [] ps = refl
joined_frames-assoc (r ∷ rs) (q ∷ qs) [] = refl
joined_frames-assoc (r ∷ rs) (q ∷ qs) (p ∷ ps) =
    rw (joined-assoc r.cells q.cells p.cells, joined_frames-assoc rs qs ps) refl

-- ---- one cell

abbrev value : ℕ → Cell
value n = Value n

joined_values : (v w : ℕ) (b c : Bool) → eqb v w ≡ b → eqb w v ≡ c
    → cond b (Value v) Contested ≡ cond c (Value w) Contested
joined_values v w true true e f = ap (λ (n : ℕ). value n) (eqb-true v w e)
joined_values v w true false e f = absurd (eqb-false w v f (sym (eqb-true v w e)))
joined_values v w false true e f = absurd (eqb-false v w e (sym (eqb-true w v f)))
joined_values v w false false e f = refl

join-comm : (c d : Cell) → join c d ≡ join d c
join-comm Missing Missing = refl
join-comm Missing (Value w) = refl
join-comm Missing Contested = refl
join-comm (Value v) Missing = refl
join-comm (Value v) (Value w) = joined_values v w (eqb v w) (eqb w v) refl refl
join-comm (Value v) Contested = refl
join-comm Contested Missing = refl
join-comm Contested (Value w) = refl
join-comm Contested Contested = refl

join-same : (c : Cell) → join c c ≡ c
join-same Missing = refl
join-same (Value v) = ap (λ (b : Bool). cond b (Value v) Contested) (eq-eqb v v refl)
join-same Contested = refl

-- ---- one frame

joined-comm : (cs ds : List Cell) → joined_cells cs ds ≡ joined_cells ds cs
joined-comm [] [] = refl
joined-comm [] (d ∷ ds) = refl
joined-comm (c ∷ cs) [] = refl
joined-comm (c ∷ cs) (d ∷ ds) = rw (join-comm c d, joined-comm cs ds) refl

joined-same : (cs : List Cell) → joined_cells cs cs ≡ cs
joined-same [] = refl
joined-same (c ∷ cs) = rw (join-same c, joined-same cs) refl

abbrev raster : Format → List Cell → Raster
raster f cells = record { format = f; cells = cells }

rasters-comm : (r q : Raster) → q.format ≡ r.format → joined_rasters r q ≡ joined_rasters q r
rasters-comm r q same =
    ap (raster r.format) (joined-comm r.cells q.cells)
    ∙ ap (λ (f : Format). raster f (joined_cells q.cells r.cells)) (sym same)

-- ---- the frames of receivers

pub joined_frames-same : (rs : List Raster) → joined_frames rs rs ≡ rs
joined_frames-same [] = refl
joined_frames-same (r ∷ rs) =
    ap (λ (cs : List Cell). raster r.format cs ∷ joined_frames rs rs) (joined-same r.cells)
    ∙ ap (λ (qs : List Raster). r ∷ qs) (joined_frames-same rs)

joined_frames-comm : (rs qs : List Raster) → SameFormats rs qs
    → joined_frames rs qs ≡ joined_frames qs rs
joined_frames-comm [] [] al = refl
joined_frames-comm [] (q ∷ qs) al = absurd al
joined_frames-comm (r ∷ rs) [] al = absurd al
joined_frames-comm (r ∷ rs) (q ∷ qs) al =
    ap (λ (p : Raster). p ∷ joined_frames rs qs) (rasters-comm r q al.0)
    ∙ ap (λ (ps : List Raster). joined_rasters q r ∷ ps) (joined_frames-comm rs qs al.1)

-- Two receivers of one opening give the same frames whichever is merged into the other.
pub merged_either_way : (s t : State) → s.opening ≡ t.opening → IsReceiver s → IsReceiver t
    → joined_frames s.frames t.frames ≡ joined_frames t.frames s.frames
merged_either_way s t same is it = joined_frames-comm s.frames t.frames (alike s t same is it)
