-- Frames of which nothing is missing.
use Rattle.std.proofs.Common.{◌≡◌, ℕ, suc, ◌⊎◌, inl, inr, Bool, true, false, cond}
use Rattle.std.proofs.Common.{eqb, List, [], ◌∷◌, ◌++◌, take, refl, sym, ap, ◌∙◌}
use Rattle.std.proofs.Common.{subst}
use Rattle.std.proofs.lemmas.Bool.{false≢true}
use Rattle.st_format.specs.declared.cell.Cell.{Cell}
use Rattle.st_format.specs.declared.cell.Cell.TheVariants.{Missing, Value, Contested}
use Rattle.st_format.specs.Cell.{is_missing, join}
use Rattle.st_format.specs.Member.{IsMember}
use Rattle.st_format.specs.Picture.{Values}
use Rattle.st_format.specs.Position.{IsPosition, Position}
use Rattle.st_format.specs.Raster.{IsWhole, Raster, cell_at}
use Rattle.st_format.proofs.Rasters.{cell_at-joined, length-cells_of}
use Rattle.std.specs.List.{flat_map}
use Rattle.packet_plan.specs.Sender.{Sender}
use Rattle.path_receiver.specs.Offers.{offers}
use Rattle.path_receiver.specs.Opening.{Opening}
use Rattle.path_receiver.specs.Sender.{IsSendersCell}
use Rattle.following.specs.Follower.{Following, opened}
use Rattle.following.specs.Following.{Handed, with_timestamps}
use Rattle.following.specs.Pictures.{BroughtSome, IsOfSome, IsSendersSample, ShowsSender}
use Rattle.following.specs.Times.{frame_of}
use Rattle.following.specs.Turned.{complete_count, handed_all, handed_early, is_complete}
use Rattle.following.proofs.FrameLemmas.{frame_both}
use Rattle.following.proofs.Made.{in_first, of_some}
use Rattle.following.proofs.Lacking.{known_cell_at}
use Rattle.following.proofs.SendersCells.{frame_cells}

-- ---- a cell of a complete frame

whole_frame : (o : Opening) (ds : List (List ℕ)) (ts : ℕ) → IsWhole (frame_of o ds ts)
whole_frame o ds ts = length-cells_of o.format (flat_map (offers o) ds) ts

known_at : (o : Opening) (ds : List (List ℕ)) (ts : ℕ) (at : Position)
    → is_complete (frame_of o ds ts) ≡ true → IsPosition at o.format
    → is_missing (cell_at (frame_of o ds ts) at) ≡ false
known_at o ds ts at full is =
    known_cell_at (frame_of o ds ts) at (whole_frame o ds ts) full is

join_keeps : (c d : Cell) → is_missing c ≡ false → (join c d ≡ c) ⊎ (join c d ≡ Contested)
join_keeps Missing d known = absurd (false≢true (sym known))
join_keeps (Value v) Missing known = inl refl
join_keeps (Value v) (Value w) known = at (eqb v w)
  where
    at : (b : Bool) → (cond b (Value v) Contested ≡ Value v) ⊎ (cond b (Value v) Contested ≡ Contested)
    at true = inl refl
    at false = inr refl
join_keeps (Value v) Contested known = inr refl
join_keeps Contested d known = inl refl

-- More datagrams leave each cell of it, or contest it.
pub no_more : (o : Opening) (ds es : List (List ℕ)) (ts : ℕ) (at : Position)
    → is_complete (frame_of o ds ts) ≡ true → IsPosition at o.format
    → (cell_at (frame_of o (ds ++ es) ts) at ≡ cell_at (frame_of o ds ts) at)
    ⊎ (cell_at (frame_of o (ds ++ es) ts) at ≡ Contested)
no_more o ds es ts at full is =
    let both : cell_at (frame_of o (ds ++ es) ts) at
    ≡ join (cell_at (frame_of o ds ts) at) (cell_at (frame_of o es ts) at) =
    ap (λ (r : Raster). cell_at r at) (frame_both o ds es ts)
    ∙ cell_at-joined (frame_of o ds ts) (frame_of o es ts) at (whole_frame o ds ts)
    (whole_frame o es ts) refl is in
    elim (join_keeps (cell_at (frame_of o ds ts) at) (cell_at (frame_of o es ts) at)
    (known_at o ds ts at full is)) [
      | inl e ↦ inl (both ∙ e)
      | inr e ↦ inr (both ∙ e)
    ]

-- ---- those that go early are complete

early_some : (w : List ℕ) (rs : List Raster) (h : Handed)
    → IsMember h (take (complete_count rs) (with_timestamps w rs)) → is_complete h.frame ≡ true
unfolding complete_count
early_some [] rs h m = absurd (in_first (complete_count rs) h [] m)
early_some (t ∷ w) [] h m = absurd m
early_some (t ∷ w) (r ∷ rs) h m = at (is_complete r) refl (early_some w rs h) m
  where
    at : (b : Bool) → is_complete r ≡ b
        → (IsMember h (take (complete_count rs) (with_timestamps w rs))
        → is_complete h.frame ≡ true)
        → IsMember h (take (cond b (suc (complete_count rs)) 0) (with_timestamps (t ∷ w) (r ∷ rs)))
        → is_complete h.frame ≡ true
    at true full rest (inl e) = ap (λ (x : Handed). is_complete x.frame) e ∙ full
    at true full rest (inr k) = rest k
    at false lacks rest k = absurd k

pub early_complete : (eager : Bool) (s : Following) (h : Handed)
    → IsMember h (handed_early eager s) → is_complete h.frame ≡ true
early_complete true s h m = early_some s.opening.window s.frames h m
early_complete false s h m = absurd m

-- ---- a sender's

pub some_cells : (eager : Bool) (o : Opening) (size ahead : ℕ) (s : Sender) (ps : List Values)
    (ds : List (List ℕ)) (h : Handed) → BroughtSome o s ps ds
    → IsMember h (handed_all eager (opened o size ahead) ds) → ShowsSender h s ps
some_cells eager o size ahead s ps ds h brought m at =
    let k : IsOfSome o ds h = of_some eager o size ahead ds h m in
    subst (λ (r : Raster). IsSendersCell (cell_at r at) s ps h.timestamp at) (sym k.is)
    (frame_cells o s brought.first ps brought.sent k.some h.timestamp at brought.list brought.format
    (λ d j. brought.among d (k.among d j)))

known_cell : (c : Cell) (s : Sender) (ps : List Values) (ts : ℕ) (at : Position)
    → is_missing c ≡ false → IsSendersCell c s ps ts at → IsSendersSample c s ps ts at
known_cell Missing s ps ts at known is = absurd (false≢true (sym known))
known_cell (Value v) s ps ts at known is = is
known_cell Contested s ps ts at known is = is

pub some_samples : (eager : Bool) (o : Opening) (size ahead : ℕ) (s : Sender) (ps : List Values)
    (ds : List (List ℕ)) (h : Handed) (at : Position) → BroughtSome o s ps ds
    → IsMember h (handed_all eager (opened o size ahead) ds) → is_complete h.frame ≡ true
    → IsPosition at o.format → IsSendersSample (cell_at h.frame at) s ps h.timestamp at
some_samples eager o size ahead s ps ds h at brought m full is =
    let k : IsOfSome o ds h = of_some eager o size ahead ds h m in
    known_cell (cell_at h.frame at) s ps h.timestamp at
    (subst (λ (r : Raster). is_missing (cell_at r at) ≡ false) (sym k.is)
    (known_at o k.some h.timestamp at
    (subst (λ (r : Raster). is_complete r ≡ true) k.is full) is))
    (some_cells eager o size ahead s ps ds h brought m at)
