-- A timestamp and its frame, read behind others.
use Rattle.std.proofs.Common.{◌≡◌, ℕ, ◌+◌, ◌-◌, ◌<◌, List, [], ◌∷◌, ◌++◌, length, map, Option}
use Rattle.std.proofs.Common.{sym, subst, arith}
use Rattle.st_format.specs.Fields.{Fields}
use Rattle.st_format.specs.Raster.{Raster}
use Rattle.media_file.specs.declared.fault.FileFault.{FileFault}
use Rattle.media_file.specs.Fields.{Fails}
use Rattle.st_format.specs.Given.{Takes}
use Rattle.media_file.specs.Groups.{groups_at, shape_of}
use Rattle.media_file.specs.StateFile.{Held, raster_groups, held_of}
use Rattle.receiver_file.specs.Saved.{cell_groups, kept_frames, timestamp_in}
use Rattle.receiver_file.specs.StateReading.{all_held_at, timestamp_at}
use Rattle.receiver_file.proofs.FrameRuns.{frames_more, frames_none, frames_stop, held_cut}
use Rattle.receiver_file.proofs.FrameRuns.{held_fails, held_gives}
use Rattle.receiver_file.proofs.Stamped.{kept_more, kept_stamps}

behind_window : (f : Fields) (w : List ℕ) (rs : List Raster) (old mid : Option (List ℕ)) (t : ℕ)
    → length rs ≡ length w → Takes (timestamp_at w) old mid t
    → Takes (timestamp_at (map timestamp_in (kept_frames f w rs))) old mid t
behind_window f w rs old mid t e p =
    subst (λ (b : List ℕ). Takes (timestamp_at b) old mid t) (sym (kept_stamps f w rs e)) p

-- one frame more
pub frames_next : (f : Fields) (i : ℕ) (w : List ℕ) (rs : List Raster) (t : ℕ) (r : Raster)
    (old mid next new : Option (List ℕ)) → length rs ≡ length w
    → Takes (all_held_at f i []) old mid (kept_frames f w rs) → Takes (timestamp_at w) mid next t
    → Takes (groups_at (shape_of f.sampling f.depth) (raster_groups f)) next new
    (cell_groups f r.cells)
    → Takes (all_held_at f (i + 1) []) old new (kept_frames f (w ++ t ∷ []) (rs ++ r ∷ []))
frames_next f i w rs t r old mid next new e p q s =
    subst (λ (hs : List Held). Takes (all_held_at f (i + 1) []) old new hs)
    (sym (kept_more f w rs t r e))
    (frames_more f i old mid new (kept_frames f w rs) (held_of f t r.cells) p
    (held_gives f (map timestamp_in (kept_frames f w rs)) mid next new t (cell_groups f r.cells)
    (behind_window f w rs mid next t e q) s))

-- faults of the next one
pub frames_stamp : (f : Fields) (i n : ℕ) (w : List ℕ) (rs : List Raster)
    (old mid : Option (List ℕ)) (x : FileFault) → i < n → length rs ≡ length w
    → Takes (all_held_at f i []) old mid (kept_frames f w rs) → Fails (timestamp_at w) mid x
    → Fails (all_held_at f n []) old x
frames_stamp f i n w rs old mid x lt e p q =
    frames_stop f i (n - (i + 1)) n old mid (kept_frames f w rs) x (omega arith) p
    (held_cut f (map timestamp_in (kept_frames f w rs)) mid x
    (subst (λ (b : List ℕ). Fails (timestamp_at b) mid x) (sym (kept_stamps f w rs e)) q))

pub frames_groups : (f : Fields) (i n : ℕ) (w : List ℕ) (rs : List Raster) (t : ℕ)
    (old mid next : Option (List ℕ)) (x : FileFault) → i < n → length rs ≡ length w
    → Takes (all_held_at f i []) old mid (kept_frames f w rs) → Takes (timestamp_at w) mid next t
    → Fails (groups_at (shape_of f.sampling f.depth) (raster_groups f)) next x
    → Fails (all_held_at f n []) old x
frames_groups f i n w rs t old mid next x lt e p q s =
    frames_stop f i (n - (i + 1)) n old mid (kept_frames f w rs) x (omega arith) p
    (held_fails f (map timestamp_in (kept_frames f w rs)) mid next t x
    (behind_window f w rs mid next t e q) s)

-- ---- with what a loop has so far

pub frames_start : (f : Fields) (w : List ℕ) (rs : List Raster) (known : Option (List ℕ)) → w ≡ []
    → Takes (all_held_at f 0 []) known known (kept_frames f w rs)
frames_start f w rs known e =
    subst (λ (x : List ℕ). Takes (all_held_at f 0 []) known known (kept_frames f x rs)) (sym e)
    (frames_none f known)

pub frames_push : (f : Fields) (i : ℕ) (w ws before : List ℕ) (rs xs : List Raster) (t : ℕ)
    (r : Raster) (old mid next new : Option (List ℕ)) → ws ≡ w ++ t ∷ [] → xs ≡ rs ++ r ∷ []
    → before ≡ w → length rs ≡ length w
    → Takes (all_held_at f i []) old mid (kept_frames f w rs)
    → Takes (timestamp_at before) mid next t
    → Takes (groups_at (shape_of f.sampling f.depth) (raster_groups f)) next new
    (cell_groups f r.cells) → Takes (all_held_at f (i + 1) []) old new (kept_frames f ws xs)
frames_push f i w ws before rs xs t r old mid next new a b at e p q s =
    subst (λ (x : List ℕ). Takes (all_held_at f (i + 1) []) old new (kept_frames f x xs)) (sym a)
    (subst (λ (x : List Raster). Takes (all_held_at f (i + 1) []) old new
    (kept_frames f (w ++ t ∷ []) x)) (sym b)
    (frames_next f i w rs t r old mid next new e p
    (subst (λ (x : List ℕ). Takes (timestamp_at x) mid next t) at q) s))

pub stamp_stop : (f : Fields) (i n : ℕ) (w before : List ℕ) (rs : List Raster)
    (old mid : Option (List ℕ)) (x : FileFault) → before ≡ w → i < n → length rs ≡ length w
    → Takes (all_held_at f i []) old mid (kept_frames f w rs) → Fails (timestamp_at before) mid x
    → Fails (all_held_at f n []) old x
stamp_stop f i n w before rs old mid x at lt e p q =
    frames_stamp f i n w rs old mid x lt e p
    (subst (λ (b : List ℕ). Fails (timestamp_at b) mid x) at q)

pub groups_stop : (f : Fields) (i n : ℕ) (w before : List ℕ) (rs : List Raster) (t : ℕ)
    (old mid next : Option (List ℕ)) (x : FileFault) → before ≡ w → i < n → length rs ≡ length w
    → Takes (all_held_at f i []) old mid (kept_frames f w rs)
    → Takes (timestamp_at before) mid next t
    → Fails (groups_at (shape_of f.sampling f.depth) (raster_groups f)) next x
    → Fails (all_held_at f n []) old x
groups_stop f i n w before rs t old mid next x at lt e p q s =
    frames_groups f i n w rs t old mid next x lt e p
    (subst (λ (b : List ℕ). Takes (timestamp_at b) mid next t) at q) s
