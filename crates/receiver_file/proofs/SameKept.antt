-- Receivers of which the same is kept are the same, their refusals aside.
use Rattle.std.proofs.Common.{◌≡◌, ℕ, suc, ◌*◌, List, [], ◌∷◌, length, map, All, Option, Some}
use Rattle.std.proofs.Common.{Result, Ok, Err, refl, sym, ap, ◌∙◌, subst, arith}
use Rattle.std.specs.Prelude.{IfErr, IfOk}
use Rattle.st_format.specs.declared.cell.Cell.{Cell}
use Rattle.st_format.specs.declared.format.Format.{Format}
use Rattle.st_format.specs.Fields.{fields_of}
use Rattle.st_format.proofs.SameFields.{same_format}
use Rattle.st_format.specs.Raster.{IsWhole, Raster}
use Rattle.frame_assembly.proofs.Segments.{sample_count_groups}
use Rattle.path_receiver.specs.Frames.{Holds, IsReceiver, State, frames_of}
use Rattle.path_receiver.specs.Opening.{Opening}
use Rattle.media_file.specs.declared.fault.FileFault.{FileFault}
use Rattle.media_file.specs.Fields.{Fails}
use Rattle.st_format.specs.Given.{Takes}
use Rattle.media_file.specs.StateFile.{Held, Kept, raster_groups, state_text}
use Rattle.media_file.proofs.Once.{cells_once}
use Rattle.receiver_file.specs.Known.{shape_in}
use Rattle.receiver_file.specs.Saved.{IsSaved, IsWritable, kept_frames, kept_of, timestamp_in}
use Rattle.receiver_file.specs.StateReading.{state_walk}
use Rattle.receiver_file.proofs.Again.{kept_in, only_state, state_again}
use Rattle.receiver_file.proofs.Savable.{writable_saved}
use Rattle.receiver_file.proofs.Stamped.{kept_stamps}
use Rattle.receiver_file.proofs.StateRuns.{kept_by}

-- ---- frames of the same groups

abbrev groups_first : List Held → List (List Cell)
groups_first [] = []
groups_first (h ∷ hs) = h.groups

abbrev behind : List Held → List Held
behind [] = []
behind (h ∷ hs) = hs

raster_long : (o : Format) (r : Raster) → r.format ≡ o → IsWhole r
    → length r.cells ≡ raster_groups (fields_of o) * (shape_in o).samples
raster_long o r e whole =
    let size : ℕ = (shape_in o).samples in
    let n : ℕ = raster_groups (fields_of o) in
    let turned : size * n ≡ n * size = omega arith in
    subst (λ (x : Format). IsWhole (record { format = x; cells = r.cells })) e whole
    ∙ sym (sample_count_groups o) ∙ turned

same_raster : (o : Format) (r q : Raster) → r.format ≡ o → q.format ≡ o → r.cells ≡ q.cells → r ≡ q
same_raster o r q e k cells =
    ap (λ (x : Format). let s : Raster = record { format = x; cells = r.cells } in s) (e ∙ sym k)
    ∙ ap
    (λ (x : List Cell). let s : Raster = record { format = q.format; cells = x } in s) cells

all_behind : (P : Raster → Type 0) (r : Raster) (rs : List Raster) → All P (r ∷ rs) → All P rs
all_behind P r rs all = λ k d lt. all (suc k) d (omega (arith, lt))

same_frames : (o : Format) (w : List ℕ) (rs qs : List Raster) → length rs ≡ length w
    → length qs ≡ length w → All (λ (r : Raster). r.format ≡ o) rs
    → All (λ (r : Raster). r.format ≡ o) qs → All IsWhole rs → All IsWhole qs
    → kept_frames (fields_of o) w rs ≡ kept_frames (fields_of o) w qs → rs ≡ qs
same_frames o [] [] [] a b p q s t e = refl
same_frames o [] (r ∷ rs) qs a b p q s t e = absurd (omega (arith, a))
same_frames o [] [] (q1 ∷ qs) a b p q s t e = absurd (omega (arith, b))
same_frames o (u ∷ w) [] qs a b p q s t e = absurd (omega (arith, a))
same_frames o (u ∷ w) (r ∷ rs) [] a b p q s t e = absurd (omega (arith, b))
same_frames o (u ∷ w) (r ∷ rs) (q1 ∷ qs) a b p q s t e =
    let first : r.format ≡ o = p 0 r (omega arith) in
    let second : q1.format ≡ o = q 0 q1 (omega arith) in
    let cells : r.cells ≡ q1.cells =
    cells_once (shape_in o).samples (raster_groups (fields_of o)) r.cells q1.cells
    (raster_long o r first (s 0 r (omega arith)))
    (raster_long o q1 second (t 0 q1 (omega arith))) (ap groups_first e) in
    let more : rs ≡ qs =
    same_frames o w rs qs (omega (arith, a)) (omega (arith, b))
    (all_behind (λ (x : Raster). x.format ≡ o) r rs p)
    (all_behind (λ (x : Raster). x.format ≡ o) q1 qs q) (all_behind IsWhole r rs s)
    (all_behind IsWhole q1 qs t) (ap behind e) in
    ap (λ (x : Raster). x ∷ rs) (same_raster o r q1 first second cells)
    ∙ ap (λ (xs : List Raster). q1 ∷ xs) more

-- ---- receivers

abbrev opening_by : Format → ℕ → Option ℕ → List ℕ → Opening
opening_by f p ssrc w = record { format = f; payload_type = p; ssrc = ssrc; window = w }

pub same_opening : (r s : State) → IsReceiver r → IsReceiver s → kept_of r ≡ kept_of s
    → r.opening ≡ s.opening
same_opening r s a b e =
    let f : r.opening.format ≡ s.opening.format =
    same_format r.opening.format s.opening.format (ap (λ (k : Kept). k.format) e) in
    let w : r.opening.window ≡ s.opening.window =
    sym (kept_stamps (fields_of r.opening.format) r.opening.window r.frames a.one_each)
    ∙ ap (λ (k : Kept). map timestamp_in k.frames) e
    ∙ kept_stamps (fields_of s.opening.format) s.opening.window s.frames b.one_each in
    ap (λ (x : Format). opening_by x r.opening.payload_type r.opening.ssrc r.opening.window) f
    ∙ ap (λ (x : ℕ). opening_by s.opening.format x r.opening.ssrc r.opening.window)
    (ap (λ (k : Kept). k.payload_type) e)
    ∙ ap (λ (x : Option ℕ). opening_by s.opening.format s.opening.payload_type x r.opening.window)
    (ap (λ (k : Kept). k.ssrc) e)
    ∙ ap (opening_by s.opening.format s.opening.payload_type s.opening.ssrc) w

pub same_held : (r s : State) → IsReceiver r → IsReceiver s → kept_of r ≡ kept_of s
    → r.frames ≡ s.frames
same_held r s a b e =
    let o : r.opening ≡ s.opening = same_opening r s a b e in
    let f : r.opening.format ≡ s.opening.format = ap (λ (x : Opening). x.format) o in
    let w : r.opening.window ≡ s.opening.window = ap (λ (x : Opening). x.window) o in
    let kept : kept_frames (fields_of s.opening.format) s.opening.window r.frames
    ≡ kept_frames (fields_of s.opening.format) s.opening.window s.frames =
    ap (λ (x : Opening). kept_frames (fields_of x.format) x.window r.frames) (sym o)
    ∙ ap (λ (k : Kept). k.frames) e in
    same_frames s.opening.format s.opening.window r.frames s.frames
    (a.one_each ∙ ap (λ (x : List ℕ). length x) w) b.one_each
    (subst (λ (x : Format). All
    (λ (q : Raster). q.format ≡ x) r.frames) f a.of_format) b.of_format a.whole b.whole kept

-- a receiver that is read of another's file
pub same_read : (s r : State) → IsWritable s → IsReceiver r
    → state_walk (state_text (kept_of s)) ≡ Ok (kept_of r, [])
    → (r.opening ≡ s.opening) × (r.frames ≡ s.frames)
same_read s r is b e =
    let kept : kept_of r ≡ kept_of s =
    ap (kept_in (kept_of s)) (sym e ∙ state_again (kept_of s) (writable_saved s is)) in
    (same_opening r s b is.receiver kept, same_held r s b is.receiver kept)

-- ---- what is answered of a receiver's file

pub loaded_same : (old new : Option (List ℕ)) (r : Result State FileFault)
    → IfOk r (λ x. Takes state_walk old new (kept_of x)) → IfErr r (λ f. Fails state_walk old f)
    → IfOk r IsReceiver → (s : State) → old ≡ Some (state_text (kept_of s)) → IsReceiver s
    → IsSaved (kept_of s) → IfOk r (λ x. (x.opening ≡ s.opening) × (x.frames ≡ s.frames))
loaded_same old new (Err f) p q a s told b is = tt
loaded_same old new (Ok x) p q a s told b is =
    let e : kept_of x ≡ kept_of s = only_state old new (Ok x) p q (kept_of s) told is in
    (same_opening x s a b e, same_held x s a b e)

pub loaded_holds : (r : Result State FileFault) (s : State) (datagrams : List (List ℕ))
    → Holds s datagrams → IfOk r (λ x. (x.opening ≡ s.opening) × (x.frames ≡ s.frames))
    → IfOk r (λ x. Holds x datagrams)
loaded_holds (Err f) s datagrams h p = tt
loaded_holds (Ok x) s datagrams h p =
    p.1 ∙ h ∙ ap (λ (o : Opening). frames_of o datagrams) (sym p.0)

-- ---- equal files

pub equal_kept : (r s : State) → r.opening ≡ s.opening → r.frames ≡ s.frames
    → state_text (kept_of r) ≡ state_text (kept_of s)
equal_kept r s o e =
    ap (λ (x : Opening). state_text (kept_by x r.frames)) o
    ∙ ap (λ (x : List Raster). state_text (kept_by s.opening x)) e
