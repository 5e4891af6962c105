-- Receivers that hold the Frames of datagrams can be written, and their files tell them apart.
use Rattle.std.proofs.Common.{◌≡◌, ℕ, ◌<◌, ◌≤◌, ◌^◌, List, [], ◌∷◌, length, map, All, refl, sym}
use Rattle.std.proofs.Common.{ap, ◌∙◌, subst, arith}
use Rattle.std.specs.List.{AllByRecursion, flat_map}
use Rattle.std.proofs.lemmas.List.{length-map}
use Rattle.std.proofs.lemmas.List.Elements.{All-cons, All-from_recursion, All-nil}
use Rattle.st_format.specs.declared.format.Format.{Format}
use Rattle.st_format.specs.Fields.{fields_of}
use Rattle.st_format.specs.Offer.{Offer}
use Rattle.st_format.specs.Raster.{IsWhole, Raster, raster_of}
use Rattle.st_format.proofs.Rasters.{length-cells_of}
use Rattle.path_receiver.specs.Frames.{Holds, IsReceiver, State, frames_of}
use Rattle.path_receiver.specs.Offers.{offers}
use Rattle.path_receiver.specs.Opening.{IsWindow, Opening}
use Rattle.media_file.specs.StateFile.{FitsBlock, IsHeld, IsKeptReceiver, Kept, SsrcFits, held_of}
use Rattle.media_file.specs.StateFile.{state_text}
use Rattle.media_file.proofs.Once.{state_once}
use Rattle.receiver_file.specs.Saved.{IsFilled, IsWritable, kept_frames, kept_of, timestamp_in}
use Rattle.receiver_file.proofs.SameKept.{same_held, same_opening}
use Rattle.receiver_file.proofs.Savable.{writable_saved}
use Rattle.receiver_file.proofs.Stamped.{kept_stamps}
use Rattle.run_laws.proofs.Held.{frame-filled}

-- what a receiver was opened with has the widths of a file's fields
pub record CanOpen (o : Opening) : Type 0 where
  pub payload_type : o.payload_type < 128
  pub window : IsWindow o.window
  pub ssrc : SsrcFits o.ssrc
  pub timestamps : AllByRecursion (λ t. t < 2 ^ 32) o.window

pub can_open : (s : State) → IsWritable s → CanOpen s.opening
can_open s is = record {
  payload_type = is.receiver.payload_type;
  window = is.receiver.window;
  ssrc = is.ssrc;
  timestamps = is.timestamps;
}

-- ---- the frames

of_format : (f : Format) (os : List Offer) (w : List ℕ)
    → AllByRecursion (λ r. r.format ≡ f) (map (raster_of f os) w)
of_format f os [] = tt
of_format f os (t ∷ w) = (refl, of_format f os w)

are_whole : (f : Format) (os : List Offer) (w : List ℕ)
    → AllByRecursion IsWhole (map (raster_of f os) w)
are_whole f os [] = tt
are_whole f os (t ∷ w) = (length-cells_of f os t, are_whole f os w)

are_filled : (o : Opening) (datagrams : List (List ℕ)) (w : List ℕ)
    → AllByRecursion IsFilled (map (raster_of o.format (flat_map (offers o) datagrams)) w)
are_filled o datagrams [] = tt
are_filled o datagrams (t ∷ w) = (frame-filled o datagrams t, are_filled o datagrams w)

pub holding_receiver : (s : State) (datagrams : List (List ℕ)) → Holds s datagrams
    → CanOpen s.opening → length s.refusals ≤ 64 → IsReceiver s
holding_receiver s datagrams holds can few =
    let o : Opening = s.opening in
    let os : List Offer = flat_map (offers o) datagrams in
    let P : Raster → Type 0 = λ r. r.format ≡ o.format in
    record {
      payload_type = can.payload_type;
      window = can.window;
      one_each = ap (λ (rs : List Raster). length rs) holds
          ∙ length-map o.window (raster_of o.format os);
      of_format = subst (λ (rs : List Raster). All P rs) (sym holds)
          (All-from_recursion P (frames_of o datagrams) (of_format o.format os o.window));
      whole = subst (λ (rs : List Raster). All IsWhole rs) (sym holds)
          (All-from_recursion IsWhole (frames_of o datagrams) (are_whole o.format os o.window));
      few_refusals = few;
    }

-- A receiver that holds the Frames of datagrams can be written.
pub holding_writable : (s : State) (datagrams : List (List ℕ)) → Holds s datagrams
    → CanOpen s.opening → length s.refusals ≤ 64 → IsWritable s
holding_writable s datagrams holds can few = record {
  receiver = holding_receiver s datagrams holds can few;
  ssrc = can.ssrc;
  timestamps = can.timestamps;
  frames = subst (λ (rs : List Raster). AllByRecursion IsFilled rs) (sym holds)
      (are_filled s.opening datagrams s.opening.window);
}

-- ---- what its file says, before the window is known to be one

abbrev single : Opening → ℕ → Raster → State
single o t r =
    record {
      opening = record { format = o.format; payload_type = 96; ssrc = o.ssrc; window = t ∷ [] };
      frames = r ∷ [];
      refusals = [];
    }

single_writable : (o : Opening) (t : ℕ) (r : Raster) → SsrcFits o.ssrc → t < 2 ^ 32 → IsFilled r
    → r.format ≡ o.format → IsWritable (single o t r)
single_writable o t r ssrc fits is e =
    let P : Raster → Type 0 = λ q. q.format ≡ o.format in
    record {
      receiver = record {
        payload_type = omega arith;
        window = record {
          size = record { some = omega arith; most = omega arith };
          different = (λ m. m, tt);
        };
        one_each = refl;
        of_format = All-cons P r [] e (All-nil P);
        whole = All-cons IsWhole r [] is.whole (All-nil IsWhole);
        few_refusals = omega arith;
      };
      ssrc = ssrc;
      timestamps = (fits, tt);
      frames = (is, tt);
    }

one_held : (o : Opening) (t : ℕ) (r : Raster) → SsrcFits o.ssrc → t < 2 ^ 32 → IsFilled r
    → r.format ≡ o.format → IsHeld (fields_of o.format) (held_of (fields_of o.format) t r.cells)
one_held o t r ssrc fits is e =
    (writable_saved (single o t r) (single_writable o t r ssrc fits is e)).kept.frames.0

all_held : (o : Opening) (datagrams : List (List ℕ)) (w : List ℕ) → SsrcFits o.ssrc
    → AllByRecursion (λ t. t < 2 ^ 32) w
    → AllByRecursion (IsHeld (fields_of o.format))
    (kept_frames (fields_of o.format) w
    (map (raster_of o.format (flat_map (offers o) datagrams)) w))
all_held o datagrams [] ssrc fit = tt
all_held o datagrams (t ∷ w) ssrc fit = (
  one_held o t (raster_of o.format (flat_map (offers o) datagrams) t) ssrc fit.0
      (frame-filled o datagrams t) refl,
  all_held o datagrams w ssrc fit.1,
)

block_room : (f : Format) → FitsBlock (fields_of f)
block_room f = record {
  width = omega (arith, f.whole_width.most);
  height = omega (arith, f.whole_height.most);
  n = omega (arith, f.sane_rate.most_n);
  d = omega (arith, f.sane_rate.most_d);
}

kept_holding : (s : State) (datagrams : List (List ℕ)) → Holds s datagrams
    → SsrcFits s.opening.ssrc → AllByRecursion (λ t. t < 2 ^ 32) s.opening.window
    → IsKeptReceiver (kept_of s)
kept_holding s datagrams holds ssrc fit = record {
  room = block_room s.opening.format;
  ssrc = ssrc;
  frames = subst (λ (rs : List Raster). AllByRecursion (IsHeld (fields_of s.opening.format))
      (kept_frames (fields_of s.opening.format) s.opening.window rs)) (sym holds)
      (all_held s.opening datagrams s.opening.window ssrc fit);
}

-- ---- receivers of one file

abbrev bare : State → State
bare s = record { opening = s.opening; frames = s.frames; refusals = [] }

-- A receiver that holds Frames and has the file of one that can be written is that one, its
-- refusals aside.
pub same_as_written : (s w : State) (datagrams : List (List ℕ)) → Holds s datagrams
    → SsrcFits s.opening.ssrc → AllByRecursion (λ t. t < 2 ^ 32) s.opening.window → IsWritable w
    → state_text (kept_of s) ≡ state_text (kept_of w)
    → (s.opening ≡ w.opening) × (s.frames ≡ w.frames)
same_as_written s w datagrams holds ssrc fit is e =
    let kept : kept_of s ≡ kept_of w =
    state_once (kept_of s) (kept_of w) (kept_holding s datagrams holds ssrc fit)
    (writable_saved w is).kept e in
    let long : length s.frames ≡ length s.opening.window =
    ap (λ (rs : List Raster). length rs) holds
    ∙ length-map s.opening.window
    (raster_of s.opening.format (flat_map (offers s.opening) datagrams)) in
    let window : s.opening.window ≡ w.opening.window =
    sym (kept_stamps (fields_of s.opening.format) s.opening.window s.frames long)
    ∙ ap (λ (k : Kept). map timestamp_in k.frames) kept
    ∙ kept_stamps (fields_of w.opening.format) w.opening.window w.frames is.receiver.one_each in
    let can : CanOpen s.opening = record {
      payload_type = subst (λ (n : ℕ). n < 128) (sym (ap (λ (k : Kept). k.payload_type) kept))
          is.receiver.payload_type;
      window = subst IsWindow (sym window) is.receiver.window;
      ssrc = ssrc;
      timestamps = fit;
    } in
    let receiver : IsReceiver (bare s) =
    holding_receiver (bare s) datagrams holds can (omega arith) in (
      same_opening (bare s) w receiver is.receiver kept,
      same_held (bare s) w receiver is.receiver kept,
    )
