-- Two receivers that were read, merged and written.
use Rattle.std.proofs.Common.{◌≡◌, ℕ, inr, List, [], ◌∷◌, ◌++◌, refl, sym, ap, subst, ◌∙◌}
use Rattle.st_format.specs.Device.{GrowsPart}
use Rattle.st_format.specs.Raster.{Raster}
use Rattle.media_file.specs.StateFile.{Kept, state_text}
use Rattle.path_receiver.specs.Frames.{Holds, State, frames_of, joined_frames}
use Rattle.path_receiver.specs.Opening.{Opening}
use Rattle.path_receiver.proofs.Frames.{frames_of-append}
use Rattle.receiver_file.specs.Saved.{kept_of}
use Rattle.receiver_engines.specs.Merging.{IsAgain, JoinsFirst, MergesFiles, SavesMerged}
use Rattle.receiver_engines.specs.Merging.{PrintsMerged, PrintsMergedPart, merged_state}
use Rattle.run_outcome.specs.Fault.{Blames, counts}
use Rattle.run_outcome.specs.Frames.{frame_lines}
use Rattle.run_outcome.specs.declared.fault.Fault.{Fault}
use Rattle.run_outcome.specs.declared.fault.Fault.TheVariants.{Device}

-- a receiver is itself
pub again : (s : State) → IsAgain s s
again s = record { opening = refl; frames = refl }

-- what was read of two files, merged
pub joined : (s t l r m : State) → IsAgain s l → IsAgain t r → l.opening ≡ r.opening
    → m.opening ≡ l.opening → m.frames ≡ joined_frames l.frames r.frames
    → (s.opening ≡ t.opening) × IsAgain (merged_state s t) m
joined s t l r m left right alike opening frames = (
  sym left.opening ∙ alike ∙ right.opening,
  record {
    opening = opening ∙ left.opening;
    frames = frames ∙ ap (λ (rs : List Raster). joined_frames rs r.frames) left.frames
        ∙ ap (joined_frames s.frames) right.frames;
  },
)

abbrev receiver : Opening → List Raster → State
receiver o rs = record { opening = o; frames = rs; refusals = [] }

-- receivers of one opening and the same frames are kept alike
pub same_kept : (s r : State) → IsAgain s r → kept_of r ≡ kept_of s
same_kept s r again =
    ap (λ (o : Opening). kept_of (receiver o r.frames)) again.opening
    ∙ ap (λ (rs : List Raster). kept_of (receiver s.opening rs)) again.frames

pub holds_both : (s t : State) → s.opening ≡ t.opening → (xs ys : List (List ℕ)) → Holds s xs
    → Holds t ys
    → Holds (merged_state s t) (xs ++ ys)
holds_both s t alike xs ys holds_xs holds_ys =
    ap (λ (rs : List Raster). joined_frames rs t.frames) holds_xs
    ∙ ap (joined_frames (frames_of s.opening xs))
    (holds_ys ∙ ap (λ (o : Opening). frames_of o ys) (sym alike))
    ∙ sym (frames_of-append s.opening xs ys)

-- what was merged is written
saves : (s t : State) (old new : List ℕ) (m : State)
    → (s.opening ≡ t.opening) × IsAgain (merged_state s t) m
    → new ≡ old ++ state_text (kept_of m) → SavesMerged s t old new
saves s t old new m is taken = record {
  alike = is.0;
  taken = subst (λ (k : Kept). new ≡ old ++ state_text k)
      (same_kept (merged_state s t) m is.1) taken;
  holds = holds_both s t is.0;
}

pub merges : (left right : List ℕ → Type 0) (old new : List ℕ) (m : State) → JoinsFirst left right m
    → new ≡ old ++ state_text (kept_of m) → MergesFiles left right old new
merges left right old new m joins taken = record {
  first = joins.first;
  second = joins.second;
  first_is = joins.first_is;
  second_is = joins.second_is;
  taken = saves joins.first joins.second old new m joins.both taken;
  saved = λ s t gives also_gives. saves s t old new m (joins.joined s t gives also_gives) taken;
}

-- and printed
pub same_lines : (s r : State) → IsAgain s r → frame_lines r ≡ frame_lines s
same_lines s r again =
    ap (λ (o : Opening). frame_lines (receiver o r.frames)) again.opening
    ∙ ap (λ (rs : List Raster). frame_lines (receiver s.opening rs)) again.frames

pub prints : (left right : List ℕ → Type 0) (old new : List ℕ) (m : State) → JoinsFirst left right m
    → new ≡ old ++ frame_lines m → PrintsMerged left right old new
prints left right old new m joins taken = record {
  first = joins.first;
  second = joins.second;
  first_is = joins.first_is;
  second_is = joins.second_is;
  alike = joins.both.0;
  printed = subst (λ (l : List ℕ). new ≡ old ++ l)
      (same_lines (merged_state joins.first joins.second) m joins.both.1) taken;
}

-- the output failed at the lines of a receiver's frames
pub lines_cut : {O : Type 0} (took : O → List ℕ) (failures : O → ℕ) (Is : State → Type 0)
    (m : State) (old new : O) (f : Fault) → Is m → f ≡ Device
    → Blames (counts (failures old) (failures new) ∷ []) f
    → GrowsPart (took old) (took new) (frame_lines m) → PrintsMergedPart took failures Is old new
lines_cut took failures Is m old new f is device blames cut = inr (
  m,
  is,
  inr (subst (Blames (counts (failures old) (failures new) ∷ [])) device blames, cut),
)
