-- What a job is given: the frames of one timestamp, settled (own).
use Rattle.std.specs.Prelude.{◌≡◌, ℕ, ◌<◌, List, [], ◌∷◌, length, map, slice_index}
use Rattle.std.specs.Prelude.{Option, None, Some, ⊤}
use Rattle.std.specs.List.{AllByRecursion}
use Rattle.std.specs.Borrow.{Bor}
use Rattle.frame_assembly.specs.declared.base.Base.TheVariants.{Fill, Hold}
use Rattle.key_mix.specs.declared.sending.JobInput.{JobInput}
use Rattle.frame_assembly.specs.Settled.{settled_cell}
use Rattle.path_receiver.specs.Frames.{State, frame_at}
use Rattle.st_format.specs.declared.format.Format.{Format}
use Rattle.st_format.specs.Picture.{FitsDepth, Values, value_at}
use Rattle.st_format.specs.Position.{Position, places}
use Rattle.st_format.specs.Raster.{Raster, cell_at}
use Rattle.receiver_engines.specs.FillText.{IsFillText}

-- each receiver's frame of a timestamp
abbrev pub AreFramesAt : List Raster → List State → ℕ → Type 0
AreFramesAt qs rs ts = map (λ r. frame_at r.opening.window r.frames ts) rs ≡ map Some qs

-- a value for each component, which fits the depth of each frame
abbrev pub FitsFrames : List ℕ → List Raster → Type 0
FitsFrames fill qs = AllByRecursion (λ q. AllByRecursion (FitsDepth q.format) fill) qs

-- three values of 16 bits
pub record AreValues (fill : List ℕ) : Type 0 where
  pub three : length fill ≡ 3
  pub fit : AllByRecursion (λ v. v < 65536) fill

-- the fill that a text says, which fits each frame
pub record IsFill (fill text : List ℕ) (qs : List Raster) : Type 0 where
  pub is : IsFillText text (slice_index fill 0) (slice_index fill 1) (slice_index fill 2)
  pub values : AreValues fill
  pub fits : FitsFrames fill qs

-- what is held has the first frame's format
abbrev pub IsHeldFor : Option Values → List Raster → Type 0
IsHeldFor None qs = ⊤
IsHeldFor (Some p) [] = ⊤
IsHeldFor (Some p) (q ∷ qs) = p.format ≡ q.format

-- Settled, over a value for each position
abbrev pub settled_over : (Position → ℕ) → Raster → Values
settled_over base q =
    record {
      format = q.format;
      samples = map (λ at. settled_cell (cell_at q at) (base at)) (places q.format);
    }

-- settled, over a value for each component
abbrev pub settled_by_fill : List ℕ → Raster → Values
settled_by_fill fill q = settled_over (λ at. slice_index fill at.component) q

-- each frame settled: the first over what is held, where something is, and the others by the fill
abbrev pub settled_frames : Option Values → List ℕ → List Raster → List Values
settled_frames None fill qs = map (settled_by_fill fill) qs
settled_frames (Some p) fill [] = []
settled_frames (Some p) fill (q ∷ qs) =
    settled_over (value_at p) q ∷ map (settled_by_fill fill) qs

-- the formats of frames
abbrev pub raster_formats : List Raster → List Format
raster_formats qs = map (λ q. q.format) qs

-- ---- the same of frames that are lent

-- the frames
abbrev pub frames_lent : List (Bor Raster) → List Raster
frames_lent fs = map (λ f. f.now) fs

-- the frames are those of this timestamp, one of each receiver
abbrev pub AreLentAt : List (Bor Raster) → ℕ → List State → Type 0
AreLentAt fs ts rs =
    map (λ r. frame_at r.opening.window r.frames ts) rs ≡ map (λ f. Some f.now) fs

-- a fill's values fit the depth of each frame
abbrev pub FitsLent : List ℕ → List (Bor Raster) → Type 0
FitsLent fill fs = AllByRecursion (λ f. AllByRecursion (FitsDepth f.now.format) fill) fs

-- a frame whose samples without a value take those of a fill
abbrev pub filled_input : {A : Type 0} → List ℕ → Bor Raster → JobInput A
filled_input fill f = record { frame = f; base = Fill fill }

-- a frame with a held picture
abbrev pub held_input : {A : Type 0} → Bor Raster → Bor Values → JobInput A
held_input f p = record { frame = f; base = Hold p }
