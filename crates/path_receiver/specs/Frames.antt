-- What a receiver holds.
use Rattle.std.specs.Prelude.{◌≡◌, ◌↔◌, ℕ, ◌<◌, ◌≤◌, ◌==◌, if◌then◌else◌, List, [], ◌∷◌, length}
use Rattle.std.specs.Prelude.{map, All, Option, Some, None, ⊤}
use Rattle.std.specs.List.{flat_map}
use Rattle.st_format.specs.declared.cell.Cell.{Cell}
use Rattle.st_format.specs.declared.cell.Cell.TheVariants.{Missing}
use Rattle.st_format.specs.declared.path.Path.{Path}
use Rattle.st_format.specs.Member.{IsMember, SameDatagrams}
use Rattle.st_format.specs.Position.{Position, IsPosition}
use Rattle.st_format.specs.Raster.{Raster, IsWhole, raster_of, cell_at, joined_rasters}
use Rattle.path_receiver.specs.declared.answer.Refusal.{Refusal}
use Rattle.path_receiver.specs.Opening.{Opening, IsWindow}
use Rattle.path_receiver.specs.Offers.{offers}

-- Frames: of a list of datagrams, at each timestamp of the window and each position, the cell of
-- all their offers. Neither order nor path enters (SMPTE ST 2022-7).
abbrev pub frames_of : Opening → List (List ℕ) → List Raster
frames_of o datagrams = map (raster_of o.format (flat_map (offers o) datagrams)) o.window

-- the joins of the cells of frames, one by one (own)
abbrev pub joined_frames : List Raster → List Raster → List Raster
joined_frames [] qs = []
joined_frames (r ∷ rs) [] = []
joined_frames (r ∷ rs) (q ∷ qs) = joined_rasters r q ∷ joined_frames rs qs

-- A receiver: what it was opened with, its frames, and the last refusals with their paths, oldest
-- first
pub record State : Type 0 where
  pub opening : Opening
  pub frames : List Raster
  pub refusals : List (Path × Refusal)

-- What a receiver always is: its payload type has 7 bits (RFC 3550, 5.1); it has one frame for each
-- timestamp of its window, each of its format and with a cell for each position; and it keeps at
-- most 64 refusals (own).
pub record IsReceiver (s : State) : Type 0 where
  pub payload_type : s.opening.payload_type < 128
  pub window : IsWindow s.opening.window
  pub one_each : length s.frames ≡ length s.opening.window
  pub of_format : All (λ r. r.format ≡ s.opening.format) s.frames
  pub whole : All IsWhole s.frames
  pub few_refusals : length s.refusals ≤ 64

-- It holds the Frames of a list of datagrams.
abbrev pub Holds : State → List (List ℕ) → Type 0
Holds s datagrams = s.frames ≡ frames_of s.opening datagrams

-- the frame of a timestamp, where the window has it
abbrev pub frame_at : List ℕ → List Raster → ℕ → Option Raster
frame_at [] rs ts = None
frame_at (t ∷ w) [] ts = None
frame_at (t ∷ w) (r ∷ rs) ts = if ts == t then Some r else frame_at w rs ts

-- the cell at a position, missing where there is no frame
abbrev pub cell_if : Option Raster → Position → Cell
cell_if None p = Missing
cell_if (Some r) p = cell_at r p

-- the cell of a timestamp and a position: missing where the window hasn't the timestamp
abbrev pub cell_in : State → ℕ → Position → Cell
cell_in s ts p = cell_if (frame_at s.opening.window s.frames ts) p

-- A place of a receiver: a timestamp of its window, and a position of its format (RFC 4175, 4.3).
pub record IsPlaceOf (timestamp : ℕ) (at : Position) (o : Opening) : Type 0 where
  pub inside : IsMember timestamp o.window
  pub position : IsPosition at o.format

-- Missing map: the places of which a receiver knows nothing, where its cell is Missing. Of one that
-- holds Frames, these are where Frames is Missing (SMPTE ST 2022-7: what neither path brought).
pub record Misses (s : State) (timestamp : ℕ) (at : Position) : Type 0 where
  pub place : IsPlaceOf timestamp at s.opening
  pub missing : cell_in s timestamp at ≡ Missing

-- Two receivers have one missing map.
abbrev pub MissTheSame : State → State → Type 0
MissTheSame s t = (timestamp : ℕ) (at : Position) → Misses s timestamp at ↔ Misses t timestamp at

-- Two receivers of one opening hold the Frames of lists with the same datagrams.
pub record HoldTheSame (s t : State) (xs ys : List (List ℕ)) : Type 0 where
  pub opening : s.opening ≡ t.opening
  pub left : Holds s xs
  pub right : Holds t ys
  pub same : SameDatagrams xs ys

-- two lists of frames of the same formats, one by one (own)
abbrev pub SameFormats : List Raster → List Raster → Type 0
SameFormats [] [] = ⊤
SameFormats [] (q ∷ qs) = ⊥
SameFormats (r ∷ rs) [] = ⊥
SameFormats (r ∷ rs) (q ∷ qs) = (q.format ≡ r.format) × SameFormats rs qs
