-- What is kept of a receiver, and what a receiver's file says (own).
use Rattle.std.specs.Prelude.{◌≡◌, ℕ, ◌^◌, ◌<◌, List, [], ◌∷◌, ◌++◌, map, Ok}
use Rattle.std.specs.List.{AllByRecursion, flat_map}
use Rattle.st_format.specs.declared.cell.Cell.{Cell}
use Rattle.st_format.specs.Pgroup.{pixel_group}
use Rattle.st_format.specs.Fit.{ValuesFit}
use Rattle.st_format.specs.Fields.{Fields, fields_of, format_at}
use Rattle.st_format.specs.Raster.{IsWhole, Raster}
use Rattle.frame_assembly.specs.Rows.{GroupsAreWhole}
use Rattle.path_receiver.specs.Frames.{IsReceiver, State}
use Rattle.path_receiver.specs.Opening.{IsWindow}
use Rattle.media_file.specs.declared.front.Version.TheVariants.{One}
use Rattle.media_file.specs.Fronts.{kind_text, receiver_name}
use Rattle.media_file.specs.StateFile.{Held, IsKeptReceiver, Kept, SsrcFits, cut_cells}
use Rattle.media_file.specs.StateFile.{format_text}
use Rattle.media_file.specs.StateFile.{raster_groups, held_of, held_text, opening_text, state_text}

-- what is kept of frames: each raster's groups, with the timestamp of its place in the window
abbrev pub kept_frames : Fields → List ℕ → List Raster → List Held
kept_frames f [] rs = []
kept_frames f (t ∷ w) [] = []
kept_frames f (t ∷ w) (r ∷ rs) = held_of f t r.cells ∷ kept_frames f w rs

-- What is kept of a receiver: what it was opened with, and its frames. The refusals are not.
abbrev pub kept_of : State → Kept
kept_of s = record {
  format = fields_of s.opening.format;
  payload_type = s.opening.payload_type;
  ssrc = s.opening.ssrc;
  frames = kept_frames (fields_of s.opening.format) s.opening.window s.frames;
}

-- the timestamp of a frame that is kept
abbrev pub timestamp_in : Held → ℕ
timestamp_in h = h.timestamp

-- What a file can say: a format there is, with its rate in lowest terms, a payload type of seven
-- bits, and a window of 1 to 16 timestamps, all different
pub record IsSaved (k : Kept) : Type 0 where
  pub kept : IsKeptReceiver k
  pub format : format_at k.format.sampling k.format.depth k.format.width k.format.height k.format.n
      k.format.d ≡ Ok k.format
  pub payload_type : k.payload_type < 128
  pub window : IsWindow (map timestamp_in k.frames)

-- What each call on a frame tells of it: a cell for each position, values that fit, and groups that
-- are missing as a whole or have no missing sample
pub record IsFilled (r : Raster) : Type 0 where
  pub whole : IsWhole r
  pub fit : ValuesFit r
  pub groups : GroupsAreWhole r

-- a receiver whose numbers have their widths, and whose frames are so
pub record IsWritable (s : State) : Type 0 where
  pub receiver : IsReceiver s
  pub ssrc : SsrcFits s.opening.ssrc
  pub timestamps : AllByRecursion (λ t. t < 2 ^ 32) s.opening.window
  pub frames : AllByRecursion IsFilled s.frames

-- The octets are the file of this receiver, which can be written.
pub record IsReceiverFile (octets : List ℕ) (s : State) : Type 0 where
  pub writable : IsWritable s
  pub whole : octets ≡ state_text (kept_of s)

-- what stands in a file before the frames
abbrev pub kept_front_text : Kept → List ℕ
kept_front_text k = kind_text receiver_name One ++ (format_text k.format ++ opening_text k)

-- the frames of a file, each behind its timestamp
abbrev pub kept_frames_text : Kept → List ℕ
kept_frames_text k = flat_map (held_text k.format) k.frames

-- the text of a frame in a receiver's file: its timestamp, and its groups
abbrev pub kept_frame_text : ℕ → Raster → List ℕ
kept_frame_text timestamp r =
    held_text (fields_of r.format) (held_of (fields_of r.format) timestamp r.cells)

-- the groups of a frame's cells
abbrev pub cell_groups : Fields → List Cell → List (List Cell)
cell_groups f cells = cut_cells (pixel_group f.sampling f.depth).samples (raster_groups f) cells
