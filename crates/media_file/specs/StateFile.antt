-- A receiver as a file (own): its text as a function of what it was opened with and of its frames'
-- cells.
use Rattle.std.specs.Prelude.{take, drop, zero, suc, ◌≡◌, ℕ, ◌*◌, ◌/◌, ◌^◌, ◌<◌, List, [], ◌∷◌}
use Rattle.std.specs.Prelude.{◌++◌, length, ⊤, Option, None, Some}
use Rattle.std.specs.Int.{w16, w32, to_be_bytes}
use Rattle.std.specs.List.{AllByRecursion, flat_map}
use Rattle.st_format.specs.declared.cell.Cell.{Cell}
use Rattle.st_format.specs.declared.sampling.Sampling.{Sampling}
use Rattle.st_format.specs.declared.sampling.Sampling.TheVariants.{Ycc422, Ycc444, Rgb}
use Rattle.st_format.specs.Fields.{Fields}
use Rattle.st_format.specs.Pgroup.{bits_of, pixel_group}
use Rattle.media_file.specs.declared.front.Version.TheVariants.{One}
use Rattle.media_file.specs.Fronts.{kind_text, receiver_name}
use Rattle.media_file.specs.Groups.{IsGroup, groups_text, shape_of}

-- codes of a format block
abbrev pub sampling_code : Sampling → ℕ
sampling_code Ycc422 = 0
sampling_code Ycc444 = 1
sampling_code Rgb = 2

-- A format block: sampling, depth, width, height, and the rate's two numbers.
abbrev pub format_text : Fields → List ℕ
format_text f =
    sampling_code f.sampling ∷ bits_of f.depth ∷
    (to_be_bytes w16 f.width ++
    (to_be_bytes w16 f.height ++ (to_be_bytes w32 f.n ++ to_be_bytes w32 f.d)))

-- a source that is pinned, or none: a flag and four octets
abbrev pub ssrc_text : Option ℕ → List ℕ
ssrc_text None = 0 ∷ to_be_bytes w32 0
ssrc_text (Some ssrc) = 1 ∷ to_be_bytes w32 ssrc

-- a timestamp, and its frame by pgroups in raster order
pub record Held : Type 0 where
  pub timestamp : ℕ
  pub groups : List (List Cell)

-- What a receiver's file says: the refusals are not kept.
pub record Kept : Type 0 where
  pub format : Fields
  pub payload_type : ℕ
  pub ssrc : Option ℕ
  pub frames : List Held

-- a timestamp, and the groups of its frame
abbrev pub held_text : Fields → Held → List ℕ
held_text f h = to_be_bytes w32 h.timestamp ++ groups_text (shape_of f.sampling f.depth) h.groups

-- the fields behind the format block
abbrev pub opening_text : Kept → List ℕ
opening_text k = k.payload_type ∷ (ssrc_text k.ssrc ++ (length k.frames ∷ []))

-- StateFile
abbrev pub state_text : Kept → List ℕ
state_text k =
    kind_text receiver_name One ++
    (format_text k.format ++ (opening_text k ++ flat_map (held_text k.format) k.frames))

-- how many pgroups a raster has, by the fields of its format
abbrev pub raster_groups : Fields → ℕ
raster_groups f = f.height * (f.width / (pixel_group f.sampling f.depth).pixels)

-- numbers that a format block has room for
pub record FitsBlock (f : Fields) : Type 0 where
  pub width : f.width < 2 ^ 16
  pub height : f.height < 2 ^ 16
  pub n : f.n < 2 ^ 32
  pub d : f.d < 2 ^ 32

-- a source's number has 32 bits (RFC 3550, 5.1)
abbrev pub SsrcFits : Option ℕ → Type 0
SsrcFits None = ⊤
SsrcFits (Some ssrc) = ssrc < 2 ^ 32

-- what has a text: a timestamp of 32 bits, and all groups of its raster
pub record IsHeld (f : Fields) (h : Held) : Type 0 where
  pub timestamp : h.timestamp < 2 ^ 32
  pub count : length h.groups ≡ raster_groups f
  pub groups : AllByRecursion (IsGroup (shape_of f.sampling f.depth)) h.groups

-- what has a text: each number fits its field, and each frame has all groups
pub record IsKeptReceiver (k : Kept) : Type 0 where
  pub room : FitsBlock k.format
  pub ssrc : SsrcFits k.ssrc
  pub frames : AllByRecursion (IsHeld k.format) k.frames

-- a raster's cells in groups of so many
unfoldable pub cut_cells : ℕ → ℕ → List Cell → List (List Cell)
cut_cells size zero cells = []
cut_cells size (suc n) cells = take size cells ∷ cut_cells size n (drop size cells)

-- the cells of groups, one group behind the other
abbrev pub joined_groups : List (List Cell) → List Cell
joined_groups [] = []
joined_groups (g ∷ gs) = g ++ joined_groups gs

-- what is kept of a raster's cells
abbrev pub held_of : Fields → ℕ → List Cell → Held
held_of f timestamp cells =
    record {
      timestamp = timestamp;
      groups =
          cut_cells (pixel_group f.sampling f.depth).samples (raster_groups f) cells;
    }
