use Rattle.std.proofs.Common.{◌≡◌, ℕ, drop, length, map}
use Rattle.st_format.specs.Raster.{cells_of, joined_cells, offers_in_all}
use Rattle.payload_header.specs.Payload.{seen_segment}
use Rattle.frame_assembly.specs.Packed.{ArePacked, cells_in}
use Rattle.st_format.specs.Position.{group_count}
use Rattle.frame_assembly.proofs.joining.join_segments.Given as goal

pub record Joins (whole packed rest : Type 0) : Type 0 where
  pub is_whole : whole
  pub are_packed : packed
  pub left : rest

-- what is joined already and what is left make the whole
abbrev pub invariant-loop-segment : goal.invariant-loop-segment
invariant-loop-segment l =
    Joins (length l.marks ≡ group_count l.format) (ArePacked l.format l.marks l.octets)
    ((ts : ℕ)
    → joined_cells (cells_in l.format l.marks l.octets)
    (cells_of l.format
    (offers_in_all l.format ts (map seen_segment (drop l.segment-index l.segments))) ts)
    ≡ joined_cells (cells_in l.format l.initial.marks l.initial.octets)
    (cells_of l.format (offers_in_all l.format ts (map seen_segment l.segments)) ts))
