-- What joining a segment's groups does to the cells of a raster.
use Rattle.std.proofs.Common.{◌≡◌, ℕ, ◌+◌, ◌-◌, ◌*◌, ◌/◌, ◌≤◌, List, length, take, drop, ap, ◌∙◌}
use Rattle.std.proofs.Common.{arith}
use Rattle.std.proofs.lemmas.List.{length-drop, length-take-le}
use borrow.Rule.Slice.PartMut.{put_mid}
use Rattle.st_format.specs.declared.format.Format.{Format}
use Rattle.st_format.specs.Pgroup.{bits_of, pixel_group}
use Rattle.st_format.specs.Raster.{Segment, cells_of, joined_cells, offers_in}
use Rattle.st_format.specs.Samples.{values_in}
use Rattle.payload_header.specs.Payload.{IsInside}
use Rattle.frame_assembly.specs.Packed.{AreJoined, ArePacked, cells_in, whole_marks}
use Rattle.st_format.specs.Position.{group_count}
use Rattle.frame_assembly.specs.Written.{written_from}
use Rattle.frame_assembly.proofs.PackedLemmas.{sizes}
use Rattle.frame_assembly.proofs.Put.{segment_written}
use Rattle.frame_assembly.proofs.Runs.{part_between}
use Rattle.frame_assembly.proofs.Segments.{cells_long, first_group, first_sample, groups_end}
use Rattle.frame_assembly.proofs.Segments.{put_part, segment_octets}

pub record IsSegmentPut (f : Format) (s : Segment)
    (marks octets new_marks new_octets : List ℕ) : Type 0 where
  pub packed : ArePacked f new_marks new_octets
  pub cells : (ts : ℕ)
      → cells_in f new_marks new_octets
      ≡ joined_cells (cells_in f marks octets) (cells_of f (offers_in f ts s) ts)

pub segment_put : (f : Format) (s : Segment) (first z : ℕ)
    (marks octets part_marks part_octets : List ℕ) → IsInside s f → length marks ≡ group_count f
    → ArePacked f marks octets
    → first ≡ first_group f s → z ≡ (pixel_group f.sampling f.depth).octets
    → AreJoined f (take (first + length s.octets / z - first) (drop first marks))
    (take (z * (first + length s.octets / z) - z * first) (drop (z * first) octets))
    (whole_marks (length
    (take (first + length s.octets / z - first)
    (drop first marks)))) s.octets part_marks part_octets
    → IsSegmentPut f s marks octets
    (put_mid first (first + length s.octets / z - first) marks part_marks)
    (put_mid (z * first) (z * (first + length s.octets / z) - z * first) octets part_octets)
segment_put f s first z marks octets part_marks part_octets inside whole packed at same joins =
    let count : ℕ = length s.octets / (pixel_group f.sampling f.depth).octets in
    let quotient : length s.octets / z ≡ count = ap (λ (k : ℕ). length s.octets / k) same in
    let room : first + count ≤ length marks = omega (arith, groups_end f s inside) in
    let long : length (take (first + length s.octets / z - first) (drop first marks)) ≡ count =
    length-take-le (first + length s.octets / z - first) (drop first marks)
    (omega (arith, length-drop first marks)) ∙ omega arith in
    let put =
    put_part (bits_of f.depth) (pixel_group f.sampling f.depth).octets
    (pixel_group f.sampling f.depth).samples first count _ _ _ _ _ marks octets s.octets
    part_marks part_octets
    (part_between (pixel_group f.sampling f.depth).octets z first count
    (first + length s.octets / z) same (ap (λ (k : ℕ). first + k) quotient))
    (sizes f.sampling f.depth) room (segment_octets f s inside) long packed joins in
    record {
      packed = put.packed;
      cells = λ ts. put.cells
          ∙ ap
          (λ (k : ℕ). written_from k (values_in (bits_of f.depth) s.octets)
          (cells_in f marks octets))
          (ap (λ (k : ℕ). (pixel_group f.sampling f.depth).samples * k) at
          ∙ first_sample f s inside)
          ∙ segment_written f ts (cells_in f marks octets) s
          (cells_long f marks octets whole packed) inside;
    }
