use Rattle.std.proofs.Common.{[], ◌∙◌}
use Rattle.frame_assembly.specs.Packed.{cells_in}
use Rattle.frame_assembly.proofs.Put.{segments_more, segments_all}
use Rattle.frame_assembly.proofs.Segments.{cells_long}
use Rattle.payload_header.specs.declared.payload.Segment.{Segment}
use Rattle.frame_assembly.proofs.joining.join_segments.Goals as goal

-- what the generated goals read past the end
abbrev blank_segment : Segment
blank_segment = record { row = 0; offset = 0; octets = record { ref_ptr = (0, 0); now = [] } }

pub loop-segment-preserved : goal.loop-segment-preserved
loop-segment-preserved c = record {
  is_whole = c.join_segment.auto.marks ∙ c.loop-segment.invariant.is_whole;
  are_packed = c.join_segment.ensures.packed;
  left =
      λ ts. segments_more c.args.format.now ts c.loop-segment.segment-index _
      (cells_in c.args.format.now c.loop-segment.marks c.loop-segment.octets)
      (cells_in c.args.format.now c.join_segment.new.marks c.join_segment.new.octets)
      c.args.segments.now blank_segment c.loop-segment-test.true (c.join_segment.ensures.cells ts)
      (c.loop-segment.invariant.left ts);
}

pub returns-clause-cells : goal.returns-clause-cells
returns-clause-cells c = λ ts.
    segments_all c.args.format.now ts c.loop-segment.segment-index _
    (cells_in c.args.format.now c.loop-segment.marks c.loop-segment.octets) c.args.segments.now
    (cells_long c.args.format.now c.loop-segment.marks c.loop-segment.octets
    c.loop-segment.invariant.is_whole c.loop-segment.invariant.are_packed)
    c.loop-segment-test.false (c.loop-segment.invariant.left ts)
