use Rattle.std.proofs.Common.{arith}
use Rattle.recording_counts.specs.FlowLines.{stream_text}
use Rattle.recording_counts.proofs.Texts.{next_added}
use Rattle.recording_counts.proofs.flow_lines.add_each.Goals as goal

pub loop-stream-preserved : goal.loop-stream-preserved
loop-stream-preserved g c = record {
  text = next_added stream_text c.args.streams.now c.loop-stream.stream-index _ _ _ _
      c.loop-stream-test.true c.loop-stream.invariant.text c.add_stream.ensures.text;
  room = omega (arith, c.loop-stream.invariant.room, c.add_stream.ensures.room);
}
