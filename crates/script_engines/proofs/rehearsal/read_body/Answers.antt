use Rattle.std.proofs.Common.{◌∙◌}
use Rattle.script_engines.specs.FirstLines.{lines_left}
use Rattle.script_engines.proofs.RehearsalReading.{adds_like, so_far_more}
use Rattle.script_engines.proofs.rehearsal.read_body.Goals as goal

pub loop-line-preserved : goal.loop-line-preserved
loop-line-preserved g c = record {
  same_head = c.read_body_line.ensures.head ∙ c.loop-line.invariant.same_head;
  read =
      so_far_more c.args.head.format (lines_left c.args.lines.now) (lines_left c.loop-line.lines)
      (lines_left c.next.new.self) c.in-Some.line.number c.in-Some.line.text.now
      c.loop-line.rehearsal.pictures.items c.loop-line.rehearsal.events.items
      c.read_body_line.new.rehearsal.pictures.items c.read_body_line.new.rehearsal.events.items
      c.loop-line.invariant.read c.in-Some.ensures.next
      (adds_like c.loop-line.rehearsal.head c.args.head c.in-Some.line.text.now
      c.loop-line.rehearsal.pictures.items c.loop-line.rehearsal.events.items
      c.read_body_line.new.rehearsal.pictures.items c.read_body_line.new.rehearsal.events.items
      c.loop-line.invariant.same_head c.in_ok-read_body_line.ensures.adds);
  same_end = c.next.ensures.behind ∙ c.loop-line.invariant.same_end;
}
