use Rattle.std.proofs.Common.{◌≡◌, length, vec_len}
use Rattle.script_engines.specs.FirstLines.{end_of, lines_left}
use Rattle.script_engines.proofs.TraceLemmas.{FollowedTo}
use Rattle.script_engines.proofs.tracing.play_lines.Given as goal

abbrev pub decreases-loop-line : goal.decreases-loop-line
decreases-loop-line g l = length l.lines.rest.now

abbrev pub invariant-loop-line : goal.invariant-loop-line
invariant-loop-line g l = record {
  failures : g.O.ByteSink.failures l.output ≡ g.O.ByteSink.failures l.initial.output;
  so_far : FollowedTo (lines_left l.initial.lines) (lines_left l.lines)
      l.initial.session.receiver l.session.receiver l.initial.session.numbers l.session.numbers
      (g.O.ByteSink.took l.initial.output) (g.O.ByteSink.took l.output);
  room : vec_len l.octets ≡ 65535;
  same_end : end_of l.lines ≡ end_of l.initial.lines;
}
