use Rattle.std.proofs.Common.{◌≡◌, ◌++◌}
use Rattle.std.specs.List.{flat_map}
use Rattle.script_engines.specs.Traced.{absent_line}
use Rattle.script_engines.proofs.tracing.print_absent.Given as goal

abbrev pub invariant-loop-first : goal.invariant-loop-first
invariant-loop-first g l = record {
  failures : g.O.ByteSink.failures l.output ≡ g.O.ByteSink.failures l.initial.output;
  printed : g.O.ByteSink.took l.output
      ≡ g.O.ByteSink.took l.initial.output ++ flat_map absent_line l.yielded;
}
