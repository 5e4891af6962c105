use Rattle.std.proofs.Common.{◌≡◌, ◌≤◌, ◌++◌, map, drop}
use Rattle.packet_numbers.specs.Numbers.{numbered_run, runs_from}
use Rattle.packet_numbers.proofs.seq_map.runs_of.Given as goal

-- the runs so far and those to come are the whole
abbrev pub invariant-loop-place : goal.invariant-loop-place
invariant-loop-place g l = record {
  whole : l.runs.items
      ++ map (numbered_run l.first) (runs_from l.start l.place (drop l.place l.noted))
      ≡ map (numbered_run l.first) (runs_from 0 0 l.noted);
  order : l.start ≤ l.place;
}
