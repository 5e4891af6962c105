use Rattle.std.proofs.Common.{◌≡◌, drop, get_or, take}
use Rattle.window_finding.proofs.Spelling.{spelled}
use Rattle.window_finding.proofs.words.spell_timestamps.Given as goal

abbrev pub invariant-loop-timestamp : goal.invariant-loop-timestamp
invariant-loop-timestamp g l =
    l.text.items ≡ spelled (get_or l.window 0 0) (take l.timestamp-index (drop 1 l.window))
