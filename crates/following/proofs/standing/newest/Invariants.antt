use Rattle.std.proofs.Common.{◌≡◌, drop}
use Rattle.following.specs.Standing.{newest_in}
use Rattle.following.proofs.standing.newest.Given as goal

abbrev pub invariant-loop-timestamp : goal.invariant-loop-timestamp
invariant-loop-timestamp l =
    newest_in l.newest (drop l.timestamp-index l.window) ≡ newest_in l.initial.newest l.window
