use Rattle.std.proofs.Common.{◌≡◌, ◌+◌, drop}
use Rattle.following.specs.Standing.{place_in}
use Rattle.following.proofs.standing.older_count.Given as goal

abbrev pub invariant-loop-place : goal.invariant-loop-place
invariant-loop-place l =
    place_in l.timestamp l.window ≡ l.place + place_in l.timestamp (drop l.place l.window)
