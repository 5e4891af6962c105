use Rattle.std.proofs.Common.{◌≡◌, Some, length}
use Rattle.std.specs.Prelude.{All}
use Rattle.path_merge.specs.Stage.{IsOpened}
use Rattle.path_merge.proofs.schedule.opening.open_receivers.Given as goal

pub record Opened (long all : Type 0) : Type 0 where
  pub count : long
  pub each : all

-- the receivers so far
abbrev pub invariant-loop : goal.invariant-loop
invariant-loop g l =
    Opened (length l.receivers.items ≡ l.counter)
    (All (IsOpened
    (record {
      format = l.format;
      payload_type = l.stamp.payload_type;
      ssrc =
          Some l.stamp.ssrc;
      window = l.window;
    })) l.receivers.items)
