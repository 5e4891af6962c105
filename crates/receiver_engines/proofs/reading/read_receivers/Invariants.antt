use Rattle.std.proofs.Common.{◌≡◌, ℕ, ◌≤◌, length, take, get_or}
use Rattle.std.specs.List.{sum_by}
use Rattle.run_outcome.specs.Moments.{WasRead}
use Rattle.std.specs.List.{zip}
use Rattle.receiver_engines.specs.Reading.{SayReceivers}
use Rattle.receiver_engines.proofs.reading.read_receivers.Given as goal

abbrev pub invariant-loop-place : goal.invariant-loop-place
invariant-loop-place g l = record {
  len : length l.states ≡ length l.initial.states;
  failures : sum_by g.S.ByteSource.failures l.states
      ≡ sum_by g.S.ByteSource.failures l.initial.states;
  others : (k : ℕ) (s : g.row.S.Denot) → l.place ≤ k
      → get_or l.states k s ≡ get_or l.initial.states k s;
  say : SayReceivers (WasRead g.S.ByteSource.gave g.S.ByteSource.ended)
      (take l.place (zip l.initial.states l.states)) l.receivers.items;
}
