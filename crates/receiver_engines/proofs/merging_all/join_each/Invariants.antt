use Rattle.std.proofs.Common.{◌≡◌, ℕ, ◌≤◌, ◌<◌, length, take, get_or}
use Rattle.std.specs.List.{sum_by, zip}
use Rattle.run_outcome.specs.Moments.{WasRead}
use Rattle.receiver_engines.specs.MergedAll.{JoinsEach}
use Rattle.receiver_engines.proofs.merging_all.join_each.Given as goal

abbrev pub invariant-loop-place : goal.invariant-loop-place
invariant-loop-place g l = record {
  len : length l.others ≡ length l.initial.others;
  failures : sum_by g.S.ByteSource.failures l.others
      ≡ sum_by g.S.ByteSource.failures l.initial.others;
  behind : (k : ℕ) (s : g.row.S.Denot) → l.place ≤ k
      → get_or l.others k s ≡ get_or l.initial.others k s;
  ended : (k : ℕ) (s : g.row.S.Denot) → k < l.place → g.S.ByteSource.ended (get_or l.others k s);
  joined : JoinsEach (WasRead g.S.ByteSource.gave g.S.ByteSource.ended)
      (take l.place (zip l.initial.others l.others)) l.initial.merged l.merged;
}
