-- Counts of a follower's answers (own).
use Rattle.std.specs.Prelude.{ℕ, ◌+◌, ◌-◌, ◌^◌, min, Result, Ok, Err}
use Rattle.path_receiver.specs.declared.answer.Refusal.{Refusal}
use Rattle.following.specs.declared.answer.Followed.{Followed}
use Rattle.following.specs.declared.answer.Followed.TheVariants.{Kept, Due, Late, Far}
use Rattle.following.specs.declared.tally.FollowTally.{FollowTally}

-- one more, but at most 2^64 - 1
abbrev pub one_more : ℕ → ℕ
one_more n = min (n + 1) (2 ^ 64 - 1)

-- the counts after an answer
abbrev pub tally_after : FollowTally → Result Followed Refusal → FollowTally
tally_after t (Ok (Kept number)) = record t { kept = one_more t.kept }
tally_after t (Ok Due) = t
tally_after t (Ok Late) = record t { late = one_more t.late }
tally_after t (Ok Far) = record t { far = one_more t.far }
tally_after t (Err e) = record t { refused = one_more t.refused }
