use Rattle.path_merge.specs.Stage.{FollowsTo, IsReadyStage}
use Rattle.path_merge.proofs.schedule.playing.follow_all.Given as goal

pub record SoFar (is_ready follows : Type 0) : Type 0 where
  pub ready : is_ready
  pub followed : follows

-- the events so far were followed
abbrev pub invariant-loop-place : goal.invariant-loop-place
invariant-loop-place g l =
    SoFar (IsReadyStage l.plan l.stage)
    (FollowsTo l.plan l.stamp l.pictures l.events l.place l.initial.stage l.stage)
