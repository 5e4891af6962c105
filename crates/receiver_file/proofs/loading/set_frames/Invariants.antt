use Rattle.std.proofs.Common.{◌≡◌, ◌++◌, take, drop}
use Rattle.path_receiver.specs.Frames.{IsReceiver}
use Rattle.receiver_file.proofs.loading.set_frames.Given as goal

pub record Giving (sound opened refused given rest : Type 0) : Type 0 where
  pub receiver : sound
  pub opening : opened
  pub refusals : refused
  pub frames : given
  pub left : rest

abbrev pub invariant-loop-place : goal.invariant-loop-place
invariant-loop-place g l = Giving
    (IsReceiver l.receiver)
    (l.receiver.opening ≡ l.initial.receiver.opening)
    (l.receiver.refusals ≡ l.initial.receiver.refusals)
    (l.receiver.frames ≡ take l.place l.initial.frames ++ drop l.place l.initial.receiver.frames)
    (drop l.place l.frames ≡ drop l.place l.initial.frames)
