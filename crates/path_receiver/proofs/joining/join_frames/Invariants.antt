use Rattle.std.proofs.Common.{◌≡◌, ◌++◌, take, drop}
use Rattle.path_receiver.specs.Frames.{SameFormats, joined_frames}
use Rattle.path_receiver.proofs.joining.join_frames.Given as goal

pub record Joins (alike : Type 0) (rest : Type 0) : Type 0 where
  pub are_alike : alike
  pub left : rest

-- what is joined already and what is left make the whole
abbrev pub invariant-loop-i : goal.invariant-loop-i
invariant-loop-i g l =
    Joins (SameFormats l.frames l.others)
    (take l.i l.frames ++ joined_frames (drop l.i l.frames) (drop l.i l.others)
    ≡ joined_frames l.initial.frames l.others)
