use Rattle.std.proofs.Common.{◌≡◌, length, take}
use Rattle.side_by_side.specs.Sides.{AllRead, AllSound, AllUnfailed, begun_each, failures_each}
use Rattle.side_by_side.specs.Sides.{standings}
use Rattle.side_by_side.specs.Steps.{HaveReadOn}
use Rattle.side_by_side.proofs.choosing.read_all.Given as goal

abbrev pub invariant-loop-place : goal.invariant-loop-place
invariant-loop-place g l = record {
  len : length l.sides ≡ length l.initial.sides;
  begun : begun_each l.sides ≡ begun_each l.initial.sides;
  sound : AllSound l.steering l.sides;
  read : AllRead (take l.place l.sides);
  goes_on : HaveReadOn (standings l.initial.sides) (standings l.sides);
  unfailed : AllUnfailed l.initial.sides → AllUnfailed l.sides;
  failures : AllUnfailed l.initial.sides → failures_each g.S.ByteSource.failures l.sides
      ≡ failures_each g.S.ByteSource.failures l.initial.sides;
}
