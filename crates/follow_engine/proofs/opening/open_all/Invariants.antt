use Rattle.std.proofs.Common.{◌≡◌, length, take}
use Rattle.side_by_side.specs.Sides.{failures_each}
use Rattle.follow_engine.specs.Opened.{IsFirstText}
use Rattle.follow_engine.proofs.Openings.{OpenedUpTo}
use Rattle.follow_engine.proofs.opening.open_all.Given as goal

abbrev pub invariant-loop-place : goal.invariant-loop-place
invariant-loop-place g l = record {
  len : length l.sides ≡ length l.fn.sides;
  room : length l.room ≡ length l.initial.room;
  opened : OpenedUpTo g.S.ByteSource.gave g.S.ByteSource.ended l.place l.ways l.fn.sides l.sides;
  first : IsFirstText (take l.count l.text) l.sides;
  failures : failures_each g.S.ByteSource.failures l.sides
      ≡ failures_each g.S.ByteSource.failures l.fn.sides;
}
