use Rattle.std.proofs.Common.{List, None, ap, ℕ}
use Rattle.st_format.specs.declared.path.Path.{Path}
use Rattle.side_by_side.specs.Sides.{Sides}
use Rattle.side_by_side.proofs.Sound.{given_none, sound_new}
use Rattle.side_by_side.proofs.sides.SideBySide.new.Goals as goal

pub invariant_of-result : goal.invariant_of-result
invariant_of-result g c = sound_new c.args.steering c.args.sides.items c.requires

pub returns : goal.returns
returns g c =
    ap (λ (came : List (Path × List ℕ)). (let s : Sides _ _ = record {
      steering = c.args.steering;
      sides = c.args.sides.items;
      came = came;
      delivered = 0;
      failures = 0;
      fault = None;
    } in s)) (given_none c.args.steering c.args.sides.items c.requires)
