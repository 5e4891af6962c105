use Rattle.side_by_side.proofs.sides.SideBySide.fault.Goals as goal

pub returns-clause-stopped : goal.returns-clause-stopped
returns-clause-stopped g c = rw (← c.self.view_is) c.self.invariant.stopped
