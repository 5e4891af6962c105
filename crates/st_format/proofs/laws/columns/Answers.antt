use Rattle.std.proofs.Common.{ℕ, ◌/◌, subst}
use Rattle.st_format.specs.Member.{IsMember}
use Rattle.st_format.specs.Pgroup.{pixel_group}
use Rattle.st_format.specs.Position.{group_positions}
use Rattle.st_format.proofs.Columns.{first-row, first-column, member-group_positions, stands_in}
use Rattle.st_format.proofs.laws.columns.Goals as goal

pub returns-clause-row : goal.returns-clause-row
returns-clause-row c = first-row

pub returns-clause-offset : goal.returns-clause-offset
returns-clause-offset c = first-column

pub returns-clause-group : goal.returns-clause-group
returns-clause-group c = λ f row group p inside below. (
  λ m. let r = stands_in f row group p inside below m in (r.is, r.in_row, r.in_group),
  λ r. subst (λ (x : ℕ). IsMember p (group_positions f row x)) r.2
      (subst (λ (x : ℕ). IsMember p
      (group_positions f x (p.column / (pixel_group f.sampling f.depth).pixels))) r.1
      (member-group_positions f p r.0)),
)
