use Rattle.std.proofs.Common.{subst}
use Rattle.st_format.specs.Fit.{ValuesFit}
use Rattle.st_format.specs.Raster.{IsWhole}
use Rattle.frame_assembly.specs.Rows.{GroupsAreWhole}
use Rattle.frame_assembly.proofs.WholeGroups.{whole_groups}
use Rattle.frame_assembly.proofs.frame.Frame.facts.Goals as goal

pub returns-clause-groups : goal.returns-clause-groups
returns-clause-groups g c =
    subst GroupsAreWhole c.self.view_is (whole_groups _ _ _ c.self.invariant)

pub returns-clause-whole : goal.returns-clause-whole
returns-clause-whole g c = subst IsWhole c.self.view_is c.self.invariant.frame.whole

pub returns-clause-fit : goal.returns-clause-fit
returns-clause-fit g c = subst ValuesFit c.self.view_is c.self.invariant.frame.fit
