use Rattle.std.proofs.Common.{ℕ, List, sym, ap, ◌∙◌, subst}
use Rattle.std.proofs.lemmas.Result.{err_from_is_err_and}
use Rattle.st_format.specs.Raster.{IsWhole}
use Rattle.frame_assembly.specs.Packed.{HasAllGroups, cells_in}
use Rattle.frame_assembly.proofs.Kept.{frame_view}
use Rattle.st_format.specs.Fit.{ValuesFit}
use Rattle.frame_assembly.specs.Rows.{GroupsAreWhole}
use Rattle.frame_assembly.proofs.WholeGroups.{whole_groups}
use Rattle.frame_assembly.proofs.frame.Frame.try_copy.Goals as goal

pub returns-in_err-marks-clause-groups : goal.returns-in_err-marks-clause-groups
returns-in_err-marks-clause-groups g c =
    subst GroupsAreWhole c.self.view_is (whole_groups _ _ _ c.self.invariant)

pub returns-in_err-octets-clause-groups : goal.returns-in_err-octets-clause-groups
returns-in_err-octets-clause-groups g c =
    subst GroupsAreWhole c.self.view_is (whole_groups _ _ _ c.self.invariant)

pub returns-clause-groups : goal.returns-clause-groups
returns-clause-groups g c =
    subst GroupsAreWhole c.self.view_is (whole_groups _ _ _ c.self.invariant)

pub returns-in_err-octets-clause-fit : goal.returns-in_err-octets-clause-fit
returns-in_err-octets-clause-fit g c = subst ValuesFit c.self.view_is c.self.invariant.frame.fit

pub returns-clause-fit : goal.returns-clause-fit
returns-clause-fit g c = subst ValuesFit c.self.view_is c.self.invariant.frame.fit

pub returns-in_err-marks-clause-whole : goal.returns-in_err-marks-clause-whole
returns-in_err-marks-clause-whole g c =
    subst IsWhole c.self.view_is c.self.invariant.frame.whole

pub returns-in_err-octets-clause-whole : goal.returns-in_err-octets-clause-whole
returns-in_err-octets-clause-whole g c =
    subst IsWhole c.self.view_is c.self.invariant.frame.whole

pub returns-clause-whole : goal.returns-clause-whole
returns-clause-whole g c =
    subst IsWhole c.self.view_is c.self.invariant.frame.whole

pub returns-in_err-marks-clause-fit : goal.returns-in_err-marks-clause-fit
returns-in_err-marks-clause-fit g c =
    subst ValuesFit c.self.view_is c.self.invariant.frame.fit

pub returns-in_err-marks-clause-same : goal.returns-in_err-marks-clause-same
returns-in_err-marks-clause-same g c =
    let p = err_from_is_err_and c.from_residual.result c.from_residual.ensures.1 in rw p.1 tt

pub returns-in_err-octets-clause-same : goal.returns-in_err-octets-clause-same
returns-in_err-octets-clause-same g c =
    let p =
    err_from_is_err_and c.from_residual-in_err-octets.result
    c.from_residual-in_err-octets.ensures.1 in
    rw p.1 tt

pub invariant_of-result : goal.invariant_of-result
invariant_of-result g c =
    subst (λ (ms : List ℕ). HasAllGroups c.self.inside.format ms c.in_ok-octets.octets.items)
    (sym (c.in_ok-marks.ensures.items ∙ c.as_slice.ensures.value))
    (subst (HasAllGroups c.self.inside.format c.self.inside.marks.items)
    (sym (c.in_ok-octets.ensures.items ∙ c.as_slice-2.ensures.value)) c.self.invariant)

pub returns-clause-same : goal.returns-clause-same
returns-clause-same g c =
    ap (λ (ms : List ℕ). frame_view c.self.inside.format
    (cells_in c.self.inside.format ms c.in_ok-octets.octets.items))
    (c.in_ok-marks.ensures.items ∙ c.as_slice.ensures.value)
    ∙ ap (λ (os : List ℕ). frame_view c.self.inside.format
    (cells_in c.self.inside.format c.self.inside.marks.items os))
    (c.in_ok-octets.ensures.items ∙ c.as_slice-2.ensures.value)
    ∙ c.self.view_is
