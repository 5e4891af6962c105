use Rattle.std.proofs.Common.{ℕ, ◌*◌, replicate, ap, ◌∙◌}
use Rattle.frame_assembly.proofs.Kept.{blank_cells, blank_kept, frame_view}
use Rattle.frame_assembly.proofs.WholeGroups.{whole_groups}
use Rattle.frame_assembly.proofs.frame.Frame.new.Goals as goal

pub invariant_of-result : goal.invariant_of-result
invariant_of-result g c =
    blank_kept c.args.format c.in_ok-marks.marks.items c.in_ok-octets.octets.items
    c.group_total-groups.result c.group_total-groups.ensures.value
    (c.in_ok-marks.ensures.items_if_clones_equal (λ y e. e))
    (c.in_ok-octets.ensures.items_if_clones_equal (λ y e. e)
    ∙ ap
    (λ (k : ℕ). replicate {A = ℕ} (k * c.group_total-groups.result) 0) c.pgroup.ensures.octets)

pub returns-clause-blank : goal.returns-clause-blank
returns-clause-blank g c =
    ap (frame_view c.args.format)
    (blank_cells c.args.format c.in_ok-marks.marks.items c.in_ok-octets.octets.items
    c.group_total-groups.result c.group_total-groups.ensures.value
    (c.in_ok-marks.ensures.items_if_clones_equal (λ y e. e))
    (c.in_ok-octets.ensures.items_if_clones_equal (λ y e. e)
    ∙ ap
    (λ (k : ℕ). replicate {A = ℕ} (k * c.group_total-groups.result) 0) c.pgroup.ensures.octets))

pub returns-clause-whole : goal.returns-clause-whole
returns-clause-whole g c = (invariant_of-result g c).frame.whole

pub returns-clause-fit : goal.returns-clause-fit
returns-clause-fit g c = (invariant_of-result g c).frame.fit

pub returns-clause-groups : goal.returns-clause-groups
returns-clause-groups g c = whole_groups _ _ _ (invariant_of-result g c)
