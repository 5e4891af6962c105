use Rattle.std.proofs.Common.{◌∙◌, ap, sym}
use Rattle.std.specs.FinSet.{FinSet, contains}
use Rattle.std.specs.Ordering.{nat_cmp}
use Rattle.recording_counts.proofs.TreeLaws.{in_below, in_top, none_in}
use Rattle.recording_counts.proofs.number_set.NumberSet.contains.Goals as goal

pub returns-in-None : goal.returns-in-None
returns-in-None g c =
    sym
    (none_in c.self.inside.top c.self.inside.below c.args.number c.in-None.is c.self.invariant)
    ∙ ap (λ (s : FinSet nat_cmp). contains s c.args.number) c.self.view_is

pub returns-then-number-top : goal.returns-then-number-top
returns-then-number-top g c =
    c.reaches.ensures
    ∙ in_below c.self.inside.top c.in-Some.top c.self.inside.below c.args.number
    c.last_from.result c.in-Some.is c.self.invariant c.if-number-top.true c.last_from.ensures
    ∙ ap (λ (s : FinSet nat_cmp). contains s c.args.number) c.self.view_is

pub returns-else-number-top : goal.returns-else-number-top
returns-else-number-top g c =
    in_top c.self.inside.top c.in-Some.top c.self.inside.below c.args.number c.in-Some.is
    c.self.invariant c.if-number-top.false
    ∙ ap (λ (s : FinSet nat_cmp). contains s c.args.number) c.self.view_is
