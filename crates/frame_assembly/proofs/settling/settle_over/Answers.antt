use Rattle.std.proofs.Common.{ℕ, ◌+◌, ◌-◌, ◌*◌, List, length, get_or, take, drop}
use Rattle.std.proofs.Common.{sym, ap, ◌∙◌, subst, arith}
use Rattle.std.proofs.lemmas.List.{length-drop, length-take-le}
use Rattle.st_format.specs.Pgroup.{pixel_group}
use Rattle.st_format.specs.Position.{component_in_row}
use Rattle.frame_assembly.specs.Settled.{IsSettledTo}
use Rattle.frame_assembly.proofs.SettleSteps.{pattern_settled, same_base}
use Rattle.frame_assembly.proofs.SettledRuns.{component_on, held_on}
use Rattle.frame_assembly.proofs.SettledLemmas.{held_room}
use Rattle.frame_assembly.proofs.settling.settle_over.Goals as goal

pub settle_over_held-requires-clause-held : goal.settle_over_held-requires-clause-held
settle_over_held-requires-clause-held g c =
    let xs : List ℕ = c.samples.result.now in
    let a : ℕ = c.pgroup-of_group.result.samples * c.args.first in
    let room =
    held_room c.args.first (length c.args.marks.now) (rw c.in-Hold.is at c.requires.base)
    c.samples.ensures.whole c.samples.ensures.value c.pgroup-of_group.ensures.samples
    c.requires.groups in
    omega (
      arith,
      room,
      length-take-le (length xs - a) (drop a xs) (omega (arith, length-drop a xs)),
    )

pub slice_bounds-held-count : goal.slice_bounds-held-count
slice_bounds-held-count g c =
    omega (
      arith,
      held_room c.args.first (length c.args.marks.now) (rw c.in-Hold.is at c.requires.base)
          c.samples.ensures.whole c.samples.ensures.value c.pgroup-of_group.ensures.samples
          c.requires.groups,
    )

pub slice_bounds-held-start : goal.slice_bounds-held-start
slice_bounds-held-start g c =
    omega (
      arith,
      held_room c.args.first (length c.args.marks.now) (rw c.in-Hold.is at c.requires.base)
          c.samples.ensures.whole c.samples.ensures.value c.pgroup-of_group.ensures.samples
          c.requires.groups,
    )

pub returns-in-Fill-clause-settled : goal.returns-in-Fill-clause-settled
returns-in-Fill-clause-settled g c =
    let f = c.args.format.now in
    let s : ℕ = (pixel_group f.sampling f.depth).samples in
    let fill : List ℕ = c.in-Fill._fill in
    rw c.in-Fill.is
    (same_base s (length c.args.marks.now) c.args.marks.now
    (λ (k : ℕ). get_or fill (component_in_row f.sampling k) 0)
    (λ (k : ℕ). get_or fill (component_in_row f.sampling (s * c.args.first + k)) 0)
    c.args.samples.now c.settle_over_pattern.new.samples
    (λ k. ap (λ (x : ℕ). get_or fill x 0) (sym (component_on f.sampling f.depth c.args.first k)))
    (pattern_settled c.args.format.now c.pgroup-of_group.result.samples
    (length c.args.marks.now) c.args.marks.now fill c.args.pattern.now
    c.args.samples.now
    c.settle_over_pattern.new.samples c.pgroup-of_group.ensures.samples
    (c.requires.pattern fill c.in-Fill.is)
    c.settle_over_pattern.ensures))

pub settle_over_pattern-requires-clause-few : goal.settle_over_pattern-requires-clause-few
settle_over_pattern-requires-clause-few g c =
    c.pgroup-of_group.ensures.most.2

pub settle_over_pattern-requires-clause-samples : goal.settle_over_pattern-requires-clause-samples
settle_over_pattern-requires-clause-samples g c =
    c.requires.samples
    ∙ ap (λ (k : ℕ). k * length c.args.marks.now) (sym c.pgroup-of_group.ensures.samples)

pub settle_over_held-requires-clause-few : goal.settle_over_held-requires-clause-few
settle_over_held-requires-clause-few g c =
    c.pgroup-of_group.ensures.most.2

pub settle_over_held-requires-clause-samples : goal.settle_over_held-requires-clause-samples
settle_over_held-requires-clause-samples g c =
    c.requires.samples
    ∙ ap (λ (k : ℕ). k * length c.args.marks.now) (sym c.pgroup-of_group.ensures.samples)

pub returns-in-Fill-clause-held : goal.returns-in-Fill-clause-held
returns-in-Fill-clause-held g c =
    rw c.in-Fill.is tt

pub returns-in-Hold-clause-held : goal.returns-in-Hold-clause-held
returns-in-Hold-clause-held g c =
    rw c.in-Hold.is c.samples.ensures.whole

pub returns-in-Hold-clause-settled : goal.returns-in-Hold-clause-settled
returns-in-Hold-clause-settled g c =
    let f = c.args.format.now in
    let s : ℕ = (pixel_group f.sampling f.depth).samples in
    let xs : List ℕ = c.samples.result.now in
    let z : ℕ = c.pgroup-of_group.result.samples in
    let first : ℕ = c.args.first in
    let held : List ℕ = take (length xs - z * first) (drop (z * first) xs) in
    rw c.in-Hold.is
    (same_base s (length c.args.marks.now) c.args.marks.now
    (λ (k : ℕ). get_or held k 0)
    (λ (k : ℕ). get_or c.in-Hold.picture.now.samples (s * first + k) 0)
    c.args.samples.now c.settle_over_held.new.samples
    (λ k. held_on (z * first) k xs
    ∙ ap (λ (ys : List ℕ). get_or ys (z * first + k) 0) c.samples.ensures.value
    ∙ ap (λ (y : ℕ). get_or c.in-Hold.picture.now.samples (y * first + k) 0)
    c.pgroup-of_group.ensures.samples)
    (subst (λ (y : ℕ). IsSettledTo y (length c.args.marks.now) c.args.marks.now
    (λ k. get_or held k 0) c.args.samples.now
    c.settle_over_held.new.samples) c.pgroup-of_group.ensures.samples
    c.settle_over_held.ensures))
