use Rattle.std.proofs.Common.{◌∙◌, List, ap, length, subst, sym}
use Rattle.side_by_side.proofs.Sound.{lent_back}
use Rattle.side_by_side.specs.declared.side.Side.{Side}
use Rattle.follow_engine.specs.Opened.{AllClosedSides}
use Rattle.follow_engine.proofs.files.open_files.Goals as goal

pub open_all-requires-clause-closed : goal.open_all-requires-clause-closed
open_all-requires-clause-closed g c =
    subst (λ (ss : List (Side _ _)). AllClosedSides ss) (sym c.as_mut_slice.ensures.value)
    c.requires.closed

pub returns-clause-len : goal.returns-clause-len
returns-clause-len g c =
    let sides = c.args.sides.now in
    let same = ap length c.as_mut_slice.ensures.value in
    rw (lent_back sides.len sides.items c.open_all.new.sides (sym c.as_mut_slice.ensures.len ∙ same)
    (c.open_all.ensures.len ∙ same)) (c.open_all.ensures.len ∙ same)

pub returns-clause-opened : goal.returns-clause-opened
returns-clause-opened g c =
    let sides = c.args.sides.now in
    let same = ap length c.as_mut_slice.ensures.value in
    rw (lent_back sides.len sides.items c.open_all.new.sides (sym c.as_mut_slice.ensures.len ∙ same)
    (c.open_all.ensures.len ∙ same)) (rw c.as_mut_slice.ensures.value at c.open_all.ensures.opened)

pub returns-clause-first : goal.returns-clause-first
returns-clause-first g c =
    let sides = c.args.sides.now in
    let same = ap length c.as_mut_slice.ensures.value in
    rw (lent_back sides.len sides.items c.open_all.new.sides (sym c.as_mut_slice.ensures.len ∙ same)
    (c.open_all.ensures.len ∙ same)) c.open_all.ensures.first

pub returns-clause-refusal : goal.returns-clause-refusal
returns-clause-refusal g c =
    let sides = c.args.sides.now in
    let same = ap length c.as_mut_slice.ensures.value in
    rw (lent_back sides.len sides.items c.open_all.new.sides (sym c.as_mut_slice.ensures.len ∙ same)
    (c.open_all.ensures.len ∙ same)) (rw c.as_mut_slice.ensures.value at c.open_all.ensures.refusal)

pub returns-clause-failures : goal.returns-clause-failures
returns-clause-failures g c =
    let sides = c.args.sides.now in
    let same = ap length c.as_mut_slice.ensures.value in
    rw (lent_back sides.len sides.items c.open_all.new.sides (sym c.as_mut_slice.ensures.len ∙ same)
    (c.open_all.ensures.len ∙ same)) (rw c.as_mut_slice.ensures.value at c.open_all.ensures.failures)
