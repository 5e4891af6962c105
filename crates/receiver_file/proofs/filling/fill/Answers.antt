use Rattle.std.proofs.Common.{◌≡◌, ◌+◌, ◌∙◌, ℕ, arith, refl, subst}
use Rattle.std.proofs.lemmas.Result.{err_from_is_err_and}
use Rattle.receiver_file.specs.Known.{shape_in}
use Rattle.receiver_file.specs.Taking.{AreBlank, Gained}
use Rattle.receiver_file.proofs.TakenGroups.{gained_blank, gained_fails}
use Rattle.receiver_file.proofs.TakenGroups.{gained_more, gained_none, gained_wrong}
use Rattle.receiver_file.proofs.filling.fill.Goals as goal

pub loop-done-init : goal.loop-done-init
loop-done-init g c = record {
  format = c.requires.format;
  room = refl;
  within = omega arith;
  gained =
      gained_none (shape_in c.args.format.now) 0 (g.S.ByteSource.gave c.args.source.now)
      (g.S.ByteSource.to_give c.args.source.now) c.args.frame.now.cells;
  failures = refl;
}

pub next_groups-requires-clause-blank : goal.next_groups-requires-clause-blank
next_groups-requires-clause-blank g c =
    let i = c.loop-done in
    let s = shape_in c.args.format.now in
    let same : 0 + i.done ≡ i.done = omega arith in
    subst (λ (k : ℕ). AreBlank s k c.args.groups i.frame.cells) same
    (gained_blank s 0 c.args.groups i.done _ _ _ _ c.args.frame.now.cells i.frame.cells
    i.invariant.gained c.requires.blank)

pub returns-in_err-done-clause-fault : goal.returns-in_err-done-clause-fault
returns-in_err-done-clause-fault g c =
    let p = err_from_is_err_and c.from_residual.result c.from_residual.ensures.1 in
    let i = c.loop-done in
    rw (p.1, p.2)
    (gained_fails (shape_in c.args.format.now) i.done c.args.groups _ _ _ _ _ _
    c.in_err-done.field-0.0 c.loop-done-test.true i.invariant.gained c.in_err-done.ensures.fault)

pub returns-in_err-done-clause-gave_wrong : goal.returns-in_err-done-clause-gave_wrong
returns-in_err-done-clause-gave_wrong g c =
    let p = err_from_is_err_and c.from_residual.result c.from_residual.ensures.1 in
    let i = c.loop-done in
    rw (p.1, p.2)
    (gained_wrong (shape_in c.args.format.now) i.done c.args.groups _ _ _ _ _ _ _ _
    c.in_err-done.field-0.0 c.loop-done-test.true i.invariant.gained
    c.in_err-done.ensures.gave_wrong)

pub loop-done-preserved : goal.loop-done-preserved
loop-done-preserved g c =
    let i = c.loop-done in
    let s = shape_in c.args.format.now in
    let n : ℕ = c.in_ok-done.field-0 in
    let same : i.done ≡ 0 + i.done = omega arith in
    record {
      format = c.in_ok-done.ensures.format;
      room = c.in_ok-done.ensures.room ∙ i.invariant.room;
      within = c.in_ok-done.ensures.within;
      gained =
          gained_more s 0 i.done n _ _ _ _ _ _ c.args.frame.now.cells i.frame.cells
          c.next_groups.new.frame.cells i.invariant.gained
          (subst (λ (k : ℕ). Gained s k n (g.S.ByteSource.gave i.source)
          (g.S.ByteSource.gave c.next_groups.new.source) (g.S.ByteSource.to_give i.source)
          (g.S.ByteSource.to_give c.next_groups.new.source) i.frame.cells
          c.next_groups.new.frame.cells) same c.in_ok-done.ensures.gained);
      failures = c.in_ok-done.ensures.counted ∙ i.invariant.failures;
    }
