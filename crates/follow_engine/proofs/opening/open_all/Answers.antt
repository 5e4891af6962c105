use Rattle.std.proofs.Common.{◌∙◌, ◌∷◌, ◌<◌, [], ℕ, List, arith, get_or, length, refl, set, subst, sym, take}
use Rattle.std.proofs.lemmas.List.{length-set}
use Rattle.std.proofs.lemmas.Result.{err_from_is_err_and}
use Rattle.std.specs.List.{sum_by}
use Rattle.run_outcome.proofs.Refusals.{of_refusal_map}
use Rattle.run_outcome.proofs.SetSums.{set_counted}
use Rattle.run_outcome.specs.Fault.{Blames, counts}
use Rattle.capture_engines.specs.Files.{flows_in}
use Rattle.recording_engines.specs.Files.{failures_by, gave_by}
use Rattle.side_by_side.specs.declared.side.Side.{Side}
use Rattle.follow_engine.specs.Opened.{AreOpened, IsFirstText}
use Rattle.follow_engine.proofs.Blamed.{none_of, some_of}
use Rattle.follow_engine.proofs.Openings.{first_set, first_stays, next_closed, opened_all}
use Rattle.follow_engine.proofs.Openings.{opened_more, stops_next}
use Rattle.follow_engine.proofs.opening.open_all.Goals as goal

pub returns-then-is_empty-clause-opened : goal.returns-then-is_empty-clause-opened
returns-then-is_empty-clause-opened g c =
    let none = none_of c.args.sides.now c.is_empty.result c.if-is_empty.true c.is_empty.ensures in
    subst (λ (ss : List (Side _ _)). AreOpened g.S.ByteSource.gave g.S.ByteSource.ended
    c.args.ways.now ss ss) (sym none) tt

pub returns-then-is_empty-clause-first : goal.returns-then-is_empty-clause-first
returns-then-is_empty-clause-first g c =
    let none = none_of c.args.sides.now c.is_empty.result c.if-is_empty.true c.is_empty.ensures in
    subst (λ (ss : List (Side _ _)). IsFirstText (take 0 c.args.text.now) ss) (sym none) refl

-- ---- the first

pub open_side-requires-clause-closed : goal.open_side-requires-clause-closed
open_side-requires-clause-closed g c =
    let sides = c.args.sides.now in
    next_closed g.S.ByteSource.gave g.S.ByteSource.ended 0 c.args.ways.now sides sides
    c.index-sides-0.result refl c.requires.closed
    (some_of sides c.is_empty.result c.if-is_empty.false c.is_empty.ensures)

pub returns-in_err-count-clause-refusal : goal.returns-in_err-count-clause-refusal
returns-in_err-count-clause-refusal g c =
    let told = g.S.ByteSource in
    let sides = c.args.sides.now in
    let p = err_from_is_err_and c.from_residual.result c.from_residual.ensures.1 in
    rw (p.1, p.2)
    (of_refusal_map c.in_err-count.field-0.0
    (λ r is. stops_next told.gave told.ended 0 c.args.ways.now sides sides c.index-sides-0.result
    c.open_side.new.side r refl
    (some_of sides c.is_empty.result c.if-is_empty.false c.is_empty.ensures) is)
    (rw c.at-first.ensures at c.in_err-count.ensures.refusal))

pub returns-in_err-count-clause-failures : goal.returns-in_err-count-clause-failures
returns-in_err-count-clause-failures g c =
    let failed = g.S.ByteSource.failures in
    let sides = c.args.sides.now in
    let p = err_from_is_err_and c.from_residual.result c.from_residual.ensures.1 in
    rw (p.1, p.2)
    (rw c.in_err-count.was at
    (set_counted (λ (s : Side _ _). failures_by failed s.file) sides 0 c.index-sides-0.result
    c.open_side.new.side c.open_side.result
    (some_of sides c.is_empty.result c.if-is_empty.false c.is_empty.ensures)
    c.open_side.ensures.failures))

pub loop-place-init : goal.loop-place-init
loop-place-init g c =
    let told = g.S.ByteSource in
    let sides = c.args.sides.now in
    let d = c.index-sides-0.result in
    let y = c.open_side.new.side in
    let text = take c.in_ok-count.count c.open_side.new.text in
    let some = some_of sides c.is_empty.result c.if-is_empty.false c.is_empty.ensures in
    let counted = set_counted (λ (s : Side _ _). failures_by told.failures s.file) sides 0 d y
    c.open_side.result some c.open_side.ensures.failures in
    let is = rw c.at-first.ensures at c.in_ok-count.ensures.opened in
    record {
      len = length-set sides 0 y;
      room = refl;
      opened = opened_more told.gave told.ended 0 c.args.ways.now sides sides d y refl some
          (record {
            text = text;
            is = is;
            known = c.in_ok-count.ensures.known;
            by_flows = c.in_ok-count.ensures.by_flows;
          });
      first = first_set text (flows_in c.at-first.result) (gave_by told.gave (get_or sides 0 d).file) sides y some
          c.in_ok-count.ensures.opened;
      failures = rw c.in_ok-count.was at counted;
    }

-- ---- the others

pub open_side-requires-in-loop-place-clause-closed : goal.open_side-requires-in-loop-place-clause-closed
open_side-requires-in-loop-place-clause-closed g c =
    let l = c.loop-place in
    next_closed g.S.ByteSource.gave g.S.ByteSource.ended l.place c.args.ways.now c.args.sides.now
    l.sides c.index-sides-place.result l.invariant.opened c.requires.closed
    (omega (
      arith,
      c.loop-place-test.true,
      l.invariant.len,
      length-set c.args.sides.now 0 c.open_side.new.side,
    ))

pub loop-place-preserved : goal.loop-place-preserved
loop-place-preserved g c =
    let l = c.loop-place in
    let told = g.S.ByteSource in
    let d = c.index-sides-place.result in
    let y = c.open_side-in-loop-place.new.side in
    let lt : l.place < length c.args.sides.now =
    omega (
      arith,
      c.loop-place-test.true,
      l.invariant.len,
      length-set c.args.sides.now 0 c.open_side.new.side,
    ) in
    let counted = set_counted (λ (s : Side _ _). failures_by told.failures s.file) l.sides l.place d
    y c.open_side-in-loop-place.result (omega (arith, lt, l.invariant.len)) c.open_side-in-loop-place.ensures.failures in
    let is = rw c.at-way.ensures at c.in_ok-open_side.ensures.opened in
    record {
      len = length-set l.sides l.place y ∙ l.invariant.len;
      room = c.open_side-in-loop-place.ensures.text ∙ l.invariant.room;
      opened = opened_more told.gave told.ended l.place c.args.ways.now c.args.sides.now l.sides d
          y l.invariant.opened lt
          (record {
            text = take c.in_ok-open_side.field-0 c.open_side-in-loop-place.new.text;
            is = is;
            known = c.in_ok-open_side.ensures.known;
            by_flows = c.in_ok-open_side.ensures.by_flows;
          });
      first = first_stays (take c.in_ok-count.count c.open_side.new.text) l.place l.sides y
          (omega (arith, l.auto.place)) l.invariant.first;
      failures = (rw c.in_ok-open_side.was at counted) ∙ l.invariant.failures;
    }

pub returns-in_err-open_side-clause-refusal : goal.returns-in_err-open_side-clause-refusal
returns-in_err-open_side-clause-refusal g c =
    let l = c.loop-place in
    let told = g.S.ByteSource in
    let lt : l.place < length c.args.sides.now =
    omega (
      arith,
      c.loop-place-test.true,
      l.invariant.len,
      length-set c.args.sides.now 0 c.open_side.new.side,
    ) in
    let p = err_from_is_err_and c.from_residual-in_err-open_side.result
    c.from_residual-in_err-open_side.ensures.1 in
    rw (p.1, p.2)
    (of_refusal_map c.in_err-open_side.field-0.0
    (λ r is. stops_next told.gave told.ended l.place c.args.ways.now c.args.sides.now l.sides
    c.index-sides-place.result c.open_side-in-loop-place.new.side r l.invariant.opened lt is)
    (rw c.at-way.ensures at c.in_err-open_side.ensures.refusal))

pub returns-in_err-open_side-clause-failures : goal.returns-in_err-open_side-clause-failures
returns-in_err-open_side-clause-failures g c =
    let l = c.loop-place in
    let failed = g.S.ByteSource.failures in
    let y = c.open_side-in-loop-place.new.side in
    let lt : l.place < length l.sides =
    omega (
      arith,
      c.loop-place-test.true,
      l.invariant.len,
      length-set c.args.sides.now 0 c.open_side.new.side,
    ) in
    let p = err_from_is_err_and c.from_residual-in_err-open_side.result
    c.from_residual-in_err-open_side.ensures.1 in
    let counted = set_counted (λ (s : Side _ _). failures_by failed s.file) l.sides l.place
    c.index-sides-place.result y c.open_side-in-loop-place.result lt c.open_side-in-loop-place.ensures.failures in
    rw (p.1, p.2)
    (subst (λ (n : ℕ). Blames (counts n (sum_by (λ (s : Side _ _). failures_by failed s.file)
    (set l.sides l.place y)) ∷ []) c.in_err-open_side.field-0.0)
    l.invariant.failures (rw c.in_err-open_side.was at counted))

pub returns-clause-opened : goal.returns-clause-opened
returns-clause-opened g c =
    let l = c.loop-place in
    opened_all g.S.ByteSource.gave g.S.ByteSource.ended l.place c.args.ways.now c.args.sides.now
    l.sides l.invariant.opened
    (omega (
      arith,
      l.invariant.len,
      c.loop-place-test.false,
      length-set c.args.sides.now 0 c.open_side.new.side,
    ))
