use Rattle.std.proofs.Common.{◌∙◌, None, ap, arith, drop, drop-drop, inl, inr, refl, sym}
use Rattle.std.proofs.lemmas.Result.{err_from_is_err_and}
use Rattle.run_outcome.specs.Moments.{WasRead}
use Rattle.run_outcome.proofs.Refusals.{of_refusal_map}
use Rattle.capture_engines.proofs.ReceivedRefusals.{none_started}
use Rattle.capture_engines.proofs.Taken.{none_begun}
use Rattle.stream_inspection.proofs.InOrder.{all_noted, first_front, more_noted, none_noted}
use Rattle.stream_inspection.proofs.InOrder.{up_to}
use Rattle.stream_inspection.proofs.files.note_files.Goals as goal

pub loop-place-init : goal.loop-place-init
loop-place-init g c = record {
  len = refl;
  behind = refl;
  failures = refl;
  begun = inl (refl, refl);
  noted = none_noted c.args.ways.now (WasRead g.S.ByteSource.gave g.S.ByteSource.ended)
      c.args.begun.now c.args.inspection.now;
}

pub returns-in_err-end-clause-refusal : goal.returns-in_err-end-clause-refusal
returns-in_err-end-clause-refusal g c =
    let l = c.loop-place in
    let at = c.in_err-end.ensures in
    let p = err_from_is_err_and c.from_residual.result c.from_residual.ensures.1 in
    rw (p.1, p.2) (of_refusal_map c.in_err-end.field-0.0
    (first_front c.args.ways.now (WasRead g.S.ByteSource.gave g.S.ByteSource.ended)
    c.args.files.now l.files c.note_at.new.files l.place c.args.begun.now l.begun
    c.args.inspection.now l.inspection l.invariant.noted at.front l.invariant.behind
    l.invariant.begun)
    at.refusal)

pub returns-in-Some-clause-noted : goal.returns-in-Some-clause-noted
returns-in-Some-clause-noted g c =
    let l = c.loop-place in
    let at = c.in_ok-end.ensures in
    up_to c.args.ways.now (WasRead g.S.ByteSource.gave g.S.ByteSource.ended) c.args.files.now
    l.files c.note_at.new.files l.place c.in-Some.fault c.args.begun.now l.begun
    c.note_at.new.begun c.args.inspection.now l.inspection c.note_at.new.inspection
    l.invariant.noted at.front l.invariant.behind (rw c.in-Some.is at at.noted)

pub loop-place-preserved : goal.loop-place-preserved
loop-place-preserved g c =
    let l = c.loop-place in
    let at = c.in_ok-end.ensures in
    let none = none_begun c.in_ok-end.end c.in_default.not-Some in
    record {
      len = at.len ∙ l.invariant.len;
      behind = at.behind ∙ sym (drop-drop 1 l.place l.files)
          ∙ ap (drop 1) l.invariant.behind ∙ drop-drop 1 l.place c.args.files.now;
      failures = (rw none at at.failures) ∙ l.invariant.failures;
      begun = inr at.begun;
      noted = more_noted c.args.ways.now (WasRead g.S.ByteSource.gave g.S.ByteSource.ended)
          c.args.files.now l.files c.note_at.new.files l.place None
          c.args.begun.now l.begun c.note_at.new.begun c.args.inspection.now l.inspection
          c.note_at.new.inspection l.invariant.noted at.front l.invariant.behind
          (rw none at at.noted);
    }

pub returns-clause-none : goal.returns-clause-none
returns-clause-none g c = λ none.
    none_started c.loop-place.place c.args.files.now c.args.begun.now c.loop-place.begun
    c.loop-place.invariant.begun (omega (arith, c.loop-place.invariant.len)) none

pub returns-clause-noted : goal.returns-clause-noted
returns-clause-noted g c =
    let l = c.loop-place in
    all_noted c.args.ways.now (WasRead g.S.ByteSource.gave g.S.ByteSource.ended) c.args.files.now
    l.files l.place c.args.begun.now l.begun c.args.inspection.now l.inspection
    l.invariant.noted (omega (arith, l.invariant.len)) l.invariant.len
