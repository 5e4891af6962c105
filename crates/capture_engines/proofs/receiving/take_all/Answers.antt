use Rattle.std.proofs.Common.{ap, arith, drop, drop-drop, refl, sym, ◌∙◌}
use Rattle.std.proofs.lemmas.Result.{err_from_is_err_and}
use Rattle.run_outcome.specs.Moments.{WasRead}
use Rattle.capture_engines.specs.Taking.{Stands}
use Rattle.capture_engines.proofs.FirstRefused.{begun_more, begun_none, first_refused, more_opened}
use Rattle.capture_engines.proofs.FirstRefused.{none_left}
use Rattle.capture_engines.proofs.InOrder.{all_ended, more_ended, none_taken}
use Rattle.capture_engines.proofs.Rescues.{taken_up_to}
use Rattle.run_outcome.proofs.Refusals.{of_refusal_map}
use Rattle.capture_engines.proofs.receiving.take_all.Goals as goal

pub loop-place-init : goal.loop-place-init
loop-place-init g c = record {
  len = refl;
  behind = refl;
  failures = refl;
  begun = begun_none c.args.begun.now;
  opened = λ none. tt;
  taken = (
    none_taken c.args.ways.now (WasRead g.S.ByteSource.gave g.S.ByteSource.ended)
        (Stands c.args.opening.now c.args.begun.now),
    tt,
  );
}

pub loop-place-preserved : goal.loop-place-preserved
loop-place-preserved g c =
    let l = c.loop-place in
    let at = c.in_ok-take_at.ensures in
    record {
      len = at.len ∙ l.invariant.len;
      behind = at.behind ∙ sym (drop-drop 1 l.place l.files)
          ∙ ap (drop 1) l.invariant.behind ∙ drop-drop 1 l.place c.args.files.now;
      failures = at.failures ∙ l.invariant.failures;
      begun = begun_more l.place c.args.begun.now c.take_at.new.begun at.begun;
      opened = more_opened c.args.opening.now.window.items c.args.ways.now
          (WasRead g.S.ByteSource.gave g.S.ByteSource.ended) c.args.files.now l.files
          c.take_at.new.files l.place c.args.begun.now l.begun l.invariant.opened
          l.invariant.begun at.front l.invariant.behind at.opens;
      taken = more_ended c.args.ways.now (WasRead g.S.ByteSource.gave g.S.ByteSource.ended)
          c.args.files.now l.files c.take_at.new.files l.place
          (Stands c.args.opening.now c.args.begun.now) (Stands c.args.opening.now l.begun)
          (Stands c.args.opening.now c.take_at.new.begun) l.invariant.taken at.front
          l.invariant.behind at.taken;
    }

pub returns-in_err-take_at-clause-refusal : goal.returns-in_err-take_at-clause-refusal
returns-in_err-take_at-clause-refusal g c =
    let l = c.loop-place in
    let p = err_from_is_err_and c.from_residual.result c.from_residual.ensures.1 in
    rw (p.1, p.2) (of_refusal_map c.in_err-take_at.field-0.0
    (first_refused c.args.opening.now.window.items c.args.ways.now
    (WasRead g.S.ByteSource.gave g.S.ByteSource.ended) c.args.files.now l.files
    c.take_at.new.files l.place c.args.begun.now l.begun l.invariant.taken.1 l.invariant.opened
    l.invariant.begun c.take_at.ensures.front l.invariant.behind)
    c.in_err-take_at.ensures.refusal)

pub returns-clause-none : goal.returns-clause-none
returns-clause-none g c = λ none.
    none_left c.loop-place.place c.args.files.now c.args.begun.now c.loop-place.begun
    c.loop-place.invariant.begun (omega (arith, c.loop-place.invariant.len)) none

pub returns-clause-taken : goal.returns-clause-taken
returns-clause-taken g c =
    let l = c.loop-place in
    all_ended c.args.ways.now (WasRead g.S.ByteSource.gave g.S.ByteSource.ended)
    c.args.files.now l.files l.place (Stands c.args.opening.now c.args.begun.now)
    (Stands c.args.opening.now l.begun) l.invariant.taken
    (omega (arith, l.invariant.len)) l.invariant.len

pub returns-in_err-take_at-clause-sound : goal.returns-in_err-take_at-clause-sound
returns-in_err-take_at-clause-sound g c =
    let l = c.loop-place in
    let at = c.take_at.ensures in
    let p = err_from_is_err_and c.from_residual.result c.from_residual.ensures.1 in
    rw (p.1, p.2) (taken_up_to c.args.opening.now c.args.ways.now g.S.ByteSource.gave
    g.S.ByteSource.ended c.in_err-take_at.field-0.0
    c.args.files.now l.files c.take_at.new.files l.place c.args.begun.now l.begun
    c.take_at.new.begun l.invariant.taken at.front l.invariant.behind
    c.in_err-take_at.ensures.sound)
