use Rattle.std.proofs.Common.{[], ◌∷◌, ap, arith, drop, drop-drop, refl, sym, ◌∙◌}
use Rattle.std.proofs.lemmas.Result.{err_from_is_err_and}
use Rattle.run_outcome.specs.Moments.{WasRead}
use Rattle.run_outcome.proofs.Refusals.{of_refusal_map}
use Rattle.capture_engines.specs.Files.{first_way}
use Rattle.capture_engines.specs.Received.{FileOpens}
use Rattle.capture_engines.proofs.FirstRefused.{begun_more, begun_none, first_refused, more_opened}
use Rattle.capture_engines.proofs.FirstRefused.{none_left}
use Rattle.capture_engines.proofs.InOrder.{all_taken, more_taken, none_taken}
use Rattle.window_finding.specs.Finding.{FindsSoFar}
use Rattle.window_finding.proofs.InOrder.{all_first, all_whole, more_whole}
use Rattle.window_finding.proofs.finding.find_all.Goals as goal

pub loop-place-init : goal.loop-place-init
loop-place-init g c = record {
  len = refl;
  behind = refl;
  failures = refl;
  begun = begun_none c.args.begun.now;
  opened = λ none. tt;
  whole = λ lacks. tt;
  found = none_taken c.args.ways.now (WasRead g.S.ByteSource.gave g.S.ByteSource.ended)
      (FindsSoFar c.args.sought c.args.begun.now);
}

pub loop-place-preserved : goal.loop-place-preserved
loop-place-preserved g c =
    let l = c.loop-place in
    let at = c.in_ok-find_at.ensures in
    let told = WasRead g.S.ByteSource.gave g.S.ByteSource.ended in
    record {
      len = at.len ∙ l.invariant.len;
      behind = at.behind ∙ sym (drop-drop 1 l.place l.files)
          ∙ ap (drop 1) l.invariant.behind ∙ drop-drop 1 l.place c.args.files.now;
      failures = at.failures ∙ l.invariant.failures;
      begun = begun_more l.place c.args.begun.now c.find_at.new.begun at.begun;
      opened = more_opened (0 ∷ []) c.args.ways.now told c.args.files.now l.files
          c.find_at.new.files l.place c.args.begun.now l.begun l.invariant.opened
          l.invariant.begun at.front l.invariant.behind at.opens;
      whole = λ lacks.
          more_whole c.args.ways.now told c.args.files.now l.files c.find_at.new.files l.place
          (l.invariant.whole (λ full. lacks (at.full full))) at.front l.invariant.behind
          (at.whole lacks);
      found = more_taken c.args.ways.now told c.args.files.now l.files c.find_at.new.files l.place
          (FindsSoFar c.args.sought c.args.begun.now) (FindsSoFar c.args.sought l.begun)
          (FindsSoFar c.args.sought c.find_at.new.begun) l.invariant.found at.front
          l.invariant.behind at.found;
    }

pub returns-in_err-find_at-clause-refusal : goal.returns-in_err-find_at-clause-refusal
returns-in_err-find_at-clause-refusal g c =
    let l = c.loop-place in
    let p = err_from_is_err_and c.from_residual.result c.from_residual.ensures.1 in
    rw (p.1, p.2) (of_refusal_map c.in_err-find_at.field-0.0
    (first_refused (0 ∷ []) c.args.ways.now
    (WasRead g.S.ByteSource.gave g.S.ByteSource.ended) c.args.files.now l.files
    c.find_at.new.files l.place c.args.begun.now l.begun
    (l.invariant.whole c.in_err-find_at.ensures.lacks) l.invariant.opened l.invariant.begun
    c.find_at.ensures.front l.invariant.behind)
    c.in_err-find_at.ensures.refusal)

pub returns-clause-none : goal.returns-clause-none
returns-clause-none g c = λ none.
    none_left c.loop-place.place c.args.files.now c.args.begun.now c.loop-place.begun
    c.loop-place.invariant.begun (omega (arith, c.loop-place.invariant.len)) none

pub returns-clause-opened : goal.returns-clause-opened
returns-clause-opened g c = λ none.
    let l = c.loop-place in
    all_first
    (λ s. FileOpens (0 ∷ []) (first_way c.args.ways.now)
    (WasRead g.S.ByteSource.gave g.S.ByteSource.ended s))
    c.args.files.now l.files l.place (l.invariant.opened none) (omega (arith, l.invariant.len))
    l.invariant.len

pub returns-clause-whole : goal.returns-clause-whole
returns-clause-whole g c = λ lacks.
    let l = c.loop-place in
    all_whole c.args.ways.now (WasRead g.S.ByteSource.gave g.S.ByteSource.ended)
    c.args.files.now l.files l.place (l.invariant.whole lacks) (omega (arith, l.invariant.len))
    l.invariant.len

pub returns-clause-found : goal.returns-clause-found
returns-clause-found g c =
    let l = c.loop-place in
    all_taken c.args.ways.now (WasRead g.S.ByteSource.gave g.S.ByteSource.ended)
    c.args.files.now l.files l.place (FindsSoFar c.args.sought c.args.begun.now)
    (FindsSoFar c.args.sought l.begun) l.invariant.found
    (omega (arith, l.invariant.len)) l.invariant.len
