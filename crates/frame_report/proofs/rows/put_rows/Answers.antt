use Rattle.std.proofs.Common.{◌<◌, ◌≤◌, ◌≡◌, ◌+◌, ◌∙◌, ap, refl, subst, ℕ}
use Rattle.std.proofs.lemmas.Result.{err_from_is_err_and}
use Rattle.st_format.specs.declared.format.Format.{Format}
use Rattle.frame_report.proofs.Gathering.{put_all, put_cut, put_more, put_none}
use Rattle.frame_report.proofs.Ranges.{texts_all, texts_end, texts_from, texts_here}
use Rattle.frame_report.proofs.rows.put_rows.Goals as goal

pub loop-row-init : goal.loop-row-init
loop-row-init g c = record {
  put =
      put_none _ _ _ _
      (texts_all (g.L.RowLines.lines c.args.frame.now) c.args.frame.now.format.height);
  failures = refl;
}

pub returns-in_err-put_row-clause-fault : goal.returns-in_err-put_row-clause-fault
returns-in_err-put_row-clause-fault g c =
    let p = err_from_is_err_and c.from_residual.result c.from_residual.ensures.1 in
    let f : Format = c.args.frame.now.format in
    let n : c.height-row-end.result ≡ f.height =
    c.height-row-end.ensures ∙ ap (λ (x : Format). x.height) c.format.ensures.format in
    let lt : c.loop-row.row < f.height =
    subst (λ (k : ℕ). c.loop-row.row < k) n c.loop-row-test.true in
    rw (p.1)
    (put_cut _ _ _ _ _ _ _
    (texts_from (g.L.RowLines.lines c.args.frame.now) (c.loop-row.row + 1) f.height) _
    c.loop-row.invariant.put
    (texts_here (g.L.RowLines.lines c.args.frame.now) c.loop-row.row f.height lt)
    c.in_err-put_row.ensures.fault)

pub loop-row-preserved : goal.loop-row-preserved
loop-row-preserved g c =
    let f : Format = c.args.frame.now.format in
    let n : c.height-row-end.result ≡ f.height =
    c.height-row-end.ensures ∙ ap (λ (x : Format). x.height) c.format.ensures.format in
    let lt : c.loop-row.row < f.height =
    subst (λ (k : ℕ). c.loop-row.row < k) n c.loop-row-test.true in
    record {
      put =
          put_more _ _ _ _ _ _ _ _
          (texts_from (g.L.RowLines.lines c.args.frame.now) (c.loop-row.row + 1) f.height) _
          c.loop-row.invariant.put
          (texts_here (g.L.RowLines.lines c.args.frame.now) c.loop-row.row f.height lt)
          c.in_ok-put_row.ensures.ok;
      failures = c.in_ok-put_row.ensures.counted ∙ c.loop-row.invariant.failures;
    }

pub returns-clause-ok : goal.returns-clause-ok
returns-clause-ok g c =
    let f : Format = c.args.frame.now.format in
    let n : c.height-row-end.result ≡ f.height =
    c.height-row-end.ensures ∙ ap (λ (x : Format). x.height) c.format.ensures.format in
    let le : f.height ≤ c.loop-row.row =
    subst (λ (k : ℕ). k ≤ c.loop-row.row) n c.loop-row-test.false in
    put_all _ _ _ _ _ _ c.loop-row.invariant.put
    (texts_end (g.L.RowLines.lines c.args.frame.now) c.loop-row.row f.height le)
