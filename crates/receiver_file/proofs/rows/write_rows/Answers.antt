use Rattle.std.proofs.Common.{◌<◌, ◌≡◌, ◌∙◌, Some, ap, refl, subst, ℕ}
use Rattle.std.proofs.lemmas.Result.{err_from_is_err_and}
use Rattle.st_format.specs.declared.format.Format.{Format}
use Rattle.st_format.specs.Position.{row_groups}
use Rattle.receiver_file.specs.Known.{shape_in}
use Rattle.receiver_file.proofs.Growing.{held_part, took_part}
use Rattle.receiver_file.proofs.RowRuns.{rows_more, rows_none, rows_stop}
use Rattle.receiver_file.proofs.rows.write_rows.Goals as goal

pub loop-row-init : goal.loop-row-init
loop-row-init g c =
    let f : Format = c.args.frame.now.format in
    record {
      written =
          rows_none (shape_in f) (shape_in f).samples (row_groups f) c.args.frame.now.cells _;
      took =
          rows_none (shape_in f) (shape_in f).samples (row_groups f) c.args.frame.now.cells
          (Some _);
      failures = refl;
    }

pub returns-in_err-write_row-clause-fault : goal.returns-in_err-write_row-clause-fault
returns-in_err-write_row-clause-fault g c =
    let p = err_from_is_err_and c.from_residual.result c.from_residual.ensures.1 in
    let f : Format = c.args.frame.now.format in
    let n : c.height-row-end.result ≡ f.height =
    c.height-row-end.ensures ∙ ap (λ (x : Format). x.height) c.format.ensures.format in
    let lt : c.loop-row.row < f.height =
    subst (λ (k : ℕ). c.loop-row.row < k) n c.loop-row-test.true in
    rw (p.1)
    (rows_stop (shape_in f) (shape_in f).samples
    (row_groups f) c.loop-row.row f.height c.args.frame.now.cells _ _ _ lt
    c.loop-row.invariant.written c.in_err-write_row.ensures.fault)

pub loop-row-preserved : goal.loop-row-preserved
loop-row-preserved g c =
    let f : Format = c.args.frame.now.format in
    record {
      written =
          rows_more (shape_in f) (shape_in f).samples
          (row_groups f) c.loop-row.row c.args.frame.now.cells _ _ _ c.loop-row.invariant.written
          c.in_ok-write_row.ensures.ok;
      took =
          rows_more (shape_in f) (shape_in f).samples
          (row_groups f) c.loop-row.row c.args.frame.now.cells (Some _) (Some _)
          (Some _) c.loop-row.invariant.took
          c.in_ok-write_row.ensures.took;
      failures = c.in_ok-write_row.ensures.counted ∙ c.loop-row.invariant.failures;
    }

pub returns-in_err-write_row-clause-took_part : goal.returns-in_err-write_row-clause-took_part
returns-in_err-write_row-clause-took_part g c =
    let p = err_from_is_err_and c.from_residual.result c.from_residual.ensures.1 in
    let f : Format = c.args.frame.now.format in
    let n : c.height-row-end.result ≡ f.height =
    c.height-row-end.ensures ∙ ap (λ (x : Format). x.height) c.format.ensures.format in
    let lt : c.loop-row.row < f.height =
    subst (λ (k : ℕ). c.loop-row.row < k) n c.loop-row-test.true in
    rw (p.1)
    (took_part _ _ _ (rows_stop (shape_in f) (shape_in f).samples
    (row_groups f) c.loop-row.row f.height c.args.frame.now.cells (Some _) (Some _) (Some _) lt
    c.loop-row.invariant.took
    (held_part _ _ _ c.in_err-write_row.ensures.took_part)))
