use Rattle.std.proofs.Common.{◌≡◌, ◌∙◌, List, ℕ, refl, rules}
use Rattle.std.specs.List.{flat_map}
use Rattle.std.specs.declared.ops.Range.{Range}
use Rattle.std.proofs.lemmas.Result.{err_from_is_err_and}
use Rattle.frame_assembly.specs.Missing.{unknown_runs}
use Rattle.frame_report.specs.Missing.{columns_line}
use Rattle.frame_report.proofs.Gathering.{put_all, put_cut, put_more, put_none}
use Rattle.frame_report.proofs.MissingTexts.{line_end, line_here, row_lines}
use Rattle.frame_report.proofs.missing.MissingGroupsRowLines.put_row.Goals as goal

pub loop-columns-init : goal.loop-columns-init
loop-columns-init g c =
    let e : c.into_iter-columns-iterator.result ≡ unknown_runs c.args.frame.now c.args.row = cc in (
      search rules,
      search rules,
      record {
        put =
            put_none _ _ _ _
            (row_lines c.args.frame.now c.args.row c.into_iter-columns-iterator.result e);
        failures = refl;
      },
    )

pub returns-in_err-put_run-clause-fault : goal.returns-in_err-put_run-clause-fault
returns-in_err-put_run-clause-fault g c =
    let p = err_from_is_err_and c.from_residual.result c.from_residual.ensures.1 in
    let rest : List (Range ℕ) = c.next.new.self in
    rw (p.1)
    (put_cut _ _ _ _ _ _ _ (flat_map (columns_line c.args.row) rest) _
    c.loop-columns.invariant.2.put
    (line_here c.args.row c.in-Some.columns c.loop-columns.columns-iterator rest
    c.in-Some.ensures.steps.0)
    c.in_err-put_run.ensures.fault)

pub loop-columns-preserved : goal.loop-columns-preserved
loop-columns-preserved g c =
    let rest : List (Range ℕ) = c.next.new.self in (
      search rules,
      search rules,
      record {
        put =
            put_more _ _ _ _ _ _ _ _ (flat_map (columns_line c.args.row) rest) _
            c.loop-columns.invariant.2.put
            (line_here c.args.row c.in-Some.columns c.loop-columns.columns-iterator rest
            c.in-Some.ensures.steps.0)
            c.in_ok-put_run.ensures.ok;
        failures = c.in_ok-put_run.ensures.counted ∙ c.loop-columns.invariant.2.failures;
      },
    )

pub returns-clause-ok : goal.returns-clause-ok
returns-clause-ok g c =
    put_all _ _ _ _ _ _ c.loop-columns.invariant.2.put
    (line_end c.args.row c.loop-columns.columns-iterator c.in-None.ensures.steps.0)
