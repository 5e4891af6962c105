use Rattle.std.proofs.Common.{◌≡◌, ◌∙◌, List, ℕ, ap, refl, rules}
use Rattle.std.specs.List.{flat_map}
use Rattle.std.proofs.lemmas.Result.{err_from_is_err_and}
use Rattle.st_format.specs.declared.format.Format.{Format}
use Rattle.frame_assembly.specs.ContestedSamples.{contested_spots}
use Rattle.frame_report.specs.Contested.{spot_line}
use Rattle.frame_report.proofs.ContestedTexts.{line_end, line_here, row_lines}
use Rattle.frame_report.proofs.Gathering.{put_all, put_cut, put_more, put_none}
use Rattle.frame_report.proofs.contested.ContestedSamplesRowLines.put_row.Goals as goal

pub loop-column-init : goal.loop-column-init
loop-column-init g c =
    let e : c.into_iter-column-iterator.result ≡ contested_spots c.args.frame.now c.args.row = cc in (
      search rules,
      search rules,
      record {
        put =
            put_none _ _ _ _
            (row_lines c.args.frame.now c.args.row c.sampling-sampling.result
            c.into_iter-column-iterator.result c.requires
            (c.sampling-sampling.ensures ∙ ap (λ (f : Format). f.sampling) c.format.ensures.format)
            e);
        failures = refl;
      },
    )

pub returns-in_err-put_line-clause-fault : goal.returns-in_err-put_line-clause-fault
returns-in_err-put_line-clause-fault g c =
    let p = err_from_is_err_and c.from_residual.result c.from_residual.ensures.1 in
    let rest : List (ℕ × ℕ) = c.next.new.self in
    rw (p.1)
    (put_cut _ _ _ _ _ _ _ (flat_map (spot_line c.sampling-sampling.result c.args.row) rest) _
    c.loop-column.invariant.2.put
    (line_here c.sampling-sampling.result c.args.row (c.in-Some.column, c.in-Some.component)
    c.loop-column.column-iterator rest c.in-Some.ensures.steps.0)
    c.in_err-put_line.ensures.fault)

pub loop-column-preserved : goal.loop-column-preserved
loop-column-preserved g c =
    let rest : List (ℕ × ℕ) = c.next.new.self in (
      search rules,
      search rules,
      record {
        put =
            put_more _ _ _ _ _ _ _ _
            (flat_map (spot_line c.sampling-sampling.result c.args.row) rest) _
            c.loop-column.invariant.2.put
            (line_here c.sampling-sampling.result c.args.row
            (c.in-Some.column, c.in-Some.component) c.loop-column.column-iterator rest
            c.in-Some.ensures.steps.0)
            c.in_ok-put_line.ensures.ok;
        failures = c.in_ok-put_line.ensures.counted ∙ c.loop-column.invariant.2.failures;
      },
    )

pub returns-clause-ok : goal.returns-clause-ok
returns-clause-ok g c =
    put_all _ _ _ _ _ _ c.loop-column.invariant.2.put
    (line_end c.sampling-sampling.result c.args.row c.loop-column.column-iterator
    c.in-None.ensures.steps.0)
