use Rattle.std.proofs.Common.{◌≡◌, ◌∷◌, ◌++◌, [], refl}
use Rattle.std.specs.Option.{option_copied}
use Rattle.std.proofs.lemmas.Result.{err_from_is_err_and}
use Rattle.run_outcome.specs.Line.{line_text}
use Rattle.run_outcome.specs.declared.line.Line.TheVariants.{Exported}
use Rattle.run_outcome.proofs.Printed.{none_printed, on_ok, part_printed}
use Rattle.run_outcome.proofs.Refusals.{device_alone}
use Rattle.export_engine.specs.Exported.{PrintsExported}
use Rattle.export_engine.proofs.ExportRefusals.{run_left, run_refused, unsaid_left, untouched_by}
use Rattle.export_engine.proofs.exporting.export.Goals as goal

pub returns-in_err-counts-clause-refusal : goal.returns-in_err-counts-clause-refusal
returns-in_err-counts-clause-refusal g c =
    let p =
    err_from_is_err_and c.from_residual.result c.from_residual.ensures.1 in
    rw (p.1, p.2)
    (run_refused c.args.wanted.a.now (option_copied c.args.wanted.b) _ c.in-Some.envelopes
    c.in-Some.ensures c.in_err-counts.field-0.0 c.in_err-counts.ensures.refusal)

pub returns-in_err-counts-clause-left : goal.returns-in_err-counts-clause-left
returns-in_err-counts-clause-left g c =
    let p =
    err_from_is_err_and c.from_residual.result c.from_residual.ensures.1 in
    rw (p.1, p.2)
    (run_left c.args.wanted.a.now (option_copied c.args.wanted.b) c.in-Some.envelopes
    c.in-Some.ensures _ _ _ _ _ c.in_err-counts.field-0.0 c.in_err-counts.ensures.left)

pub returns-clause-exported : goal.returns-clause-exported
returns-clause-exported g c =
    let told = g.S.ByteSource in
    let sink = g.K.ByteSink in
    let a = c.args.wanted.a.now in
    let b = option_copied c.args.wanted.b in
    let n = c.in_ok-counts.counts in
    let shown = g.O.ByteSink.took c.args.output.now in
    let shown' = g.O.ByteSink.took c.print.new.output in
    on_ok c.print.result
    (shown' ≡ shown ++ (line_text (Exported n.written n.left_out) ++ 10 ∷ []))
    (PrintsExported a b (told.gave c.args.capture.now) (told.gave c.export_capture.new.capture)
    (told.ended c.export_capture.new.capture) (sink.took c.args.sink.now)
    (sink.took c.export_capture.new.sink) shown shown')
    (λ printed. record {
      counts = n;
      exported = record {
        envelopes = c.in-Some.envelopes;
        are = c.in-Some.ensures;
        exported = c.in_ok-counts.ensures.exported;
      };
      printed = printed;
    })
    c.print.ensures.printed

pub returns-clause-left : goal.returns-clause-left
returns-clause-left g c =
    let told = g.S.ByteSource in
    let sink = g.K.ByteSink in
    unsaid_left c.print.result c.args.wanted.a.now (option_copied c.args.wanted.b)
    c.in_ok-counts.counts (told.gave c.args.capture.now)
    (told.gave c.export_capture.new.capture) (told.ended c.export_capture.new.capture)
    (sink.took c.args.sink.now) (sink.took c.export_capture.new.sink)
    (record {
      envelopes = c.in-Some.envelopes;
      are = c.in-Some.ensures;
      exported = c.in_ok-counts.ensures.exported;
    })
    c.print.ensures.unrefused

pub returns-in_err-counts-clause-memory : goal.returns-in_err-counts-clause-memory
returns-in_err-counts-clause-memory g c =
    let p =
    err_from_is_err_and c.from_residual.result c.from_residual.ensures.1 in
    rw (p.1, p.2) (λ memory. (
      (c.in-Some.envelopes, c.in-Some.ensures),
      untouched_by c.in_err-counts.field-0.0 c.in-Some.envelopes _ _ _ _ _
          c.in_err-counts.ensures.left memory,
      refl,
    ))

pub returns-clause-memory : goal.returns-clause-memory
returns-clause-memory g c = device_alone c.print.result _ c.print.ensures.device

pub returns-in_err-counts-clause-printed : goal.returns-in_err-counts-clause-printed
returns-in_err-counts-clause-printed g c =
    none_printed c.from_residual.result g.O.ByteSink.took g.O.ByteSink.failures _ c.args.output.now

pub returns-clause-printed : goal.returns-clause-printed
returns-clause-printed g c =
    let told = g.S.ByteSource in
    let sink = g.K.ByteSink in
    part_printed c.print.result g.O.ByteSink.took g.O.ByteSink.failures
    (PrintsExported c.args.wanted.a.now (option_copied c.args.wanted.b)
    (told.gave c.args.capture.now) (told.gave c.export_capture.new.capture)
    (told.ended c.export_capture.new.capture) (sink.took c.args.sink.now)
    (sink.took c.export_capture.new.sink) []) _ c.args.output.now c.print.new.output
    (record {
      counts = c.in_ok-counts.counts;
      exported = record {
        envelopes = c.in-Some.envelopes;
        are = c.in-Some.ensures;
        exported = c.in_ok-counts.ensures.exported;
      };
      printed = refl;
    }) c.print.ensures.cut c.print.ensures.device c.print.ensures.failures
