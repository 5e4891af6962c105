use Rattle.std.proofs.Common.{◌≡◌, ◌∷◌, ◌++◌, [], refl}
use Rattle.std.specs.Option.{option_copied}
use Rattle.std.proofs.lemmas.Result.{err_from_is_err_and}
use Rattle.run_outcome.specs.Line.{line_text}
use Rattle.run_outcome.specs.declared.line.Line.TheVariants.{Exported}
use Rattle.run_outcome.proofs.Printed.{none_printed, on_ok, part_printed, whenever}
use Rattle.run_outcome.proofs.Refusals.{device_alone}
use Rattle.paced_export.specs.PacedExported.{PrintsPaced}
use Rattle.paced_export.specs.PacedExported.LeavesPaced.{Partly, Unsaid}
use Rattle.paced_export.proofs.PacedRefusals.{ahead_refused, behind_refused, leaves_all, pace_of}
use Rattle.paced_export.proofs.PacedRefusals.{paces_all, read_whole}
use Rattle.paced_export.proofs.paced.export_paced.Goals as goal

pub returns-in_err-told-clause-refusal : goal.returns-in_err-told-clause-refusal
returns-in_err-told-clause-refusal g c =
    let p = err_from_is_err_and c.from_residual.result c.from_residual.ensures.1 in
    rw (p.1, p.2)
    (ahead_refused c.args.wanted.flows.a.now (option_copied c.args.wanted.flows.b) _ _
    c.in-Some.envelopes c.in-Some.ensures c.in_err-told.field-0.0 c.in_err-told.ensures.refusal)

pub returns-in_err-counts-clause-refusal : goal.returns-in_err-counts-clause-refusal
returns-in_err-counts-clause-refusal g c =
    let p =
    err_from_is_err_and c.from_residual-in_err-counts.result
    c.from_residual-in_err-counts.ensures.1 in
    rw (p.1, p.2)
    (behind_refused c.args.wanted.flows.a.now (option_copied c.args.wanted.flows.b) _ _
    c.in-Some.envelopes c.in-Some.ensures
    (read_whole _ _ _ c.in_ok-told.told.active c.in_ok-told.told.counts
    c.in_ok-told.ensures.read) c.in_err-counts.field-0.0 c.in_err-counts.ensures.refusal)

pub returns-in_err-counts-clause-left : goal.returns-in_err-counts-clause-left
returns-in_err-counts-clause-left g c =
    let told = c.in_ok-told.told in
    let ahead = c.in_ok-told.ensures.read in
    let pace = c.pace_from-pace.result in
    let is = c.pace_from-pace.ensures in
    let p =
    err_from_is_err_and c.from_residual-in_err-counts.result
    c.from_residual-in_err-counts.ensures.1 in
    rw (p.1)
    (Partly (record {
      envelopes = c.in-Some.envelopes;
      are = c.in-Some.ensures;
      whole = ahead.content;
      first_read = ahead.read;
      pace = pace;
      pace_is = pace_of c.args.wanted.start told.active pace told.counts _ _ _ ahead is.start is.first
          is.active;
      leaves = leaves_all c.in-Some.envelopes pace told.counts ahead.content.records _ _ _ _ _
          ahead.counts c.in_err-counts.ensures.left;
    }))

pub returns-clause-exported : goal.returns-clause-exported
returns-clause-exported g c =
    let source = g.S.ByteSource in
    let sink = g.K.ByteSink in
    let a = c.args.wanted.flows.a.now in
    let b = option_copied c.args.wanted.flows.b in
    let n = c.in_ok-counts.counts in
    let told = c.in_ok-told.told in
    let ahead = c.in_ok-told.ensures.read in
    let pace = c.pace_from-pace.result in
    let is = c.pace_from-pace.ensures in
    let shown = g.O.ByteSink.took c.args.output.now in
    let shown' = g.O.ByteSink.took c.print.new.output in
    on_ok c.print.result
    (shown' ≡ shown ++ (line_text (Exported n.written n.left_out) ++ 10 ∷ []))
    (PrintsPaced c.args.wanted.start a b (source.gave c.args.ahead.now)
    (source.gave c.read_ahead.new.source) (source.ended c.read_ahead.new.source)
    (source.gave c.args.capture.now) (source.gave c.export_capture.new.capture)
    (source.ended c.export_capture.new.capture) (sink.took c.args.sink.now)
    (sink.took c.export_capture.new.sink) shown shown')
    (λ printed. record {
      counts = n;
      paces = record {
        envelopes = c.in-Some.envelopes;
        are = c.in-Some.ensures;
        whole = ahead.content;
        first_read = ahead.read;
        pace = pace;
        pace_is =
            pace_of c.args.wanted.start told.active pace told.counts _ _ _ ahead is.start is.first
            is.active;
        paces = paces_all c.in-Some.envelopes pace told.counts ahead.content.records n _ _ _ _ _
            ahead.counts c.in_ok-counts.ensures.exported;
      };
      printed = printed;
    })
    c.print.ensures.printed

pub returns-clause-left : goal.returns-clause-left
returns-clause-left g c =
    let n = c.in_ok-counts.counts in
    let told = c.in_ok-told.told in
    let ahead = c.in_ok-told.ensures.read in
    let pace = c.pace_from-pace.result in
    let is = c.pace_from-pace.ensures in
    whenever c.print.result _
    (Unsaid n (record {
      envelopes = c.in-Some.envelopes;
      are = c.in-Some.ensures;
      whole = ahead.content;
      first_read = ahead.read;
      pace = pace;
      pace_is =
          pace_of c.args.wanted.start told.active pace told.counts _ _ _ ahead is.start is.first
          is.active;
      paces = paces_all c.in-Some.envelopes pace told.counts ahead.content.records n _ _ _ _ _
          ahead.counts c.in_ok-counts.ensures.exported;
    }))

pub returns-in_err-told-clause-memory : goal.returns-in_err-told-clause-memory
returns-in_err-told-clause-memory g c =
    let p = err_from_is_err_and c.from_residual.result c.from_residual.ensures.1 in
    rw (p.1) (λ memory. ((c.in-Some.envelopes, c.in-Some.ensures), refl))

pub returns-in_err-counts-clause-memory : goal.returns-in_err-counts-clause-memory
returns-in_err-counts-clause-memory g c =
    let p =
    err_from_is_err_and c.from_residual-in_err-counts.result
    c.from_residual-in_err-counts.ensures.1 in
    rw (p.1) (λ memory. ((c.in-Some.envelopes, c.in-Some.ensures), refl))

pub returns-clause-memory : goal.returns-clause-memory
returns-clause-memory g c = device_alone c.print.result _ c.print.ensures.device

pub returns-in_err-told-clause-printed : goal.returns-in_err-told-clause-printed
returns-in_err-told-clause-printed g c =
    none_printed c.from_residual.result g.O.ByteSink.took g.O.ByteSink.failures _ c.args.output.now

pub returns-in_err-counts-clause-printed : goal.returns-in_err-counts-clause-printed
returns-in_err-counts-clause-printed g c =
    none_printed c.from_residual-in_err-counts.result g.O.ByteSink.took g.O.ByteSink.failures _
    c.args.output.now

pub returns-clause-printed : goal.returns-clause-printed
returns-clause-printed g c =
    let source = g.S.ByteSource in
    let sink = g.K.ByteSink in
    let told = c.in_ok-told.told in
    let ahead = c.in_ok-told.ensures.read in
    let pace = c.pace_from-pace.result in
    let is = c.pace_from-pace.ensures in
    part_printed c.print.result g.O.ByteSink.took g.O.ByteSink.failures
    (PrintsPaced c.args.wanted.start c.args.wanted.flows.a.now
    (option_copied c.args.wanted.flows.b) (source.gave c.args.ahead.now)
    (source.gave c.read_ahead.new.source) (source.ended c.read_ahead.new.source)
    (source.gave c.args.capture.now) (source.gave c.export_capture.new.capture)
    (source.ended c.export_capture.new.capture) (sink.took c.args.sink.now)
    (sink.took c.export_capture.new.sink) []) _ c.args.output.now c.print.new.output
    (record {
      counts = c.in_ok-counts.counts;
      paces = record {
        envelopes = c.in-Some.envelopes;
        are = c.in-Some.ensures;
        whole = ahead.content;
        first_read = ahead.read;
        pace = pace;
        pace_is =
            pace_of c.args.wanted.start told.active pace told.counts _ _ _ ahead is.start is.first
            is.active;
        paces = paces_all c.in-Some.envelopes pace told.counts ahead.content.records
            c.in_ok-counts.counts _ _ _ _ _ ahead.counts c.in_ok-counts.ensures.exported;
      };
      printed = refl;
    }) c.print.ensures.cut c.print.ensures.device c.print.ensures.failures
