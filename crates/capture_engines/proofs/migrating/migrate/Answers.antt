use Rattle.std.proofs.Common.{◌≡◌, ◌∷◌, ◌++◌, [], refl}
use Rattle.std.proofs.lemmas.Result.{err_from_is_err_and}
use Rattle.run_outcome.specs.Line.{line_text}
use Rattle.run_outcome.specs.Text.{GivesText}
use Rattle.run_outcome.specs.declared.line.Line.TheVariants.{Records}
use Rattle.run_outcome.proofs.Printed.{none_printed, on_ok, part_printed}
use Rattle.run_outcome.proofs.Refusals.{device_alone}
use Rattle.capture_engines.specs.Migrating.{Passed, PrintsMigrated, passed}
use Rattle.capture_engines.proofs.Sendings.{on_any}
use Rattle.capture_engines.proofs.Leaving.{moved_left, printed_left, untouched}
use Rattle.capture_engines.proofs.migrating.migrate.Goals as goal

pub returns-in_err-said-clause-left : goal.returns-in_err-said-clause-left
returns-in_err-said-clause-left g c =
    let p =
    err_from_is_err_and c.from_residual.result c.from_residual.ensures.1 in
    rw (p.1, p.2)
    (untouched c.in_err-said.field-0.0 _ _ _ _ c.in_err-said.ensures.refusal)

pub returns-in_err-records-clause-left : goal.returns-in_err-records-clause-left
returns-in_err-records-clause-left g c =
    let p =
    err_from_is_err_and c.from_residual-in_err-records.result
    c.from_residual-in_err-records.ensures.1 in
    rw (p.1, p.2)
    (moved_left c.in_err-records.field-0.0 c.in_ok-said.said.items _ _ _ _
    c.in_ok-said.ensures.read (rw c.deref.ensures.value at c.in_err-records.ensures.moved))

pub returns-clause-left : goal.returns-clause-left
returns-clause-left g c =
    let told = g.S.ByteSource in
    let sink = g.K.ByteSink in
    let sdp = g.D.ByteSource in
    let old : Passed =
    passed (told.gave c.args.source.now) (told.failures c.args.source.now)
    (sink.took c.args.sink.now) (sink.failures c.args.sink.now) in
    let new : Passed =
    passed (told.gave c.move_capture.new.source) (told.failures c.move_capture.new.source)
    (sink.took c.move_capture.new.sink) (sink.failures c.move_capture.new.sink) in
    printed_left c.print.result
    (GivesText 65535 (sdp.gave c.args.sdp.now) (sdp.gave c.read_checked.new.source)
    (sdp.ended c.read_checked.new.source)) (told.ended c.move_capture.new.source) old new (record {
      text = c.in_ok-said.said.items;
      count = c.in_ok-records.records;
      read = c.in_ok-said.ensures.read;
      written = rw c.deref.ensures.value at c.in_ok-records.ensures.migrated;
    }) c.print.ensures.unrefused

pub returns-clause-migrated : goal.returns-clause-migrated
returns-clause-migrated g c =
    let told = g.S.ByteSource in
    let sink = g.K.ByteSink in
    let sdp = g.D.ByteSource in
    let shown = g.O.ByteSink.took c.args.output.now in
    let shown' = g.O.ByteSink.took c.print.new.output in
    on_ok c.print.result
    (shown' ≡ shown ++ (line_text (Records c.in_ok-records.records) ++ 10 ∷ []))
    (PrintsMigrated (GivesText 65535 (sdp.gave c.args.sdp.now)
    (sdp.gave c.read_checked.new.source) (sdp.ended c.read_checked.new.source))
    (told.gave c.args.source.now) (told.gave c.move_capture.new.source)
    (told.ended c.move_capture.new.source) (sink.took c.args.sink.now)
    (sink.took c.move_capture.new.sink) shown shown')
    (λ printed. record {
      migrated = record {
        text = c.in_ok-said.said.items;
        count = c.in_ok-records.records;
        read = c.in_ok-said.ensures.read;
        written = rw c.deref.ensures.value at c.in_ok-records.ensures.migrated;
      };
      printed = printed;
    })
    c.print.ensures.printed

pub returns-clause-described : goal.returns-clause-described
returns-clause-described g c = on_any c.print.result _ c.in_ok-said.ensures.says

pub returns-clause-memory : goal.returns-clause-memory
returns-clause-memory g c = device_alone c.print.result _ c.print.ensures.device

pub returns-in_err-said-clause-printed : goal.returns-in_err-said-clause-printed
returns-in_err-said-clause-printed g c =
    none_printed c.from_residual.result g.O.ByteSink.took g.O.ByteSink.failures _ c.args.output.now

pub returns-in_err-records-clause-printed : goal.returns-in_err-records-clause-printed
returns-in_err-records-clause-printed g c =
    none_printed c.from_residual-in_err-records.result g.O.ByteSink.took g.O.ByteSink.failures _
    c.args.output.now

pub returns-clause-printed : goal.returns-clause-printed
returns-clause-printed g c =
    let told = g.S.ByteSource in
    let sink = g.K.ByteSink in
    let sdp = g.D.ByteSource in
    part_printed c.print.result g.O.ByteSink.took g.O.ByteSink.failures
    (PrintsMigrated (GivesText 65535 (sdp.gave c.args.sdp.now)
    (sdp.gave c.read_checked.new.source) (sdp.ended c.read_checked.new.source))
    (told.gave c.args.source.now) (told.gave c.move_capture.new.source)
    (told.ended c.move_capture.new.source) (sink.took c.args.sink.now)
    (sink.took c.move_capture.new.sink) []) _ c.args.output.now c.print.new.output
    (record {
      migrated = record {
        text = c.in_ok-said.said.items;
        count = c.in_ok-records.records;
        read = c.in_ok-said.ensures.read;
        written = rw c.deref.ensures.value at c.in_ok-records.ensures.migrated;
      };
      printed = refl;
    }) c.print.ensures.cut c.print.ensures.device c.print.ensures.failures
