use Rattle.std.proofs.Common.{◌≡◌, ℕ, [], ◌∷◌, ◌++◌, refl, rules, subst}
use Rattle.std.proofs.lemmas.Result.{err_from_is_err_and}
use Rattle.run_outcome.specs.Moments.{WasRead, pair}
use Rattle.std.specs.List.{zip}
use Rattle.run_outcome.proofs.Printed.{none_printed, on_ok, part_printed, whenever}
use Rattle.run_outcome.proofs.Refusals.{device_alone}
use Rattle.run_outcome.specs.Line.{line_text}
use Rattle.run_outcome.specs.declared.line.Line.TheVariants.{Sent}
use Rattle.receiver_engines.proofs.Parts.{sends_all}
use Rattle.receiver_engines.specs.Processing.{PrintsSent, SendsFiles}
use Rattle.receiver_engines.proofs.processing.process.Goals as goal

pub returns-clause-sent : goal.returns-clause-sent
returns-clause-sent g c =
    let sent = c.in_ok-sent.sent in
    let old = g.O.ByteSink.took c.args.output.now in
    let new = g.O.ByteSink.took c.print.new.output in
    let wanted = c.args.wanted in
    let widened : c.from.result ≡ sent = search rules in
    on_ok c.print.result (PrintsSent c.from.result old new)
    ((count : ℕ) × SendsFiles (WasRead g.S.ByteSource.gave g.S.ByteSource.ended)
    (zip c.args.states.now c.process_files.new.states)
    (pair c.args.hold.now c.process_files.new.hold)
    wanted.job.now wanted.timestamp wanted.fill.now wanted.max_octets wanted.stamp
    (g.K.ByteSink.took c.args.sink.now) (g.K.ByteSink.took c.process_files.new.sink)
    count × PrintsSent count old new)
    (λ printed. (
      sent,
      c.in_ok-sent.ensures.sent,
      subst (λ n. PrintsSent n old new) widened printed,
    ))
    c.print.ensures.printed

pub returns-clause-part : goal.returns-clause-part
returns-clause-part g c =
    let sends = c.in_ok-sent.ensures.sent.sends in
    whenever c.print.result _ (sends_all [] c.in_ok-sent.ensures.sent.job _ _ _ _ _ _ sends.takes)

pub returns-clause-memory : goal.returns-clause-memory
returns-clause-memory g c = device_alone c.print.result _ c.print.ensures.device

pub returns-in_err-sent-clause-memory : goal.returns-in_err-sent-clause-memory
returns-in_err-sent-clause-memory g c =
    let p = err_from_is_err_and c.from_residual.result c.from_residual.ensures.1 in
    rw (p.1, p.2) (λ memory. (c.in_err-sent.ensures.memory memory, refl))

pub returns-in_err-sent-clause-printed : goal.returns-in_err-sent-clause-printed
returns-in_err-sent-clause-printed g c =
    none_printed c.from_residual.result g.O.ByteSink.took g.O.ByteSink.failures _ c.args.output.now

pub returns-clause-printed : goal.returns-clause-printed
returns-clause-printed g c =
    let sent = c.in_ok-sent.sent in
    let wanted = c.args.wanted in
    let widened : c.from.result ≡ sent = search rules in
    part_printed c.print.result g.O.ByteSink.took g.O.ByteSink.failures
    (λ line. (count : ℕ) × SendsFiles (WasRead g.S.ByteSource.gave g.S.ByteSource.ended)
    (zip c.args.states.now c.process_files.new.states)
    (pair c.args.hold.now c.process_files.new.hold)
    wanted.job.now wanted.timestamp wanted.fill.now wanted.max_octets wanted.stamp
    (g.K.ByteSink.took c.args.sink.now) (g.K.ByteSink.took c.process_files.new.sink)
    count × PrintsSent count [] line) _ c.args.output.now c.print.new.output (
      sent,
      c.in_ok-sent.ensures.sent,
      subst (λ n. PrintsSent n [] (line_text (Sent c.from.result) ++ 10 ∷ [])) widened refl,
    )
    c.print.ensures.cut c.print.ensures.device c.print.ensures.failures
