use Rattle.std.proofs.Common.{◌≡◌, ℕ, List, [], ◌∷◌, ◌++◌, inl, inr, refl, rules, subst, sym}
use Rattle.std.proofs.lemmas.Result.{err_from_is_err_and}
use Rattle.run_outcome.specs.Moments.{WasRead, pair}
use Rattle.std.specs.List.{zip}
use Rattle.run_outcome.proofs.Printed.{none_printed, on_ok, part_printed, whenever}
use Rattle.run_outcome.proofs.Refusals.{device_alone, of_refusal_map}
use Rattle.run_outcome.proofs.SaidTexts.{text_says}
use Rattle.run_outcome.specs.Line.{line_text}
use Rattle.run_outcome.specs.TextRefusals.{SaysText}
use Rattle.run_outcome.specs.declared.line.Line.TheVariants.{Sent}
use Rattle.key_mix.specs.declared.Job.TheVariants.{Key}
use Rattle.receiver_engines.proofs.Parts.{sends_all, sends_none}
use Rattle.receiver_engines.specs.Processing.{PrintsSent, SendsSaidFiles}
use Rattle.receiver_engines.proofs.processing.process_said.Goals as goal

pub returns-clause-sent : goal.returns-clause-sent
returns-clause-sent g c =
    let sent = c.in_ok-sent.sent in
    let text = c.deref.result.now in
    let old = g.O.ByteSink.took c.args.output.now in
    let new = g.O.ByteSink.took c.print.new.output in
    let wanted = c.args.wanted in
    let gave = g.S.ByteSource.gave in
    let ended = g.S.ByteSource.ended in
    let widened : c.from.result ≡ sent = search rules in
    on_ok c.print.result (PrintsSent c.from.result old new)
    ((text : List ℕ) × SaysText gave ended c.args.sdp.now c.read_if_given.new.sdp text
    × ((count : ℕ) × SendsSaidFiles text (WasRead gave ended)
    (zip c.args.states.now c.process_files.new.states)
    (pair c.args.hold.now c.process_files.new.hold)
    wanted.job.now wanted.timestamp wanted.fill.now wanted.max_octets wanted.stamp
    (g.K.ByteSink.took c.args.sink.now) (g.K.ByteSink.took c.process_files.new.sink)
    count × PrintsSent count old new))
    (λ printed. (
      text,
      subst (λ (l : List ℕ). SaysText gave ended c.args.sdp.now c.read_if_given.new.sdp l)
          (sym c.deref.ensures.value) c.in_ok-said.ensures.says,
      (
        sent,
        c.in_ok-sent.ensures.sent,
        subst (λ n. PrintsSent n old new) widened printed,
      ),
    ))
    c.print.ensures.printed

pub returns-clause-part : goal.returns-clause-part
returns-clause-part g c =
    let text = c.deref.result.now in
    let sends = c.in_ok-sent.ensures.sent.sends in
    whenever c.print.result _ (
      text,
      sends_all text c.in_ok-sent.ensures.sent.job _ _ _ _ _ _ sends.takes,
    )

pub returns-in_err-check_job-clause-part : goal.returns-in_err-check_job-clause-part
returns-in_err-check_job-clause-part g c =
    let p = err_from_is_err_and c.from_residual.result c.from_residual.ensures.1 in
    rw (p.1) ([], sends_none [] Key _ _ _ _ refl)

pub returns-in_err-said-clause-part : goal.returns-in_err-said-clause-part
returns-in_err-said-clause-part g c =
    let p = err_from_is_err_and c.from_residual-in_err-said.result
    c.from_residual-in_err-said.ensures.1 in
    rw (p.1) ([], sends_none [] Key _ _ _ _ refl)

pub returns-in_err-sent-clause-part : goal.returns-in_err-sent-clause-part
returns-in_err-sent-clause-part g c =
    let p = err_from_is_err_and c.from_residual-in_err-sent.result
    c.from_residual-in_err-sent.ensures.1 in
    rw (p.1) (c.deref.result.now, c.in_err-sent.ensures.part)

pub returns-in_err-check_job-clause-refusal : goal.returns-in_err-check_job-clause-refusal
returns-in_err-check_job-clause-refusal g c =
    let p = err_from_is_err_and c.from_residual.result c.from_residual.ensures.1 in
    rw (p.1, p.2)
    (of_refusal_map c.in_err-check_job.field-0.0 (λ r is. inl is)
    c.in_err-check_job.ensures.refusal)

pub returns-in_err-said-clause-refusal : goal.returns-in_err-said-clause-refusal
returns-in_err-said-clause-refusal g c =
    let p = err_from_is_err_and c.from_residual-in_err-said.result
    c.from_residual-in_err-said.ensures.1 in
    rw (p.1, p.2)
    (of_refusal_map c.in_err-said.field-0.0 (λ r is. inr (c.in_ok-check_job.ensures.job, inl is))
    c.in_err-said.ensures.refusal)

pub returns-in_err-sent-clause-refusal : goal.returns-in_err-sent-clause-refusal
returns-in_err-sent-clause-refusal g c =
    let p = err_from_is_err_and c.from_residual-in_err-sent.result
    c.from_residual-in_err-sent.ensures.1 in
    rw (p.1, p.2)
    (of_refusal_map c.in_err-sent.field-0.0
    (λ r is. inr (
      c.in_ok-check_job.ensures.job,
      inr (
        text_says g.S.ByteSource.gave g.S.ByteSource.ended c.args.sdp.now c.read_if_given.new.sdp _
            c.in_ok-said.ensures.says,
        is,
      ),
    )) c.in_err-sent.ensures.refusal)

pub returns-clause-memory : goal.returns-clause-memory
returns-clause-memory g c = device_alone c.print.result _ c.print.ensures.device

pub returns-in_err-sent-clause-memory : goal.returns-in_err-sent-clause-memory
returns-in_err-sent-clause-memory g c =
    let p = err_from_is_err_and c.from_residual-in_err-sent.result
    c.from_residual-in_err-sent.ensures.1 in
    rw (p.1, p.2) (λ memory. (c.in_err-sent.ensures.memory memory, refl))

pub returns-in_err-check_job-clause-printed : goal.returns-in_err-check_job-clause-printed
returns-in_err-check_job-clause-printed g c =
    none_printed c.from_residual.result g.O.ByteSink.took g.O.ByteSink.failures _ c.args.output.now

pub returns-in_err-said-clause-printed : goal.returns-in_err-said-clause-printed
returns-in_err-said-clause-printed g c =
    none_printed c.from_residual-in_err-said.result g.O.ByteSink.took g.O.ByteSink.failures _
    c.args.output.now

pub returns-in_err-sent-clause-printed : goal.returns-in_err-sent-clause-printed
returns-in_err-sent-clause-printed g c =
    none_printed c.from_residual-in_err-sent.result g.O.ByteSink.took g.O.ByteSink.failures _
    c.args.output.now

pub returns-clause-printed : goal.returns-clause-printed
returns-clause-printed g c =
    let sent = c.in_ok-sent.sent in
    let text = c.deref.result.now in
    let wanted = c.args.wanted in
    let gave = g.S.ByteSource.gave in
    let ended = g.S.ByteSource.ended in
    let widened : c.from.result ≡ sent = search rules in
    part_printed c.print.result g.O.ByteSink.took g.O.ByteSink.failures
    (λ line. (text : List ℕ) × SaysText gave ended c.args.sdp.now c.read_if_given.new.sdp text
    × ((count : ℕ) × SendsSaidFiles text (WasRead gave ended)
    (zip c.args.states.now c.process_files.new.states)
    (pair c.args.hold.now c.process_files.new.hold)
    wanted.job.now wanted.timestamp wanted.fill.now wanted.max_octets wanted.stamp
    (g.K.ByteSink.took c.args.sink.now) (g.K.ByteSink.took c.process_files.new.sink)
    count × PrintsSent count [] line)) _ c.args.output.now c.print.new.output (
      text,
      subst (λ (l : List ℕ). SaysText gave ended c.args.sdp.now c.read_if_given.new.sdp l)
          (sym c.deref.ensures.value) c.in_ok-said.ensures.says,
      (
        sent,
        c.in_ok-sent.ensures.sent,
        subst (λ n. PrintsSent n [] (line_text (Sent c.from.result) ++ 10 ∷ [])) widened refl,
      ),
    )
    c.print.ensures.cut c.print.ensures.device c.print.ensures.failures
