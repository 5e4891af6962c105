use Rattle.std.proofs.Common.{List, [], false, inl, inr, refl, subst, sym, ℕ}
use Rattle.std.proofs.lemmas.Result.{err_from_is_err_and}
use Rattle.run_outcome.proofs.Printed.{none_printed, on_ok, part_printed, whenever}
use Rattle.run_outcome.proofs.Refusals.{device_alone, of_refusal_map}
use Rattle.run_outcome.proofs.SaidTexts.{text_says}
use Rattle.run_outcome.specs.TextRefusals.{SaysText}
use Rattle.run_outcome.specs.Moments.{WasRead}
use Rattle.capture_engines.specs.Sending.{SendsAll}
use Rattle.capture_engines.proofs.SentParts.{all_part, some_of}
use Rattle.capture_engines.proofs.sending.send.Goals as goal

pub returns-clause-sent : goal.returns-clause-sent
returns-clause-sent g c =
    on_ok c.print.result _ _
    (λ printed. record {
      text = c.deref.result.now;
      says =
          subst (λ (l : List ℕ). SaysText g.S.ByteSource.gave g.S.ByteSource.ended
          c.args.sdp.now c.read_said.new.sdp l)
          (sym c.deref.ensures.value) c.in_ok-said.ensures.says;
      count = c.in_ok-sent.sent;
      pictures = c.in_ok-sent.ensures.sent;
      line = printed;
    }) c.print.ensures.printed

pub returns-in_err-sent-clause-refusal : goal.returns-in_err-sent-clause-refusal
returns-in_err-sent-clause-refusal g c =
    let says =
    text_says g.S.ByteSource.gave g.S.ByteSource.ended c.args.sdp.now c.read_said.new.sdp _
    c.in_ok-said.ensures.says in
    let p =
    err_from_is_err_and c.from_residual-in_err-sent.result
    c.from_residual-in_err-sent.ensures.1 in
    rw (p.1, p.2) (of_refusal_map c.in_err-sent.field-0.0
    (λ r is. inr (c.in_ok-said.ensures.few, says, is)) c.in_err-sent.ensures.refusal)

pub returns-clause-memory : goal.returns-clause-memory
returns-clause-memory g c = device_alone c.print.result _ c.print.ensures.device

pub returns-in_err-said-clause-part : goal.returns-in_err-said-clause-part
returns-in_err-said-clause-part g c = whenever c.from_residual.result _ (inl (refl, refl))

pub returns-in_err-sent-clause-part : goal.returns-in_err-sent-clause-part
returns-in_err-sent-clause-part g c =
    let told = g.S.ByteSource in
    whenever c.from_residual-in_err-sent.result _
    (some_of told.gave told.ended _ false c.args.wanted c.args.wanted c.args.sdp.now
    c.read_said.new.sdp c.deref.result.now c.args.pictures.now c.send_pictures.new.pictures _ _
    (subst (λ (l : List ℕ). SaysText told.gave told.ended c.args.sdp.now c.read_said.new.sdp l)
    (sym c.deref.ensures.value) c.in_ok-said.ensures.says) refl c.in_err-sent.ensures.part)

pub returns-clause-part : goal.returns-clause-part
returns-clause-part g c =
    let told = g.S.ByteSource in
    whenever c.print.result _
    (some_of told.gave told.ended _ false c.args.wanted c.args.wanted c.args.sdp.now
    c.read_said.new.sdp c.deref.result.now c.args.pictures.now c.send_pictures.new.pictures _ _
    (subst (λ (l : List ℕ). SaysText told.gave told.ended c.args.sdp.now c.read_said.new.sdp l)
    (sym c.deref.ensures.value) c.in_ok-said.ensures.says) refl
    (all_part (WasRead told.gave told.ended) _ c.args.wanted c.deref.result.now
    c.args.pictures.now c.send_pictures.new.pictures _ _ _ c.in_ok-said.ensures.few
    c.in_ok-sent.ensures.sent))

pub returns-in_err-said-clause-printed : goal.returns-in_err-said-clause-printed
returns-in_err-said-clause-printed g c =
    none_printed c.from_residual.result g.O.ByteSink.took g.O.ByteSink.failures _ c.args.output.now

pub returns-in_err-sent-clause-printed : goal.returns-in_err-sent-clause-printed
returns-in_err-sent-clause-printed g c =
    none_printed c.from_residual-in_err-sent.result g.O.ByteSink.took g.O.ByteSink.failures _
    c.args.output.now

pub returns-clause-printed : goal.returns-clause-printed
returns-clause-printed g c =
    let told = g.S.ByteSource in
    part_printed c.print.result g.O.ByteSink.took g.O.ByteSink.failures
    (SendsAll told.gave told.ended c.args.wanted c.args.sdp.now c.read_said.new.sdp
    c.args.pictures.now c.send_pictures.new.pictures (g.K.ByteSink.took c.args.sink.now)
    (g.K.ByteSink.took c.send_pictures.new.sink) []) _ c.args.output.now c.print.new.output
    (record {
      text = c.deref.result.now;
      says =
          subst (λ (l : List ℕ). SaysText told.gave told.ended c.args.sdp.now c.read_said.new.sdp l)
          (sym c.deref.ensures.value) c.in_ok-said.ensures.says;
      count = c.in_ok-sent.sent;
      pictures = c.in_ok-sent.ensures.sent;
      line = refl;
    }) c.print.ensures.cut c.print.ensures.device c.print.ensures.failures
