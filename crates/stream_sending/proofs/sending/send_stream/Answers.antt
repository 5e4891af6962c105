use Rattle.std.proofs.Common.{List, [], inl, inr, refl, subst, sym, ℕ, ◌∙◌}
use Rattle.std.proofs.lemmas.Result.{err_from_is_err_and}
use Rattle.st_format.specs.History.{IsRead}
use Rattle.run_outcome.proofs.Printed.{none_printed, on_ok, part_printed, whenever}
use Rattle.run_outcome.proofs.Refusals.{device_alone, of_refusal_map}
use Rattle.run_outcome.proofs.SaidTexts.{text_says}
use Rattle.run_outcome.specs.TextRefusals.{IsCaptureText, SaysText}
use Rattle.capture_engines.proofs.Sendings.{on_any}
use Rattle.capture_engines.proofs.TypedTexts.{text_given}
use Rattle.capture_engines.specs.Typed.{IsSentBy}
use Rattle.stream_sending.specs.Sent.{IsFramesRefusal, SendsStream}
use Rattle.stream_sending.proofs.SentParts.{no_head, some_of}
use Rattle.stream_sending.proofs.sending.send_stream.Goals as goal

pub returns-clause-sent : goal.returns-clause-sent
returns-clause-sent g c =
    on_ok c.print.result _ _
    (λ printed. record {
      text = c.deref-2.result.now;
      says =
          subst (λ (l : List ℕ). SaysText g.S.ByteSource.gave g.S.ByteSource.ended
          c.args.sdp.now c.read_if_given.new.sdp l)
          (sym c.deref-2.ensures.value) c.in_ok-said.ensures.says;
      sending = c.in_ok-sending.sending;
      sending_is =
          subst (λ (l : List ℕ). IsSentBy c.args.by_sdp c.args.wanted l c.in_ok-sending.sending)
          (c.deref.ensures.value ∙ sym c.deref-2.ensures.value) c.in_ok-sending.ensures.sent;
      count = c.in_ok-sent.sent;
      frames = c.in_ok-sent.ensures.sent;
      line = printed;
    }) c.print.ensures.printed

pub sending_by-requires-clause-text : goal.sending_by-requires-clause-text
sending_by-requires-clause-text g c is =
    subst IsCaptureText (sym c.deref.ensures.value)
    (text_given g.S.ByteSource.gave g.S.ByteSource.ended c.args.sdp.now c.read_if_given.new.sdp _
    (c.requires.given is) c.in_ok-said.ensures.says)

pub returns-in_err-sent-clause-refusal : goal.returns-in_err-sent-clause-refusal
returns-in_err-sent-clause-refusal g c =
    let told = g.S.ByteSource in
    let f = c.in_err-sent.field-0.0 in
    let p = err_from_is_err_and c.from_residual-in_err-sent.result
    c.from_residual-in_err-sent.ensures.1 in
    let says =
    text_says told.gave told.ended c.args.sdp.now c.read_if_given.new.sdp _
    c.in_ok-said.ensures.says in
    rw (p.1, p.2)
    (of_refusal_map f (λ r is. inr (
      says,
      subst (λ (n : ℕ). IsFramesRefusal n (IsRead (told.gave c.args.stream.now)
          (told.gave c.send_frames.new.stream) (told.ended c.send_frames.new.stream)) r)
          c.in_ok-sending.ensures.size is,
    )) c.in_err-sent.ensures.refusal)

pub returns-clause-ended : goal.returns-clause-ended
returns-clause-ended g c = on_any c.print.result _ c.in_ok-sent.ensures.ended

pub returns-clause-memory : goal.returns-clause-memory
returns-clause-memory g c = device_alone c.print.result _ c.print.ensures.device

pub returns-in_err-said-clause-printed : goal.returns-in_err-said-clause-printed
returns-in_err-said-clause-printed g c =
    none_printed c.from_residual.result g.O.ByteSink.took g.O.ByteSink.failures _ c.args.output.now

pub returns-in_err-sending-clause-printed : goal.returns-in_err-sending-clause-printed
returns-in_err-sending-clause-printed g c =
    none_printed c.from_residual-in_err-sending.result g.O.ByteSink.took g.O.ByteSink.failures _ c.args.output.now

pub returns-in_err-sent-clause-printed : goal.returns-in_err-sent-clause-printed
returns-in_err-sent-clause-printed g c =
    none_printed c.from_residual-in_err-sent.result g.O.ByteSink.took g.O.ByteSink.failures _ c.args.output.now

pub returns-clause-printed : goal.returns-clause-printed
returns-clause-printed g c =
    let told = g.S.ByteSource in
    part_printed c.print.result g.O.ByteSink.took g.O.ByteSink.failures
    (SendsStream told.gave told.ended c.args.by_sdp c.args.wanted c.args.sdp.now
    c.read_if_given.new.sdp (IsRead (told.gave c.args.stream.now)
    (told.gave c.send_frames.new.stream) (told.ended c.send_frames.new.stream))
    (g.K.ByteSink.took c.args.sink.now) (g.K.ByteSink.took c.send_frames.new.sink) []) _
    c.args.output.now c.print.new.output
    (record {
      text = c.deref-2.result.now;
      says =
          subst (λ (l : List ℕ). SaysText told.gave told.ended c.args.sdp.now
          c.read_if_given.new.sdp l) (sym c.deref-2.ensures.value) c.in_ok-said.ensures.says;
      sending = c.in_ok-sending.sending;
      sending_is =
          subst (λ (l : List ℕ). IsSentBy c.args.by_sdp c.args.wanted l c.in_ok-sending.sending)
          (c.deref.ensures.value ∙ sym c.deref-2.ensures.value) c.in_ok-sending.ensures.sent;
      count = c.in_ok-sent.sent;
      frames = c.in_ok-sent.ensures.sent;
      line = refl;
    }) c.print.ensures.cut c.print.ensures.device c.print.ensures.failures

pub returns-in_err-said-clause-part : goal.returns-in_err-said-clause-part
returns-in_err-said-clause-part g c =
    whenever c.from_residual.result _ (inl (refl, no_head _))

pub returns-in_err-sending-clause-part : goal.returns-in_err-sending-clause-part
returns-in_err-sending-clause-part g c =
    whenever c.from_residual-in_err-sending.result _ (inl (refl, no_head _))

pub returns-in_err-sent-clause-part : goal.returns-in_err-sent-clause-part
returns-in_err-sent-clause-part g c =
    let told = g.S.ByteSource in
    whenever c.from_residual-in_err-sent.result _
    (some_of told.gave told.ended _ c.args.by_sdp c.args.wanted c.in_ok-sending.sending
    c.args.sdp.now c.read_if_given.new.sdp c.deref-2.result.now _ _ _ _
    (subst (λ (l : List ℕ). SaysText told.gave told.ended c.args.sdp.now c.read_if_given.new.sdp l)
    (sym c.deref-2.ensures.value) c.in_ok-said.ensures.says)
    (subst (λ (l : List ℕ). IsSentBy c.args.by_sdp c.args.wanted l c.in_ok-sending.sending)
    (c.deref.ensures.value ∙ sym c.deref-2.ensures.value) c.in_ok-sending.ensures.sent)
    c.send_frames.ensures.part)

pub returns-clause-part : goal.returns-clause-part
returns-clause-part g c =
    let told = g.S.ByteSource in
    whenever c.print.result _
    (some_of told.gave told.ended _ c.args.by_sdp c.args.wanted c.in_ok-sending.sending
    c.args.sdp.now c.read_if_given.new.sdp c.deref-2.result.now _ _ _ _
    (subst (λ (l : List ℕ). SaysText told.gave told.ended c.args.sdp.now c.read_if_given.new.sdp l)
    (sym c.deref-2.ensures.value) c.in_ok-said.ensures.says)
    (subst (λ (l : List ℕ). IsSentBy c.args.by_sdp c.args.wanted l c.in_ok-sending.sending)
    (c.deref.ensures.value ∙ sym c.deref-2.ensures.value) c.in_ok-sending.ensures.sent)
    c.send_frames.ensures.part)
