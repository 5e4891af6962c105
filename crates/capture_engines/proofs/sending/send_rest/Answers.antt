use Rattle.std.proofs.Common.{ℕ, ap, arith, drop, drop-drop, refl, subst, sym, ◌∙◌}
use Rattle.std.proofs.lemmas.Result.{err_from_is_err_and}
use Rattle.run_outcome.specs.Moments.{WasRead}
use Rattle.run_outcome.proofs.Printed.{whenever}
use Rattle.run_outcome.proofs.Refusals.{of_refusal_map}
use Rattle.st_format.specs.Device.{Failed}
use Rattle.capture_engines.proofs.OneOf.{front_stays}
use Rattle.capture_engines.proofs.SentRefusals.{next_refused, none_are, one_more}
use Rattle.capture_engines.proofs.SentRefusals.{other_refused}
use Rattle.capture_engines.proofs.Sendings.{more_so_far, none_so_far, rest_sent}
use Rattle.capture_engines.proofs.SentParts.{rest_ended, rest_stopped}
use Rattle.capture_engines.proofs.sending.send_rest.Goals as goal

pub returns-in_err-picture-clause-refusal : goal.returns-in_err-picture-clause-refusal
returns-in_err-picture-clause-refusal g c =
    let told = WasRead g.S.ByteSource.gave g.S.ByteSource.ended in
    let start = c.args.pictures.now in
    let now = c.loop-place.pictures in
    let p = err_from_is_err_and c.from_residual.result c.from_residual.ensures.1 in
    rw (p.1, p.2) (of_refusal_map c.in_err-picture.field-0.0
    (next_refused c.args.sender.now.plan.format told c.loop-place.place start now _
    (omega (arith, c.loop-place.auto.place)) c.loop-place.invariant.behind
    c.in_err-picture.ensures.before c.loop-place.invariant.alike)
    c.in_err-picture.ensures.refusal)

pub returns-in_err-send-clause-refusal : goal.returns-in_err-send-clause-refusal
returns-in_err-send-clause-refusal g c =
    let told = WasRead g.S.ByteSource.gave g.S.ByteSource.ended in
    let start = c.args.pictures.now in
    let now = c.loop-place.pictures in
    let other = c.in_ok-picture.picture.format in
    let p = err_from_is_err_and c.from_residual-in_err-send.result
    c.from_residual-in_err-send.ensures.1 in
    rw (p.1, p.2) (of_refusal_map c.in_err-send.field-0.0
    (other_refused c.args.sender.now.plan.format c.loop-place.sender.plan.format other told
    c.loop-place.place start now _ (omega (arith, c.loop-place.auto.place))
    c.loop-place.invariant.behind c.in_ok-picture.ensures.before c.loop-place.invariant.alike
    (ap (λ x. x.format) c.loop-place.invariant.plan) c.in_ok-picture.ensures.says)
    c.in_err-send.ensures.refusal)

pub loop-place-init : goal.loop-place-init
loop-place-init g c = record {
  len = refl;
  room = c.requires.room;
  stands = c.requires.stands;
  plan = refl;
  behind = refl;
  front = refl;
  pictures = refl;
  sink = refl;
  names = refl;
  sent = none_so_far (WasRead g.S.ByteSource.gave g.S.ByteSource.ended) g.K.ByteSink.took
      c.args.pictures.now c.args.sender.now;
  alike = none_are (WasRead g.S.ByteSource.gave g.S.ByteSource.ended)
      c.args.sender.now.plan.format c.args.pictures.now c.args.pictures.now;
}

pub loop-place-preserved : goal.loop-place-preserved
loop-place-preserved g c =
    let l = c.loop-place in
    record {
      len = c.in_ok-picture.ensures.len ∙ l.invariant.len;
      room = c.in_ok-send.ensures.room;
      stands = c.in_ok-send.ensures.stands;
      plan = c.in_ok-send.ensures.plan ∙ l.invariant.plan;
      behind = c.in_ok-picture.ensures.behind ∙ sym (drop-drop 1 l.place l.pictures)
          ∙ ap (drop 1) l.invariant.behind ∙ drop-drop 1 l.place c.args.pictures.now;
      front = front_stays l.place c.args.pictures.now l.pictures _
          (omega (arith, l.auto.place)) c.in_ok-picture.ensures.before l.invariant.front;
      pictures = c.in_ok-picture.ensures.failures ∙ l.invariant.pictures;
      sink = c.in_ok-send.ensures.failures ∙ l.invariant.sink;
      names = c.in_ok-send.ensures.names ∙ l.invariant.names;
      sent = more_so_far (WasRead g.S.ByteSource.gave g.S.ByteSource.ended) g.K.ByteSink.took
          l.place c.args.pictures.now l.pictures _ c.in_ok-picture.picture c.args.sender.now
          l.sender c.send.new.self l.invariant.sent l.invariant.behind
          c.in_ok-picture.ensures.before c.in_ok-picture.ensures.shows
          c.in_ok-send.ensures.sent;
      alike = one_more (WasRead g.S.ByteSource.gave g.S.ByteSource.ended)
          c.args.sender.now.plan.format c.in_ok-picture.picture.format l.place
          c.args.pictures.now l.pictures _ (omega (arith, l.auto.place)) l.invariant.behind
          c.in_ok-picture.ensures.before l.invariant.alike
          (c.in_ok-send.ensures.sent.format ∙ ap (λ x. x.format) l.invariant.plan)
          c.in_ok-picture.ensures.says;
    }

pub returns-clause-sent : goal.returns-clause-sent
returns-clause-sent g c =
    let l = c.loop-place in
    rest_sent (WasRead g.S.ByteSource.gave g.S.ByteSource.ended) g.K.ByteSink.took l.place
    c.args.pictures.now l.pictures c.args.sender.now l.sender l.invariant.sent
    (omega (arith, l.invariant.len)) (omega (arith, l.invariant.len))

pub returns-in_err-picture-clause-front : goal.returns-in_err-picture-clause-front
returns-in_err-picture-clause-front g c =
    let l = c.loop-place in
    front_stays l.place c.args.pictures.now l.pictures _ (omega (arith, l.auto.place))
    c.in_err-picture.ensures.before l.invariant.front

pub returns-in_err-send-clause-front : goal.returns-in_err-send-clause-front
returns-in_err-send-clause-front g c =
    let l = c.loop-place in
    front_stays l.place c.args.pictures.now l.pictures _ (omega (arith, l.auto.place))
    c.in_ok-picture.ensures.before l.invariant.front

pub returns-in_err-picture-clause-part : goal.returns-in_err-picture-clause-part
returns-in_err-picture-clause-part g c =
    let l = c.loop-place in
    let start = c.args.pictures.now in
    whenever c.from_residual.result _
    (rest_stopped (WasRead g.S.ByteSource.gave g.S.ByteSource.ended) g.K.ByteSink.took _ l.place
    start l.pictures _ c.args.sender.now l.sender l.invariant.sent c.in_err-picture.ensures.before
    (c.in_err-picture.ensures.behind ∙ sym (drop-drop 1 l.place l.pictures)
    ∙ ap (drop 1) l.invariant.behind ∙ drop-drop 1 l.place start))

pub returns-in_err-send-clause-part : goal.returns-in_err-send-clause-part
returns-in_err-send-clause-part g c =
    let l = c.loop-place in
    let start = c.args.pictures.now in
    let failed = g.K.ByteSink.failures in
    whenever c.from_residual-in_err-send.result _
    (rest_ended (WasRead g.S.ByteSource.gave g.S.ByteSource.ended) g.K.ByteSink.took failed _
    l.place start l.pictures _ c.in_ok-picture.picture c.args.sender.now l.sender c.send.new.self
    c.in_err-send.field-0.0
    (λ fails. subst (λ (n : ℕ). Failed n (failed c.send.new.self.writer.sink)) l.invariant.sink
    fails) l.invariant.sent l.invariant.behind c.in_ok-picture.ensures.before
    (c.in_ok-picture.ensures.behind ∙ sym (drop-drop 1 l.place l.pictures)
    ∙ ap (drop 1) l.invariant.behind ∙ drop-drop 1 l.place start) c.in_ok-picture.ensures.shows
    c.in_err-send.ensures.part)
