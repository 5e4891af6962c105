use Rattle.std.proofs.Common.{[], ◌∷◌, Err, ap, arith, refl}
use Rattle.std.proofs.lemmas.Result.{IfOk-weaker, err_from_is_err_and}
use Rattle.run_outcome.proofs.Refusals.{if_err_map, of_refusal_map}
use Rattle.stream_sending.proofs.FramesRead.{gave_end, gave_first, gave_none, plan_refused}
use Rattle.stream_sending.proofs.FramesRead.{refused_first, refused_next, sized}
use Rattle.picture_forms.proofs.Begun.{no_frame}
use Rattle.run_outcome.proofs.Printed.{on_err, whenever}
use Rattle.stream_sending.proofs.SentParts.{none_ended, opened_ended}
use Rattle.stream_sending.proofs.frames.send_opened.Goals as goal

pub returns-in_err-plan-clause-refusal : goal.returns-in_err-plan-clause-refusal
returns-in_err-plan-clause-refusal g c =
    let p = err_from_is_err_and c.from_residual.result c.from_residual.ensures.1 in
    rw (p.1, p.2)
    (plan_refused c.args.wanted.max_octets c.args.reader.now.format c.format-format.result
    (g.S.ByteSource.gave c.args.reader.now.source) _ c.in_err-plan.field-0.0
    c.format-format.ensures.value (λ is. c.in_err-plan.ensures.size.0 (ap Err is)))

pub returns-in_err-first-clause-refusal : goal.returns-in_err-first-clause-refusal
returns-in_err-first-clause-refusal g c =
    let p = err_from_is_err_and c.from_residual-in_err-first.result
    c.from_residual-in_err-first.ensures.1 in
    rw (p.1, p.2) (of_refusal_map c.in_err-first.field-0.0
    (refused_next c.args.wanted.max_octets c.args.reader.now.format _ _ _
    (sized c.args.wanted.max_octets _ c.args.reader.now.format _ _ c.facts.ensures.full.limits
    c.in_ok-plan.ensures.made.1 c.in_ok-plan.ensures.made.0 c.format-format.ensures.value))
    c.in_err-first.ensures.refusal)

pub returns-in-None-clause-sent : goal.returns-in-None-clause-sent
returns-in-None-clause-sent g c =
    let f = c.args.reader.now.format in
    let start = g.S.ByteSource.gave c.args.reader.now.source in
    let gave = rw c.in-None.is at c.in_ok-first.ensures.gave in
    record {
      limits = sized c.args.wanted.max_octets _ f _ _ c.facts.ensures.full.limits
          c.in_ok-plan.ensures.made.1 c.in_ok-plan.ensures.made.0 c.format-format.ensures.value;
      pictures = [];
      few = omega arith;
      gave = gave_end f [] start start _ (gave_none f start) gave.0;
      over = gave.1;
      taken = (refl, refl);
    }

pub returns-in-Some-clause-sent : goal.returns-in-Some-clause-sent
returns-in-Some-clause-sent g c =
    let f = c.args.reader.now.format in
    let next = c.in_ok-first.ensures in
    IfOk-weaker c.send_from.result _ _
    (λ n sends. record {
      limits = sized c.args.wanted.max_octets _ f _ _ c.facts.ensures.full.limits
          c.in_ok-plan.ensures.made.1 c.in_ok-plan.ensures.made.0 c.format-format.ensures.value;
      pictures = c.in-Some.first ∷ sends.rest;
      few = omega (arith, sends.few);
      gave = gave_first f c.in-Some.first sends.rest _ _ _ (rw c.in-Some.is at next.gave)
          sends.gave;
      over = sends.over;
      taken = sends.taken;
    }) (rw next.format at c.send_from.ensures.sent)

pub returns-in-Some-clause-refusal : goal.returns-in-Some-clause-refusal
returns-in-Some-clause-refusal g c =
    let f = c.args.reader.now.format in
    let next = c.in_ok-first.ensures in
    if_err_map c.send_from.result
    (λ e. of_refusal_map e (refused_first c.args.wanted.max_octets f c.in-Some.first _ _ _ _
    (sized c.args.wanted.max_octets _ f _ _ c.facts.ensures.full.limits
    c.in_ok-plan.ensures.made.1 c.in_ok-plan.ensures.made.0 c.format-format.ensures.value)
    (rw c.in-Some.is at next.gave)))
    (rw next.format at c.send_from.ensures.refusal)

pub send_from-requires-clause-planned : goal.send_from-requires-clause-planned
send_from-requires-clause-planned g c =
    record { size = c.in_ok-plan.ensures.made.1; full = c.facts.ensures.full }

pub returns-in_err-plan-clause-part : goal.returns-in_err-plan-clause-part
returns-in_err-plan-clause-part g c =
    let f = c.args.reader.now.format in
    whenever c.from_residual.result _
    (none_ended _ c.args.wanted c.args.said.now f _ _ _ (no_frame f _))

pub returns-in_err-blank-clause-part : goal.returns-in_err-blank-clause-part
returns-in_err-blank-clause-part g c =
    let f = c.args.reader.now.format in
    whenever c.from_residual-in_err-blank.result _
    (none_ended _ c.args.wanted c.args.said.now f _ _ _ (no_frame f _))

pub returns-in_err-buf-clause-part : goal.returns-in_err-buf-clause-part
returns-in_err-buf-clause-part g c =
    let f = c.args.reader.now.format in
    whenever c.from_residual-in_err-buf.result _
    (none_ended _ c.args.wanted c.args.said.now f _ _ _ (no_frame f _))

pub returns-in_err-first-clause-part : goal.returns-in_err-first-clause-part
returns-in_err-first-clause-part g c =
    whenever c.from_residual-in_err-first.result _
    (none_ended _ c.args.wanted c.args.said.now c.args.reader.now.format _ _ _
    c.in_err-first.ensures.gave_part)

pub returns-in-Some-clause-part : goal.returns-in-Some-clause-part
returns-in-Some-clause-part g c =
    let next = c.in_ok-first.ensures in
    on_err c.send_from.result _ _
    (opened_ended _ c.args.wanted c.args.said.now c.args.reader.now.format c.in-Some.first _ _ _ _ _
    (rw c.in-Some.is at next.gave)) (rw next.format at c.send_from.ensures.part)

pub send_from-requires-clause-whole : goal.send_from-requires-clause-whole
send_from-requires-clause-whole g c = (rw c.in-Some.is at c.in_ok-first.ensures.gave).1.0
