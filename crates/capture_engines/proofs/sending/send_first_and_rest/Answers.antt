use Rattle.std.proofs.Common.{rules, ap, arith, drop, refl, sym, subst, ◌<◌, ◌^◌, ◌∙◌, ◌∷◌, [], ℕ}
use Rattle.std.proofs.Common.{length-drop}
use Rattle.packet_plan.specs.Plan.{IsSize, RasterPlan}
use Rattle.st_format.specs.declared.format.Format.{Format}
use Rattle.run_outcome.specs.Moments.{WasRead}
use Rattle.run_outcome.proofs.SetSums.{counted_behind}
use Rattle.capture_engines.specs.Sending.{IsPlanOf}
use Rattle.run_outcome.proofs.Printed.{on_err}
use Rattle.st_format.specs.Device.{Failed}
use Rattle.capture_engines.specs.SentPart.{StopsBehind}
use Rattle.capture_engines.proofs.SentParts.{device_counted, first_and_part, front_cut, sink_back}
use Rattle.capture_engines.proofs.SentParts.{stamp_fits}
use Rattle.capture_engines.proofs.Sendings.{first_and_rest_sent, first_sent, if_ok_both, none_sent}
use Rattle.capture_engines.proofs.sending.send_first_and_rest.Goals as goal

pub returns-clause-sent : goal.returns-clause-sent
returns-clause-sent g c =
    let pictures = c.args.pictures.now in
    if_ok_both c.send_each-sent.result _ _ _
    (λ n each count. first_and_rest_sent (WasRead g.S.ByteSource.gave g.S.ByteSource.ended)
    (λ m. g.K.ByteSink.took m.now)
    c.args.wanted c.args.said.now c.args.picture (drop 1 pictures) _
    (g.K.ByteSink.took c.args.sink.now) _ n each.between c.send_each-sent.new.sender
    (omega (arith, length-drop 1 pictures))
    (subst (λ (f : Format). IsSize c.args.wanted.max_octets f) (sym c.requires.alike)
    c.requires.limits)
    (first_sent (λ m. g.K.ByteSink.took m.now) c.args.wanted c.args.said.now
    (g.K.ByteSink.took c.args.sink.now) c.args.picture c.in-Ok.writer c.new-sender.result
    each.between c.in-Ok.ensures.place c.in-Ok.ensures.took c.new-sender.ensures.writer
    c.new-sender.ensures.wanted c.new-sender.ensures.next c.new-sender.ensures.sent
    (subst (λ (x : RasterPlan). IsPlanOf c.args.wanted.max_octets x)
    (sym c.new-sender.ensures.plan) c.requires.planned) each.sent)
    each.rest (search rules) count) c.send_each-sent.ensures.sent
    c.send_each-sent.ensures.count

pub returns-clause-failures : goal.returns-clause-failures
returns-clause-failures g c =
    counted_behind c.send_each-sent.result _ _ _ _ _
    (ap (λ w. g.K.ByteSink.failures w.sink.now) c.new-sender.ensures.writer
    ∙ c.in-Ok.ensures.counted) (search rules) c.send_each-sent.ensures.failures

pub returns-in-Err-clause-part : goal.returns-in-Err-clause-part
returns-in-Err-clause-part g c =
    let told = WasRead g.S.ByteSource.gave g.S.ByteSource.ended in
    let sink = g.K.ByteSink in
    let last = c.in-Err.failed.1.now in
    let behind = drop 1 c.args.pictures.now in
    let old = c.args.sink.now in
    let small : c.args.wanted.ssrc < 2 ^ 32 = search rules in
    sink_back told sink.took sink.failures c.args.wanted c.args.said.now c.args.picture behind behind
    old last _ (search rules)
    (front_cut told (Failed (sink.failures old) (sink.failures last)) c.args.wanted c.args.said.now
    c.args.picture c.args.plan behind (sink.took old) (sink.took last) c.requires.alike
    (subst (λ (f : Format). IsSize c.args.wanted.max_octets f) (sym c.requires.alike)
    c.requires.limits) c.requires.planned c.requires.whole
    (stamp_fits c.args.picture.format c.args.wanted c.requires.payload_type small)
    (device_counted c.in-Err.failed.0 (sink.failures old) (sink.failures last)
    c.in-Err.ensures.fault.0 c.in-Err.ensures.counted) c.in-Err.ensures.took)

pub returns-clause-part : goal.returns-clause-part
returns-clause-part g c =
    let told = WasRead g.S.ByteSource.gave g.S.ByteSource.ended in
    let sink = g.K.ByteSink in
    let pictures = c.args.pictures.now in
    let old = c.args.sink.now in
    let sender = c.new-sender in
    let last = c.send_each-sent.new.sender in
    let later = drop 1 c.send_each-sent.new.pictures in
    on_err c.send_each-sent.result _ _
    (λ each. sink_back told sink.took sink.failures c.args.wanted c.args.said.now c.args.picture
    (drop 1 pictures) later old last.writer.sink.now _ (search rules)
    (first_and_part told (λ m. sink.took m.now)
    (Failed (sink.failures old) (sink.failures last.writer.sink.now)) c.args.wanted c.args.said.now
    c.args.picture (drop 1 pictures) later (sink.took old) _ sender.result last
    (omega (arith, length-drop 1 pictures))
    (subst (λ (f : Format). IsSize c.args.wanted.max_octets f) (sym c.requires.alike)
    c.requires.limits)
    (none_sent (λ m. sink.took m.now) c.args.wanted c.args.said.now (sink.took old) sender.result
    sender.ensures.wanted sender.ensures.next
    (ap (λ w. w.place.paths) sender.ensures.writer ∙ ap (λ q. q.paths) c.in-Ok.ensures.place)
    (ap (λ w. w.place.moment) sender.ensures.writer ∙ ap (λ q. q.moment) c.in-Ok.ensures.place)
    sender.ensures.sent
    (ap (λ w. sink.took w.sink.now) sender.ensures.writer ∙ c.in-Ok.ensures.took)
    (subst (λ (x : RasterPlan). IsPlanOf c.args.wanted.max_octets x) (sym sender.ensures.plan)
    c.requires.planned))
    (subst (λ (n : ℕ). StopsBehind told (λ m. sink.took m.now)
    (Failed n (sink.failures last.writer.sink.now)) 0 (c.args.picture ∷ []) (drop 1 pictures) later
    sender.result last)
    (ap (λ w. sink.failures w.sink.now) sender.ensures.writer ∙ c.in-Ok.ensures.counted) each)
    refl)) c.send_each-sent.ensures.part
