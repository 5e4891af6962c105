use Rattle.std.proofs.Common.{ap, refl, rules, subst, sym, ◌<◌, ◌^◌, ◌∙◌, ℕ}
use Rattle.st_format.specs.declared.format.Format.{Format}
use Rattle.packet_plan.specs.Plan.{IsSize, RasterPlan}
use Rattle.run_outcome.proofs.SetSums.{counted_behind}
use Rattle.capture_engines.specs.Sending.{IsPlanOf}
use Rattle.capture_engines.proofs.Sendings.{if_ok_both, none_sent}
use Rattle.stream_sending.proofs.Sendings.{stream_sent}
use Rattle.st_format.specs.Device.{Failed}
use Rattle.run_outcome.proofs.Printed.{on_err}
use Rattle.capture_engines.proofs.SentParts.{device_counted, stamp_fits}
use Rattle.stream_sending.specs.Reading.{StopsFrames}
use Rattle.stream_sending.proofs.SentParts.{first_ended, front_ended, sink_back}
use Rattle.stream_sending.proofs.frames.send_from.Goals as goal

pub returns-clause-sent : goal.returns-clause-sent
returns-clause-sent g c =
    if_ok_both c.send_each-sent.result _ _ _
    (λ n each count. record {
      rest = each.rest;
      few = each.few;
      gave = each.gave;
      over = each.over;
      taken = stream_sent (λ m. g.K.ByteSink.took m.now) c.args.wanted c.args.said.now
          c.args.reader.now.format c.args.first each.rest (g.K.ByteSink.took c.args.sink.now) _ n
          c.in-Ok.writer c.new-sender.result c.send_each-sent.new.sender c.in-Ok.ensures.place
          c.in-Ok.ensures.took c.new-sender.ensures.writer c.new-sender.ensures.wanted
          c.new-sender.ensures.next c.new-sender.ensures.sent each.sent c.requires.format
          (search rules) count
          (subst (λ (f : Format). IsSize c.args.wanted.max_octets f)
          (sym c.requires.alike ∙ c.requires.format) c.requires.limits)
          (subst (λ (x : RasterPlan). IsPlanOf c.args.wanted.max_octets x)
          (sym c.new-sender.ensures.plan) c.requires.planned);
    }) c.send_each-sent.ensures.sent c.send_each-sent.ensures.count

pub returns-clause-failures : goal.returns-clause-failures
returns-clause-failures g c =
    counted_behind c.send_each-sent.result _ _ _ _ _
    (ap (λ w. g.K.ByteSink.failures w.sink.now) c.new-sender.ensures.writer
    ∙ c.in-Ok.ensures.counted) (search rules) c.send_each-sent.ensures.failures

pub returns-in-Err-clause-part : goal.returns-in-Err-clause-part
returns-in-Err-clause-part g c =
    let sink = g.K.ByteSink in
    let start = g.S.ByteSource.gave c.args.reader.now.source in
    let last = c.in-Err.failed.1.now in
    let old = c.args.sink.now in
    let f : Format = c.args.reader.now.format in
    let small : c.args.wanted.ssrc < 2 ^ 32 = search rules in
    sink_back sink.took sink.failures c.args.wanted c.args.said.now f c.args.first start start old
    last _ (search rules)
    (front_ended (Failed (sink.failures old) (sink.failures last)) c.args.wanted c.args.said.now f
    c.args.first c.args.plan start (sink.took old) (sink.took last) c.requires.alike
    c.requires.format
    (subst (λ (x : Format). IsSize c.args.wanted.max_octets x)
    (sym c.requires.alike ∙ c.requires.format) c.requires.limits) c.requires.planned
    c.requires.whole (stamp_fits f c.args.wanted c.requires.payload_type small)
    (device_counted c.in-Err.failed.0 (sink.failures old) (sink.failures last)
    c.in-Err.ensures.fault.0 c.in-Err.ensures.counted) c.in-Err.ensures.took)

pub returns-clause-part : goal.returns-clause-part
returns-clause-part g c =
    let told = g.S.ByteSource in
    let sink = g.K.ByteSink in
    let start = told.gave c.args.reader.now.source in
    let later = told.gave c.send_each-sent.new.reader.source in
    let old = c.args.sink.now in
    let f : Format = c.args.reader.now.format in
    let sender = c.new-sender in
    let last = c.send_each-sent.new.sender in
    on_err c.send_each-sent.result _ _
    (λ each. sink_back sink.took sink.failures c.args.wanted c.args.said.now f c.args.first start
    later old last.writer.sink.now _ (search rules)
    (first_ended (λ m. sink.took m.now)
    (Failed (sink.failures old) (sink.failures last.writer.sink.now)) c.args.wanted c.args.said.now
    f c.args.first start later (sink.took old) _ sender.result last c.requires.format
    (subst (λ (x : Format). IsSize c.args.wanted.max_octets x)
    (sym c.requires.alike ∙ c.requires.format) c.requires.limits)
    (none_sent (λ m. sink.took m.now) c.args.wanted c.args.said.now (sink.took old) sender.result
    sender.ensures.wanted sender.ensures.next
    (ap (λ w. w.place.paths) sender.ensures.writer ∙ ap (λ q. q.paths) c.in-Ok.ensures.place)
    (ap (λ w. w.place.moment) sender.ensures.writer ∙ ap (λ q. q.moment) c.in-Ok.ensures.place)
    sender.ensures.sent
    (ap (λ w. sink.took w.sink.now) sender.ensures.writer ∙ c.in-Ok.ensures.took)
    (subst (λ (x : RasterPlan). IsPlanOf c.args.wanted.max_octets x) (sym sender.ensures.plan)
    c.requires.planned))
    (subst (λ (n : ℕ). StopsFrames (λ m. sink.took m.now)
    (Failed n (sink.failures last.writer.sink.now)) f c.args.first start later sender.result last)
    (ap (λ w. sink.failures w.sink.now) sender.ensures.writer ∙ c.in-Ok.ensures.counted) each)
    refl)) c.send_each-sent.ensures.part
