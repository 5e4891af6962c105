use Rattle.std.proofs.Common.{◌≡◌, ◌++◌, ◌∷◌, [], ℕ, None, arith, rules, ap, subst, ◌∙◌}
use Rattle.key_mix.proofs.Prepared.{of_job}
use Rattle.key_mix.proofs.Sent.{length-sent}
use Rattle.media_file.proofs.Putting.{each_faultless, each_lent, fails_lent, fails_once}
use Rattle.media_file.specs.Writer.{WriterPlace, written_text}
use Rattle.media_file.specs.declared.paths.Paths.TheVariants.{OnlyA}
use Rattle.packet_plan.specs.Text.{IsStamp, datagram_texts}
use Rattle.run_outcome.proofs.Blaming.{failed_one}
use Rattle.st_format.specs.Device.{CountsOne, Failed, GrowsPart}
use Rattle.receiver_engines.proofs.Captures.{front_cut, lent, open_failed, texts_of_job}
use Rattle.receiver_engines.proofs.Captures.{writes_all, writes_part}
use Rattle.receiver_engines.proofs.Parts.{sends_part}
use Rattle.receiver_engines.proofs.processing.send_capture.Goals as goal

-- the front was cut

pub returns-in-Err-clause-part : goal.returns-in-Err-clause-part
returns-in-Err-clause-part g c = λ job pictures size is.
    let p = c.args.prepared.now in
    let took = g.K.ByteSink.took in
    let text = c.args.said.now in
    let fits : IsStamp c.args.stamp = record {
      payload_type = omega (arith, c.requires.payload_type);
      timestamp = omega (arith);
      ssrc = omega (arith);
    } in
    let datagrams = datagram_texts p.picture c.args.stamp 0 p.plan.packets in
    let named = c.in-Err.ensures.names in
    let name : c.in-Err.failed.1.sink.ghost_name ≡ c.new.result.sink.ghost_name =
    cc (named) in
    sends_part text job pictures size c.args.stamp _ _ datagrams
    (texts_of_job p job pictures size c.args.stamp is fits)
    (lent (λ s t. GrowsPart (took s) (took t) (written_text OnlyA text datagrams)) _ _
    c.new.result.sink.now c.in-Err.failed.1.sink.now (search rules) (search rules)
    (front_cut _ _ text datagrams c.in-Err.ensures.took))

pub returns-in-Err-clause-failures : goal.returns-in-Err-clause-failures
returns-in-Err-clause-failures g c =
    let failures = g.K.ByteSink.failures in
    let named = c.in-Err.ensures.names in
    let name : c.in-Err.failed.1.sink.ghost_name ≡ c.new.result.sink.ghost_name =
    cc (named) in
    lent (λ s t. Failed (failures s) (failures t)) _ _
    c.new.result.sink.now c.in-Err.failed.1.sink.now (search rules) (search rules)
    (open_failed c.in-Err.failed.0 _ _ c.in-Err.ensures.fault.0
    c.in-Err.ensures.counted)

-- all was sent

pub returns-in-Ok-sent-clause-sent : goal.returns-in-Ok-sent-clause-sent
returns-in-Ok-sent-clause-sent g c = λ job pictures size is.
    let p = c.args.prepared.now in
    let took = g.K.ByteSink.took in
    let text = c.args.said.now in
    let old = c.in-Ok.capture in
    let new = c.send-sent.new.sink in
    let puts = c.in-Ok-sent.ensures.puts in
    let long = length-sent p.picture c.args.stamp 0 p.plan.packets puts.datagrams puts.sent.sent in
    let named =
    each_lent (λ _. None) (λ u. took u.sink.now) (λ u. g.K.ByteSink.failures u.sink.now)
    (λ u. u.sink.ghost_name ∷ []) old puts.datagrams new puts.taken in
    let opened = c.in-Ok.ensures.names in
    let name : new.sink.sink.ghost_name ≡ c.new.result.sink.ghost_name = cc (named, opened) in
    record {
      datagrams = puts.datagrams;
      spell = of_job p job pictures size c.args.stamp is puts.datagrams puts.sent;
      written =
          lent (λ s t. took t ≡ took s ++ written_text OnlyA text puts.datagrams) _ _
          c.new.result.sink.now new.sink.sink.now (search rules) (search rules)
          (writes_all (λ _. None) (λ u. took u.sink.now) (λ u. g.K.ByteSink.failures u.sink.now)
          (λ u. u.sink.ghost_name ∷ []) text (took c.new.result.sink.now) old new puts.datagrams
          c.in-Ok.ensures.place c.in-Ok.ensures.took puts.taken);
      count_is = omega (arith, long, c.in-Ok-sent.ensures.next);
    }

pub returns-in-Ok-sent-clause-failures : goal.returns-in-Ok-sent-clause-failures
returns-in-Ok-sent-clause-failures g c =
    let failures = g.K.ByteSink.failures in
    let old = c.in-Ok.capture in
    let new = c.send-sent.new.sink in
    let puts = c.in-Ok-sent.ensures.puts in
    let named =
    each_lent (λ _. None) (λ u. g.K.ByteSink.took u.sink.now) (λ u. failures u.sink.now)
    (λ u. u.sink.ghost_name ∷ []) old puts.datagrams new puts.taken in
    let opened = c.in-Ok.ensures.names in
    let name : new.sink.sink.ghost_name ≡ c.new.result.sink.ghost_name = cc (named, opened) in
    lent (λ s t. failures t ≡ failures s) _ _ c.new.result.sink.now new.sink.sink.now
    (search rules) (search rules)
    (each_faultless (λ _. None) (λ u. g.K.ByteSink.took u.sink.now) (λ u. failures u.sink.now)
    (λ u. u.sink.ghost_name ∷ []) old puts.datagrams new puts.taken ∙ c.in-Ok.ensures.counted)

-- a part of the datagrams was sent

pub returns-in-Err-sent-clause-part : goal.returns-in-Err-sent-clause-part
returns-in-Err-sent-clause-part g c = λ job pictures size is.
    let p = c.args.prepared.now in
    let took = g.K.ByteSink.took in
    let text = c.args.said.now in
    let old = c.in-Ok.capture in
    let new = c.send-sent.new.sink in
    let puts = c.in-Err-sent.ensures.puts_part in
    let named =
    fails_lent (λ _. None) (λ u. took u.sink.now) (λ u. g.K.ByteSink.failures u.sink.now)
    (λ u. u.sink.ghost_name ∷ []) old puts.datagrams _ new puts.failed in
    let opened = c.in-Ok.ensures.names in
    let name : new.sink.sink.ghost_name ≡ c.new.result.sink.ghost_name = cc (named, opened) in
    sends_part text job pictures size c.args.stamp _ _ puts.datagrams
    (of_job p job pictures size c.args.stamp is puts.datagrams puts.sent)
    (lent (λ s t. GrowsPart (took s) (took t) (written_text OnlyA text puts.datagrams)) _ _
    c.new.result.sink.now new.sink.sink.now (search rules) (search rules)
    (writes_part (λ _. None) (λ u. took u.sink.now) (λ u. g.K.ByteSink.failures u.sink.now)
    (λ u. u.sink.ghost_name ∷ []) text (took c.new.result.sink.now) old new puts.datagrams _
    c.in-Ok.ensures.place c.in-Ok.ensures.took puts.failed))

pub returns-in-Err-sent-clause-failures : goal.returns-in-Err-sent-clause-failures
returns-in-Err-sent-clause-failures g c =
    let failures = g.K.ByteSink.failures in
    let old = c.in-Ok.capture in
    let new = c.send-sent.new.sink in
    let puts = c.in-Err-sent.ensures.puts_part in
    let named =
    fails_lent (λ _. None) (λ u. g.K.ByteSink.took u.sink.now) (λ u. failures u.sink.now)
    (λ u. u.sink.ghost_name ∷ []) old puts.datagrams _ new puts.failed in
    let opened = c.in-Ok.ensures.names in
    let name : new.sink.sink.ghost_name ≡ c.new.result.sink.ghost_name = cc (named, opened) in
    let stands = ap (λ (q : WriterPlace). q.failed) c.in-Ok.ensures.place in
    lent (λ s t. Failed (failures s) (failures t)) _ _ c.new.result.sink.now new.sink.sink.now
    (search rules) (search rules)
    (failed_one _ _ (subst (λ (n : ℕ). CountsOne n (failures new.sink.sink.now))
    c.in-Ok.ensures.counted
    (fails_once (λ _. None) (λ u. g.K.ByteSink.took u.sink.now) (λ u. failures u.sink.now)
    (λ u. u.sink.ghost_name ∷ []) old puts.datagrams _ new stands puts.failed)))
