use Rattle.std.proofs.Common.{◌≡◌, ◌<◌, ◌+◌, [], ◌∷◌, ◌++◌, take, length, arith, ◌∙◌}
use Rattle.std.proofs.Common.{rules, subst, sym}
use Rattle.std.proofs.lemmas.List.{take_all}
use Rattle.run_outcome.specs.Moments.{WasRead}
use Rattle.std.specs.List.{zip}
use Rattle.receiver_engines.specs.Merging.{SaysReceiver}
use Rattle.receiver_engines.specs.Reading.{SayReceivers}
use Rattle.std.proofs.lemmas.Result.{err_from_is_err_and}
use Rattle.receiver_engines.proofs.FileRefusals.{first_refused, zip_before, zip_length}
use Rattle.receiver_engines.proofs.FileRefusals.{one_said, refused_at}
use Rattle.receiver_engines.proofs.Lists.{zip_next}
use Rattle.receiver_engines.proofs.reading.read_receivers.Goals as goal

pub loop-place-preserved : goal.loop-place-preserved
loop-place-preserved g c =
    let before = c.loop-place.invariant in
    let gave = g.S.ByteSource.gave in
    let ended = g.S.ByteSource.ended in
    let told = WasRead gave ended in
    let place = c.loop-place.place in
    let first = c.args.states.now in
    let mid = c.loop-place.states in
    let last = c.read_at.new.states in
    let receiver = c.in_ok-receiver.receiver in
    let pushed : c.push.new.self.items ≡ c.loop-place.receivers.items ++ receiver ∷ [] =
    search rules in
    let len : length last ≡ length first =
    omega (arith, before.len, c.in_ok-receiver.ensures.len) in
    let within : place < length first = omega (arith, before.len, c.loop-place-test.true) in
    let long : place < length (zip first last) =
    omega (arith, within, zip_length first last len) in
    let so_far : SayReceivers told (take place (zip first last)) c.loop-place.receivers.items =
    subst (λ l. SayReceivers told l c.loop-place.receivers.items)
    (sym (zip_before first mid last place before.len len c.in_ok-receiver.ensures.before))
    before.say in
    record {
      len = len;
      failures = omega (arith, before.failures, c.in_ok-receiver.ensures.failures);
      others = λ k s past. c.in_ok-receiver.ensures.others k s (omega (arith, past))
          ∙ before.others k s (omega (arith, past));
      say = subst (λ l. SayReceivers told (take (place + 1) (zip first last)) l)
          (sym pushed) (zip_next (λ s r. SaysReceiver (told s) r) (zip first last)
          c.loop-place.receivers.items place receiver long so_far
          (λ d. one_said gave ended first mid last place d receiver len within
          (λ s. before.others place s (omega arith)) c.in_ok-receiver.ensures.says));
    }

pub returns-in_err-receiver-clause-refused : goal.returns-in_err-receiver-clause-refused
returns-in_err-receiver-clause-refused g c =
    let before = c.loop-place.invariant in
    let gave = g.S.ByteSource.gave in
    let ended = g.S.ByteSource.ended in
    let told = WasRead gave ended in
    let place = c.loop-place.place in
    let first = c.args.states.now in
    let mid = c.loop-place.states in
    let last = c.read_at.new.states in
    let fault = c.in_err-receiver.field-0.0 in
    let len : length last ≡ length first =
    omega (arith, before.len, c.in_err-receiver.ensures.len) in
    let within : place < length first = omega (arith, before.len, c.loop-place-test.true) in
    let long : place < length (zip first last) =
    omega (arith, within, zip_length first last len) in
    let so_far : SayReceivers told (take place (zip first last)) c.loop-place.receivers.items =
    subst (λ l. SayReceivers told l c.loop-place.receivers.items)
    (sym (zip_before first mid last place before.len len c.in_err-receiver.ensures.before))
    before.say in
    let p = err_from_is_err_and c.from_residual.result c.from_residual.ensures.1 in
    rw (p.1, p.2)
    (first_refused told (zip first last) place c.loop-place.receivers.items fault long so_far
    (refused_at gave ended first mid last place fault len within
    (λ s. before.others place s (omega arith)) c.in_err-receiver.ensures.refused))

pub returns-clause-say : goal.returns-clause-say
returns-clause-say g c =
    let before = c.loop-place.invariant in
    let first = c.args.states.now in
    let last = c.loop-place.states in
    let told = WasRead g.S.ByteSource.gave g.S.ByteSource.ended in
    subst (λ l. SayReceivers told l c.loop-place.receivers.items)
    (take_all c.loop-place.place (zip first last)
    (omega (arith, c.loop-place-test.false, zip_length first last before.len, before.len)))
    before.say
