use Rattle.std.proofs.Common.{◌≡◌, ℕ, [], ◌++◌, ◌∙◌, Err, List, ap, refl, subst, sym, take}
use Rattle.std.proofs.lemmas.Result.{err_from_is_err_and}
use Rattle.run_outcome.proofs.Printed.{none_printed, on_ok}
use Rattle.capture_engines.proofs.Quiet.{printed_so}
use Rattle.run_outcome.proofs.Refusals.{device_alone, if_none_refused, none_refused}
use Rattle.run_outcome.specs.Fault.{counts}
use Rattle.packet_plan.specs.Plan.{IsFullPlan}
use Rattle.path_receiver.specs.Frames.{State}
use Rattle.st_format.specs.declared.format.Format.{Format}
use Rattle.capture_engines.specs.Looped.{IsLoopRefusal}
use Rattle.packet_plan.specs.Text.{datagram_texts}
use Rattle.st_format.specs.History.{IsRead}
use Rattle.capture_engines.specs.Looping.{Came, Link, Loops, Prints, loop_stamp}
use Rattle.capture_engines.proofs.Accounting.{accounts_last, blamed_second}
use Rattle.capture_engines.proofs.LoopRefusals.{plan_refused}
use Rattle.capture_engines.proofs.Quiet.{never_refused, not_refused}
use Rattle.capture_engines.proofs.looping.loop_back.Goals as goal

pub returns-in_err-plan-clause-refusal : goal.returns-in_err-plan-clause-refusal
returns-in_err-plan-clause-refusal g c =
    let told = (IsRead (g.S.ByteSource.gave c.args.source.now)
    (g.S.ByteSource.gave c.read_unpacked.new.source) (g.S.ByteSource.ended
    c.read_unpacked.new.source)) in
    let picture = c.in_ok-picture.picture in
    let p = err_from_is_err_and c.from_residual-in_err-plan.result
    c.from_residual-in_err-plan.ensures.1 in
    rw (p.1, p.2) (plan_refused c.args.wanted.max_octets told c.format.result
    (λ octets is. (picture, sym c.format.ensures.value, c.in_ok-picture.ensures.says octets is))
    c.in_err-plan.field-0.0 (λ is. c.in_err-plan.ensures.size.0 (ap Err is)))

pub returns-in_err-passed-clause-refusal : goal.returns-in_err-passed-clause-refusal
returns-in_err-passed-clause-refusal g c =
    let Is = IsLoopRefusal c.args.wanted.max_octets
    ((IsRead (g.S.ByteSource.gave c.args.source.now)
    (g.S.ByteSource.gave c.read_unpacked.new.source) (g.S.ByteSource.ended
    c.read_unpacked.new.source))) in
    let p = err_from_is_err_and c.from_residual-in_err-passed.result
    c.from_residual-in_err-passed.ensures.1 in
    rw (p.1, p.2) (none_refused Is c.in_err-passed.field-0.0 c.in_err-passed.ensures.unrefused)

pub returns-in_err-passed-clause-failures : goal.returns-in_err-passed-clause-failures
returns-in_err-passed-clause-failures g c =
    let p = err_from_is_err_and c.from_residual-in_err-passed.result
    c.from_residual-in_err-passed.ensures.1 in
    rw (p.1, p.2) (blamed_second c.in_err-passed.field-0.0
    (counts (g.S.ByteSource.failures c.args.source.now)
    (g.S.ByteSource.failures c.read_unpacked.new.source))
    (counts (g.L.DatagramSink.failures c.args.link.now)
    (g.L.DatagramSink.failures c.pass.new.link))
    (counts (g.O.ByteSink.failures c.args.output.now)
    (g.O.ByteSink.failures c.args.output.now))
    c.in_ok-picture.ensures.failures refl c.in_err-passed.ensures.failures)

pub returns-clause-refusal : goal.returns-clause-refusal
returns-clause-refusal g c =
    if_none_refused (IsLoopRefusal c.args.wanted.max_octets (IsRead (g.S.ByteSource.gave
    c.args.source.now)
    (g.S.ByteSource.gave c.read_unpacked.new.source) (g.S.ByteSource.ended
    c.read_unpacked.new.source))) c.print_passed.result
    c.print_passed.ensures.unrefused

pub returns-clause-looped : goal.returns-clause-looped
returns-clause-looped g c =
    let given =
    (IsRead (g.S.ByteSource.gave c.args.source.now)
    (g.S.ByteSource.gave c.read_unpacked.new.source) (g.S.ByteSource.ended
    c.read_unpacked.new.source)) in
    let old = g.O.ByteSink.took c.args.output.now in
    let new = g.O.ByteSink.took c.print_passed.new.output in
    let passed = c.in_ok-passed.passed in
    let plan = c.in_ok-plan.plan in
    let receiver : State = c.pass.new.receiver in
    let max = c.args.wanted.max_octets in
    let sent = c.in_ok-passed.ensures.sent in
    let before : Link =
    record {
      took = g.L.DatagramSink.took c.args.link.now;
      came = g.L.DatagramSource.came c.args.link.now;
      delivered = g.L.DatagramSource.delivered c.args.link.now;
    } in
    let after : Link =
    record {
      took = g.L.DatagramSink.took c.pass.new.link;
      came = g.L.DatagramSource.came c.pass.new.link;
      delivered = g.L.DatagramSource.delivered c.pass.new.link;
    } in
    on_ok c.print_passed.result (Prints passed.sent passed.delivered receiver old new)
    (Loops max c.args.wanted.limit given before after old new)
    (λ printed. record {
      picture = c.in_ok-picture.picture;
      packets = plan.packets;
      delivered = passed.delivered;
      receiver = receiver;
      read = c.in_ok-picture.ensures.says;
      plan =
          subst (λ (m : ℕ). IsFullPlan plan.packets c.in_ok-picture.picture.format m)
          c.in_ok-plan.ensures.made.1
          (subst (λ (f : Format). IsFullPlan plan.packets f plan.max_octets)
          (c.in_ok-plan.ensures.made.0 ∙ c.format.ensures.value) c.in_ok-passed.ensures.plan);
      put =
          subst (λ (n : ℕ). after.took ≡ before.took
          ++ take n (datagram_texts c.in_ok-picture.picture loop_stamp 0 plan.packets)) sent
          c.in_ok-passed.ensures.put;
      opening = c.in_ok-passed.ensures.opening ∙ c.in_ok-receiver.ensures.opening;
      came =
          subst (λ (n : ℕ). Came n passed.delivered before.came after.came receiver) sent
          c.in_ok-passed.ensures.came;
      counted = c.in_ok-passed.ensures.counted;
      printed =
          subst (λ (n : ℕ). Prints n passed.delivered receiver old new) sent printed;
    })
    c.print_passed.ensures.printed

pub returns-clause-failures : goal.returns-clause-failures
returns-clause-failures g c =
    accounts_last c.print_passed.result
    (counts (g.S.ByteSource.failures c.args.source.now)
    (g.S.ByteSource.failures c.read_unpacked.new.source))
    (counts (g.L.DatagramSink.failures c.args.link.now)
    (g.L.DatagramSink.failures c.pass.new.link))
    (counts (g.O.ByteSink.failures c.args.output.now)
    (g.O.ByteSink.failures c.print_passed.new.output))
    c.in_ok-picture.ensures.failures c.in_ok-passed.ensures.failures
    c.print_passed.ensures.failures

pub returns-in_err-passed-clause-apart : goal.returns-in_err-passed-clause-apart
returns-in_err-passed-clause-apart g c =
    let p = err_from_is_err_and c.from_residual-in_err-passed.result
    c.from_residual-in_err-passed.ensures.1 in
    rw (p.1, p.2) (not_refused _ c.in_err-passed.field-0.0 c.in_err-passed.ensures.unrefused)

pub returns-clause-apart : goal.returns-clause-apart
returns-clause-apart g c =
    never_refused _ c.print_passed.result c.print_passed.ensures.unrefused

pub returns-clause-quiet : goal.returns-clause-quiet
returns-clause-quiet g c =
    never_refused _ c.print_passed.result c.print_passed.ensures.unrefused

pub returns-clause-memory : goal.returns-clause-memory
returns-clause-memory g c = device_alone c.print_passed.result _ c.print_passed.ensures.device

pub returns-in_err-picture-clause-printed : goal.returns-in_err-picture-clause-printed
returns-in_err-picture-clause-printed g c =
    none_printed c.from_residual.result g.O.ByteSink.took g.O.ByteSink.failures _
    c.args.output.now

pub returns-in_err-plan-clause-printed : goal.returns-in_err-plan-clause-printed
returns-in_err-plan-clause-printed g c =
    none_printed c.from_residual-in_err-plan.result g.O.ByteSink.took g.O.ByteSink.failures _
    c.args.output.now

pub returns-in_err-receiver-clause-printed : goal.returns-in_err-receiver-clause-printed
returns-in_err-receiver-clause-printed g c =
    none_printed c.from_residual-in_err-receiver.result g.O.ByteSink.took g.O.ByteSink.failures _
    c.args.output.now

pub returns-in_err-buf-clause-printed : goal.returns-in_err-buf-clause-printed
returns-in_err-buf-clause-printed g c =
    none_printed c.from_residual-in_err-buf.result g.O.ByteSink.took g.O.ByteSink.failures _
    c.args.output.now

pub returns-in_err-passed-clause-printed : goal.returns-in_err-passed-clause-printed
returns-in_err-passed-clause-printed g c =
    none_printed c.from_residual-in_err-passed.result g.O.ByteSink.took g.O.ByteSink.failures _
    c.args.output.now

pub returns-clause-printed : goal.returns-clause-printed
returns-clause-printed g c =
    let given =
    (IsRead (g.S.ByteSource.gave c.args.source.now)
    (g.S.ByteSource.gave c.read_unpacked.new.source) (g.S.ByteSource.ended
    c.read_unpacked.new.source)) in
    let old : List ℕ = [] in
    let passed = c.in_ok-passed.passed in
    let plan = c.in_ok-plan.plan in
    let receiver : State = c.pass.new.receiver in
    let max = c.args.wanted.max_octets in
    let sent = c.in_ok-passed.ensures.sent in
    let before : Link =
    record {
      took = g.L.DatagramSink.took c.args.link.now;
      came = g.L.DatagramSource.came c.args.link.now;
      delivered = g.L.DatagramSource.delivered c.args.link.now;
    } in
    let after : Link =
    record {
      took = g.L.DatagramSink.took c.pass.new.link;
      came = g.L.DatagramSource.came c.pass.new.link;
      delivered = g.L.DatagramSource.delivered c.pass.new.link;
    } in
    printed_so c.print_passed.result g.O.ByteSink.took g.O.ByteSink.failures
    (Prints passed.sent passed.delivered receiver old)
    (Loops max c.args.wanted.limit given before after old) c.args.output.now
    c.print_passed.new.output
    (λ text printed. record {
      picture = c.in_ok-picture.picture;
      packets = plan.packets;
      delivered = passed.delivered;
      receiver = receiver;
      read = c.in_ok-picture.ensures.says;
      plan =
          subst (λ (m : ℕ). IsFullPlan plan.packets c.in_ok-picture.picture.format m)
          c.in_ok-plan.ensures.made.1
          (subst (λ (f : Format). IsFullPlan plan.packets f plan.max_octets)
          (c.in_ok-plan.ensures.made.0 ∙ c.format.ensures.value) c.in_ok-passed.ensures.plan);
      put =
          subst (λ (n : ℕ). after.took ≡ before.took
          ++ take n (datagram_texts c.in_ok-picture.picture loop_stamp 0 plan.packets)) sent
          c.in_ok-passed.ensures.put;
      opening = c.in_ok-passed.ensures.opening ∙ c.in_ok-receiver.ensures.opening;
      came =
          subst (λ (n : ℕ). Came n passed.delivered before.came after.came receiver) sent
          c.in_ok-passed.ensures.came;
      counted = c.in_ok-passed.ensures.counted;
      printed =
          subst (λ (n : ℕ). Prints n passed.delivered receiver old text) sent printed;
    })
    c.print_passed.ensures.part
