use Rattle.std.proofs.Common.{◌≡◌, refl, rules, subst, sym}
use Rattle.std.proofs.lemmas.Result.{err_from_is_err_and}
use Rattle.run_outcome.specs.Moments.{WasRead, pair}
use Rattle.std.specs.List.{zip}
use Rattle.receiver_engines.specs.Reading.{SayReceivers}
use Rattle.run_outcome.proofs.Refusals.{if_err_map, of_refusal_map}
use Rattle.key_mix.specs.declared.Job.TheVariants.{Key}
use Rattle.receiver_engines.proofs.Parts.{sends_none}
use Rattle.receiver_engines.proofs.Refusals.{held_refused, read_refused}
use Rattle.receiver_engines.proofs.Settling.{if_ok_map}
use Rattle.receiver_engines.proofs.processing.process_files.Goals as goal

pub returns-clause-sent : goal.returns-clause-sent
returns-clause-sent g c =
    let rs = c.in_ok-receivers.receivers.items in
    let lent : c.deref.result.now ≡ rs = search rules in
    if_ok_map c.send_frames.result (λ n sends. record {
      job = c.in-Some.job;
      job_is = c.in-Some.ensures.is;
      receivers = c.deref.result.now;
      receivers_are =
          subst (SayReceivers (WasRead g.S.ByteSource.gave g.S.ByteSource.ended)
          (zip c.args.states.now c.read_receivers.new.states)) (sym lent)
          c.in_ok-receivers.ensures.say;
      held = c.in_ok-held.held;
      held_is = c.in_ok-held.ensures.says;
      sends = sends;
    }) c.send_frames.ensures.sent

pub returns-clause-refusal : goal.returns-clause-refusal
returns-clause-refusal g c =
    let rs = c.in_ok-receivers.receivers.items in
    let lent : c.deref.result.now ≡ rs = search rules in
    let told = WasRead g.S.ByteSource.gave g.S.ByteSource.ended in
    let states = zip c.args.states.now c.read_receivers.new.states in
    let hold = pair c.args.hold.now c.read_held.new.hold in
    if_err_map c.send_frames.result (λ e is. of_refusal_map e (λ r refused.
    read_refused told states hold c.args.wanted r (record {
      job = c.in-Some.job;
      job_is = c.in-Some.ensures.is;
      receivers = c.deref.result.now;
      receivers_are =
          subst (SayReceivers told states) (sym lent)
          c.in_ok-receivers.ensures.say;
      held = c.in_ok-held.held;
      held_is = c.in_ok-held.ensures.says;
      refused = refused;
    })) is) c.send_frames.ensures.refusal

pub returns-in_err-held-clause-refusal : goal.returns-in_err-held-clause-refusal
returns-in_err-held-clause-refusal g c =
    let p =
    err_from_is_err_and c.from_residual-in_err-held.result c.from_residual-in_err-held.ensures.1 in
    rw (p.1, p.2)
    (of_refusal_map c.in_err-held.field-0.0 (λ r refused.
    held_refused (WasRead g.S.ByteSource.gave g.S.ByteSource.ended)
    (zip c.args.states.now c.read_receivers.new.states)
    (pair c.args.hold.now c.read_held.new.hold) c.args.wanted r
    (c.in-Some.job, c.in-Some.ensures.is)
    (record {
      receivers = c.in_ok-receivers.receivers.items;
      receivers_are = c.in_ok-receivers.ensures.say;
    }) refused) c.in_err-held.ensures.refused)

pub returns-in_err-receivers-clause-part : goal.returns-in_err-receivers-clause-part
returns-in_err-receivers-clause-part g c =
    let p = err_from_is_err_and c.from_residual.result c.from_residual.ensures.1 in
    rw (p.1) (sends_none c.args.said.now c.in-Some.job _ _ _ _ refl)

pub returns-in_err-held-clause-part : goal.returns-in_err-held-clause-part
returns-in_err-held-clause-part g c =
    let p = err_from_is_err_and c.from_residual-in_err-held.result
    c.from_residual-in_err-held.ensures.1 in
    rw (p.1) (sends_none c.args.said.now c.in-Some.job _ _ _ _ refl)

pub returns-in_default-clause-part : goal.returns-in_default-clause-part
returns-in_default-clause-part g c = sends_none c.args.said.now Key _ _ _ _ refl
