use Rattle.std.proofs.Common.{◌≡◌, ap, refl, rules, subst, ◌∙◌}
use Rattle.std.proofs.lemmas.Result.{err_from_is_err_and}
use Rattle.key_mix.specs.Sending.{IsSendable, input_formats, settled_inputs}
use Rattle.receiver_engines.specs.Inputs.{IsHeldFor, frames_lent, raster_formats, settled_frames}
use Rattle.receiver_engines.specs.Processing.{TakesSaid}
use Rattle.receiver_engines.specs.Refused.{HasNoFill, IsJobOrPlanRefusal}
use Rattle.run_outcome.proofs.Refusals.{if_err_map, of_refusal_map}
use Rattle.receiver_engines.proofs.Parts.{sends_none}
use Rattle.receiver_engines.proofs.Refusals.{fill_refused, hold_refused, if_ok_both, sent_refusal}
use Rattle.receiver_engines.proofs.Settling.{fill_lent, some_lent}
use Rattle.receiver_engines.proofs.processing.send_frames.Goals as goal

pub returns-clause-sent : goal.returns-clause-sent
returns-clause-sent g c =
    let fs = c.in_ok-frames.frames.items in
    let fill = c.in_ok-fill.fill in
    let held = c.args.held.now in
    let old = g.K.ByteSink.took c.args.sink.now in
    let new = g.K.ByteSink.took c.send.new.sink in
    let first : c.deref.result.now ≡ fs = search rules in
    let second : c.deref-2.result.now ≡ fs = search rules in
    let third : c.deref-3.result.now ≡ fs = search rules in
    let inputs : c.deref-4.result.now ≡ c.in_ok-inputs.inputs.items = search rules in
    let settled : settled_inputs c.deref-4.result.now ≡ settled_frames held fill (frames_lent fs) =
    ap settled_inputs inputs ∙ c.in_ok-inputs.ensures.settled
    ∙ ap (λ l. settled_frames held fill (frames_lent l)) third in
    let formats : input_formats c.deref-4.result.now ≡ raster_formats (frames_lent fs) =
    ap input_formats inputs ∙ c.in_ok-inputs.ensures.formats
    ∙ ap (λ l. raster_formats (frames_lent l)) third in
    if_ok_both c.send.result (λ n takes sendable. record {
      frames = frames_lent fs;
      are = c.in_ok-frames.ensures.are ∙ some_lent fs;
      fill = fill;
      fill_is =
          fill_lent c.args.wanted.fill.now fill fs c.deref.result.now first
          c.in_ok-fill.ensures.is c.in_ok-fill.ensures.values c.in_ok-fill.ensures.fits;
      held_is = subst (λ l. IsHeldFor held (frames_lent l)) second c.in_ok-check_held.ensures.is;
      sendable = subst (λ l. IsSendable c.args.job.now l c.args.wanted.max_octets) formats sendable;
      takes = subst (λ ps. TakesSaid c.args.said.now c.args.job.now ps c.args.wanted.max_octets
          c.args.wanted.stamp old new n) settled takes;
    }) c.send.ensures.sent c.send.ensures.sendable

pub returns-in_err-fill-clause-refusal : goal.returns-in_err-fill-clause-refusal
returns-in_err-fill-clause-refusal g c =
    let fs = c.in_ok-frames.frames.items in
    let first : c.deref.result.now ≡ fs = search rules in
    let p =
    err_from_is_err_and c.from_residual-in_err-fill.result c.from_residual-in_err-fill.ensures.1 in
    rw (p.1, p.2)
    (fill_refused c.in_err-fill.field-0.0 c.args.job.now c.args.wanted c.args.receivers.now
    c.args.held.now (frames_lent fs) (c.in_ok-frames.ensures.are ∙ some_lent fs) (
      c.in_err-fill.ensures.refused.0,
      subst (λ l. HasNoFill c.args.wanted.fill.now (frames_lent l)) first
          c.in_err-fill.ensures.refused.1,
    ))

pub returns-in_err-check_held-clause-refusal : goal.returns-in_err-check_held-clause-refusal
returns-in_err-check_held-clause-refusal g c =
    let fs = c.in_ok-frames.frames.items in
    let held = c.args.held.now in
    let first : c.deref.result.now ≡ fs = search rules in
    let second : c.deref-2.result.now ≡ fs = search rules in
    let p =
    err_from_is_err_and c.from_residual-in_err-check_held.result
    c.from_residual-in_err-check_held.ensures.1 in
    rw (p.1, p.2)
    (hold_refused c.in_err-check_held.field-0.0 c.args.job.now c.args.wanted c.args.receivers.now
    held (frames_lent fs) c.in_ok-fill.fill (c.in_ok-frames.ensures.are ∙ some_lent fs)
    (fill_lent c.args.wanted.fill.now c.in_ok-fill.fill fs c.deref.result.now first
    c.in_ok-fill.ensures.is c.in_ok-fill.ensures.values c.in_ok-fill.ensures.fits) (
      c.in_err-check_held.ensures.refused.0,
      subst (λ l. IsHeldFor held (frames_lent l) → ⊥) second
          c.in_err-check_held.ensures.refused.1,
    ))

pub returns-clause-refusal : goal.returns-clause-refusal
returns-clause-refusal g c =
    let fs = c.in_ok-frames.frames.items in
    let fill = c.in_ok-fill.fill in
    let held = c.args.held.now in
    let first : c.deref.result.now ≡ fs = search rules in
    let second : c.deref-2.result.now ≡ fs = search rules in
    let third : c.deref-3.result.now ≡ fs = search rules in
    let inputs : c.deref-4.result.now ≡ c.in_ok-inputs.inputs.items = search rules in
    let formats : input_formats c.deref-4.result.now ≡ raster_formats (frames_lent fs) =
    ap input_formats inputs ∙ c.in_ok-inputs.ensures.formats
    ∙ ap (λ l. raster_formats (frames_lent l)) third in
    if_err_map c.send.result (λ e is. of_refusal_map e (λ r refused.
    sent_refusal c.args.job.now c.args.wanted c.args.receivers.now held r (record {
      frames = frames_lent fs;
      are = c.in_ok-frames.ensures.are ∙ some_lent fs;
      holds = record {
        fill = fill;
        fill_is =
            fill_lent c.args.wanted.fill.now fill fs c.deref.result.now first
            c.in_ok-fill.ensures.is c.in_ok-fill.ensures.values c.in_ok-fill.ensures.fits;
        held_is = subst (λ l. IsHeldFor held (frames_lent l)) second c.in_ok-check_held.ensures.is;
        holds =
            subst (λ l. IsJobOrPlanRefusal c.args.job.now c.args.wanted.max_octets r l) formats
            refused;
      };
    })) is) c.send.ensures.refusal

pub returns-in_err-frames-clause-part : goal.returns-in_err-frames-clause-part
returns-in_err-frames-clause-part g c =
    let p = err_from_is_err_and c.from_residual.result c.from_residual.ensures.1 in
    rw (p.1) (sends_none c.args.said.now c.args.job.now _ _ _ _ refl)

pub returns-in_err-fill-clause-part : goal.returns-in_err-fill-clause-part
returns-in_err-fill-clause-part g c =
    let p = err_from_is_err_and c.from_residual-in_err-fill.result
    c.from_residual-in_err-fill.ensures.1 in
    rw (p.1) (sends_none c.args.said.now c.args.job.now _ _ _ _ refl)

pub returns-in_err-check_held-clause-part : goal.returns-in_err-check_held-clause-part
returns-in_err-check_held-clause-part g c =
    let p = err_from_is_err_and c.from_residual-in_err-check_held.result
    c.from_residual-in_err-check_held.ensures.1 in
    rw (p.1) (sends_none c.args.said.now c.args.job.now _ _ _ _ refl)

pub returns-in_err-inputs-clause-part : goal.returns-in_err-inputs-clause-part
returns-in_err-inputs-clause-part g c =
    let p = err_from_is_err_and c.from_residual-in_err-inputs.result
    c.from_residual-in_err-inputs.ensures.1 in
    rw (p.1) (sends_none c.args.said.now c.args.job.now _ _ _ _ refl)
