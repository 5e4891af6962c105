use Rattle.std.proofs.Common.{[], ◌∷◌, refl, subst, sym}
use Rattle.std.proofs.lemmas.Result.{IfOk-weaker}
use Rattle.key_mix.specs.Sending.{input_formats}
use Rattle.run_outcome.specs.Fault.{Blames, counts}
use Rattle.run_outcome.specs.Refusing.{OfRefusal}
use Rattle.run_outcome.specs.declared.fault.Fault.{Fault}
use Rattle.run_outcome.proofs.Printed.{on_err}
use Rattle.run_outcome.proofs.Refusals.{device_alone}
use Rattle.receiver_engines.specs.Refused.{IsJobOrPlanRefusal}
use Rattle.receiver_engines.proofs.Parts.{sends_none}
use Rattle.receiver_engines.proofs.Refusals.{device_alone_refusal, device_alone_refused}
use Rattle.receiver_engines.proofs.Refusals.{early_blames, if_refused, send_refused}
use Rattle.receiver_engines.proofs.processing.send.Goals as goal

-- it is refused, or memory is wanted

pub returns-in-Err-clause-part : goal.returns-in-Err-clause-part
returns-in-Err-clause-part g c =
    sends_none c.args.said.now c.args.job.now c.args.wanted.max_octets c.args.wanted.stamp _ _ refl

pub returns-in-Err-clause-refused : goal.returns-in-Err-clause-refused
returns-in-Err-clause-refused g c = if_refused c.send_job_fault.result _ refl

pub returns-in-Err-clause-refusal : goal.returns-in-Err-clause-refusal
returns-in-Err-clause-refusal g c =
    let formats = input_formats c.args.inputs.now in
    let size = c.args.wanted.max_octets in
    subst (λ (f : Fault). OfRefusal f (λ r. IsJobOrPlanRefusal c.args.job.now size r formats))
    (sym c.send_job_fault.ensures)
    (send_refused c.in-Err.fault c.args.job.now formats size c.in-Err.ensures.fault)

pub returns-in-Err-clause-failures : goal.returns-in-Err-clause-failures
returns-in-Err-clause-failures g c =
    let n = g.K.ByteSink.failures c.args.sink.now in
    subst (λ (f : Fault). Blames (counts n n ∷ []) f) (sym c.send_job_fault.ensures)
    (early_blames c.in-Err.fault n c.in-Err.ensures.early)

-- it is sent

pub returns-clause-part : goal.returns-clause-part
returns-clause-part g c =
    on_err c.send_capture.result _ _ (λ part. part _ _ _ c.in-Ok.ensures.prepared)
    c.send_capture.ensures.part

pub returns-clause-sent : goal.returns-clause-sent
returns-clause-sent g c =
    IfOk-weaker c.send_capture.result _ _ (λ n sent. sent _ _ _ c.in-Ok.ensures.prepared)
    c.send_capture.ensures.sent

pub returns-clause-refused : goal.returns-clause-refused
returns-clause-refused g c =
    device_alone_refused c.send_capture.result _ c.send_capture.ensures.device

pub returns-clause-refusal : goal.returns-clause-refusal
returns-clause-refusal g c =
    device_alone_refusal c.send_capture.result _ c.send_capture.ensures.device

pub returns-clause-memory : goal.returns-clause-memory
returns-clause-memory g c = device_alone c.send_capture.result _ c.send_capture.ensures.device
