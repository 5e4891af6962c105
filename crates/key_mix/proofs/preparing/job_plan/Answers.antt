use Rattle.std.proofs.lemmas.Result.{err_from_is_err_and}
use Rattle.key_mix.specs.Sending.{input_formats}
use Rattle.key_mix.proofs.Sent.{plan_fault, plan_fits}
use Rattle.key_mix.proofs.preparing.job_plan.Goals as goal

pub returns-in_err-new-clause-fault : goal.returns-in_err-new-clause-fault
returns-in_err-new-clause-fault g c =
    let p =
    err_from_is_err_and c.from_residual-in_err-new.result c.from_residual-in_err-new.ensures.1 in
    rw (p.1, p.2)
    (plan_fault c.in_err-new.field-0.0 c.args.job.now (input_formats c.args.inputs.now)
    c.in_ok-format.format c.args.max_octets c.in_ok-format.ensures.sound
    c.in_ok-format.ensures.format c.in_err-new.ensures.size)

pub returns-clause-sendable : goal.returns-clause-sendable
returns-clause-sendable g c =
    record {
      sound = c.in_ok-format.ensures.sound;
      format = c.in_ok-format.format;
      is = c.in_ok-format.ensures.format;
      fits =
          plan_fits c.in_ok-new.field-0 c.in_ok-format.format c.args.max_octets
          c.in_ok-new.ensures.size;
    }
