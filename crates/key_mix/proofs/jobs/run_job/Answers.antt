use Rattle.std.proofs.Common.{IfErr, IfOk, OnOk, subst}
use Rattle.key_mix.specs.Jobs.{IsFault, IsJobPicture, IsSoundJob, formats_of}
use Rattle.key_mix.proofs.Inputs.{one, three, two}
use Rattle.key_mix.proofs.jobs.run_job.Goals as goal

pub returns-in-1-clause-made : goal.returns-in-1-clause-made
returns-in-1-clause-made g c =
    subst (λ xs. IfOk c.run_on_one.result (λ p. IsJobPicture p c.args.job.now xs))
    (one c.args.inputs.now
    c.index-inputs-0.result c.in-1.is
    c.index-inputs-0.is)
    c.run_on_one.ensures.made

pub returns-in-1-clause-sound : goal.returns-in-1-clause-sound
returns-in-1-clause-sound g c =
    subst (λ xs. OnOk c.run_on_one.result (IsSoundJob c.args.job.now (formats_of xs)))
    (one c.args.inputs.now
    c.index-inputs-0.result c.in-1.is
    c.index-inputs-0.is)
    c.run_on_one.ensures.sound

pub returns-in-1-clause-fault : goal.returns-in-1-clause-fault
returns-in-1-clause-fault g c =
    subst (λ xs. IfErr c.run_on_one.result (λ e. IsFault e c.args.job.now (formats_of xs)))
    (one c.args.inputs.now
    c.index-inputs-0.result c.in-1.is
    c.index-inputs-0.is)
    c.run_on_one.ensures.fault

pub returns-in-2-clause-made : goal.returns-in-2-clause-made
returns-in-2-clause-made g c =
    subst (λ xs. IfOk c.run_on_two.result (λ p. IsJobPicture p c.args.job.now xs))
    (two c.args.inputs.now
    c.index-inputs-0-in-2.result c.index-inputs-1.result c.in-2.is
    c.index-inputs-0-in-2.is c.index-inputs-1.is)
    c.run_on_two.ensures.made

pub returns-in-2-clause-sound : goal.returns-in-2-clause-sound
returns-in-2-clause-sound g c =
    subst (λ xs. OnOk c.run_on_two.result (IsSoundJob c.args.job.now (formats_of xs)))
    (two c.args.inputs.now
    c.index-inputs-0-in-2.result c.index-inputs-1.result c.in-2.is
    c.index-inputs-0-in-2.is c.index-inputs-1.is)
    c.run_on_two.ensures.sound

pub returns-in-2-clause-fault : goal.returns-in-2-clause-fault
returns-in-2-clause-fault g c =
    subst (λ xs. IfErr c.run_on_two.result (λ e. IsFault e c.args.job.now (formats_of xs)))
    (two c.args.inputs.now
    c.index-inputs-0-in-2.result c.index-inputs-1.result c.in-2.is
    c.index-inputs-0-in-2.is c.index-inputs-1.is)
    c.run_on_two.ensures.fault

pub returns-in-3-clause-made : goal.returns-in-3-clause-made
returns-in-3-clause-made g c =
    subst (λ xs. IfOk c.run_on_three.result (λ p. IsJobPicture p c.args.job.now xs))
    (three c.args.inputs.now
    c.index-inputs-0-in-3.result c.index-inputs-1-in-3.result c.index-inputs-2.result c.in-3.is
    c.index-inputs-0-in-3.is c.index-inputs-1-in-3.is c.index-inputs-2.is)
    c.run_on_three.ensures.made

pub returns-in-3-clause-sound : goal.returns-in-3-clause-sound
returns-in-3-clause-sound g c =
    subst (λ xs. OnOk c.run_on_three.result (IsSoundJob c.args.job.now (formats_of xs)))
    (three c.args.inputs.now
    c.index-inputs-0-in-3.result c.index-inputs-1-in-3.result c.index-inputs-2.result c.in-3.is
    c.index-inputs-0-in-3.is c.index-inputs-1-in-3.is c.index-inputs-2.is)
    c.run_on_three.ensures.sound

pub returns-in-3-clause-fault : goal.returns-in-3-clause-fault
returns-in-3-clause-fault g c =
    subst (λ xs. IfErr c.run_on_three.result (λ e. IsFault e c.args.job.now (formats_of xs)))
    (three c.args.inputs.now
    c.index-inputs-0-in-3.result c.index-inputs-1-in-3.result c.index-inputs-2.result c.in-3.is
    c.index-inputs-0-in-3.is c.index-inputs-1-in-3.is c.index-inputs-2.is)
    c.run_on_three.ensures.fault
