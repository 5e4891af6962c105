use Rattle.std.proofs.Common.{[], ◌∷◌, IfErr, IfOk, OnOk, subst, sym}
use Rattle.key_mix.specs.Jobs.{IsFault, IsJobPicture, IsSoundJob}
use Rattle.key_mix.proofs.Refused.{not_two, wrong_count}
use Rattle.key_mix.proofs.jobs.run_on_two.Goals as goal

pub returns-in-Wipe-clause-made : goal.returns-in-Wipe-clause-made
returns-in-Wipe-clause-made g c =
    subst (λ j. IfOk c.wipe.result (λ p. IsJobPicture p j (c.args.a.now ∷ c.args.b.now ∷ [])))
    (sym c.in-Wipe.is) c.wipe.ensures.made

pub returns-in-Wipe-clause-whole : goal.returns-in-Wipe-clause-whole
returns-in-Wipe-clause-whole g c = c.wipe.ensures.whole

pub returns-in-Wipe-clause-sound : goal.returns-in-Wipe-clause-sound
returns-in-Wipe-clause-sound g c =
    subst (λ j. OnOk c.wipe.result (IsSoundJob j (c.args.a.now.format ∷ c.args.b.now.format ∷ [])))
    (sym c.in-Wipe.is) c.wipe.ensures.sound

pub returns-in-Wipe-clause-fault : goal.returns-in-Wipe-clause-fault
returns-in-Wipe-clause-fault g c =
    subst
    (λ j. IfErr c.wipe.result
    (λ e. IsFault e j (c.args.a.now.format ∷ c.args.b.now.format ∷ []))) (sym c.in-Wipe.is)
    c.wipe.ensures.fault

pub returns-in_default : goal.returns-in_default
returns-in_default g c =
    record {
      made = tt;
      whole = tt;
      sound = tt;
      fault = wrong_count c.args.job.now _ (not_two c.args.job.now c.in_default.not-Wipe);
    }
