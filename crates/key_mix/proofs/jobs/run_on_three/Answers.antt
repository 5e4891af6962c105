use Rattle.std.proofs.Common.{[], ◌∷◌, IfErr, IfOk, OnOk, subst, sym}
use Rattle.key_mix.specs.Jobs.{IsFault, IsJobPicture, IsSoundJob}
use Rattle.key_mix.proofs.Refused.{not_three, wrong_count}
use Rattle.key_mix.proofs.jobs.run_on_three.Goals as goal

pub returns-in-Key-clause-made : goal.returns-in-Key-clause-made
returns-in-Key-clause-made g c =
    subst
    (λ j. IfOk c.key.result
    (λ p. IsJobPicture p j (c.args.a.now ∷ c.args.b.now ∷ c.args.by.now ∷ [])))
    (sym c.in-Key.is) c.key.ensures.made

pub returns-in-Key-clause-whole : goal.returns-in-Key-clause-whole
returns-in-Key-clause-whole g c = c.key.ensures.whole

pub returns-in-Key-clause-sound : goal.returns-in-Key-clause-sound
returns-in-Key-clause-sound g c =
    subst (λ j. OnOk c.key.result (IsSoundJob j (c.args.a.now.format ∷ c.args.b.now.format ∷
    c.args.by.now.format ∷ [])))
    (sym c.in-Key.is) c.key.ensures.sound

pub returns-in-Key-clause-fault : goal.returns-in-Key-clause-fault
returns-in-Key-clause-fault g c =
    subst
    (λ j. IfErr c.key.result
    (λ e. IsFault e j (c.args.a.now.format ∷ c.args.b.now.format ∷ c.args.by.now.format ∷ [])))
    (sym c.in-Key.is)
    c.key.ensures.fault

pub returns-in_default : goal.returns-in_default
returns-in_default g c =
    record {
      made = tt;
      whole = tt;
      sound = tt;
      fault = wrong_count c.args.job.now _ (not_three c.args.job.now c.in_default.not-Key);
    }
