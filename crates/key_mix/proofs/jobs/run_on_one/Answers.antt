use Rattle.std.proofs.Common.{[], ◌∷◌, arith, inl, refl, subst, sym}
use Rattle.key_mix.specs.Faults.{colour_job_fault}
use Rattle.key_mix.specs.Jobs.{IsFault, IsJobPicture, IsSoundJob}
use Rattle.key_mix.specs.declared.Job.TheVariants.{Limit, Gain, ToYcc444, ToYcc422}
use Rattle.key_mix.specs.declared.faults.JobFault.TheVariants.{NoMemory, BadGain}
use Rattle.key_mix.proofs.Alone.{
  fault_ycc422,
  fault_ycc444,
  made_ycc422,
  made_ycc444,
  sound_gain,
  sound_limit,
  too_far,
}
use Rattle.key_mix.proofs.Refused.{fault_is, no_value}
use Rattle.key_mix.proofs.jobs.run_on_one.Goals as goal

pub returns-in_err-limited_copy-in-Limit-clause-made :
    goal.returns-in_err-limited_copy-in-Limit-clause-made
returns-in_err-limited_copy-in-Limit-clause-made g c =
    no_value _ _ c.from_residual.result c.from_residual.ensures.1

pub returns-in_err-limited_copy-in-Limit-clause-whole :
    goal.returns-in_err-limited_copy-in-Limit-clause-whole
returns-in_err-limited_copy-in-Limit-clause-whole g c =
    no_value _ _ c.from_residual.result c.from_residual.ensures.1

pub returns-in_err-limited_copy-in-Limit-clause-sound :
    goal.returns-in_err-limited_copy-in-Limit-clause-sound
returns-in_err-limited_copy-in-Limit-clause-sound g c =
    no_value _ _ c.from_residual.result c.from_residual.ensures.1

pub returns-in_err-limited_copy-in-Limit-clause-fault :
    goal.returns-in_err-limited_copy-in-Limit-clause-fault
returns-in_err-limited_copy-in-Limit-clause-fault g c =
    let r = c.from_residual in
    fault_is r.result NoMemory (Limit c.in-Limit.range) c.args.job.now
    (c.args.picture.now.format ∷ []) c.in-Limit.is r.ensures.1
    (inl (refl, sound_limit c.in-Limit.range c.args.picture.now.format))

pub returns-in_ok-limited_copy-in-Limit-clause-made :
    goal.returns-in_ok-limited_copy-in-Limit-clause-made
returns-in_ok-limited_copy-in-Limit-clause-made g c =
    subst (λ j. IsJobPicture c.in_ok-limited_copy-in-Limit.field-0 j (c.args.picture.now ∷ []))
    (sym c.in-Limit.is) c.in_ok-limited_copy-in-Limit.ensures.value

pub returns-in_ok-limited_copy-in-Limit-clause-whole :
    goal.returns-in_ok-limited_copy-in-Limit-clause-whole
returns-in_ok-limited_copy-in-Limit-clause-whole g c =
    c.in_ok-limited_copy-in-Limit.ensures.whole

pub returns-in_ok-limited_copy-in-Limit-clause-sound :
    goal.returns-in_ok-limited_copy-in-Limit-clause-sound
returns-in_ok-limited_copy-in-Limit-clause-sound g c =
    subst (λ j. IsSoundJob j (c.args.picture.now.format ∷ [])) (sym c.in-Limit.is)
    (sound_limit c.in-Limit.range c.args.picture.now.format)

pub returns-in_err-gained_copy-in-Gain-2-clause-made :
    goal.returns-in_err-gained_copy-in-Gain-2-clause-made
returns-in_err-gained_copy-in-Gain-2-clause-made g c =
    no_value _ _ c.from_residual-in_err-gained_copy-in-Gain-2.result
    c.from_residual-in_err-gained_copy-in-Gain-2.ensures.1

pub returns-in_err-gained_copy-in-Gain-2-clause-whole :
    goal.returns-in_err-gained_copy-in-Gain-2-clause-whole
returns-in_err-gained_copy-in-Gain-2-clause-whole g c =
    no_value _ _ c.from_residual-in_err-gained_copy-in-Gain-2.result
    c.from_residual-in_err-gained_copy-in-Gain-2.ensures.1

pub returns-in_err-gained_copy-in-Gain-2-clause-sound :
    goal.returns-in_err-gained_copy-in-Gain-2-clause-sound
returns-in_err-gained_copy-in-Gain-2-clause-sound g c =
    no_value _ _ c.from_residual-in_err-gained_copy-in-Gain-2.result
    c.from_residual-in_err-gained_copy-in-Gain-2.ensures.1

pub returns-in_err-gained_copy-in-Gain-2-clause-fault :
    goal.returns-in_err-gained_copy-in-Gain-2-clause-fault
returns-in_err-gained_copy-in-Gain-2-clause-fault g c =
    let r = c.from_residual-in_err-gained_copy-in-Gain-2 in
    fault_is r.result NoMemory (Gain c.in-Gain.g) c.args.job.now
    (c.args.picture.now.format ∷ []) c.in-Gain.is r.ensures.1
    (inl (
      refl,
      sound_gain c.in-Gain.g c.args.picture.now.format
          (omega (arith, c.if-g-gt-MOST_GAIN.false)),
    ))

pub returns-in_ok-gained_copy-in-Gain-2-clause-made :
    goal.returns-in_ok-gained_copy-in-Gain-2-clause-made
returns-in_ok-gained_copy-in-Gain-2-clause-made g c =
    subst (λ j. IsJobPicture c.in_ok-gained_copy-in-Gain-2.field-0 j (c.args.picture.now ∷ []))
    (sym c.in-Gain-2.is) c.in_ok-gained_copy-in-Gain-2.ensures.value

pub returns-in_ok-gained_copy-in-Gain-2-clause-whole :
    goal.returns-in_ok-gained_copy-in-Gain-2-clause-whole
returns-in_ok-gained_copy-in-Gain-2-clause-whole g c =
    c.in_ok-gained_copy-in-Gain-2.ensures.whole

pub returns-in_ok-gained_copy-in-Gain-2-clause-sound :
    goal.returns-in_ok-gained_copy-in-Gain-2-clause-sound
returns-in_ok-gained_copy-in-Gain-2-clause-sound g c =
    subst (λ j. IsSoundJob j (c.args.picture.now.format ∷ [])) (sym c.in-Gain.is)
    (sound_gain c.in-Gain.g c.args.picture.now.format
    (omega (arith, c.if-g-gt-MOST_GAIN.false)))

pub returns-in_err-to_ycc444-in-ToYcc444-clause-made :
    goal.returns-in_err-to_ycc444-in-ToYcc444-clause-made
returns-in_err-to_ycc444-in-ToYcc444-clause-made g c =
    no_value _ _ c.from_residual-in_err-to_ycc444-in-ToYcc444.result
    c.from_residual-in_err-to_ycc444-in-ToYcc444.ensures.1

pub returns-in_err-to_ycc444-in-ToYcc444-clause-whole :
    goal.returns-in_err-to_ycc444-in-ToYcc444-clause-whole
returns-in_err-to_ycc444-in-ToYcc444-clause-whole g c =
    no_value _ _ c.from_residual-in_err-to_ycc444-in-ToYcc444.result
    c.from_residual-in_err-to_ycc444-in-ToYcc444.ensures.1

pub returns-in_err-to_ycc444-in-ToYcc444-clause-sound :
    goal.returns-in_err-to_ycc444-in-ToYcc444-clause-sound
returns-in_err-to_ycc444-in-ToYcc444-clause-sound g c =
    no_value _ _ c.from_residual-in_err-to_ycc444-in-ToYcc444.result
    c.from_residual-in_err-to_ycc444-in-ToYcc444.ensures.1

pub returns-in_err-to_ycc444-in-ToYcc444-clause-fault :
    goal.returns-in_err-to_ycc444-in-ToYcc444-clause-fault
returns-in_err-to_ycc444-in-ToYcc444-clause-fault g c =
    let r = c.from_residual-in_err-to_ycc444-in-ToYcc444 in
    let e = c.in_err-to_ycc444-in-ToYcc444 in
    fault_is r.result (colour_job_fault e.field-0.0) ToYcc444 c.args.job.now
    (c.args.picture.now.format ∷ []) c.in-ToYcc444.is r.ensures.1
    (fault_ycc444 e.field-0.0 c.args.picture.now.format e.ensures.rgb e.ensures.only)

pub returns-in_ok-to_ycc444-in-ToYcc444-clause-made :
    goal.returns-in_ok-to_ycc444-in-ToYcc444-clause-made
returns-in_ok-to_ycc444-in-ToYcc444-clause-made g c =
    let p = c.in_ok-to_ycc444-in-ToYcc444 in
    subst (λ j. IsJobPicture p.field-0 j (c.args.picture.now ∷ [])) (sym c.in-ToYcc444.is)
    (p.ensures.format, p.ensures.made)

pub returns-in_ok-to_ycc444-in-ToYcc444-clause-whole :
    goal.returns-in_ok-to_ycc444-in-ToYcc444-clause-whole
returns-in_ok-to_ycc444-in-ToYcc444-clause-whole g c =
    c.in_ok-to_ycc444-in-ToYcc444.ensures.whole

pub returns-in_ok-to_ycc444-in-ToYcc444-clause-sound :
    goal.returns-in_ok-to_ycc444-in-ToYcc444-clause-sound
returns-in_ok-to_ycc444-in-ToYcc444-clause-sound g c =
    let p = c.in_ok-to_ycc444-in-ToYcc444 in
    subst (λ j. IsSoundJob j (c.args.picture.now.format ∷ [])) (sym c.in-ToYcc444.is)
    (made_ycc444 p.field-0 c.args.picture.now.format p.ensures.rgb)

pub returns-in_err-to_ycc422-in-ToYcc422-clause-made :
    goal.returns-in_err-to_ycc422-in-ToYcc422-clause-made
returns-in_err-to_ycc422-in-ToYcc422-clause-made g c =
    no_value _ _ c.from_residual-in_err-to_ycc422-in-ToYcc422.result
    c.from_residual-in_err-to_ycc422-in-ToYcc422.ensures.1

pub returns-in_err-to_ycc422-in-ToYcc422-clause-whole :
    goal.returns-in_err-to_ycc422-in-ToYcc422-clause-whole
returns-in_err-to_ycc422-in-ToYcc422-clause-whole g c =
    no_value _ _ c.from_residual-in_err-to_ycc422-in-ToYcc422.result
    c.from_residual-in_err-to_ycc422-in-ToYcc422.ensures.1

pub returns-in_err-to_ycc422-in-ToYcc422-clause-sound :
    goal.returns-in_err-to_ycc422-in-ToYcc422-clause-sound
returns-in_err-to_ycc422-in-ToYcc422-clause-sound g c =
    no_value _ _ c.from_residual-in_err-to_ycc422-in-ToYcc422.result
    c.from_residual-in_err-to_ycc422-in-ToYcc422.ensures.1

pub returns-in_err-to_ycc422-in-ToYcc422-clause-fault :
    goal.returns-in_err-to_ycc422-in-ToYcc422-clause-fault
returns-in_err-to_ycc422-in-ToYcc422-clause-fault g c =
    let r = c.from_residual-in_err-to_ycc422-in-ToYcc422 in
    let e = c.in_err-to_ycc422-in-ToYcc422 in
    fault_is r.result (colour_job_fault e.field-0.0) ToYcc422 c.args.job.now
    (c.args.picture.now.format ∷ []) c.in-ToYcc422.is r.ensures.1
    (fault_ycc422 e.field-0.0 c.args.picture.now.format e.ensures.ycc444 e.ensures.only)

pub returns-in_ok-to_ycc422-in-ToYcc422-clause-made :
    goal.returns-in_ok-to_ycc422-in-ToYcc422-clause-made
returns-in_ok-to_ycc422-in-ToYcc422-clause-made g c =
    let p = c.in_ok-to_ycc422-in-ToYcc422 in
    subst (λ j. IsJobPicture p.field-0 j (c.args.picture.now ∷ [])) (sym c.in-ToYcc422.is)
    (p.ensures.format, p.ensures.made)

pub returns-in_ok-to_ycc422-in-ToYcc422-clause-whole :
    goal.returns-in_ok-to_ycc422-in-ToYcc422-clause-whole
returns-in_ok-to_ycc422-in-ToYcc422-clause-whole g c =
    c.in_ok-to_ycc422-in-ToYcc422.ensures.whole

pub returns-in_ok-to_ycc422-in-ToYcc422-clause-sound :
    goal.returns-in_ok-to_ycc422-in-ToYcc422-clause-sound
returns-in_ok-to_ycc422-in-ToYcc422-clause-sound g c =
    let p = c.in_ok-to_ycc422-in-ToYcc422 in
    subst (λ j. IsSoundJob j (c.args.picture.now.format ∷ [])) (sym c.in-ToYcc422.is)
    (made_ycc422 p.field-0 c.args.picture.now.format p.ensures.ycc444)

pub returns-in-Gain-clause-fault : goal.returns-in-Gain-clause-fault
returns-in-Gain-clause-fault g c =
    subst (λ j. IsFault BadGain j (c.args.picture.now.format ∷ [])) (sym c.in-Gain.is)
    (too_far c.in-Gain.g c.args.picture.now.format
    (omega (arith, c.if-g-gt-MOST_GAIN.true)))
