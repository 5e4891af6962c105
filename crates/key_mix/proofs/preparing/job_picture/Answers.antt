use Rattle.std.proofs.Common.{◌≡◌, IfErr, ap, subst, ◌∙◌}
use Rattle.key_mix.specs.Jobs.{IsFault, formats_of}
use Rattle.key_mix.specs.Sending.{input_formats}
use Rattle.key_mix.proofs.Sent.{only_if, settled_formats}
use Rattle.key_mix.proofs.preparing.job_picture.Goals as goal

pub returns-clause-only : goal.returns-clause-only
returns-clause-only g c =
    let inputs = c.args.inputs.now in
    let same : formats_of c.as_slice.result.now ≡ input_formats inputs =
    ap formats_of (c.as_slice.ensures.value ∙ c.in_ok-pictures.ensures) ∙ settled_formats inputs in
    only_if c.run_job.result c.args.job.now (input_formats inputs) c.requires.sound
    (subst (λ fs. IfErr c.run_job.result (λ e. IsFault e c.args.job.now fs)) same
    c.run_job.ensures.fault)
