use Rattle.std.proofs.Common.{IfErr, IfOk, OnOk, arith, subst}
use Rattle.key_mix.specs.Jobs.{IsJobFormat, IsRefusal, IsSoundJob}
use Rattle.key_mix.proofs.Inputs.{map_one, map_three, map_two}
use Rattle.key_mix.proofs.preparing.job_format.Goals as goal

pub returns-in-len1-clause-format : goal.returns-in-len1-clause-format
returns-in-len1-clause-format g c =
    subst (λ fs. IfOk c.format_of_one.result (λ f. IsJobFormat f c.args.job.now fs))
    (map_one (λ i. i.frame.now.format) c.args.inputs.now
    c.a-item.result
    c.format.result
    (omega (arith, c.in-len1.len_at_least, c.in-len1.len_below))
    c.a-item.is
    c.format.ensures.format)
    c.format_of_one.ensures.format

pub returns-in-len1-clause-sound : goal.returns-in-len1-clause-sound
returns-in-len1-clause-sound g c =
    subst (λ fs. OnOk c.format_of_one.result (IsSoundJob c.args.job.now fs))
    (map_one (λ i. i.frame.now.format) c.args.inputs.now
    c.a-item.result
    c.format.result
    (omega (arith, c.in-len1.len_at_least, c.in-len1.len_below))
    c.a-item.is
    c.format.ensures.format)
    c.format_of_one.ensures.sound

pub returns-in-len1-clause-refusal : goal.returns-in-len1-clause-refusal
returns-in-len1-clause-refusal g c =
    subst (λ fs. IfErr c.format_of_one.result (λ e. IsRefusal e c.args.job.now fs))
    (map_one (λ i. i.frame.now.format) c.args.inputs.now
    c.a-item.result
    c.format.result
    (omega (arith, c.in-len1.len_at_least, c.in-len1.len_below))
    c.a-item.is
    c.format.ensures.format)
    c.format_of_one.ensures.refusal

pub returns-in-len2-clause-format : goal.returns-in-len2-clause-format
returns-in-len2-clause-format g c =
    subst (λ fs. IfOk c.format_of_two.result (λ f. IsJobFormat f c.args.job.now fs))
    (map_two (λ i. i.frame.now.format) c.args.inputs.now
    c.a-item-then-inputs-lt3.result c.b-item.result
    c.format-in-len2.result c.format-in-len2-2.result
    (omega (arith, c.in-len2.len_at_least, c.in-len2.len_below))
    c.a-item-then-inputs-lt3.is c.b-item.is
    c.format-in-len2.ensures.format c.format-in-len2-2.ensures.format)
    c.format_of_two.ensures.format

pub returns-in-len2-clause-sound : goal.returns-in-len2-clause-sound
returns-in-len2-clause-sound g c =
    subst (λ fs. OnOk c.format_of_two.result (IsSoundJob c.args.job.now fs))
    (map_two (λ i. i.frame.now.format) c.args.inputs.now
    c.a-item-then-inputs-lt3.result c.b-item.result
    c.format-in-len2.result c.format-in-len2-2.result
    (omega (arith, c.in-len2.len_at_least, c.in-len2.len_below))
    c.a-item-then-inputs-lt3.is c.b-item.is
    c.format-in-len2.ensures.format c.format-in-len2-2.ensures.format)
    c.format_of_two.ensures.sound

pub returns-in-len2-clause-refusal : goal.returns-in-len2-clause-refusal
returns-in-len2-clause-refusal g c =
    subst (λ fs. IfErr c.format_of_two.result (λ e. IsRefusal e c.args.job.now fs))
    (map_two (λ i. i.frame.now.format) c.args.inputs.now
    c.a-item-then-inputs-lt3.result c.b-item.result
    c.format-in-len2.result c.format-in-len2-2.result
    (omega (arith, c.in-len2.len_at_least, c.in-len2.len_below))
    c.a-item-then-inputs-lt3.is c.b-item.is
    c.format-in-len2.ensures.format c.format-in-len2-2.ensures.format)
    c.format_of_two.ensures.refusal

pub returns-in-len3-clause-format : goal.returns-in-len3-clause-format
returns-in-len3-clause-format g c =
    subst (λ fs. IfOk c.format_of_three.result (λ f. IsJobFormat f c.args.job.now fs))
    (map_three (λ i. i.frame.now.format) c.args.inputs.now
    c.a-item-then-inputs-lt4.result c.b-item-then-inputs-lt4.result c.by-item.result
    c.format-in-len3.result c.format-in-len3-2.result c.format-in-len3-3.result
    (omega (arith, c.in-len3.len_at_least, c.in-len3.len_below))
    c.a-item-then-inputs-lt4.is c.b-item-then-inputs-lt4.is c.by-item.is
    c.format-in-len3.ensures.format c.format-in-len3-2.ensures.format
    c.format-in-len3-3.ensures.format)
    c.format_of_three.ensures.format

pub returns-in-len3-clause-sound : goal.returns-in-len3-clause-sound
returns-in-len3-clause-sound g c =
    subst (λ fs. OnOk c.format_of_three.result (IsSoundJob c.args.job.now fs))
    (map_three (λ i. i.frame.now.format) c.args.inputs.now
    c.a-item-then-inputs-lt4.result c.b-item-then-inputs-lt4.result c.by-item.result
    c.format-in-len3.result c.format-in-len3-2.result c.format-in-len3-3.result
    (omega (arith, c.in-len3.len_at_least, c.in-len3.len_below))
    c.a-item-then-inputs-lt4.is c.b-item-then-inputs-lt4.is c.by-item.is
    c.format-in-len3.ensures.format c.format-in-len3-2.ensures.format
    c.format-in-len3-3.ensures.format)
    c.format_of_three.ensures.sound

pub returns-in-len3-clause-refusal : goal.returns-in-len3-clause-refusal
returns-in-len3-clause-refusal g c =
    subst (λ fs. IfErr c.format_of_three.result (λ e. IsRefusal e c.args.job.now fs))
    (map_three (λ i. i.frame.now.format) c.args.inputs.now
    c.a-item-then-inputs-lt4.result c.b-item-then-inputs-lt4.result c.by-item.result
    c.format-in-len3.result c.format-in-len3-2.result c.format-in-len3-3.result
    (omega (arith, c.in-len3.len_at_least, c.in-len3.len_below))
    c.a-item-then-inputs-lt4.is c.b-item-then-inputs-lt4.is c.by-item.is
    c.format-in-len3.ensures.format c.format-in-len3-2.ensures.format
    c.format-in-len3-3.ensures.format)
    c.format_of_three.ensures.refusal
