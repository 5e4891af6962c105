use Rattle.std.proofs.Common.{◌≡◌, [], ◌∷◌, length, sym, subst, ap, ◌∙◌}
use Rattle.std.proofs.lemmas.Result.{err_from_is_err_and}
use Rattle.st_format.specs.Picture.{IsPicture}
use Rattle.st_format.specs.Position.{sample_count}
use Rattle.bt709_fixed.specs.Operations.{IsOf}
use Rattle.key_mix.specs.Jobs.{IsSoundJob, key_value}
use Rattle.key_mix.specs.Rows.{keyed_at}
use Rattle.key_mix.specs.declared.Job.TheVariants.{Key}
use Rattle.key_mix.specs.declared.faults.JobFault.TheVariants.{FormatsDiffer, KeyNotYcc}
use Rattle.key_mix.proofs.Refused.{
  never_later,
  never_ok,
  no_memory_left,
  no_value,
  other_err,
  refused,
}
use Rattle.key_mix.proofs.Pictures.{keyed_picture}
use Rattle.key_mix.proofs.keys.key.Goals as goal

pub from_samples-requires : goal.from_samples-requires
from_samples-requires g c =
    let a = c.args.a.now in
    let b = c.args.b.now in
    let new = c.in_ok-samples.samples.items in
    let form = c.format-format.ensures.value in
    let same : a.format ≡ b.format =
    sym form ∙ (c.in_ok-test_key.ensures.same.0 ∙ c.format.ensures.value) in
    let is =
    keyed_picture a b c.args.by.now new same c.format-format.ensures.whole
    c.format.ensures.whole
    (c.in_ok-samples.ensures.long ∙ ap sample_count form)
    (λ k h. c.in_ok-samples.ensures.each k h
    ∙ (λ j. keyed_at (form j) (c.format-of_key.ensures.value j) (c.samples.ensures.value j)
    (c.samples-2.ensures.value j) (c.samples-3.ensures.value j) k)) in
    subst (λ f. IsPicture (record { format = f; samples = new })) (sym form) is.0

pub returns-clause-made : goal.returns-clause-made
returns-clause-made g c =
    let a = c.args.a.now in
    let b = c.args.b.now in
    let new = c.in_ok-samples.samples.items in
    let form = c.format-format.ensures.value in
    let same : a.format ≡ b.format =
    sym form ∙ (c.in_ok-test_key.ensures.same.0 ∙ c.format.ensures.value) in
    let is =
    keyed_picture a b c.args.by.now new same c.format-format.ensures.whole
    c.format.ensures.whole
    (c.in_ok-samples.ensures.long ∙ ap sample_count form)
    (λ k h. c.in_ok-samples.ensures.each k h
    ∙ (λ j. keyed_at (form j) (c.format-of_key.ensures.value j) (c.samples.ensures.value j)
    (c.samples-2.ensures.value j) (c.samples-3.ensures.value j) k)) in
    let made : c.from_samples.result ≡ record { format = a.format; samples = new } =
    c.from_samples.ensures.value ∙ (λ j. record { format = form j; samples = new }) in
    subst (IsOf a.format (key_value a b c.args.by.now)) (sym made) is.1

pub returns-in_err-test_key-clause-formats : goal.returns-in_err-test_key-clause-formats
returns-in_err-test_key-clause-formats g c =
    let p = err_from_is_err_and c.from_residual.result c.from_residual.ensures.1 in
    rw (
      p.1,
      p.2,
      sym c.format-format.ensures.value,
      sym c.format.ensures.value,
      sym c.format-of_key.ensures.value,
    ) (other_err c.in_err-test_key.field-0.0 FormatsDiffer c.in_err-test_key.ensures.formats)

pub test_key-requires : goal.test_key-requires
test_key-requires g c =
    tt

pub returns-in_err-test_key-clause-made : goal.returns-in_err-test_key-clause-made
returns-in_err-test_key-clause-made g c =
    no_value _ _ c.from_residual.result c.from_residual.ensures.1

pub returns-in_err-test_key-clause-whole : goal.returns-in_err-test_key-clause-whole
returns-in_err-test_key-clause-whole g c =
    no_value _ _ c.from_residual.result c.from_residual.ensures.1

pub returns-in_err-test_key-clause-sound : goal.returns-in_err-test_key-clause-sound
returns-in_err-test_key-clause-sound g c =
    no_value _ _ c.from_residual.result c.from_residual.ensures.1

pub returns-in_err-test_key-clause-ycc : goal.returns-in_err-test_key-clause-ycc
returns-in_err-test_key-clause-ycc g c =
    let p = err_from_is_err_and c.from_residual.result c.from_residual.ensures.1 in
    rw (
      p.1,
      p.2,
      sym c.format-format.ensures.value,
      sym c.format.ensures.value,
      sym c.format-of_key.ensures.value,
    ) (other_err c.in_err-test_key.field-0.0 KeyNotYcc c.in_err-test_key.ensures.ycc)

pub returns-in_err-test_key-clause-fault : goal.returns-in_err-test_key-clause-fault
returns-in_err-test_key-clause-fault g c =
    refused c.from_residual.result c.in_err-test_key.field-0.0 Key _ _
    (λ j. c.format-format.ensures.value j ∷ c.format.ensures.value j ∷
    c.format-of_key.ensures.value j ∷ [])
    c.from_residual.ensures.1 c.in_err-test_key.ensures.refusal

pub keyed_samples-requires-clause-of_a : goal.keyed_samples-requires-clause-of_a
keyed_samples-requires-clause-of_a g c =
    ap length c.samples.ensures.value ∙ c.format-format.ensures.whole.whole
    ∙ ap sample_count (sym c.format-format.ensures.value)

pub keyed_samples-requires-clause-of_b : goal.keyed_samples-requires-clause-of_b
keyed_samples-requires-clause-of_b g c =
    ap length c.samples-2.ensures.value ∙ c.format.ensures.whole.whole
    ∙ ap sample_count (sym (c.in_ok-test_key.ensures.same.0 ∙ c.format.ensures.value))

pub keyed_samples-requires-clause-of_by : goal.keyed_samples-requires-clause-of_by
keyed_samples-requires-clause-of_by g c =
    ap length c.samples-3.ensures.value ∙ c.format-of_key.ensures.whole.whole
    ∙ ap sample_count (sym c.format-of_key.ensures.value)

pub keyed_samples-requires-clause-alike : goal.keyed_samples-requires-clause-alike
keyed_samples-requires-clause-alike g c =
    c.in_ok-test_key.ensures.same.1

pub returns-in_err-samples-clause-made : goal.returns-in_err-samples-clause-made
returns-in_err-samples-clause-made g c =
    no_value _ _ c.from_residual-in_err-samples.result c.from_residual-in_err-samples.ensures.1

pub returns-in_err-samples-clause-whole : goal.returns-in_err-samples-clause-whole
returns-in_err-samples-clause-whole g c =
    no_value _ _ c.from_residual-in_err-samples.result c.from_residual-in_err-samples.ensures.1

pub returns-in_err-samples-clause-sound : goal.returns-in_err-samples-clause-sound
returns-in_err-samples-clause-sound g c =
    no_value _ _ c.from_residual-in_err-samples.result c.from_residual-in_err-samples.ensures.1

pub returns-in_err-samples-clause-formats : goal.returns-in_err-samples-clause-formats
returns-in_err-samples-clause-formats g c =
    rw (
      sym c.format-format.ensures.value,
      sym c.format.ensures.value,
      sym c.format-of_key.ensures.value,
    ) (never_later c.in_ok-test_key.field-0 FormatsDiffer c.from_residual-in_err-samples.result
    c.from_residual-in_err-samples.ensures.1 (λ h. cc) c.in_ok-test_key.ensures.formats)

pub returns-in_err-samples-clause-ycc : goal.returns-in_err-samples-clause-ycc
returns-in_err-samples-clause-ycc g c =
    rw (
      sym c.format-format.ensures.value,
      sym c.format.ensures.value,
      sym c.format-of_key.ensures.value,
    ) (never_later c.in_ok-test_key.field-0 KeyNotYcc c.from_residual-in_err-samples.result
    c.from_residual-in_err-samples.ensures.1 (λ h. cc) c.in_ok-test_key.ensures.ycc)

pub returns-in_err-samples-clause-fault : goal.returns-in_err-samples-clause-fault
returns-in_err-samples-clause-fault g c =
    no_memory_left c.from_residual-in_err-samples.result Key _ _
    (λ j. c.format-format.ensures.value j ∷ c.format.ensures.value j ∷
    c.format-of_key.ensures.value j ∷ [])
    c.from_residual-in_err-samples.ensures.1 c.in_ok-test_key.ensures.sound

pub returns-clause-whole : goal.returns-clause-whole
returns-clause-whole g c =
    c.from_samples.ensures.whole

pub returns-clause-formats : goal.returns-clause-formats
returns-clause-formats g c =
    rw (
      sym c.format-format.ensures.value,
      sym c.format.ensures.value,
      sym c.format-of_key.ensures.value,
    ) (never_ok c.in_ok-test_key.field-0 FormatsDiffer c.from_samples.result
    c.in_ok-test_key.ensures.formats)

pub returns-clause-ycc : goal.returns-clause-ycc
returns-clause-ycc g c =
    rw (
      sym c.format-format.ensures.value,
      sym c.format.ensures.value,
      sym c.format-of_key.ensures.value,
    ) (never_ok c.in_ok-test_key.field-0 KeyNotYcc c.from_samples.result
    c.in_ok-test_key.ensures.ycc)

pub returns-clause-sound : goal.returns-clause-sound
returns-clause-sound g c =
    subst (IsSoundJob Key)
    (λ j. c.format-format.ensures.value j ∷ c.format.ensures.value j ∷
    c.format-of_key.ensures.value j ∷ [])
    c.in_ok-test_key.ensures.sound

pub returns-clause-fault : goal.returns-clause-fault
returns-clause-fault g c =
    tt
