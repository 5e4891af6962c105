use Rattle.std.proofs.Common.{◌≡◌, [], ◌∷◌, length, sym, subst, ap, ◌∙◌}
use Rattle.std.proofs.lemmas.Result.{err_from_is_err_and}
use Rattle.st_format.specs.Picture.{IsPicture}
use Rattle.st_format.specs.Position.{sample_count}
use Rattle.bt709_fixed.specs.Operations.{IsOf}
use Rattle.key_mix.specs.Jobs.{IsSoundJob, wipe_value}
use Rattle.key_mix.specs.Rows.{wiped_at}
use Rattle.key_mix.specs.declared.Job.TheVariants.{Wipe}
use Rattle.key_mix.specs.declared.faults.JobFault.TheVariants.{FormatsDiffer, BadWipe}
use Rattle.key_mix.proofs.Refused.{
  never_later,
  never_ok,
  no_memory_left,
  no_value,
  other_err,
  refused,
}
use Rattle.key_mix.proofs.Pictures.{wiped_picture}
use Rattle.key_mix.proofs.wipes.wipe.Goals as goal

pub from_samples-requires : goal.from_samples-requires
from_samples-requires g c =
    let a = c.args.a.now in
    let b = c.args.b.now in
    let new = c.in_ok-samples.samples.items in
    let form = c.format-format.ensures.value in
    let same : a.format ≡ b.format =
    sym form ∙ (c.in_ok-test_wipe.ensures.same ∙ c.format.ensures.value) in
    let is =
    wiped_picture c.args.shape a b new same c.format-format.ensures.whole c.format.ensures.whole
    (c.in_ok-samples.ensures.long ∙ ap sample_count form)
    (λ k h. c.in_ok-samples.ensures.each k h
    ∙ (λ j. wiped_at c.args.shape (form j) (c.samples.ensures.value j)
    (c.samples-2.ensures.value j) k)) in
    subst (λ f. IsPicture (record { format = f; samples = new })) (sym form) is.0

pub returns-clause-made : goal.returns-clause-made
returns-clause-made g c =
    let a = c.args.a.now in
    let b = c.args.b.now in
    let new = c.in_ok-samples.samples.items in
    let form = c.format-format.ensures.value in
    let same : a.format ≡ b.format =
    sym form ∙ (c.in_ok-test_wipe.ensures.same ∙ c.format.ensures.value) in
    let is =
    wiped_picture c.args.shape a b new same c.format-format.ensures.whole c.format.ensures.whole
    (c.in_ok-samples.ensures.long ∙ ap sample_count form)
    (λ k h. c.in_ok-samples.ensures.each k h
    ∙ (λ j. wiped_at c.args.shape (form j) (c.samples.ensures.value j)
    (c.samples-2.ensures.value j) k)) in
    let made : c.from_samples.result ≡ record { format = a.format; samples = new } =
    c.from_samples.ensures.value ∙ (λ j. record { format = form j; samples = new }) in
    subst (IsOf a.format (wipe_value c.args.shape a b)) (sym made) is.1

pub test_wipe-requires : goal.test_wipe-requires
test_wipe-requires g c =
    tt

pub returns-in_err-test_wipe-clause-made : goal.returns-in_err-test_wipe-clause-made
returns-in_err-test_wipe-clause-made g c =
    no_value _ _ c.from_residual.result c.from_residual.ensures.1

pub returns-in_err-test_wipe-clause-whole : goal.returns-in_err-test_wipe-clause-whole
returns-in_err-test_wipe-clause-whole g c =
    no_value _ _ c.from_residual.result c.from_residual.ensures.1

pub returns-in_err-test_wipe-clause-sound : goal.returns-in_err-test_wipe-clause-sound
returns-in_err-test_wipe-clause-sound g c =
    no_value _ _ c.from_residual.result c.from_residual.ensures.1

pub returns-in_err-test_wipe-clause-formats : goal.returns-in_err-test_wipe-clause-formats
returns-in_err-test_wipe-clause-formats g c =
    let p = err_from_is_err_and c.from_residual.result c.from_residual.ensures.1 in
    rw (
      p.1,
      p.2,
      sym c.format-format.ensures.value,
      sym c.format.ensures.value,
    ) (other_err c.in_err-test_wipe.field-0.0 FormatsDiffer c.in_err-test_wipe.ensures.formats)

pub returns-in_err-test_wipe-clause-shape : goal.returns-in_err-test_wipe-clause-shape
returns-in_err-test_wipe-clause-shape g c =
    let p = err_from_is_err_and c.from_residual.result c.from_residual.ensures.1 in
    rw (
      p.1,
      p.2,
      sym c.format-format.ensures.value,
      sym c.format.ensures.value,
    ) (other_err c.in_err-test_wipe.field-0.0 BadWipe c.in_err-test_wipe.ensures.shape)

pub returns-in_err-test_wipe-clause-fault : goal.returns-in_err-test_wipe-clause-fault
returns-in_err-test_wipe-clause-fault g c =
    refused c.from_residual.result c.in_err-test_wipe.field-0.0 (Wipe c.args.shape) _ _
    (λ j. c.format-format.ensures.value j ∷ c.format.ensures.value j ∷ [])
    c.from_residual.ensures.1 c.in_err-test_wipe.ensures.refusal

pub wiped_samples-requires-clause-of_a : goal.wiped_samples-requires-clause-of_a
wiped_samples-requires-clause-of_a g c =
    ap length c.samples.ensures.value ∙ c.format-format.ensures.whole.whole
    ∙ ap sample_count (sym c.format-format.ensures.value)

pub wiped_samples-requires-clause-of_b : goal.wiped_samples-requires-clause-of_b
wiped_samples-requires-clause-of_b g c =
    ap length c.samples-2.ensures.value ∙ c.format.ensures.whole.whole
    ∙ ap sample_count (sym (c.in_ok-test_wipe.ensures.same ∙ c.format.ensures.value))

pub returns-in_err-samples-clause-made : goal.returns-in_err-samples-clause-made
returns-in_err-samples-clause-made g c =
    no_value _ _ c.from_residual-in_err-samples.result c.from_residual-in_err-samples.ensures.1

pub returns-in_err-samples-clause-whole : goal.returns-in_err-samples-clause-whole
returns-in_err-samples-clause-whole g c =
    no_value _ _ c.from_residual-in_err-samples.result c.from_residual-in_err-samples.ensures.1

pub returns-in_err-samples-clause-sound : goal.returns-in_err-samples-clause-sound
returns-in_err-samples-clause-sound g c =
    no_value _ _ c.from_residual-in_err-samples.result c.from_residual-in_err-samples.ensures.1

pub returns-in_err-samples-clause-formats : goal.returns-in_err-samples-clause-formats
returns-in_err-samples-clause-formats g c =
    rw (
      sym c.format-format.ensures.value,
      sym c.format.ensures.value,
    ) (never_later c.in_ok-test_wipe.field-0 FormatsDiffer c.from_residual-in_err-samples.result
    c.from_residual-in_err-samples.ensures.1 (λ h. cc) c.in_ok-test_wipe.ensures.formats)

pub returns-in_err-samples-clause-shape : goal.returns-in_err-samples-clause-shape
returns-in_err-samples-clause-shape g c =
    rw (
      sym c.format-format.ensures.value,
      sym c.format.ensures.value,
    ) (never_later c.in_ok-test_wipe.field-0 BadWipe c.from_residual-in_err-samples.result
    c.from_residual-in_err-samples.ensures.1 (λ h. cc) c.in_ok-test_wipe.ensures.shape)

pub returns-in_err-samples-clause-fault : goal.returns-in_err-samples-clause-fault
returns-in_err-samples-clause-fault g c =
    no_memory_left c.from_residual-in_err-samples.result (Wipe c.args.shape) _ _
    (λ j. c.format-format.ensures.value j ∷ c.format.ensures.value j ∷ [])
    c.from_residual-in_err-samples.ensures.1 c.in_ok-test_wipe.ensures.sound

pub returns-clause-whole : goal.returns-clause-whole
returns-clause-whole g c =
    c.from_samples.ensures.whole

pub returns-clause-formats : goal.returns-clause-formats
returns-clause-formats g c =
    rw (
      sym c.format-format.ensures.value,
      sym c.format.ensures.value,
    ) (never_ok c.in_ok-test_wipe.field-0 FormatsDiffer c.from_samples.result
    c.in_ok-test_wipe.ensures.formats)

pub returns-clause-shape : goal.returns-clause-shape
returns-clause-shape g c =
    rw (
      sym c.format-format.ensures.value,
      sym c.format.ensures.value,
    ) (never_ok c.in_ok-test_wipe.field-0 BadWipe c.from_samples.result
    c.in_ok-test_wipe.ensures.shape)

pub returns-clause-sound : goal.returns-clause-sound
returns-clause-sound g c =
    subst (IsSoundJob (Wipe c.args.shape))
    (λ j. c.format-format.ensures.value j ∷ c.format.ensures.value j ∷ [])
    c.in_ok-test_wipe.ensures.sound

pub returns-clause-fault : goal.returns-clause-fault
returns-clause-fault g c =
    tt
