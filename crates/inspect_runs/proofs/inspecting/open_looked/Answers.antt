use Rattle.std.proofs.Common.{◌≡◌, All, List, refl, subst, sym}
use Rattle.std.specs.Prelude.{Any}
use Rattle.capture_runs.specs.Looked.{BeginsCapture, IsNoCapture}
use Rattle.capture_runs.specs.declared.replayed.Replayed.{Replayed}
use Rattle.inspect_runs.proofs.inspecting.open_looked.Goals as goal

pub returns-then-looked-clause-aim : goal.returns-then-looked-clause-aim
returns-then-looked-clause-aim c =
    let same : c.of.result.value.items ≡ c.in_ok-looked.looked.files.items = cc in (
      subst (λ (l : List Replayed). Any BeginsCapture l) (sym same)
          (c.in_ok-looked.ensures.looked.yes c.if-looked.true),
      refl,
    )

pub returns-clause-aim : goal.returns-clause-aim
returns-clause-aim c =
    let same : c.of.result.value.items ≡ c.in_ok-looked.looked.files.items = cc in
    subst (λ (l : List Replayed). All IsNoCapture l) (sym same)
    (c.in_ok-looked.ensures.looked.no c.if-looked.false)
