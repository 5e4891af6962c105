use Rattle.std.proofs.Common.{◌++◌, ◌∷◌, ◌∙◌, List, [], subst, sym}
use Rattle.std.specs.List.{AllByRecursion}
use Rattle.recording_runs.specs.Files.{AreNew}
use Rattle.recording_runs.proofs.importing.given_files.Goals as goal

all_more : {X : Type 0} (P : X → Type 0) (xs : List X) (x : X) → AllByRecursion P xs → P x
    → AllByRecursion P (xs ++ x ∷ [])
all_more P [] x all is = (is, tt)
all_more P (y ∷ ys) x all is = (all.0, all_more P ys x all.1 is)

pub loop-name-init : goal.loop-name-init
loop-name-init c = subst (λ (fs : List _). AreNew fs) (sym c.new-files.ensures.items) (tt, tt)

pub loop-name-preserved : goal.loop-name-preserved
loop-name-preserved c =
    subst (λ (fs : List _). AreNew fs) (sym c.in_ok-push.ensures.items) (
      all_more _ c.loop-name.files.items _ c.loop-name.invariant.0 tt,
      all_more _ c.loop-name.files.items _ c.loop-name.invariant.1
          (c.metered-file.ensures.gave ∙ c.given.ensures.fresh),
    )
