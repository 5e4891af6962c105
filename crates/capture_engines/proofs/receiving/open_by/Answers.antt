use Rattle.std.proofs.Common.{◌≡◌, ℕ, IfErr, List, subst}
use Rattle.run_outcome.specs.declared.fault.Fault.{Fault}
use Rattle.run_outcome.specs.declared.fault.Fault.TheVariants.{Memory}
use Rattle.capture_engines.specs.Received.{WantsOpening}
use Rattle.capture_engines.proofs.receiving.open_by.Goals as goal

pub returns-clause-memory : goal.returns-clause-memory
returns-clause-memory g c =
    subst (λ (w : List ℕ). IfErr c.open.result
    (λ (f : Fault). f ≡ Memory → WantsOpening w c.args.said.now)) c.deref.ensures.value
    c.open.ensures.memory
