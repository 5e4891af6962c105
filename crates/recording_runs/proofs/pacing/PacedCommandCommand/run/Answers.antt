use Rattle.std.proofs.Common.{◌≡◌, ℕ, List, subst, sym}
use Rattle.std.specs.Prelude.{IfErr}
use Rattle.std.specs.Option.{option_copied}
use Rattle.command_end.specs.InTurn.{IsInTurn}
use Rattle.export_engine.specs.Packets.{SayFlows}
use Rattle.devices.specs.Passed.{FileRead, file_ended, file_gave, file_took, output_took}
use Rattle.paced_export.specs.PacedExported.{LeavesPaced}
use Rattle.paced_export.specs.PacedRefused.{IsPacedRefusal}
use Rattle.run_outcome.specs.Refusing.{OfRefusal}
use Rattle.run_outcome.specs.declared.refusal.Refusal.{Refusal}
use Rattle.run_outcome.specs.declared.refusal.Refusal.TheVariants.{ExportFlow}
use Rattle.run_outcome.specs.declared.refusal.Writer.TheVariants.{Export}
use Rattle.recording_runs.proofs.Left.{all_refused}
use Rattle.recording_runs.proofs.pacing.PacedCommandCommand.run.Goals as goal

pub returns-clause-refusal : goal.returns-clause-refusal
returns-clause-refusal c =
    let was = c.args.self.now in
    let now = c.export-outcome.new in
    let a : List ℕ = was.wanted.flows.a.now in
    let b = option_copied was.wanted.flows.b in
    let P : Refusal → Type 0 =
    IsInTurn Export was.is_input (SayFlows a b) (λ r. r ≡ ExportFlow)
    (IsPacedRefusal a b (FileRead was.ahead now.ahead) (FileRead was.capture now.capture)) in
    let L : List ℕ → Type 0 =
    λ took. LeavesPaced was.wanted.start a b (file_gave was.ahead) (file_gave now.ahead)
    (file_ended now.ahead) (file_gave was.capture) (file_gave now.capture)
    (file_ended now.capture) (file_took was.out) took in
    let left =
    subst (λ (took : List ℕ). IfErr c.export-outcome.result (λ f. OfRefusal f (λ r. L took)))
    (sym c.settle.ensures.took) c.export-outcome.ensures.left in
    all_refused P (L (file_took c.settle.new.self))
    (output_took now.output ≡ output_took was.output) c.export-outcome.result
    c.export-outcome.ensures.refusal left c.export-outcome.ensures.quiet
