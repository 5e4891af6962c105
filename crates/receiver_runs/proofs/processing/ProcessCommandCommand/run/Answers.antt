use Rattle.std.proofs.Common.{◌≡◌, ◌∙◌, List, ap, length, subst, sym}
use Rattle.std.specs.Prelude.{IfErr}
use Rattle.std.specs.List.{zip}
use Rattle.command_end.proofs.Outcomes.{vec_back}
use Rattle.command_end.proofs.Quiet.{refused_both}
use Rattle.command_end.specs.InTurn.{IsInTurn}
use Rattle.devices.specs.Passed.{file_ended, file_gave}
use Rattle.devices.specs.declared.file_source.FileSource.{FileSource}
use Rattle.receiver_engines.specs.Refused.{IsSaidRunRefusal, SaysJob}
use Rattle.run_outcome.specs.Moments.{WasRead, pair}
use Rattle.run_outcome.specs.Refusing.{OfRefusal}
use Rattle.run_outcome.specs.declared.refusal.Refusal.TheVariants.{ProcessJob}
use Rattle.run_outcome.specs.declared.refusal.Writer.TheVariants.{Process}
use Rattle.receiver_runs.proofs.processing.ProcessCommandCommand.run.Goals as goal

pub returns-clause-done : goal.returns-clause-done
returns-clause-done c =
    let items = c.args.self.now.states.items in
    let same = ap length c.as_mut_slice.ensures.value in
    rw (
      vec_back c.args.self.now.states.len items c.process-outcome.new.states
          (sym c.as_mut_slice.ensures.len ∙ same) (c.process-outcome.ensures.len ∙ same),
      c.settle.ensures.took,
    )
    (rw c.as_mut_slice.ensures.value at c.process-outcome.ensures.sent)

pub returns-clause-refusal : goal.returns-clause-refusal
returns-clause-refusal c =
    let items = c.args.self.now.states.items in
    let same = ap length c.as_mut_slice.ensures.value in
    let back =
    vec_back c.args.self.now.states.len items c.process-outcome.new.states
    (sym c.as_mut_slice.ensures.len ∙ same) (c.process-outcome.ensures.len ∙ same) in
    let said =
    subst (λ (ss : List FileSource). IfErr c.process-outcome.result (λ f. OfRefusal f
    (IsInTurn Process c.args.self.now.is_input (SaysJob c.args.self.now.wanted)
    (λ r. r ≡ ProcessJob)
    (IsSaidRunRefusal (WasRead file_gave file_ended) c.args.self.now.sdp
    c.process-outcome.new.sdp (zip items ss)
    (pair c.args.self.now.hold c.process-outcome.new.hold) c.args.self.now.wanted)))) (sym back)
    (rw c.as_mut_slice.ensures.value at c.process-outcome.ensures.refusal) in
    refused_both _ _ c.process-outcome.result said
    (rw (sym c.settle.ensures.took) at c.process-outcome.ensures.quiet)

pub returns-clause-wanted : goal.returns-clause-wanted
returns-clause-wanted c = rw (sym c.settle.ensures.took) at c.process-outcome.ensures.memory
