use Rattle.std.proofs.Common.{refl}
use Rattle.std.specs.Prelude.{IsFalse}
use Rattle.command_end.proofs.Quiet.{refused_both}
use Rattle.command_end.specs.Untouched.{AreUntouched}
use Rattle.run_outcome.proofs.Refusals.{if_err_map, of_refusal_map}
use Rattle.devices.specs.Passed.{file_took, output_took}
use Rattle.capture_runs.proofs.Told.{begun_refused, opened_refused, untouched, unwritten}
use Rattle.capture_runs.proofs.receiving.ReceiveCommandCommand.run.Goals as goal
use Rattle.capture_runs.proofs.receiving.ReceiveCommandCommand.run.Goals.{in-Ok, in-Err}

pub returns-clause-refusal : goal.returns-clause-refusal
returns-clause-refusal c =
    elim c.match-self.branch [
      | in-Ok w ↦
          rw (w.outcome-is, w.self-is)
          (refused_both _ _ w.take-outcome.result
          (if_err_map w.take-outcome.result
          (λ f. of_refusal_map f
          (λ r is. begun_refused c.args.self.now.opened _ r w.in-Ok.is is))
          w.take-outcome.ensures.refusal)
          (untouched w.take-outcome.result _ (λ o. output_took o) c.args.self.now.state.sink
          w.take-outcome.new.state c.args.self.now.output w.take-outcome.new.output
          (file_took c.args.self.now.state) (file_took c.settle.new.self)
          w.take-outcome.ensures.kept w.take-outcome.ensures.quiet
          (λ same. rw same at (rw w.self-is at c.settle.ensures.took))))
      | in-Err w ↦
          let left : IsFalse c.args.self.now.is_sound
          → AreUntouched c.args.self.now.state c.settle.new.self c.args.self.now.output
          c.args.self.now.output =
          λ sound. (rw w.self-is at c.settle.ensures.took, refl) in
          rw (w.outcome-is, w.self-is) (opened_refused _ _ _ _ w.in-Err.is left)
    ]

pub returns-clause-wanted : goal.returns-clause-wanted
returns-clause-wanted c =
    elim c.match-self.branch [
      | in-Ok w ↦
          rw (w.outcome-is, w.self-is)
          (unwritten w.take-outcome.result _ (λ o. output_took o) c.args.self.now.state.sink
          w.take-outcome.new.state c.args.self.now.output w.take-outcome.new.output
          (file_took c.args.self.now.state) (file_took c.settle.new.self)
          w.take-outcome.ensures.memory
          (λ same. rw same at (rw w.self-is at c.settle.ensures.took)))
      | in-Err w ↦
          let left : IsFalse c.args.self.now.is_sound
          → AreUntouched c.args.self.now.state c.settle.new.self c.args.self.now.output
          c.args.self.now.output =
          λ sound. (rw w.self-is at c.settle.ensures.took, refl) in
          rw (w.outcome-is, w.self-is) (λ memory. left)
    ]
