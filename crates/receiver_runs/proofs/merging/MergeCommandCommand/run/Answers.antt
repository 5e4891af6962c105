use Rattle.std.proofs.Common.{◌∙◌, List, ap, length, subst, sym}
use Rattle.std.specs.Prelude.{IfErr}
use Rattle.std.specs.List.{zip}
use Rattle.command_end.proofs.Outcomes.{on_ok_all, vec_back}
use Rattle.command_end.proofs.Quiet.{refused_both}
use Rattle.devices.specs.Passed.{FileRead, file_ended, file_gave}
use Rattle.devices.specs.declared.file_source.FileSource.{FileSource}
use Rattle.receiver_engines.specs.MergeAllRefused.{IsMergeAllRefusal}
use Rattle.run_outcome.specs.Moments.{WasRead}
use Rattle.run_outcome.specs.Refusing.{OfRefusal}
use Rattle.receiver_runs.proofs.merging.MergeCommandCommand.run.Goals as goal

pub returns-clause-done : goal.returns-clause-done
returns-clause-done c =
    let items = c.args.self.now.others.items in
    let same = ap length c.as_mut_slice.ensures.value in
    rw (
      vec_back c.args.self.now.others.len items c.merge-outcome.new.others
          (sym c.as_mut_slice.ensures.len ∙ same) (c.merge-outcome.ensures.len ∙ same),
      c.settle.ensures.took,
    )
    (rw c.as_mut_slice.ensures.value at
    (on_ok_all _ _ _ _ _ c.merge-outcome.ensures.merged c.merge-outcome.ensures.printed
    c.merge-outcome.ensures.ended))

pub returns-clause-refusal : goal.returns-clause-refusal
returns-clause-refusal c =
    let items = c.args.self.now.others.items in
    let same = ap length c.as_mut_slice.ensures.value in
    let back =
    vec_back c.args.self.now.others.len items c.merge-outcome.new.others
    (sym c.as_mut_slice.ensures.len ∙ same) (c.merge-outcome.ensures.len ∙ same) in
    let said =
    subst (λ (ss : List FileSource). IfErr c.merge-outcome.result (λ f. OfRefusal f
    (IsMergeAllRefusal (FileRead c.args.self.now.left c.merge-outcome.new.left)
    (WasRead file_gave file_ended) (zip items ss)))) (sym back)
    (rw c.as_mut_slice.ensures.value at c.merge-outcome.ensures.refusal) in
    refused_both _ _ c.merge-outcome.result said
    (rw (sym c.settle.ensures.took) at c.merge-outcome.ensures.quiet)

pub returns-clause-wanted : goal.returns-clause-wanted
returns-clause-wanted c = rw (sym c.settle.ensures.took) at c.merge-outcome.ensures.memory
