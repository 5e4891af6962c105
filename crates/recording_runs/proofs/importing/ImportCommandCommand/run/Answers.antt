use Rattle.std.proofs.Common.{ℕ, ◌∙◌, List, ap, length, subst, sym}
use Rattle.std.specs.Prelude.{IfErr, ⊤}
use Rattle.std.specs.List.{zip}
use Rattle.std.specs.Option.{option_copied}
use Rattle.command_end.proofs.Outcomes.{vec_back}
use Rattle.command_end.proofs.Quiet.{refused_both}
use Rattle.command_end.specs.InTurn.{IsInTurn}
use Rattle.devices.specs.Passed.{FileRead, file_ended, file_gave, file_took}
use Rattle.devices.specs.declared.file_source.FileSource.{FileSource}
use Rattle.recording_engines.specs.Files.{ended_by, gave_by}
use Rattle.recording_engines.specs.Imported.{IsImportRefusal}
use Rattle.recording_engines.specs.declared.file.ImportFile.{ImportFile}
use Rattle.run_outcome.specs.Moments.{WasRead}
use Rattle.run_outcome.specs.Refusing.{OfRefusal}
use Rattle.run_outcome.specs.Text.{GivesText}
use Rattle.run_outcome.specs.declared.refusal.Writer.TheVariants.{Import}
use Rattle.recording_runs.proofs.Left.{wanted_by}
use Rattle.recording_runs.proofs.importing.ImportCommandCommand.run.Goals as goal

pub returns-clause-done : goal.returns-clause-done
returns-clause-done c =
    let items = c.args.self.now.files.items in
    let same = ap length c.as_mut_slice.ensures.value in
    rw (
      vec_back c.args.self.now.files.len items c.import-outcome.new.files
          (sym c.as_mut_slice.ensures.len ∙ same) (c.import-outcome.ensures.len ∙ same),
      c.settle.ensures.took,
    )
    (rw c.as_mut_slice.ensures.value at c.import-outcome.ensures.imported)

pub returns-clause-refusal : goal.returns-clause-refusal
returns-clause-refusal c =
    let items = c.args.self.now.files.items in
    let same = ap length c.as_mut_slice.ensures.value in
    let back =
    vec_back c.args.self.now.files.len items c.import-outcome.new.files
    (sym c.as_mut_slice.ensures.len ∙ same) (c.import-outcome.ensures.len ∙ same) in
    let sdp = c.args.self.now.sdp in
    let sdp' = c.import-outcome.new.sdp in
    let settled =
    subst (λ (took : List ℕ). IfErr c.import-outcome.result (λ f. OfRefusal f
    (IsInTurn Import c.args.self.now.is_input ⊤ (λ _. ⊥)
    (IsImportRefusal (option_copied c.args.self.now.wanted.a)
    (option_copied c.args.self.now.wanted.b) (FileRead sdp sdp')
    (GivesText 65535 (file_gave sdp) (file_gave sdp') (file_ended sdp'))
    (WasRead (gave_by file_gave) (ended_by file_ended)) (zip items c.import-outcome.new.files)
    (file_took c.args.self.now.out) took))))
    (sym c.settle.ensures.took)
    (rw c.as_mut_slice.ensures.value at c.import-outcome.ensures.refusal) in
    let said =
    subst (λ (ss : List (ImportFile _ FileSource)). IfErr c.import-outcome.result
    (λ f. OfRefusal f (IsInTurn Import c.args.self.now.is_input ⊤ (λ _. ⊥)
    (IsImportRefusal (option_copied c.args.self.now.wanted.a)
    (option_copied c.args.self.now.wanted.b) (FileRead sdp sdp')
    (GivesText 65535 (file_gave sdp) (file_gave sdp') (file_ended sdp'))
    (WasRead (gave_by file_gave) (ended_by file_ended)) (zip items ss)
    (file_took c.args.self.now.out) (file_took c.settle.new.self))))) (sym back) settled in
    refused_both _ _ c.import-outcome.result said c.import-outcome.ensures.quiet

pub returns-clause-wanted : goal.returns-clause-wanted
returns-clause-wanted c =
    let items = c.args.self.now.files.items in
    let same = ap length c.as_mut_slice.ensures.value in
    rw (
      vec_back c.args.self.now.files.len items c.import-outcome.new.files
          (sym c.as_mut_slice.ensures.len ∙ same) (c.import-outcome.ensures.len ∙ same),
      c.settle.ensures.took,
    )
    (wanted_by c.import-outcome.result _ c.import-outcome.ensures.memory)
