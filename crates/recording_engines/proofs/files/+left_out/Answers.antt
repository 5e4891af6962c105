use Rattle.std.proofs.Common.{◌∙◌, List, ap, subst, sym}
use Rattle.recording_counts.specs.LeftOut.{left_out_of}
use Rattle.recording_engines.specs.Files.{AreLeftOut}
use Rattle.recording_engines.specs.declared.file.ImportFile.{ImportFile}
use Rattle.recording_engines.proofs.files.+left_out.Goals as goal

pub returns : goal.returns
returns g t c =
    λ omissions are.
    let parts = c.in-Some.ensures.cases in
    let split = subst (λ (fs : List (ImportFile _ _)). AreLeftOut fs omissions) parts.0 are in
    c.add.ensures split.0 split.1 (c.left_out_one-total.ensures ∙ split.2)
    (c.left_out.ensures split.1 split.3) ∙ ap left_out_of (sym split.4)
