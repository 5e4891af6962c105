use Rattle.std.proofs.Common.{◌≡◌, ◌≤◌, ◌∙◌, List, ap, length, subst, sym}
use Rattle.std.specs.Prelude.{IfErr}
use Rattle.std.specs.List.{zip}
use Rattle.capture_engines.specs.Sent.{IsSendRefusal}
use Rattle.command_end.proofs.Outcomes.{vec_back}
use Rattle.command_end.proofs.Quiet.{refused_both}
use Rattle.command_end.specs.InTurn.{IsInTurn}
use Rattle.devices.specs.Passed.{file_ended, file_gave}
use Rattle.devices.specs.declared.file_source.FileSource.{FileSource}
use Rattle.run_outcome.specs.Moments.{WasRead}
use Rattle.run_outcome.specs.Refusing.{OfRefusal}
use Rattle.run_outcome.specs.declared.refusal.Refusal.TheVariants.{SendPictures}
use Rattle.run_outcome.specs.declared.refusal.Writer.TheVariants.{Send}
use Rattle.capture_runs.proofs.sending.SendCommandCommand.run.Goals as goal

pub returns-clause-refusal : goal.returns-clause-refusal
returns-clause-refusal c =
    let items = c.args.self.now.pictures.items in
    let same = ap length c.as_mut_slice.ensures.value in
    let back =
    vec_back c.args.self.now.pictures.len items c.send-outcome.new.pictures
    (sym c.as_mut_slice.ensures.len ∙ same) (c.send-outcome.ensures.len ∙ same) in
    let said =
    subst (λ (ss : List FileSource). IfErr c.send-outcome.result (λ f. OfRefusal f
    (IsInTurn Send c.args.self.now.is_input (length items ≤ 10000) (λ r. r ≡ SendPictures)
    (IsSendRefusal c.args.self.now.wanted.max_octets (length items) c.args.self.now.sdp
    c.send-outcome.new.sdp (WasRead file_gave file_ended) (zip items ss))))) (sym back)
    (rw c.as_mut_slice.ensures.value at c.send-outcome.ensures.refusal) in
    refused_both _ _ c.send-outcome.result said c.send-outcome.ensures.quiet
