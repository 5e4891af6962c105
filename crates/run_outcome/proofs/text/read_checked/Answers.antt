use Rattle.std.proofs.Common.{rules, ◌≡◌, ◌⊎◌, List, ℕ, subst}
use Rattle.std.proofs.lemmas.Result.{err_from_is_err_and}
use Rattle.sdp_format.specs.Bytes.{lines}
use Rattle.sdp_format.specs.Grammar.{IsDescribed, IsTextFault}
use Rattle.sdp_format.specs.Sections.{video_sections}
use Rattle.sdp_format.specs.Views.{description}
use Rattle.sdp_format.specs.declared.fault.SdpFault.TheVariants.{NoMemory}
use Rattle.run_outcome.specs.TextRefusals.{IsCaptureText}
use Rattle.run_outcome.specs.Text.{GivesText}
use Rattle.run_outcome.proofs.Refusals.{of_source, text_fault_refused}
use Rattle.run_outcome.proofs.SaidTexts.{few_of}
use Rattle.run_outcome.proofs.text.read_checked.Goals as goal

pub returns-in_err-read_located-clause-refusal : goal.returns-in_err-read_located-clause-refusal
returns-in_err-read_located-clause-refusal g c =
    let said = c.in-Some.said.items in
    let old = g.S.ByteSource.gave c.args.source.now in
    let new = g.S.ByteSource.gave c.read_text.new.source in
    let ended = g.S.ByteSource.ended c.read_text.new.source in
    let gives : GivesText 65535 old new ended said = search rules in
    let place = c.in_err-read_located.field-0.0 in
    let faulty : (place.fault ≡ NoMemory) ⊎ IsTextFault (video_sections (lines said)) place.fault =
    subst (λ (l : List ℕ). (place.fault ≡ NoMemory) ⊎ IsTextFault
    (video_sections (lines l)) place.fault)
    c.deref.ensures.value c.in_err-read_located.ensures.fault in
    let p =
    err_from_is_err_and c.from_residual-in_err-read_located.result
    c.from_residual-in_err-read_located.ensures.1 in
    rw (p.1, p.2) (text_fault_refused c.args.too_long old new ended said gives place faulty)

pub returns-clause-says : goal.returns-clause-says
returns-clause-says g c =
    let said = c.in-Some.said.items in
    let old = g.S.ByteSource.gave c.args.source.now in
    let new = g.S.ByteSource.gave c.read_text.new.source in
    let ended = g.S.ByteSource.ended c.read_text.new.source in
    let gives : GivesText 65535 old new ended said = search rules in
    let sdp = description c.in_ok-read_located.field-0 in
    of_source IsCaptureText old new ended said gives (record {
      few = gives.few;
      description = sdp;
      described =
          subst (λ (l : List ℕ). IsDescribed (video_sections (lines l)) sdp)
          c.deref.ensures.value c.in_ok-read_located.ensures.said;
    })

pub returns-in_err-read_located-clause-memory : goal.returns-in_err-read_located-clause-memory
returns-in_err-read_located-clause-memory g c =
    let said = c.in-Some.said.items in
    let old = g.S.ByteSource.gave c.args.source.now in
    let new = g.S.ByteSource.gave c.read_text.new.source in
    let ended = g.S.ByteSource.ended c.read_text.new.source in
    let gives : GivesText 65535 old new ended said = search rules in
    let p =
    err_from_is_err_and c.from_residual-in_err-read_located.result
    c.from_residual-in_err-read_located.ensures.1 in
    rw (p.1) (λ memory. few_of 65535 old new ended said gives)

pub returns-in_err-said-clause-memory : goal.returns-in_err-said-clause-memory
returns-in_err-said-clause-memory g c =
    let p = err_from_is_err_and c.from_residual.result c.from_residual.ensures.1 in
    rw (p.1, p.2) c.in_err-said.ensures.memory
