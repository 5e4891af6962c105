use Rattle.std.proofs.Common.{Some, refl, sym, ◌∙◌}
use Rattle.pcap_file.specs.Openings.{blocks_laid, laid_behind, pcap_laid}
use Rattle.pcap_file.specs.Runs.{layout_seen}
use Rattle.pcap_file.proofs.Gave.{fault_none}
use Rattle.pcap_file.proofs.Openings.{as_blocks, as_magic, fault_like, foreign_fails, gave_like}
use Rattle.pcap_file.proofs.recording.lay_behind.Goals as goal

pub returns-then-long_at-eq-SECTION-clause-gave : goal.returns-then-long_at-eq-SECTION-clause-gave
returns-then-long_at-eq-SECTION-clause-gave g c =
    let four = c.args.four.now in
    let is = sym c.long_at.ensures ∙ c.if-long_at-eq-SECTION.true in
    gave_like (blocks_laid four) (laid_behind four) (λ l. (layout_seen l).laid) _ _
    c.open_blocks.result (λ o. as_blocks four o is) c.open_blocks.ensures.gave

pub returns-then-long_at-eq-SECTION-clause-gave_wrong :
    goal.returns-then-long_at-eq-SECTION-clause-gave_wrong
returns-then-long_at-eq-SECTION-clause-gave_wrong g c =
    let four = c.args.four.now in
    let is = sym c.long_at.ensures ∙ c.if-long_at-eq-SECTION.true in
    fault_like (blocks_laid four) (laid_behind four) _ _ _ c.open_blocks.result
    (λ o. as_blocks four o is) c.open_blocks.ensures.gave_wrong

pub returns-in-Some-clause-gave : goal.returns-in-Some-clause-gave
returns-in-Some-clause-gave g c =
    let four = c.args.four.now in
    gave_like (pcap_laid four) (laid_behind four) (λ l. (layout_seen l).laid) _ _
    c.open_pcap.result
    (λ o. as_magic four o (Some c.in-Some.field-0)
    (λ e. c.if-long_at-eq-SECTION.false (c.long_at.ensures ∙ e))
    (sym c.magic_of.ensures ∙ c.in-Some.is)) c.open_pcap.ensures.gave

pub returns-in-Some-clause-gave_wrong : goal.returns-in-Some-clause-gave_wrong
returns-in-Some-clause-gave_wrong g c =
    let four = c.args.four.now in
    fault_like (pcap_laid four) (laid_behind four) _ _ _ c.open_pcap.result
    (λ o. as_magic four o (Some c.in-Some.field-0)
    (λ e. c.if-long_at-eq-SECTION.false (c.long_at.ensures ∙ e))
    (sym c.magic_of.ensures ∙ c.in-Some.is)) c.open_pcap.ensures.gave_wrong

pub returns-in-None-clause-gave_wrong : goal.returns-in-None-clause-gave_wrong
returns-in-None-clause-gave_wrong g c =
    let four = c.args.four.now in
    fault_none (laid_behind four) _ _ _ c.foreign.result
    (foreign_fails four c.foreign.result c.foreign.ensures
    (λ e. c.if-long_at-eq-SECTION.false (c.long_at.ensures ∙ e))
    (sym c.magic_of.ensures ∙ c.in-None.is)) refl
