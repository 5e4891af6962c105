use Rattle.std.proofs.Common.{sym, ◌∙◌}
use Rattle.pcap_file.proofs.BlockReads.{section_bad, section_fails, section_gives}
use Rattle.std.proofs.Common.{Ok, Err, refl}
use Rattle.pcap_file.specs.NgReading.{section_by, section_rest_at}
use Rattle.pcap_file.proofs.Gave.{fault_as, fault_none, gave_as}
use Rattle.pcap_file.proofs.blocks_reading.read_section_by.Goals as goal

pub returns-in-Ok-clause-read : goal.returns-in-Ok-clause-read
returns-in-Ok-clause-read g c =
    section_gives c.args.order c.args.front.now c.long_at-total.result _ _ c.in-Ok.count
    c.read_section_rest.result c.long_at-total.ensures (sym c.section_count.ensures ∙ c.in-Ok.is)
    c.read_section_rest.ensures.read

pub returns-in-Ok-clause-fault : goal.returns-in-Ok-clause-fault
returns-in-Ok-clause-fault g c =
    section_fails c.args.order c.args.front.now c.long_at-total.result _ c.in-Ok.count
    c.read_section_rest.result c.long_at-total.ensures (sym c.section_count.ensures ∙ c.in-Ok.is)
    c.read_section_rest.ensures.fault

pub returns-in-Err-clause-fault : goal.returns-in-Err-clause-fault
returns-in-Err-clause-fault g c =
    section_bad c.args.order c.args.front.now c.long_at-total.result _ c.in-Err.fault
    c.long_at-total.ensures (sym c.section_count.ensures ∙ c.in-Err.is)

pub returns-in-Ok-clause-gave : goal.returns-in-Ok-clause-gave
returns-in-Ok-clause-gave g c =
    let counted = sym c.section_count.ensures ∙ c.in-Ok.is in
    gave_as (section_rest_at c.args.order c.long_at-total.result c.in-Ok.count)
    (section_by c.args.order c.args.front.now) (λ u. u) (λ u. u) _ _ c.read_section_rest.result
    (λ u was left p. section_gives c.args.order c.args.front.now c.long_at-total.result was left
    c.in-Ok.count (Ok u) c.long_at-total.ensures counted p) c.read_section_rest.ensures.gave

pub returns-in-Ok-clause-gave_wrong : goal.returns-in-Ok-clause-gave_wrong
returns-in-Ok-clause-gave_wrong g c =
    let counted = sym c.section_count.ensures ∙ c.in-Ok.is in
    fault_as (section_rest_at c.args.order c.long_at-total.result c.in-Ok.count)
    (section_by c.args.order c.args.front.now) _ _ _ c.read_section_rest.result
    (λ f was p. section_fails c.args.order c.args.front.now c.long_at-total.result was
    c.in-Ok.count (Err f) c.long_at-total.ensures counted p) c.read_section_rest.ensures.gave_wrong

pub returns-in-Err-clause-gave_wrong : goal.returns-in-Err-clause-gave_wrong
returns-in-Err-clause-gave_wrong g c =
    fault_none (section_by c.args.order c.args.front.now) _ _ _ c.in-Err.fault
    (λ was. section_bad c.args.order c.args.front.now c.long_at-total.result was c.in-Err.fault
    c.long_at-total.ensures (sym c.section_count.ensures ∙ c.in-Err.is)) refl
