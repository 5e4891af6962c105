use Rattle.std.proofs.Common.{length, sym, ◌∙◌}
use Rattle.pcap_file.proofs.BlockReads.{block_bad, block_fails, block_gives}
use Rattle.std.proofs.Common.{Ok, Err, refl}
use Rattle.pcap_file.specs.NgReading.{block_at, block_by, body_in}
use Rattle.pcap_file.proofs.Gave.{fault_as, fault_none, gave_as}
use Rattle.pcap_file.proofs.blocks_reading.read_block.Goals as goal

pub returns-in-Ok-clause-read : goal.returns-in-Ok-clause-read
returns-in-Ok-clause-read g c =
    block_gives c.args.order (length c.args.buf.now) c.args.front.now c.read_block_by.new.buf
    c.long_at.result c.long_at-total.result _ _ c.in-Ok.count c.read_block_by.result
    c.long_at.ensures c.long_at-total.ensures (sym c.body_of_total.ensures.exact ∙ c.in-Ok.is)
    c.read_block_by.ensures.read

pub returns-in-Ok-clause-fault : goal.returns-in-Ok-clause-fault
returns-in-Ok-clause-fault g c =
    block_fails c.args.order (length c.args.buf.now) c.args.front.now c.read_block_by.new.buf
    c.long_at.result c.long_at-total.result _ c.in-Ok.count c.read_block_by.result
    c.long_at.ensures c.long_at-total.ensures (sym c.body_of_total.ensures.exact ∙ c.in-Ok.is)
    c.read_block_by.ensures.fault

pub returns-in-Err-clause-fault : goal.returns-in-Err-clause-fault
returns-in-Err-clause-fault g c =
    block_bad c.args.order (length c.args.buf.now) c.args.front.now c.args.buf.now
    c.long_at-total.result _ c.in-Err.fault c.long_at-total.ensures
    (sym c.body_of_total.ensures.exact ∙ c.in-Err.is)

pub returns-in-Ok-clause-gave : goal.returns-in-Ok-clause-gave
returns-in-Ok-clause-gave g c =
    let buf = c.read_block_by.new.buf in
    let counted = sym c.body_of_total.ensures.exact ∙ c.in-Ok.is in
    gave_as
    (block_by c.args.order c.long_at.result c.long_at-total.result (length c.args.buf.now)
    c.in-Ok.count) (block_at c.args.order (length c.args.buf.now) c.args.front.now)
    (λ r. body_in r buf) (λ r. body_in r buf) _ _ c.read_block_by.result
    (λ r was left p. block_gives c.args.order (length c.args.buf.now) c.args.front.now buf
    c.long_at.result c.long_at-total.result was left c.in-Ok.count (Ok r) c.long_at.ensures
    c.long_at-total.ensures counted p) c.read_block_by.ensures.gave

pub returns-in-Ok-clause-gave_wrong : goal.returns-in-Ok-clause-gave_wrong
returns-in-Ok-clause-gave_wrong g c =
    let buf = c.read_block_by.new.buf in
    let counted = sym c.body_of_total.ensures.exact ∙ c.in-Ok.is in
    fault_as
    (block_by c.args.order c.long_at.result c.long_at-total.result (length c.args.buf.now)
    c.in-Ok.count) (block_at c.args.order (length c.args.buf.now) c.args.front.now) _ _ _
    c.read_block_by.result
    (λ f was p. block_fails c.args.order (length c.args.buf.now) c.args.front.now buf
    c.long_at.result c.long_at-total.result was c.in-Ok.count (Err f) c.long_at.ensures
    c.long_at-total.ensures counted p) c.read_block_by.ensures.gave_wrong

pub returns-in-Err-clause-gave_wrong : goal.returns-in-Err-clause-gave_wrong
returns-in-Err-clause-gave_wrong g c =
    fault_none (block_at c.args.order (length c.args.buf.now) c.args.front.now) _ _ _ c.in-Err.fault
    (λ was. block_bad c.args.order (length c.args.buf.now) c.args.front.now c.args.buf.now
    c.long_at-total.result was c.in-Err.fault c.long_at-total.ensures
    (sym c.body_of_total.ensures.exact ∙ c.in-Err.is)) refl
