use Rattle.std.proofs.Common.{length, take}
use Rattle.pcap_file.specs.NgSteps.{known}
use Rattle.pcap_file.proofs.Steps.{counts_pure, other_cut, other_fails, other_gives, other_none}
use Rattle.std.proofs.Common.{None, Some}
use Rattle.pcap_file.specs.NgReading.{block_at}
use Rattle.pcap_file.specs.NgSteps.{other_step, step_seen}
use Rattle.pcap_file.proofs.Gave.{fault_made, gave_made}
use Rattle.pcap_file.proofs.section.next_other.Goals as goal
use Rattle.st_format.proofs.Gave.{fault_one, gave_one}
use Rattle.pcap_file.specs.Fields.{recording_fault_origin}

pub returns-in-Ok-Some-clause-read : goal.returns-in-Ok-Some-clause-read
returns-in-Ok-Some-clause-read g c =
    let e = rw c.in-Ok-Some.field-0-is at c.in-Ok-Some.ensures in
    other_gives (length c.args.buf.now) (known c.args.section.now) c.args.front.now _ _
    c.long_at.result c.in-Ok-Some.count c.read_block.new.buf c.enter.result
    (known c.enter.new.section) c.long_at.ensures e.read c.enter.ensures.ok c.enter.ensures.within

pub returns-in-Ok-Some-clause-fault : goal.returns-in-Ok-Some-clause-fault
returns-in-Ok-Some-clause-fault g c =
    let e = rw c.in-Ok-Some.field-0-is at c.in-Ok-Some.ensures in
    other_fails (length c.args.buf.now) (known c.args.section.now) c.args.front.now _ _
    c.long_at.result (take c.in-Ok-Some.count c.read_block.new.buf) c.enter.result
    c.long_at.ensures e.read c.enter.ensures.fault

pub returns-in-Ok-Some-clause-counted : goal.returns-in-Ok-Some-clause-counted
returns-in-Ok-Some-clause-counted g c =
    counts_pure c.enter.result _ _ c.enter.ensures.named c.in-Ok-Some.ensures.counted

pub returns-in-Ok-None-clause-read : goal.returns-in-Ok-None-clause-read
returns-in-Ok-None-clause-read g c =
    let e = rw c.in-Ok-None.field-0-is at c.in-Ok-None.ensures in
    other_none (length c.args.buf.now) (known c.args.section.now) c.args.front.now _ _ e.read

pub returns-in-Err-clause-fault : goal.returns-in-Err-clause-fault
returns-in-Err-clause-fault g c =
    other_cut (length c.args.buf.now) (known c.args.section.now) c.args.front.now _ c.in-Err.fault
    c.in-Err.ensures.fault

pub returns-in-Ok-Some-clause-gave : goal.returns-in-Ok-Some-clause-gave
returns-in-Ok-Some-clause-gave g c =
    let e = rw c.in-Ok-Some.field-0-is at c.in-Ok-Some.ensures in
    let buf = c.read_block.new.buf in
    let n = c.in-Ok-Some.count in
    let k = known c.enter.new.section in
    gave_made (block_at c.args.section.now.order (length c.args.buf.now) c.args.front.now)
    (other_step (length c.args.buf.now) (known c.args.section.now) c.args.front.now)
    (Some (take n buf)) (λ s. (k, step_seen s buf)) _ _ c.enter.result
    (λ was left p. other_gives (length c.args.buf.now) (known c.args.section.now) c.args.front.now
    was left c.long_at.result n buf c.enter.result k c.long_at.ensures p c.enter.ensures.ok
    c.enter.ensures.within) e.gave

pub returns-in-Ok-Some-clause-gave_wrong : goal.returns-in-Ok-Some-clause-gave_wrong
returns-in-Ok-Some-clause-gave_wrong g c =
    let e = rw c.in-Ok-Some.field-0-is at c.in-Ok-Some.ensures in
    let body = take c.in-Ok-Some.count c.read_block.new.buf in
    fault_made (block_at c.args.section.now.order (length c.args.buf.now) c.args.front.now)
    (other_step (length c.args.buf.now) (known c.args.section.now) c.args.front.now)
    (Some body) _ _ _ c.enter.result
    (λ was left p. other_fails (length c.args.buf.now) (known c.args.section.now) c.args.front.now
    was left c.long_at.result body c.enter.result c.long_at.ensures p c.enter.ensures.fault) e.gave

pub returns-in-Ok-None-clause-gave : goal.returns-in-Ok-None-clause-gave
returns-in-Ok-None-clause-gave g c =
    let e = rw c.in-Ok-None.field-0-is at c.in-Ok-None.ensures in
    gave_one (block_at c.args.section.now.order (length c.args.buf.now) c.args.front.now)
    (other_step (length c.args.buf.now) (known c.args.section.now) c.args.front.now) None
    (known c.args.section.now, Some None) _ _
    (λ was left p. other_none (length c.args.buf.now) (known c.args.section.now) c.args.front.now
    was left p) e.gave

pub returns-in-Err-clause-gave_wrong : goal.returns-in-Err-clause-gave_wrong
returns-in-Err-clause-gave_wrong g c =
    fault_one recording_fault_origin
    (block_at c.args.section.now.order (length c.args.buf.now) c.args.front.now)
    (other_step (length c.args.buf.now) (known c.args.section.now) c.args.front.now) _ _ _
    c.in-Err.fault
    (λ was q. other_cut (length c.args.buf.now) (known c.args.section.now) c.args.front.now was
    c.in-Err.fault q) c.in-Err.ensures.gave_wrong
