use Rattle.std.proofs.Common.{◌-◌, length, refl, arith}
use Rattle.st_format.proofs.Histories.{grew_none}
use Rattle.pcap_file.specs.NgSteps.{known, step_at}
use Rattle.pcap_file.specs.Runs.{InBlocks}
use Rattle.pcap_file.proofs.Growing.{block_grew}
use Rattle.pcap_file.proofs.Runs.{block_faults, block_reads, reads_too_many}
use Rattle.pcap_file.proofs.recording.block_step.Goals as goal

pub returns-then-left-eq0-clause-fault : goal.returns-then-left-eq0-clause-fault
returns-then-left-eq0-clause-fault g c =
    reads_too_many c.args.left.now (length c.args.buf.now) (InBlocks (known c.args.section.now)) _
    _ _ c.if-left-eq0.true refl

pub returns-clause-read : goal.returns-clause-read
returns-clause-read g c =
    block_reads (length c.args.buf.now) (known c.args.section.now) c.args.left.now
    (c.args.left.now - 1) (known c.next_block.new.section) _ _ _ c.next_block.new.buf
    c.next_block.result (omega (arith, c.if-left-eq0.false)) c.next_block.ensures.gave

pub returns-clause-fault : goal.returns-clause-fault
returns-clause-fault g c =
    block_faults (length c.args.buf.now) (known c.args.section.now) c.args.left.now
    (c.args.left.now - 1) _ _ _ c.next_block.result (omega (arith, c.if-left-eq0.false))
    c.next_block.ensures.gave_wrong

pub returns-then-left-eq0-clause-grown : goal.returns-then-left-eq0-clause-grown
returns-then-left-eq0-clause-grown g c = grew_none (g.S.ByteSource.gave c.args.source.now)

pub returns-clause-grown : goal.returns-clause-grown
returns-clause-grown g c =
    block_grew (step_at (length c.args.buf.now) (known c.args.section.now)) _ _ _
    (known c.next_block.new.section) c.next_block.new.buf c.next_block.result
    c.next_block.ensures.gave c.next_block.ensures.gave_wrong
