use Rattle.std.proofs.Common.{arith}
use Rattle.std.proofs.lemmas.Result.{err_from_is_err_and}
use Rattle.pcap_file.specs.NgReading.{section_at}
use Rattle.pcap_file.specs.NgSteps.{known}
use Rattle.pcap_file.specs.Openings.{behind_at, blocks_laid}
use Rattle.pcap_file.specs.Runs.{InBlocks}
use Rattle.pcap_file.proofs.Openings.{behind_as, behind_wrong_as, blocks_cut, blocks_fails}
use Rattle.pcap_file.proofs.Openings.{blocks_gives}
use Rattle.pcap_file.proofs.recording.open_blocks.Goals as goal
use Rattle.st_format.proofs.Gave.{fault_one, fault_two, gave_two}
use Rattle.pcap_file.specs.Fields.{recording_fault_origin}

pub returns-in_err-read_behind-clause-gave_wrong : goal.returns-in_err-read_behind-clause-gave_wrong
returns-in_err-read_behind-clause-gave_wrong g c =
    let four = c.args.four.now in
    let f = c.in_err-read_behind.field-0.0 in
    let p = err_from_is_err_and c.from_residual.result c.from_residual.ensures.1 in
    rw (p.1, p.2)
    (fault_one recording_fault_origin (behind_at four 4) (blocks_laid four) _ _ _ f
    (λ was q. blocks_cut four f was q)
    (behind_wrong_as four _ 4 _ _ _ f (omega (arith, c.requires.four))
    c.in_err-read_behind.ensures.gave_wrong))

pub returns-in-Ok-clause-gave : goal.returns-in-Ok-clause-gave
returns-in-Ok-clause-gave g c =
    let four = c.args.four.now in
    let front = c.read_behind.new.octets in
    let k = known c.new.result in
    gave_two (behind_at four 4) (section_at front) (blocks_laid four) front c.in-Ok.order
    (InBlocks k) _ _ _
    (λ was mid left p q. blocks_gives four front c.in-Ok.order k was mid left c.new.ensures p q)
    (behind_as four front _ 4 _ _ (omega (arith, c.requires.four))
    c.in_ok-read_behind.ensures.gave) c.in-Ok.ensures.gave

pub returns-in-Err-clause-gave_wrong : goal.returns-in-Err-clause-gave_wrong
returns-in-Err-clause-gave_wrong g c =
    let four = c.args.four.now in
    let front = c.read_behind.new.octets in
    let f = c.in-Err.fault in
    fault_two recording_fault_origin (behind_at four 4) (section_at front) (blocks_laid four) front
    _ _ _ _ f
    (λ was mid p q. blocks_fails four front f was mid p q)
    (behind_as four front _ 4 _ _ (omega (arith, c.requires.four))
    c.in_ok-read_behind.ensures.gave) c.in-Err.ensures.gave_wrong
