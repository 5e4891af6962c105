use Rattle.std.proofs.Common.{arith}
use Rattle.pcap_file.proofs.Openings.{behind_gave, behind_gave_wrong}
use Rattle.pcap_file.proofs.recording.read_behind.Goals as goal

pub returns-clause-gave : goal.returns-clause-gave
returns-clause-gave g c =
    behind_gave c.args.four.now c.copy_from_slice.new.self c.read_field.new.buf _ _ _ _
    c.read_field.result (omega (arith, c.split_at_mut-front.ensures.back_len))
    c.copy_from_slice.ensures.after c.read_field.ensures.gave

pub returns-clause-gave_wrong : goal.returns-clause-gave_wrong
returns-clause-gave_wrong g c =
    behind_gave_wrong c.args.four.now _ _ _ _ _ c.read_field.result
    (omega (arith, c.split_at_mut-front.ensures.back_len)) c.read_field.ensures.gave_wrong
