use Rattle.std.proofs.Common.{Some, ap, refl}
use Rattle.rtp_header.specs.Views.{seen_rtp}
use Rattle.recording_counts.specs.declared.packet.Packet.{Packet}
use Rattle.stream_inspection.proofs.Answering.{looks_right, looks_wrong}
use Rattle.stream_inspection.proofs.looking.look_at.Goals as goal

pub returns-in-Err : goal.returns-in-Err
returns-in-Err c =
    looks_wrong c.args.target.now c.args.path c.args.octets.now c.in-Err.fault _
    c.in-Err.ensures.exact refl refl

pub returns : goal.returns
returns c =
    looks_right c.args.target.now c.args.path c.args.octets.now (seen_rtp c.in-Ok.header) _
    c.in-Ok.ensures.exact c.answer.ensures
    (ap (λ (p : Packet). Some p) c.packet.ensures)
