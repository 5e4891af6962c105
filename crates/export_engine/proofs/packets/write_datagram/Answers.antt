use Rattle.std.proofs.Common.{◌+◌, ◌≤◌, arith, length}
use Rattle.export_engine.proofs.PacketTexts.{front_written}
use Rattle.export_engine.proofs.packets.write_datagram.Goals as goal

pub returns-in-V4-clause-written : goal.returns-in-V4-clause-written
returns-in-V4-clause-written c =
    let few : length c.args.payload.now ≤ 65507 = rw c.in-V4.is at c.requires.few in
    rw c.in-V4.is
    (front_written _ (58 + length c.args.payload.now) _ c.args.packet.now
    c.write_record.new.buf c.write_record.ensures.value c.write_record.ensures.written
    c.write_record.auto.buf (omega (arith, c.requires.room, few)))

pub returns-in-V6-clause-written : goal.returns-in-V6-clause-written
returns-in-V6-clause-written c =
    let few : length c.args.payload.now ≤ 65527 = rw c.in-V6.is at c.requires.few in
    rw c.in-V6.is
    (front_written _ (78 + length c.args.payload.now) _ c.args.packet.now
    c.write_record6.new.buf c.write_record6.ensures.value c.write_record6.ensures.written
    c.write_record6.auto.buf (omega (arith, c.requires.room, few)))
