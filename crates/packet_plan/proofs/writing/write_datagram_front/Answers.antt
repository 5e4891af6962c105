use Rattle.std.proofs.Common.{◌+◌, ◌-◌, ◌*◌, ◌/◌, [], ap, take, length, map, sym, subst, refl}
use Rattle.std.proofs.Common.{arith}
use Rattle.std.specs.List.{AllByRecursion}
use Rattle.payload_header.specs.Writing.{HeadFits}
use Rattle.packet_plan.specs.Text.{head_of, header_of}
use Rattle.packet_plan.proofs.Behind.{front_stays}
use Rattle.packet_plan.proofs.Texts.{heads_fit, front_at, length-front}
use Rattle.packet_plan.proofs.Walks.{length-map}
use Rattle.payload_header.specs.Writing.{payload_front}
use Rattle.packet_plan.proofs.writing.write_datagram_front.Goals as goal

pub write_payload_header-front-requires-clause-fields :
    goal.write_payload_header-front-requires-clause-fields
write_payload_header-front-requires-clause-fields c =
    subst (AllByRecursion HeadFits) (sym c.heads_of-heads.ensures)
    (heads_fit c.args.format.now c.args.runs.now c.requires.runs.heads)

pub returns-clause-text : goal.returns-clause-text
returns-clause-text c =
    front_at (header_of c.args.stamp c.args.number c.args.is_last []) c.write_rtp.new.buffer
    c.write_payload_header-front.new.buf _ _
    (c.args.number / 65536) c.write_payload_header-front.result
    (take (length c.args.runs.now) c.heads_of-heads.result)
    (map (head_of c.args.format.now) c.args.runs.now)
    (c.write_rtp.ensures.header []) refl c.write_payload_header-front.ensures.written
    c.heads_of-heads.ensures c.write_payload_header-front.ensures.value
    (omega (arith, c.requires.room, c.write_rtp.ensures.length))

pub returns-clause-behind : goal.returns-clause-behind
returns-clause-behind c =
    let buffer = c.write_rtp.new.buffer in
    let heads = take (length c.args.runs.now) c.heads_of-heads.result in
    let count = length-map (head_of c.args.format.now) c.args.runs.now in
    front_stays c.args.buf.now buffer c.write_payload_header-front.new.buf
    (payload_front (c.args.number / 65536) heads) (length buffer - 12)
    (2 + 6 * length heads) c.write_payload_header-front.result
    c.write_rtp.ensures.kept c.write_payload_header-front.ensures.written
    (length-front (c.args.number / 65536) heads)
    (omega (arith, c.requires.room, c.write_rtp.ensures.length)) refl
    (omega (
      arith,
      c.requires.room,
      c.write_rtp.ensures.length,
      ap length c.heads_of-heads.ensures,
      count,
    )) c.write_payload_header-front.ensures.value
