use Rattle.std.proofs.Common.{arith, length}
use Rattle.pcap_file.specs.Views.{seen_datagram, seen_packet}
use Rattle.recording_reader.specs.Found.{carried_place}
use Rattle.recording_reader.proofs.Placed.{datagram_stands, linked_shorter, packet_carries}
use Rattle.recording_reader.proofs.Placed.{packet_stands, stand_within, udp_stands}
use Rattle.recording_reader.proofs.place.read_by_link.Goals as goal

pub carried_place-behind-requires : goal.carried_place-behind-requires
carried_place-behind-requires c =
    packet_carries c.in_ok-inner.inner.version c.in_ok-inner.inner.packet.now
    (seen_packet c.in_ok-packet.packet) c.in_ok-packet.ensures.found

pub overflow_sub-front : goal.overflow_sub-front
overflow_sub-front c =
    linked_shorter c.args.link c.args.octets.now c.in_ok-inner.inner.version
    c.in_ok-inner.inner.packet.now c.in_ok-inner.ensures.found

pub overflow_add-place : goal.overflow_add-place
overflow_add-place c =
    let v = c.in_ok-inner.inner.version in
    let packet = c.in_ok-inner.inner.packet.now in
    let p = seen_packet c.in_ok-packet.packet in
    let shorter = linked_shorter c.args.link c.args.octets.now v packet c.in_ok-inner.ensures.found in
    let within = stand_within (carried_place v packet (length p.carried)) p.carried packet
    (packet_stands v packet p c.in_ok-packet.ensures.found) in
    omega (arith, shorter, within, c.carried_place-behind.ensures)

pub overflow_add-place-2 : goal.overflow_add-place-2
overflow_add-place-2 c =
    let v = c.in_ok-inner.inner.version in
    let packet = c.in_ok-inner.inner.packet.now in
    let p = seen_packet c.in_ok-packet.packet in
    let d = seen_datagram c.in_ok-datagram.datagram in
    let shorter = linked_shorter c.args.link c.args.octets.now v packet c.in_ok-inner.ensures.found in
    let within = stand_within (carried_place v packet (length p.carried)) p.carried packet
    (packet_stands v packet p c.in_ok-packet.ensures.found) in
    let header = stand_within 8 d.payload p.carried (udp_stands p d c.in_ok-datagram.ensures.found) in
    omega (arith, shorter, within, header, c.carried_place-behind.ensures)

pub returns-clause-stands : goal.returns-clause-stands
returns-clause-stands c =
    rw c.carried_place-behind.ensures
    (datagram_stands c.args.link c.args.octets.now c.in_ok-inner.inner.packet.now
    c.in_ok-inner.inner.version (seen_packet c.in_ok-packet.packet)
    (seen_datagram c.in_ok-datagram.datagram) c.in_ok-inner.ensures.found
    c.in_ok-packet.ensures.found c.in_ok-datagram.ensures.found)
