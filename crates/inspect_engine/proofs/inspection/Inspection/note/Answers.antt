use Rattle.std.proofs.Common.{[], ◌∷◌, ap, refl, sym}
use Rattle.std.proofs.lemmas.Result.{on_ok_weaker}
use Rattle.std.specs.declared.net.socket_addr.SocketAddr.{SocketAddr}
use Rattle.recording_counts.specs.Flows.{Arrival}
use Rattle.pcap_file.specs.PcapReading.{Recorded}
use Rattle.pcap_file.specs.Udp.{Datagram}
use Rattle.pcap_file.specs.Views.{seen_datagram}
use Rattle.inspect_engine.specs.Arrivals.{captured}
use Rattle.inspect_engine.proofs.Noting.{has_address, notes_datagram}
use Rattle.inspect_engine.proofs.inspection.Inspection.note.Goals as goal

pub destination_of-destination-requires : goal.destination_of-destination-requires
destination_of-destination-requires g c =
    has_address c.args.head.now.link c.args.octets.now (seen_datagram c.in-Ok.datagram)
    c.in-Ok.ensures.found

pub returns-in-Ok : goal.returns-in-Ok
returns-in-Ok g c =
    let p : Recorded = captured c.args.head.now c.args.octets.now in
    let d : Datagram = seen_datagram c.in-Ok.datagram in
    let at : SocketAddr → Arrival =
    λ s. record { time = p.head.time; destination = s; payload = d.payload } in
    on_ok_weaker c.note.result
    (λ noted. notes_datagram p d (at c.destination_of-destination.result) _ _
    c.in-Ok.ensures.exact
    (ap (λ (s : SocketAddr). at s ∷ []) (sym c.destination_of-destination.ensures))
    noted refl)
    c.note.ensures.noted
