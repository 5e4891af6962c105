-- What `export` writes of a capture, as other commands read it (own).
use Rattle.std.specs.Prelude.{◌≡◌, ℕ, List, Some}
use Rattle.std.specs.List.{filter}
use Rattle.media_file.specs.Records.{Entry}
use Rattle.export_engine.specs.Packets.{has_packet}
use Rattle.export_engine.specs.declared.places.Envelopes.{Envelopes}
use Rattle.export_engine.specs.declared.places.IpEnvelope.{IpEnvelope}
use Rattle.export_engine.specs.declared.places.IpEnvelope.TheVariants.{V4, V6}

-- the records of which packets are written
abbrev pub sent_records : Envelopes → List Entry → List Entry
sent_records es records = filter (has_packet es) records

-- the octets of the address that datagrams are sent to, and the port
abbrev pub address_of : IpEnvelope → List ℕ
address_of (V4 e) = e.destination
address_of (V6 e) = e.destination

-- the port that datagrams are sent to
abbrev pub port_of : IpEnvelope → ℕ
port_of (V4 e) = e.destination_port
port_of (V6 e) = e.destination_port

-- path B's, where there is one, are sent to another address or port than path A's
abbrev pub HaveTwoPlaces : Envelopes → Type 0
HaveTwoPlaces es = (e : IpEnvelope) → es.b ≡ Some e → address_of es.a ≡ address_of e
    → port_of es.a ≡ port_of e → ⊥
