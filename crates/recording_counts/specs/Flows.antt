-- Datagrams that arrived, and which are of one flow.
use Rattle.std.specs.Prelude.{ℕ, Bool, ◌==◌, ◌&&◌, List, Option, bytes_eq}
use Rattle.std.specs.declared.net.socket_addr.SocketAddr.{SocketAddr}
use Rattle.std.specs.Net.Socket.{socket_ip, socket_port}
use Rattle.flow.specs.Flow.{address_octets}
use Rattle.recording_counts.specs.declared.noted.Noted.{Noted}

-- A UDP datagram that arrived: when it was recorded, if that is known, where it was sent to, and
-- its octets. RFC 768
pub record Arrival : Type 0 where
  pub time : Option ℕ
  pub destination : SocketAddr
  pub payload : List ℕ

-- what is noted, without where its octets lie in memory
abbrev pub arrival_of : Noted → Arrival
arrival_of n =
    record { time = n.time; destination = n.destination; payload = n.payload.now }

-- Two destinations are one: the same address and the same port. (What else a socket's address has,
-- as a flow label, no datagram is told by.)
abbrev pub is_same_flow : SocketAddr → SocketAddr → Bool
is_same_flow d e =
    socket_port d == socket_port e
    && bytes_eq (address_octets (socket_ip d)) (address_octets (socket_ip e))
