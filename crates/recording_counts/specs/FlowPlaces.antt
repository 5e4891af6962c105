-- By what a flow is found in a table.
use Rattle.std.specs.Prelude.{ℕ, Bool, ◌==◌, ◌&&◌, bytes_eq}
use Rattle.std.specs.Cmp.Lexicographic.{slice_cmp}
use Rattle.std.specs.Ordering.{nat_cmp, ordering_then}
use Rattle.std.specs.declared.cmp.Ordering.{Ordering}
use Rattle.std.specs.declared.net.socket_addr.SocketAddr.{SocketAddr}
use Rattle.std.specs.Net.Socket.{socket_ip, socket_port}
use Rattle.arrayvec.specs.ArrayVec.{ArrayVec}
use Rattle.flow.specs.Flow.{address_octets}

-- the port, and the octets of the address
abbrev pub FlowKey : Type 0
FlowKey = ℕ × ArrayVec ℕ

-- the key of a destination: of IPv4 the address has four octets, of IPv6 sixteen
abbrev pub flow_key_of : SocketAddr → FlowKey
flow_key_of d = (socket_port d, record { items = address_octets (socket_ip d) })

-- whether two are one, and their order
abbrev pub is_same_key : FlowKey → FlowKey → Bool
is_same_key k l = k.0 == l.0 && bytes_eq k.1.items l.1.items

-- the order of keys: by the port, and of one port by the octets of the address
abbrev pub flow_key_cmp : FlowKey → FlowKey → Ordering
flow_key_cmp k l = ordering_then (nat_cmp k.0 l.0) (slice_cmp nat_cmp k.1.items l.1.items)
