-- Flows: where the datagrams of a path are sent to, where they come from (RFC 768, destination
-- port; RFC 791, 3.1, and RFC 8200, 3, destination and source address), and where they are taken.
use Rattle.std.specs.Prelude.{◌≡◌, ◌<◌, ◌^◌, ℕ, Bool, true, false, ◌&&◌, ◌==◌, if◌then◌else◌, List}
use Rattle.std.specs.Prelude.{Option}
use Rattle.std.specs.Prelude.{Some, None, IfSome, bytes_eq}
use Rattle.std.specs.declared.net.ip_addr.IpAddr.{IpAddr}
use Rattle.std.specs.declared.net.ip_addr.IpAddr.TheVariants.{V4, V6}
use Rattle.std.specs.Net.Addr.{IsIpv4Addr, IsIpv6Addr, MatchIp, ipv4_octets, ipv6_octets}
use Rattle.interface_name.specs.declared.name.InterfaceName.{InterfaceName}
use Rattle.interface_name.specs.Name.{IsInterfaceName}
use Rattle.st_format.specs.declared.path.Path.{Path}
use Rattle.st_format.specs.declared.path.Path.TheVariants.{A, B}
use Rattle.flow.specs.declared.flows.Flow.{Flow}
use Rattle.flow.specs.declared.flows.Flows.{Flows}

-- what the types keep of a flow: a name that has a text, addresses of their length, and a port of
-- 16 bits
abbrev pub IsFlow : Flow → Type 0
IsFlow f =
    IfSome f.interface IsInterfaceName
    × IfSome f.source (λ a. MatchIp a IsIpv4Addr IsIpv6Addr)
    × IfSome f.address (λ a. MatchIp a IsIpv4Addr IsIpv6Addr) × (f.port < 2 ^ 16)

-- the octets of an address, as a packet has them
abbrev pub address_octets : IpAddr → List ℕ
address_octets (V4 a) = ipv4_octets a
address_octets (V6 a) = ipv6_octets a

-- A datagram that was taken at this interface, or at none that is known, from this source to this
-- destination and port is of the flow: the port is the flow's, and so is each of the two addresses
-- and the interface that it names.
abbrev pub IsInFlow : Option InterfaceName → List ℕ → List ℕ → ℕ → Flow → Type 0
IsInFlow interface source destination port f =
    (port ≡ f.port) × IfSome f.address (λ a. destination ≡ address_octets a)
    × IfSome f.source (λ a. source ≡ address_octets a)
    × IfSome f.interface (λ n. interface ≡ Some n)

-- the same as a test
abbrev pub is_address : IpAddr → List ℕ → Bool
is_address a octets = bytes_eq (address_octets a) octets

-- whether the flow names no address, or the one of these octets
abbrev pub is_named : Option IpAddr → List ℕ → Bool
is_named None octets = true
is_named (Some a) octets = is_address a octets

-- whether the flow names no interface, or the one at which the datagram was taken
abbrev pub is_at : Option InterfaceName → Option InterfaceName → Bool
is_at None interface = true
is_at (Some name) None = false
is_at (Some name) (Some other) = bytes_eq name.octets other.octets

-- whether a datagram taken at this interface, from this source to this destination and port, is
-- of the flow
abbrev pub has_flow : Flow → Option InterfaceName → List ℕ → List ℕ → ℕ → Bool
has_flow f interface source destination port =
    f.port == port && is_named f.address destination && is_named f.source source
    && is_at f.interface interface

-- whether a path has a flow, and the datagram is of it
abbrev pub is_flow_to : Option Flow → Option InterfaceName → List ℕ → List ℕ → ℕ → Bool
is_flow_to None interface source destination port = false
is_flow_to (Some f) interface source destination port = has_flow f interface source destination port

-- the path of a datagram: A where A's flow has it, else B where B's has it
abbrev pub path_to : Flows → Option InterfaceName → List ℕ → List ℕ → ℕ → Option Path
path_to fs interface source destination port =
    if is_flow_to fs.a interface source destination port then Some A else
    (if is_flow_to fs.b interface source destination port then Some B else None)

-- Both flows are there and are the same
abbrev pub IsOnePlace : Flows → Type 0
IsOnePlace fs = (f : Flow) × (fs.a ≡ Some f) × (fs.b ≡ Some f)
