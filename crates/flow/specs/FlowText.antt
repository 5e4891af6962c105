-- The texts of flows: PORT, or ADDRESS:PORT, in front of either SOURCE>, and in front of all
-- INTERFACE@.
use Rattle.std.specs.Prelude.{◌≡◌, ◌≢◌, ◌≤◌, ◌↔◌, ℕ, List, [], ◌++◌, codes, decimal, Option, Some, None}
use Rattle.std.specs.declared.net.ip_addr.IpAddr.{IpAddr}
use Rattle.std.specs.declared.net.ip_addr.IpAddr.TheVariants.{V4, V6}
use Rattle.std.specs.Net.Addr.{ipv4_octets, ipv6_segments}
use Rattle.std.specs.Net.Grammar.{IsIpv4Text, IsIpv6Text}
use Rattle.std.specs.Net.Text.{ipv4_text, ipv6_text}
use Rattle.interface_name.specs.declared.name.InterfaceName.{InterfaceName}
use Rattle.interface_name.specs.Name.{IsName, name_text}
use Rattle.st_format.specs.Words.{number}
use Rattle.flow.specs.declared.flows.Flow.{Flow}

-- a port: a number of 16 bits in one to ten decimal digits (RFC 768; leading zeros: own)
abbrev pub IsPort : List ℕ → ℕ → Type 0
IsPort text port = (number text ≡ Some port) × (port ≤ 65535)

-- an address as it stands before a port: IPv6 in square brackets, without a zone (RFC 3986, 3.2.2)
abbrev pub IsHost : List ℕ → IpAddr → Type 0
IsHost text (V4 a) = IsIpv4Text text a
IsHost text (V6 a) =
    (inside : List ℕ) × (text ≡ codes "[" ++ inside ++ codes "]") × IsIpv6Text inside a

-- a text spells where datagrams are sent to
abbrev pub IsPlaceText : List ℕ → Option IpAddr → ℕ → Type 0
IsPlaceText text None port = IsPort text port
IsPlaceText text (Some a) port =
    (host digits : List ℕ) × (text ≡ host ++ (codes ":" ++ digits)) × IsHost host a
    × IsPort digits port

-- a text spells this destination: the address, where there is one, and the port
abbrev pub SpellsPlace : List ℕ → Option IpAddr × ℕ → Type 0
SpellsPlace text place = IsPlaceText text place.0 place.1

-- and where they come from, where it names that (own)
abbrev pub SpellsSource : List ℕ → Option IpAddr → Option IpAddr × ℕ → Type 0
SpellsSource text None place = SpellsPlace text place
SpellsSource text (Some a) place =
    (host rest : List ℕ) × (text ≡ host ++ (codes ">" ++ rest)) × IsHost host a
    × SpellsPlace rest place

-- a text spells these ends: the source, where there is one, and the destination
abbrev pub SpellsEnds : List ℕ → Option IpAddr × (Option IpAddr × ℕ) → Type 0
SpellsEnds text ends = SpellsSource text ends.0 ends.1

-- and the interface that they are taken at, where it names that (own)
abbrev pub IsInterfaceText : List ℕ → Option InterfaceName
    → Option IpAddr × (Option IpAddr × ℕ) → Type 0
IsInterfaceText text None ends = SpellsEnds text ends
IsInterfaceText text (Some n) ends =
    (name rest : List ℕ) × (text ≡ name ++ (codes "@" ++ rest)) × IsName name n
    × SpellsEnds rest ends

-- a text spells a flow: interface, source and address, each where it names one, and a port
abbrev pub IsFlowText : List ℕ → Flow → Type 0
IsFlowText text f = IsInterfaceText text f.interface (f.source, (f.address, f.port))

-- What was found is what a text spells: it spells that value, and no other; or it spells none.
abbrev pub Finds : {X : Type 0} → (List ℕ → X → Type 0) → List ℕ → Option X → Type 0
Finds {X} Spells text found = (x : X) → (Spells text x ↔ (found ≡ Some x))

-- the text that is written of a flow, IPv6 addresses as RFC 5952 has them
abbrev pub host_text : IpAddr → List ℕ
host_text (V4 a) = ipv4_text (ipv4_octets a)
host_text (V6 a) = codes "[" ++ ipv6_text (ipv6_segments a) ++ codes "]"

-- where datagrams are sent to: PORT, or ADDRESS:PORT, the port without leading zeros
abbrev pub place_text : Option IpAddr → ℕ → List ℕ
place_text None port = decimal port
place_text (Some a) port = host_text a ++ codes ":" ++ decimal port

-- SOURCE>, as it stands before the destination; nothing where no source is named
abbrev pub source_text : Option IpAddr → List ℕ
source_text None = []
source_text (Some a) = host_text a ++ codes ">"

-- INTERFACE@, as it stands in front of all; nothing where no interface is named
abbrev pub interface_text : Option InterfaceName → List ℕ
interface_text None = []
interface_text (Some n) = name_text n ++ codes "@"

-- a flow without its interface: where its datagrams come from and where they are sent to
abbrev pub ends_text : Flow → List ℕ
ends_text f = source_text f.source ++ place_text f.address f.port

-- a whole flow in the one spelling that is written, of the many that are read
abbrev pub flow_text : Flow → List ℕ
flow_text f = interface_text f.interface ++ ends_text f

-- an octet that isn't a mark
abbrev pub IsOther : ℕ → ℕ → Type 0
IsOther mark octet = octet ≢ mark
