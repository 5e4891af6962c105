-- The SDP text that is written of one stream by one or two legs: which lines it has, and in which
-- order, of those that RFC 8866, 5 and 6, RFC 7104, 4 (the legs), and SMPTE ST 2110-20, SDP, let
-- stand.
use Rattle.std.specs.Prelude.{ℕ, ◌&&◌, nat_le, if◌then◌else◌, List, [], ◌∷◌, ◌++◌, codes, decimal}
use Rattle.std.specs.Prelude.{map, slice_index, Option, Some, None}
use Rattle.std.specs.declared.net.ip_addr.IpAddr.{IpAddr}
use Rattle.std.specs.declared.net.ip_addr.IpAddr.TheVariants.{V4, V6}
use Rattle.std.specs.Net.Addr.{ipv4_octets, ipv6_segments}
use Rattle.std.specs.Net.Text.{ipv4_text, ipv6_text}
use Rattle.st_format.specs.Fields.{Fields}
use Rattle.flow.specs.Flow.{IsFlow}
use Rattle.flow.specs.declared.flows.Flow.{Flow}
use Rattle.sdp_format.specs.declared.sdp.Range.TheVariants.{Narrow}
use Rattle.sdp_format.specs.Bytes.{lines}
use Rattle.sdp_format.specs.Destinations.{AreFlows}
use Rattle.sdp_format.specs.Grammar.{IsDescribed}
use Rattle.sdp_format.specs.Sections.{Description, video_sections}

-- SECTIONS

-- the time to live, which a multicast address of IPv4 has (RFC 8866, 5.7; 64: own)
abbrev pub lifetime_text : ℕ → List ℕ
lifetime_text first = if nat_le 224 first && nat_le first 239 then codes "/64" else []

-- the line of an address (RFC 8866, 5.7), IPv6 addresses as RFC 5952 has them
abbrev pub connection_line : IpAddr → List ℕ
connection_line (V4 a) =
    codes "c=IN IP4 " ++ ipv4_text (ipv4_octets a)
    ++ lifetime_text (slice_index (ipv4_octets a) 0)
connection_line (V6 a) = codes "c=IN IP6 " ++ ipv6_text (ipv6_segments a)

-- the line of a leg's address, where it has one
abbrev pub connection_lines : Option IpAddr → List (List ℕ)
connection_lines None = []
connection_lines (Some a) = connection_line a ∷ []

-- the first line of a section (RFC 8866, 5.14)
abbrev pub media_line : ℕ → ℕ → List ℕ
media_line payload_type port =
    codes "m=video " ++ decimal port ++ codes " RTP/AVP " ++ decimal payload_type

-- the line of the payload type of a section (RFC 8866, 6.6)
abbrev pub map_line : ℕ → List ℕ
map_line payload_type = codes "a=rtpmap:" ++ decimal payload_type ++ codes " raw/90000"

-- the section of a leg, with a line of its parameters and a name (RFC 5888, 4)
abbrev pub leg_lines : ℕ → List ℕ → Flow → List ℕ → List (List ℕ)
leg_lines payload_type parameters leg name =
    media_line payload_type leg.port
    ∷ (connection_lines leg.address
    ++ map_line payload_type ∷ parameters ∷ (codes "a=mid:" ++ name) ∷ [])

-- TEXTS

-- the lines before all sections (RFC 8866, 5.1 to 5.3 and 5.9)
abbrev pub session_lines : List (List ℕ)
session_lines =
    codes "v=0" ∷ codes "o=- 0 0 IN IP4 127.0.0.1" ∷ codes "s=-" ∷ codes "t=0 0" ∷ []

-- the lines of a text: two legs send the same packets (RFC 7104, 4)
abbrev pub sdp_lines : ℕ → List ℕ → Flow → Option Flow → List (List ℕ)
sdp_lines payload_type parameters a None =
    session_lines ++ leg_lines payload_type parameters a (codes "A")
sdp_lines payload_type parameters a (Some b) =
    session_lines ++ codes "a=group:DUP A B" ∷ (leg_lines payload_type parameters a (codes "A")
    ++ leg_lines payload_type parameters b (codes "B"))

-- the legs, that of path A first
abbrev pub legs : Flow → Option Flow → List Flow
legs a None = a ∷ []
legs a (Some b) = a ∷ b ∷ []

-- the ports of the legs, that of path A first
abbrev pub ports : Flow → Option Flow → List ℕ
ports a None = a.port ∷ []
ports a (Some b) = a.port ∷ b.port ∷ []

-- A leg as its section tells it: no line tells a source or an interface.
abbrev pub told : Flow → Flow
told leg = record leg { interface = None; source = None }

-- what the type keeps of it
abbrev pub IsTold : Flow → Type 0
IsTold leg = IsFlow (told leg)

-- the legs as their sections tell them
abbrev pub told_legs : Flow → Option Flow → List Flow
told_legs a b = map told (legs a b)

-- what is said of a stream in the usual colours (SMPTE ST 2110-20, SDP)
abbrev pub usual_description : ℕ → Fields → Flow → Option Flow → Description
usual_description payload_type format a b = record {
  ports = ports a b;
  leg = record {
    payload_type = payload_type;
    format = format;
    range = Narrow;
    colorimetry = codes "BT709";
  };
}

-- a text says this of video that is sent to these legs
abbrev pub IsTextOf : List ℕ → Description → List Flow → Type 0
IsTextOf text said sent = IsDescribed (video_sections (lines text)) said × AreFlows (lines text) sent
