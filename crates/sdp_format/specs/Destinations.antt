-- Where the datagrams of a text's video sections are sent to, and where they come from: the port of
-- a section's line m= and the address of its line c= (RFC 8866, 5.7 and 5.14), and the source of
-- its line a=source-filter (RFC 4570, 3). Which of these lines counts, the spelling and the order
-- of the faults are own.
use Rattle.std.specs.Prelude.{◌≡◌, ◌⊎◌, ℕ, if◌then◌else◌, List, [], ◌∷◌, ◌++◌, codes}
use Rattle.std.specs.Prelude.{Option, Some, None, Result, Ok, Err}
use Rattle.std.specs.Option.{option_or}
use Rattle.std.specs.declared.net.ip_addr.IpAddr.{IpAddr}
use Rattle.std.specs.declared.net.ip_addr.IpAddr.TheVariants.{V4, V6}
use Rattle.std.specs.Net.Grammar.{IsIpText, IsIpv4Text, IsIpv6Text}
use Rattle.arrayvec.specs.ArrayVec.{ArrayVec}
use Rattle.flow.specs.FlowText.{Finds}
use Rattle.flow.specs.declared.flows.Flow.{Flow}
use Rattle.sdp_format.specs.declared.flows_fault.FlowsFault.{FlowsFault}
use Rattle.sdp_format.specs.declared.flows_fault.FlowsFault.TheVariants.{NoVideo, TooManyLegs}
use Rattle.sdp_format.specs.declared.flows_fault.FlowsFault.TheVariants.{BadMediaLine}
use Rattle.sdp_format.specs.declared.flows_fault.FlowsFault.TheVariants.{BadConnection}
use Rattle.sdp_format.specs.Bytes.{begins_with, behind, front, trim_end}
use Rattle.sdp_format.specs.Sections.{Section, section_lines, video_sections}
use Rattle.sdp_format.specs.Grammar.{IsMediaLine}

-- LINES

-- the first line c=
abbrev pub first_connection : List (List ℕ) → Option (List ℕ)
first_connection [] = None
first_connection (l ∷ ls) = if begins_with (codes "c=") l then Some l else first_connection ls

-- the line c= that counts for a section of a text: the section's first, else the session's, which
-- stands before the first section of any kind
abbrev pub connection_of : List (List ℕ) → Section → Option (List ℕ)
connection_of lines s =
    option_or (first_connection s.lines) (first_connection (section_lines lines))

-- a text names an address as a line c= does
abbrev pub IsConnectionText : List ℕ → IpAddr → Type 0
IsConnectionText text (V4 a) =
    (address : List ℕ) × (text ≡ codes "c=IN IP4 " ++ address) × IsIpv4Text address a
IsConnectionText text (V6 a) =
    (address : List ℕ) × (text ≡ codes "c=IN IP6 " ++ address) × IsIpv6Text address a

-- a line c= names an address, spaces and tabs at its end aside: what follows from its first / on, a
-- time to live or a count, is passed over
abbrev pub IsConnection : List ℕ → IpAddr → Type 0
IsConnection line a = IsConnectionText (front 47 (trim_end line)) a

-- the words before the destination in a line that includes sources, of the address' own type (RFC
-- 4570, 3)
abbrev pub filter_word : IpAddr → List ℕ
filter_word (V4 a) = codes "a=source-filter: incl IN IP4 "
filter_word (V6 a) = codes "a=source-filter: incl IN IP6 "

-- the destination of such a line is this address, or any
abbrev pub IsDestination : List ℕ → IpAddr → Type 0
IsDestination text address = (text ≡ codes "*") ⊎ IsIpText text address

-- A line includes these sources alone, of datagrams to an address: behind the words stand the
-- destination, a space and the sources; spaces and tabs at its end aside.
pub record IsFilter (line : List ℕ) (address : IpAddr) (sources : List ℕ) : Type 0 where
  pub rest : List ℕ
  pub spelled : trim_end line ≡ filter_word address ++ rest
  pub destined : IsDestination (front 32 rest) address
  pub listed : behind 32 rest ≡ Some sources

-- the sources of the first of these lines that includes any; none where no line does
abbrev pub IsFirstFilter : List (List ℕ) → IpAddr → Option (List ℕ) → Type 0
IsFirstFilter [] address listed = listed ≡ None
IsFirstFilter (l ∷ ls) address listed =
    ((sources : List ℕ) × IsFilter l address sources × (listed ≡ Some sources))
    ⊎ (((sources : List ℕ) → IsFilter l address sources → ⊥) × IsFirstFilter ls address listed)

-- a text is one address, of the type of another
abbrev pub IsSourceAddress : IpAddr → List ℕ → IpAddr → Type 0
IsSourceAddress (V4 address) text (V4 source) = IsIpv4Text text source
IsSourceAddress (V4 address) text (V6 source) = ⊥
IsSourceAddress (V6 address) text (V4 source) = ⊥
IsSourceAddress (V6 address) text (V6 source) = IsIpv6Text text source

-- the one source that is listed; none where no line lists any, or the line lists several, or a
-- host's name
abbrev pub IsOneSource : IpAddr → Option (List ℕ) → Option IpAddr → Type 0
IsOneSource address None source = source ≡ None
IsOneSource address (Some listed) source = Finds (IsSourceAddress address) listed source

-- SECTIONS

-- the line that counts names this address, or there is none of both
abbrev pub IsAddressOf : Option (List ℕ) → Option IpAddr → Type 0
IsAddressOf None None = Unit {0}
IsAddressOf None (Some a) = ⊥
IsAddressOf (Some line) None = ⊥
IsAddressOf (Some line) (Some a) = IsConnection line a

-- there is such a line, and it names no address
abbrev pub NamesNone : Option (List ℕ) → Type 0
NamesNone None = ⊥
NamesNone (Some line) = (a : IpAddr) → IsConnection line a → ⊥

-- the source of the datagrams that a section sends to an address: by its own lines, else by those
-- of the session; none where it names no address
abbrev pub IsSourceOf : List (List ℕ) → Section → Option IpAddr → Option IpAddr → Type 0
IsSourceOf lines s None source = source ≡ None
IsSourceOf lines s (Some address) source =
    (listed : Option (List ℕ)) × IsFirstFilter (s.lines ++ section_lines lines) address listed
    × IsOneSource address listed source

-- where a section is sent to, and where from; no line names an interface
abbrev pub IsFlowOf : List (List ℕ) → Section → Flow → Type 0
IsFlowOf lines s f =
    ((payload_type : ℕ) × IsMediaLine s.media f.port payload_type)
    × IsAddressOf (connection_of lines s) f.address × IsSourceOf lines s f.address f.source
    × (f.interface ≡ None)

-- why it isn't known where a section is sent to: of its first line, or else of its address
abbrev pub IsFlowFault : List (List ℕ) → Section → FlowsFault → Type 0
IsFlowFault lines s BadMediaLine =
    (port payload_type : ℕ) → IsMediaLine s.media port payload_type → ⊥
IsFlowFault lines s BadConnection =
    ((port : ℕ) × (payload_type : ℕ) × IsMediaLine s.media port payload_type)
    × NamesNone (connection_of lines s)
IsFlowFault lines s fault = ⊥

-- TEXTS

-- where the one or two video sections are sent to
abbrev pub SectionsFlows : List (List ℕ) → List Section → List Flow → Type 0
SectionsFlows lines (s ∷ []) (f ∷ []) = IsFlowOf lines s f
SectionsFlows lines (s ∷ t ∷ []) (f ∷ g ∷ []) = IsFlowOf lines s f × IsFlowOf lines t g
SectionsFlows lines sections flows = ⊥

-- their first fault: the first section's before the second's
abbrev pub SectionsFault : List (List ℕ) → List Section → FlowsFault → Type 0
SectionsFault lines [] fault = fault ≡ NoVideo
SectionsFault lines (s ∷ []) fault = IsFlowFault lines s fault
SectionsFault lines (s ∷ t ∷ []) fault =
    IsFlowFault lines s fault ⊎ (((f : Flow) × IsFlowOf lines s f) × IsFlowFault lines t fault)
SectionsFault lines (s ∷ t ∷ u ∷ rest) fault = fault ≡ TooManyLegs

-- where the video of a text of these lines is sent to, and the fault of such a text
abbrev pub AreFlows : List (List ℕ) → List Flow → Type 0
AreFlows lines flows = SectionsFlows lines (video_sections lines) flows

-- why a text of these lines has no flows
abbrev pub IsFlowsFault : List (List ℕ) → FlowsFault → Type 0
IsFlowsFault lines fault = SectionsFault lines (video_sections lines) fault

-- what a reader answered, its flows as a list
abbrev pub flows_seen : Result (ArrayVec Flow) FlowsFault → Result (List Flow) FlowsFault
flows_seen (Ok flows) = Ok flows.items
flows_seen (Err e) = Err e
