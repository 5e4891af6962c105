-- The record of a packet, found in a buffer.
use Rattle.std.specs.Prelude.{◌≡◌, ℕ, ◌+◌, ◌-◌, ◌≤◌, List, ◌++◌, length, take, drop}
use Rattle.std.specs.Prelude.{Option, None, Some, Result, Ok, Err}
use Rattle.recording_counts.specs.declared.omission.Omission.{Omission}
use Rattle.media_file.specs.Records.{Entry}
use Rattle.pcap_file.specs.Ip.{header_octets}
use Rattle.pcap_file.specs.Parts.{number_16}
use Rattle.pcap_file.specs.declared.link.IpVersion.{IpVersion}
use Rattle.pcap_file.specs.declared.link.IpVersion.TheVariants.{V4, V6}
use Rattle.recording_reader.specs.declared.found.Found.{Found}

-- octets stand in others behind so many
pub record StandAt (place : ℕ) (part octets : List ℕ) : Type 0 where
  pub front : List ℕ
  pub behind : List ℕ
  pub counted : length front ≡ place
  pub whole : octets ≡ front ++ (part ++ behind)

-- An IP packet is long enough to carry so many octets for UDP: its header is there (RFC 791, 3.1;
-- RFC 8200, 3), and of IPv6 it says no fewer behind it.
abbrev pub CanCarry : IpVersion → List ℕ → ℕ → Type 0
CanCarry V4 packet count = 20 ≤ length packet
CanCarry V6 packet count = (40 ≤ length packet) × (count ≤ number_16 4 packet)

-- where they stand in it: behind header and options, or header and extensions
abbrev pub carried_place : IpVersion → List ℕ → ℕ → ℕ
carried_place V4 packet count = header_octets packet
carried_place V6 packet count = 40 + number_16 4 packet - count

-- the record that was found, by its place in a buffer
abbrev pub entry_at : Found → List ℕ → Entry
entry_at f buffer =
    record {
      path = f.path;
      moment = f.moment;
      octets = take (f.end - f.start) (drop f.start buffer);
    }

-- what was found in a packet; why nothing was
abbrev pub entry_found : Result Found Omission → List ℕ → Option Entry
entry_found (Err omission) buffer = None
entry_found (Ok f) buffer = Some (entry_at f buffer)

-- why nothing was found in a packet, if nothing was
abbrev pub omission_found : Result Found Omission → Option Omission
omission_found (Err omission) = Some omission
omission_found (Ok f) = None
