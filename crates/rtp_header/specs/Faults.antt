-- What stands in octets that are no RTP datagram: one condition for each fault, of which at most
-- one holds. RFC 3550, 5.1 and 5.3.1; the order is this project's own.
use Rattle.std.specs.Prelude.{◌≡◌, ◌≢◌, ℕ, ◌+◌, ◌-◌, ◌*◌, ◌/◌, ◌%◌, ◌<◌, ◌≤◌, ◌==◌, if◌then◌else◌}
use Rattle.std.specs.Prelude.{◌⊎◌, List, length, take, drop, slice_index, codes}
use Rattle.std.specs.Int.{w16, from_be_bytes}
use Rattle.rtp_header.specs.declared.header.RtpFault.{RtpFault}
use Rattle.rtp_header.specs.declared.header.RtpFault.TheVariants.{ShortHeader, BadVersion}
use Rattle.rtp_header.specs.declared.header.RtpFault.TheVariants.{ShortExtension, BadPadding}

-- the numbers of the faults, in their order
abbrev pub rtp_fault_number : RtpFault → ℕ
rtp_fault_number ShortHeader = 1
rtp_fault_number BadVersion = 2
rtp_fault_number ShortExtension = 3
rtp_fault_number BadPadding = 4

-- their names, as `name` answers them (own)
abbrev pub rtp_fault_name : RtpFault → List ℕ
rtp_fault_name ShortHeader = codes "ShortHeader"
rtp_fault_name BadVersion = codes "BadVersion"
rtp_fault_name ShortExtension = codes "ShortExtension"
rtp_fault_name BadPadding = codes "BadPadding"

-- the version: the top two bits of the first octet
abbrev pub version_bits : List ℕ → ℕ
version_bits octets = slice_index octets 0 / 64

-- P, the next bit, and X, the one after it
abbrev pub IsPadded : List ℕ → Type 0
IsPadded octets = slice_index octets 0 / 32 % 2 ≡ 1

-- where the list of sources ends: CC, the low four bits of the first octet, counts its words
unfoldable pub sources_end : List ℕ → ℕ
sources_end octets = 12 + 4 * (slice_index octets 0 % 16)

-- how many words the extension behind the sources says it has, in its third and fourth octet
unfoldable pub extension_words : List ℕ → ℕ
extension_words octets = from_be_bytes w16 (take 2 (drop (sources_end octets + 2) octets))

-- where the headers end: without X behind the sources, with X behind four octets and the words. An
-- octet that isn't there counts as 0: then the end lies behind the octets all the same.
unfoldable pub headers_end : List ℕ → ℕ
headers_end octets =
    if slice_index octets 0 / 16 % 2 == 1 then sources_end octets + 4 + 4 * extension_words octets
    else sources_end octets

-- the last octet, which counts the padding
abbrev pub last_octet : List ℕ → ℕ
last_octet octets = slice_index octets (length octets - 1)

-- The fixed header isn't whole.
abbrev pub IsShortHeader : List ℕ → Type 0
IsShortHeader octets = length octets < 12

-- The fixed header is whole, and its version is not 2.
pub record IsBadVersion (octets : List ℕ) : Type 0 where
  pub whole : 12 ≤ length octets
  pub other : version_bits octets ≢ 2

-- The fixed header is whole and of version 2, and the octets end before the headers do: the list of
-- sources or the extension isn't whole.
pub record IsShortExtension (octets : List ℕ) : Type 0 where
  pub whole : 12 ≤ length octets
  pub version : version_bits octets ≡ 2
  pub cut : length octets < headers_end octets

-- The headers are whole and of version 2, and P is set, but the last octet is 0 or more than the
-- octets behind the headers (so also where there are none).
pub record IsBadPadding (octets : List ℕ) : Type 0 where
  pub whole : 12 ≤ length octets
  pub version : version_bits octets ≡ 2
  pub headers : headers_end octets ≤ length octets
  pub padded : IsPadded octets
  pub wrong : (last_octet octets ≡ 0) ⊎ (length octets < headers_end octets + last_octet octets)

-- the fault's condition
abbrev pub HasRtpFault : List ℕ → RtpFault → Type 0
HasRtpFault octets ShortHeader = IsShortHeader octets
HasRtpFault octets BadVersion = IsBadVersion octets
HasRtpFault octets ShortExtension = IsShortExtension octets
HasRtpFault octets BadPadding = IsBadPadding octets
