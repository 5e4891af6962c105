-- The grammar of RTP headers: parts joined to a whole datagram. RFC 3550, 5.1 and 5.3.1.
use Rattle.std.specs.Prelude.{◌≡◌, ℕ, ◌+◌, ◌-◌, ◌*◌, ◌/◌, ◌%◌, ◌^◌, ◌<◌, Bool, true, false}
use Rattle.std.specs.Prelude.{if◌then◌else◌, List, [], ◌∷◌, ◌++◌, length, slice_index}
use Rattle.std.specs.Int.{w16, w32, to_be_bytes}

-- octets: numbers below 256 (own)
abbrev pub AreOctets : List ℕ → Type 0
AreOctets octets = (i : ℕ) → slice_index octets i < 256

-- What a datagram says: the fields of its fixed header, and the payload behind all headers.
-- RFC 3550, 5.1
pub record Rtp : Type 0 where
  pub marker : Bool
  pub payload_type : ℕ
  pub sequence : ℕ
  pub timestamp : ℕ
  pub ssrc : ℕ
  pub payload : List ℕ

-- What else its first octet says: P, there is padding; X, there is an extension; CC, how many
-- contributing sources are listed. RFC 3550, 5.1
pub record Flags : Type 0 where
  pub padded : Bool
  pub extended : Bool
  pub sources : ℕ

-- P, X and CC zero
abbrev pub plain_flags : Flags
plain_flags = record { padded = false; extended = false; sources = 0 }

-- a flag's bit in an octet, of this worth where it is set
abbrev pub bit : Bool → ℕ → ℕ
bit flag worth = if flag then worth else 0

-- The fixed header: version 2, P, X and CC in one octet; M and the payload type in one; then the
-- sequence number, the timestamp and the SSRC, most significant octet first. RFC 3550, 5.1
abbrev pub fixed_text : Flags → Rtp → List ℕ
fixed_text g r =
    (2 * 64 + bit g.padded 32 + bit g.extended 16 + g.sources) ∷
    (bit r.marker 128 + r.payload_type) ∷
    (to_be_bytes w16 r.sequence ++ to_be_bytes w32 r.timestamp ++ to_be_bytes w32 r.ssrc)

-- A header extension: two octets that a profile may use, the number of its 32-bit words in two
-- octets, and the words. RFC 3550, 5.3.1
pub record IsExtension (octets : List ℕ) : Type 0 where
  pub profile : List ℕ
  pub words : List ℕ
  pub profile_length : length profile ≡ 2
  pub whole_words : length words % 4 ≡ 0
  pub few : length words / 4 < 2 ^ 16
  pub parts : octets ≡ profile ++ (to_be_bytes w16 (length words / 4) ++ words)

-- with X an extension, without X nothing
abbrev pub IsExtensionIf : Bool → List ℕ → Type 0
IsExtensionIf true octets = IsExtension octets
IsExtensionIf false octets = octets ≡ []

-- Padding is not empty, and its last octet is how many octets it has. RFC 3550, 5.1
pub record IsPadding (octets : List ℕ) : Type 0 where
  pub some : 0 < length octets
  pub counted : slice_index octets (length octets - 1) ≡ length octets

-- with P padding, without P nothing
abbrev pub IsPaddingIf : Bool → List ℕ → Type 0
IsPaddingIf true octets = IsPadding octets
IsPaddingIf false octets = octets ≡ []

-- The octets are a datagram that says this: the fixed header, CC words of four octets, the
-- extension, the payload and the padding, one after the other. RFC 3550, 5.1
pub record IsRtp (octets : List ℕ) (r : Rtp) : Type 0 where
  pub flags : Flags
  pub source_list : List ℕ
  pub extension : List ℕ
  pub padding : List ℕ
  pub few_sources : flags.sources < 16
  pub payload_type : r.payload_type < 128
  pub sequence : r.sequence < 2 ^ 16
  pub timestamp : r.timestamp < 2 ^ 32
  pub ssrc : r.ssrc < 2 ^ 32
  pub sources : length source_list ≡ 4 * flags.sources
  pub is_extension : IsExtensionIf flags.extended extension
  pub is_padding : IsPaddingIf flags.padded padding
  pub whole : octets ≡ fixed_text flags r ++ (source_list ++ (extension ++ (r.payload ++ padding)))

-- The octets are a datagram that says this by a fixed header and a payload alone: P, X and CC are
-- zero, and there are no sources, no extension and no padding. RFC 3550, 5.1
pub record IsPlainRtp (octets : List ℕ) (r : Rtp) : Type 0 where
  pub is : IsRtp octets r
  pub flags : is.flags ≡ plain_flags
  pub no_sources : is.source_list ≡ []
  pub no_extension : is.extension ≡ []
  pub no_padding : is.padding ≡ []
