-- Which octets begin a recording (own), by the numbers that the drafts of pcap and pcapng begin
-- their files with (draft-ietf-opsawg-pcap, the file header; draft-ietf-opsawg-pcapng, the section
-- header block).
use Rattle.std.specs.Prelude.{ℕ, List, [], ◌∷◌, Bool, false, ◌||◌}
use Rattle.std.specs.Str.{bytes_eq}

-- The first four octets of a pcap file, of either order and either unit of time, or of a pcapng
-- file.
abbrev pub is_magic : List ℕ → Bool
is_magic four =
    bytes_eq four (0xa1 ∷ 0xb2 ∷ 0xc3 ∷ 0xd4 ∷ [])
    || (bytes_eq four (0xd4 ∷ 0xc3 ∷ 0xb2 ∷ 0xa1 ∷ [])
    || (bytes_eq four (0xa1 ∷ 0xb2 ∷ 0x3c ∷ 0x4d ∷ [])
    || (bytes_eq four (0x4d ∷ 0x3c ∷ 0xb2 ∷ 0xa1 ∷ [])
    || bytes_eq four (0x0a ∷ 0x0d ∷ 0x0d ∷ 0x0a ∷ []))))

-- octets begin a recording
abbrev pub is_recording : List ℕ → Bool
is_recording (a ∷ b ∷ c ∷ d ∷ octets) = is_magic (a ∷ b ∷ c ∷ d ∷ [])
is_recording octets = false
