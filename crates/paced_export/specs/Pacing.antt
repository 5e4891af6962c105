-- When the packets of frames are sent. SMPTE ST 2110-21
use Rattle.std.specs.Prelude.{ℕ, ◌+◌, ◌-◌, ◌*◌, ◌/◌, ◌%◌, ◌^◌, max, List, [], ◌∷◌, slice_index}
use Rattle.std.specs.Int.{w32, from_be_bytes}
use Rattle.paced_export.specs.declared.pace.Pace.{Pace}

-- The active time of a frame in nanoseconds, at a rate of n frames in d seconds: 1080 of 1125 parts
-- of the frame's time. SMPTE ST 2110-21, gapped
abbrev pub active_time : ℕ → ℕ → ℕ
active_time n d = d * 960000000 / n

-- When the frame of a timestamp begins: as long behind the first as the timestamp is, in ticks of
-- 90 kHz, of which nine are 100,000 nanoseconds. RFC 3550, 5.1
abbrev pub begin_of : Pace → ℕ → ℕ
begin_of p ts = p.start + (ts + 2 ^ 32 - p.first) % 2 ^ 32 * 100000 / 9

-- how long behind that the packet is sent before which k of n are
abbrev pub share_of : Pace → ℕ → ℕ → ℕ
share_of p k n = k * p.active / max n 1

-- the moment of that packet
abbrev pub paced_moment : Pace → ℕ → ℕ → ℕ → ℕ
paced_moment p ts k n = begin_of p ts + share_of p k n

-- The timestamp of a datagram: its octets 4 to 7. An octet that isn't there counts as 0. RFC 3550,
-- 5.1
abbrev pub timestamp_in : List ℕ → ℕ
timestamp_in octets =
    from_be_bytes w32
    (slice_index octets 4 ∷ slice_index octets 5 ∷ slice_index octets 6 ∷ slice_index octets 7
    ∷ [])
