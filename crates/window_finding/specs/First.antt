-- Which timestamps come, and the first of them (own).
use Rattle.std.specs.Prelude.{ℕ, ◌==◌, not, List, [], ◌∷◌, take, Option, Result, Ok, Err}
use Rattle.std.specs.List.{filter, flat_map}
use Rattle.path_receiver.specs.Admission.{by_header, header_for}
use Rattle.path_receiver.specs.declared.answer.Refusal.{Refusal}
use Rattle.rtp_header.specs.Grammar.{Rtp}
use Rattle.rtp_header.specs.Reading.{rtp_walk}
use Rattle.st_format.specs.Reading.{◌>>=◌}

-- the timestamp of a header that was read, and none of what is refused
abbrev pub timestamp_if : Result Rtp Refusal → List ℕ
timestamp_if (Ok rtp) = rtp.timestamp ∷ []
timestamp_if (Err refusal) = []

-- The timestamp of a datagram that comes: one that has a header (RFC 3550, 5.1) with the payload
-- type, and the source that is asked for, where one is. None of any other.
unfoldable pub timestamp_in : ℕ → Option ℕ → List ℕ → List ℕ
timestamp_in payload_type ssrc octets =
    timestamp_if (by_header (rtp_walk octets) >>= header_for payload_type ssrc)

-- those of datagrams, in their order
abbrev pub timestamps_in : ℕ → Option ℕ → List (List ℕ) → List ℕ
timestamps_in payload_type ssrc datagrams = flat_map (timestamp_in payload_type ssrc) datagrams

-- each number once, in the place where it stands first
abbrev pub distinct : List ℕ → List ℕ
distinct [] = []
distinct (t ∷ ts) = t ∷ filter (λ u. not (t == u)) (distinct ts)

-- the first so many different timestamps that come, or all where fewer do
abbrev pub first_timestamps : ℕ → ℕ → Option ℕ → List (List ℕ) → List ℕ
first_timestamps count payload_type ssrc datagrams =
    take count (distinct (timestamps_in payload_type ssrc datagrams))
