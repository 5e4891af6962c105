-- A walk over an RTP header from the left, as the code walks, which tells the first fault. What a
-- datagram is says Grammar, and what stands in octets that have a fault says Faults; laws join the
-- three, so nobody has to believe the walk.
use Rattle.std.specs.Prelude.{◌≡◌, ℕ, ◌+◌, ◌-◌, ◌*◌, ◌/◌, ◌%◌, Bool, true, false, ◌||◌, not, nat_lt}
use Rattle.std.specs.Prelude.{nat_le, ◌==◌, if◌then◌else◌, List, length, take, drop, slice_index}
use Rattle.std.specs.Prelude.{Result, Ok, Err}
use Rattle.std.specs.Int.{w16, w32, from_be_bytes}
use Rattle.rtp_header.specs.declared.header.RtpFault.{RtpFault}
use Rattle.rtp_header.specs.declared.header.RtpFault.TheVariants.{ShortHeader, BadVersion}
use Rattle.rtp_header.specs.declared.header.RtpFault.TheVariants.{ShortExtension, BadPadding}
use Rattle.rtp_header.specs.Grammar.{Rtp}

-- step by step: each step answers a value or the first fault
infixl 10 ◌>>=◌
abbrev pub ◌>>=◌ : {E A B : Type 0} → Result A E → (A → Result B E) → Result B E
(Ok x) >>= f = f x
(Err e) >>= f = Err e

-- What a function answered, seen by view, is what a reading gives.
abbrev pub Gives : {E X Y : Type 0} → (X → Y) → Result X E → Result Y E → Type 0
Gives view (Ok x) read = read ≡ Ok (view x)
Gives view (Err e) read = read ≡ Err e

-- what stands behind n octets
abbrev pub rest_behind : ℕ → List ℕ → Result (List ℕ) RtpFault
rest_behind n octets = if nat_lt (length octets) n then Err ShortExtension else Ok (drop n octets)

-- behind the extension, where there is one: two octets, the number of words, the words
abbrev pub behind_extension : Bool → List ℕ → Result (List ℕ) RtpFault
behind_extension false octets = Ok octets
behind_extension true octets =
    if nat_lt (length octets) 4 then Err ShortExtension
    else rest_behind (4 + 4 * from_be_bytes w16 (take 2 (drop 2 octets))) octets

-- without the padding, where there is one: its last octet is its length
abbrev pub without_padding : Bool → List ℕ → Result (List ℕ) RtpFault
without_padding false octets = Ok octets
without_padding true octets =
    let n : ℕ = slice_index octets (length octets - 1) in
    if n == 0
    || nat_lt (length octets) n then Err BadPadding else Ok (take (length octets - n) octets)

-- the fixed header's fields, and a payload
abbrev pub rtp_of : List ℕ → List ℕ → Rtp
rtp_of octets payload = record {
  marker = nat_le 128 (slice_index octets 1);
  payload_type = slice_index octets 1 % 128;
  sequence = from_be_bytes w16 (take 2 (drop 2 octets));
  timestamp = from_be_bytes w32 (take 4 (drop 4 octets));
  ssrc = from_be_bytes w32 (take 4 (drop 8 octets));
  payload = payload;
}

-- what stands behind the fixed header of version 2
abbrev pub fixed_at : List ℕ → Result (List ℕ) RtpFault
fixed_at octets =
    if nat_lt (length octets) 12 then Err ShortHeader else
    (if not (slice_index octets 0 / 64 == 2) then Err BadVersion else Ok (drop 12 octets))

-- The walk: what the octets say, or the first fault.
unfoldable pub rtp_walk : List ℕ → Result Rtp RtpFault
rtp_walk octets = do
  words ← fixed_at octets
  extension ← rest_behind (4 * (slice_index octets 0 % 16)) words
  padded ← behind_extension (slice_index octets 0 / 16 % 2 == 1) extension
  payload ← without_padding (slice_index octets 0 / 32 % 2 == 1) padded
  Ok (rtp_of octets payload)
