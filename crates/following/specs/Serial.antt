-- Times that go round. RFC 1982, 3.2
use Rattle.std.specs.Prelude.{ℕ, ◌+◌, ◌-◌, ◌%◌, ◌^◌, ◌&&◌, Bool, IsTrue, nat_lt}

-- the timestamp of a time: ticks of the 90 kHz clock, of which it has the low 32 bits. RFC 3550,
-- 5.1
abbrev pub wrapped : ℕ → ℕ
wrapped time = time % 2 ^ 32

-- how far a timestamp, or a time, is ahead of another, going round
abbrev pub ahead_of : ℕ → ℕ → ℕ
ahead_of a b = (a % 2 ^ 32 + (2 ^ 32 - b % 2 ^ 32)) % 2 ^ 32

-- the one is newer than the other: it is ahead of it, by less than half of the round
unfoldable pub is_newer : ℕ → ℕ → Bool
is_newer a b = nat_lt 0 (ahead_of a b) && nat_lt (ahead_of a b) (2 ^ 31)

-- It holds that the one is newer than the other. RFC 1982, 3.2
abbrev pub IsNewer : ℕ → ℕ → Type 0
IsNewer a b = IsTrue (is_newer a b)
