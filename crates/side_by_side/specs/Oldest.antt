-- Timestamps of which one is the oldest (own).
use Rattle.std.specs.Prelude.{ℕ, ◌^◌, ◌<◌, List}
use Rattle.following.specs.Serial.{ahead_of}
use Rattle.side_by_side.specs.declared.going.Going.{Going}
use Rattle.side_by_side.specs.declared.going.Going.TheVariants.{By}
use Rattle.st_format.specs.Member.{IsMember}

-- all timestamps by which datagrams go are within half of the round that begins at base. RFC 1982,
-- 3.2
abbrev pub GoWithinHalf : ℕ → List Going → Type 0
GoWithinHalf base goings =
    (timestamp : ℕ) → IsMember (By timestamp) goings → ahead_of timestamp base < 2 ^ 31
