-- The plan that is made: packets filled one after another (own). A packet is known by the number of
-- its first pgroup.
use Rattle.std.specs.Prelude.{◌≡◌, ℕ, zero, suc, ◌+◌, ◌-◌, ◌*◌, ◌/◌, ◌%◌, ◌<◌, min, max, List, []}
use Rattle.std.specs.Prelude.{◌∷◌}
use Rattle.st_format.specs.declared.format.Format.{Format}
use Rattle.packet_plan.specs.declared.run.PacketRun.{PacketRun}
use Rattle.packet_plan.specs.Plan.{group_octets}
use Rattle.st_format.specs.Position.{row_groups, group_count}

-- how many pgroups fit behind this many heads
unfoldable pub room : Format → ℕ → ℕ → ℕ
room f size count = (size - (14 + 6 * count)) / group_octets f

-- how far count runs get from group number k on
abbrev pub reach : Format → ℕ → ℕ → ℕ → ℕ
reach f size k count = min (k + room f size count) ((k / row_groups f + count) * row_groups f)

-- the first group number behind the packet that begins with group number k
unfoldable pub next : Format → ℕ → ℕ → ℕ
next f size k =
    min (group_count f) (max (reach f size k 1) (max (reach f size k 2) (reach f size k 3)))

-- n groups from a place of a row on, cut at the ends of rows into at most count runs
unfoldable pub cut : ℕ → ℕ → ℕ → ℕ → ℕ → List PacketRun
cut width zero row first n = []
cut width (suc count) row first zero = []
cut width (suc count) row first (suc n) =
    record { row = row; first = first; groups = min (suc n) (width - first) } ∷ cut width count
    (row + 1) 0 (suc n - min (suc n) (width - first))

-- the packet that begins with group number k
unfoldable pub packet_from : Format → ℕ → ℕ → List PacketRun
packet_from f size k =
    cut (row_groups f) 3 (k / row_groups f) (k % row_groups f) (next f size k - k)

-- packets that begin with these groups follow one another, from group number k to the end
abbrev pub IsWalk : Format → ℕ → ℕ → List ℕ → ℕ → Type 0
IsWalk f size k [] end = k ≡ end
IsWalk f size k (s ∷ ss) end = (s ≡ k) × (k < group_count f) × IsWalk f size (next f size k) ss end
