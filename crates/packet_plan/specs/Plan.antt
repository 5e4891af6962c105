-- Raster plans: which pgroups each packet of a picture carries (SMPTE ST 2110-20, general
-- packing mode; RFC 4175, 4.3).
use Rattle.std.specs.Prelude.{◌≡◌, ℕ, ◌+◌, ◌*◌, ◌<◌, ◌≤◌, ◌==◌, if◌then◌else◌, List, [], ◌∷◌}
use Rattle.std.specs.Prelude.{length, slice_index_or}
use Rattle.std.specs.List.{flat_map, range_with_len, AllByRecursion}
use Rattle.st_format.specs.declared.format.Format.{Format}
use Rattle.st_format.specs.Position.{group_count, row_groups}
use Rattle.payload_header.specs.Payload.{group_of, most_segments}
use Rattle.packet_plan.specs.declared.run.PacketRun.{PacketRun}

-- how many octets a pgroup of the format takes (RFC 4175, 4.3)
unfoldable pub group_octets : Format → ℕ
group_octets f = (group_of f).octets

-- A run is some pgroups, at least one, of one row (RFC 4175, 4.3).
pub record IsRun (f : Format) (r : PacketRun) : Type 0 where
  pub some : 1 ≤ r.groups
  pub inside : r.first + r.groups ≤ row_groups f

-- Pgroups are numbered in raster order. The numbers of a run's groups
abbrev pub numbers : Format → PacketRun → List ℕ
numbers f r = range_with_len (r.row * row_groups f + r.first) r.groups

-- how many pgroups runs have together
abbrev pub run_groups : List PacketRun → ℕ
run_groups [] = 0
run_groups (r ∷ rs) = r.groups + run_groups rs

-- how long a packet is: the RTP header of 12 octets, the extended number of two, a header of six
-- for each run, and the pgroups (RFC 3550, 5.1; RFC 4175, 4)
abbrev pub packet_octets : Format → List PacketRun → ℕ
packet_octets f p = 14 + 6 * length p + group_octets f * run_groups p

-- A packet is one to three runs that fit a greatest size (SMPTE ST 2110-20, pixel groups).
pub record IsPacket (f : Format) (size : ℕ) (p : List PacketRun) : Type 0 where
  pub some : 1 ≤ length p
  pub few : length p ≤ most_segments
  pub runs : AllByRecursion (IsRun f) p
  pub fits : packet_octets f p ≤ size

-- The runs of all packets, joined, are all pgroups in raster order, each once (SMPTE ST
-- 2110-20, general packing mode).
pub record IsRasterPlan (packets : List (List PacketRun)) (f : Format) (size : ℕ) : Type 0 where
  pub each : AllByRecursion (IsPacket f size) packets
  pub whole : flat_map (flat_map (numbers f)) packets ≡ range_with_len 0 (group_count f)

-- Each run is of a later row than those before it (own).
abbrev pub RowsRise : List PacketRun → Type 0
RowsRise [] = Unit {0}
RowsRise (r ∷ rs) = AllByRecursion (λ s. r.row < s.row) rs × RowsRise rs

-- a packet with one pgroup more, the next of the raster: in its last run, or in a new run
-- where a row begins (own)
unfoldable pub one_more : Format → List PacketRun → List PacketRun
one_more f [] = []
one_more f (r ∷ []) =
    if r.first + r.groups == row_groups f
    then r ∷ record { row = r.row + 1; first = 0; groups = 1 } ∷ []
    else record { row = r.row; first = r.first; groups = r.groups + 1 } ∷ []
one_more f (r ∷ s ∷ rs) = r ∷ one_more f (s ∷ rs)

-- A packet has room where that passes neither three runs nor the greatest size (own).
pub record HasRoom (p : List PacketRun) (f : Format) (size : ℕ) : Type 0 where
  pub few : length (one_more f p) ≤ most_segments
  pub fits : packet_octets f (one_more f p) ≤ size

-- No packet but the last has room (own).
abbrev pub NoneHasRoom : List (List PacketRun) → Format → ℕ → Type 0
NoneHasRoom [] f size = Unit {0}
NoneHasRoom (p ∷ []) f size = Unit {0}
NoneHasRoom (p ∷ q ∷ ps) f size = (HasRoom p f size → ⊥) × NoneHasRoom (q ∷ ps) f size

-- The sizes of packets that plans are made for: room for a run of one pgroup, and at most 9000
-- octets (own).
pub record IsSize (size : ℕ) (f : Format) : Type 0 where
  pub least : 20 + group_octets f ≤ size
  pub most : size ≤ 9000

-- A raster plan with all that is said of the plans that are made: runs of a packet are of rising
-- rows, no packet but the last has room, and no raster plan has fewer packets (own).
pub record IsFullPlan (packets : List (List PacketRun)) (f : Format) (size : ℕ) : Type 0 where
  pub limits : IsSize size f
  pub plan : IsRasterPlan packets f size
  pub rows : AllByRecursion RowsRise packets
  pub room : NoneHasRoom packets f size
  pub fewest : (others : List (List PacketRun)) → IsRasterPlan others f size
      → length packets ≤ length others

-- A plan as callers see it
pub record RasterPlan : Type 0 where
  pub format : Format
  pub max_octets : ℕ
  pub packets : List (List PacketRun)

-- the runs of the packet of this place in a plan; none where there is no such packet
abbrev pub packet_at : RasterPlan → ℕ → List PacketRun
packet_at plan i = slice_index_or plan.packets i []
