-- What the packets of a walk are.
use Rattle.std.proofs.Common.{◌≡◌, ℕ, zero, suc, ◌+◌, ◌-◌, ◌*◌, ◌/◌, ◌<◌, ◌≤◌, List, [], ◌∷◌, ◌++◌}
use Rattle.std.proofs.Common.{length, map, get_or, refl, sym, ap, ◌∙◌, subst, arith}
use Rattle.std.specs.List.{flat_map, range_with_len, AllByRecursion}
use Rattle.st_format.specs.declared.format.Format.{Format}
use Rattle.packet_plan.specs.declared.run.PacketRun.{PacketRun}
use Rattle.packet_plan.specs.Plan.{IsSize, IsFullPlan, IsPacket, IsRasterPlan, NoneHasRoom}
use Rattle.packet_plan.specs.Plan.{RowsRise, numbers, packet_octets}
use Rattle.st_format.specs.Position.{row_groups, group_count}
use Rattle.packet_plan.specs.Greedy.{next, packet_from, IsWalk}
use Rattle.packet_plan.proofs.Packets.{range-append, from_numbers, from_packet, from_differ}
use Rattle.packet_plan.proofs.Packets.{next_room, next_below, no_room, ahead, some_groups}
use Rattle.std.proofs.lemmas.Nat.{mul-le}
use Rattle.std.proofs.Math.Nat.{div-le_self}
use Rattle.payload_header.specs.Payload.{group_of}
use Rattle.std.proofs.lemmas.List.FromFn.{length-range_with_len}

pub walk_more : (f : Format) (size k : ℕ) (ss : List ℕ) (e : ℕ) → IsWalk f size k ss e
    → e < group_count f → IsWalk f size k (ss ++ e ∷ []) (next f size e)
walk_more f size k [] e h lt = rw h (refl, lt, refl)
walk_more f size k (s ∷ ss) e h lt = (h.0, h.1, walk_more f size (next f size k) ss e h.2 lt)

pub walk_packets : (f : Format) (size k : ℕ) (ss : List ℕ) (e : ℕ) → IsSize size f
    → IsWalk f size k ss e → AllByRecursion (IsPacket f size) (map (packet_from f size) ss)
walk_packets f size k [] e fits h = tt
walk_packets f size k (s ∷ ss) e fits h =
    (rw h.0 (from_packet f size k fits h.1), walk_packets f size (next f size k) ss e fits h.2)

pub walk_differ : (f : Format) (size : ℕ) (ss : List ℕ)
    → AllByRecursion RowsRise (map (packet_from f size) ss)
walk_differ f size [] = tt
walk_differ f size (s ∷ ss) = (from_differ f size s, walk_differ f size ss)

pub walk_none_room : (f : Format) (size k : ℕ) (ss : List ℕ) (e : ℕ) → IsSize size f
    → IsWalk f size k ss e → NoneHasRoom (map (packet_from f size) ss) f size
walk_none_room f size k [] e fits h = tt
walk_none_room f size k (s ∷ []) e fits h = tt
walk_none_room f size k (s ∷ t ∷ ss) e fits h = (
  rw h.0 (no_room f size k fits h.1 h.2.1),
  walk_none_room f size (next f size k) (t ∷ ss) e fits h.2,
)

abbrev pub all_numbers : Format → List (List PacketRun) → List ℕ
all_numbers f ps = flat_map (flat_map (numbers f)) ps

pub walk_whole : (f : Format) (size k : ℕ) (ss : List ℕ) → IsSize size f → k ≤ group_count f
    → IsWalk f size k ss (group_count f)
    → all_numbers f (map (packet_from f size) ss) ≡ range_with_len k (group_count f - k)
walk_whole f size k [] fits le h = let e : group_count f - k ≡ 0 = omega arith in rw e refl
walk_whole f size k (s ∷ ss) fits le h =
    let m : ℕ = next f size k in
    let lt : k < group_count f = h.1 in
    let far : k < m = next_room f size k fits lt in
    let below : m ≤ group_count f = next_below f size k in
    let rest : all_numbers f (map (packet_from f size) ss) ≡ range_with_len m (group_count f - m) =
    walk_whole f size m ss fits below h.2 in
    ap (λ (a : ℕ). flat_map (numbers f) (packet_from f size a) ++ all_numbers f
    (map (packet_from f size) ss)) h.0
    ∙ ap (λ (xs : List ℕ). flat_map (numbers f) (packet_from f size k) ++ xs) rest
    ∙ ap (λ (xs : List ℕ). xs ++ range_with_len m (group_count f - m))
    (from_numbers f size k fits lt)
    ∙ range-append k (m - k) (group_count f - m) m (group_count f - k) (omega arith) (omega arith)

pub walk_plan : (f : Format) (size : ℕ) (ss : List ℕ) → IsSize size f
    → IsWalk f size 0 ss (group_count f) → IsRasterPlan (map (packet_from f size) ss) f size
walk_plan f size ss fits h = record {
  each = walk_packets f size 0 ss (group_count f) fits h;
  whole = let z : group_count f - 0 ≡ group_count f =
      omega arith in walk_whole f size 0 ss fits (omega arith) h ∙ ap (range_with_len 0) z;
}

-- ---- any other plan

-- a front of a range is a range, and so is what follows it
pub front : (xs ys : List ℕ) (a t : ℕ) → xs ++ ys ≡ range_with_len a t
    → (left : ℕ) × (length xs + left ≡ t) × (xs ≡ range_with_len a (length xs))
    × (ys ≡ range_with_len (a + length xs) left)
front [] ys a t e = let z : a + 0 ≡ a = omega arith in (t, omega arith, refl, rw z e)
front (x ∷ xs) ys a zero e = absurd cc
front (x ∷ xs) ys a (suc t) e =
    let inner : xs ++ ys ≡ range_with_len (a + 1) t = cc in
    let same : x ≡ a = cc in
    let r = front xs ys (a + 1) t inner in
    let z : a + 1 + length xs ≡ a + suc (length xs) = omega arith in
    let sum : length xs + r.0 ≡ t = r.1 in
    let mine : xs ≡ range_with_len (a + 1) (length xs) = r.2 in
    (r.0, omega arith, cc, subst (λ (k : ℕ). ys ≡ range_with_len k r.0) z r.3)

-- The greedy walk from k has no more packets than any that begin no later.
pub walk_fewest : (f : Format) (size k a : ℕ) (ss : List ℕ) (ps : List (List PacketRun))
    → IsSize size f → k ≤ group_count f → IsWalk f size k ss (group_count f)
    → a ≤ k → AllByRecursion (IsPacket f size) ps
    → all_numbers f ps ≡ range_with_len a (group_count f - a) → length ss ≤ length ps
walk_fewest f size k a [] ps fits le h before each whole = omega arith
walk_fewest f size k a (s ∷ ss) [] fits le h before each whole =
    let lt : k < group_count f = h.1 in
    let none : 0 ≡ group_count f - a =
    ap length whole ∙ length-range_with_len a (group_count f - a) in
    absurd (omega arith)
walk_fewest f size k a (s ∷ ss) (p ∷ ps) fits le h before each whole =
    let lt : k < group_count f = h.1 in
    let n : ℕ = length (flat_map (numbers f) p) in
    let r = front (flat_map (numbers f) p) (all_numbers f ps) a (group_count f - a) whole in
    let sum : n + r.0 ≡ group_count f - a = r.1 in
    let bound : a + n ≤ next f size k = ahead f size a n k p each.0 r.2 before (omega arith) in
    let left : r.0 ≡ group_count f - (a + n) = omega arith in
    let rest : all_numbers f ps ≡ range_with_len (a + n) (group_count f - (a + n)) =
    subst (λ (m : ℕ). all_numbers f ps ≡ range_with_len (a + n) m) left r.3 in
    let more =
    walk_fewest f size (next f size k) (a + n) ss ps fits
    (next_below f size k) h.2 bound each.1 rest in
    omega arith

pub length-map : {X Y : Type 0} (g : X → Y) (xs : List X) → length (map g xs) ≡ length xs
length-map g [] = refl
length-map g (x ∷ xs) = ap suc (length-map g xs)

-- No raster plan has fewer packets.
pub fewest : (f : Format) (size : ℕ) (ss : List ℕ) (ps : List (List PacketRun)) → IsSize size f
    → IsWalk f size 0 ss (group_count f) → IsRasterPlan ps f size
    → length (map (packet_from f size) ss) ≤ length ps
fewest f size ss ps fits h plan =
    let z : group_count f ≡ group_count f - 0 = omega arith in
    subst (λ (n : ℕ). n ≤ length ps) (sym (length-map (packet_from f size) ss))
    (walk_fewest f size 0 0 ss ps fits (omega arith) h (omega arith) plan.each
    (plan.whole ∙ ap (range_with_len 0) z))

-- A walk from the first group to the last is a full plan.
pub promised : (f : Format) (size : ℕ) (ss : List ℕ)
    → IsSize size f × IsWalk f size 0 ss (group_count f)
    → IsFullPlan (map (packet_from f size) ss) f size
promised f size ss h = record {
  limits = h.0;
  plan = walk_plan f size ss h.0 h.1;
  rows = walk_differ f size ss;
  room = walk_none_room f size 0 ss (group_count f) h.0 h.1;
  fewest = λ ps is. fewest f size ss ps h.0 h.1 is;
}

-- each start is a group
pub walk_below : (f : Format) (size k : ℕ) (ss : List ℕ) (e i : ℕ) → IsWalk f size k ss e
    → i < length ss → get_or ss i 0 < group_count f
walk_below f size k [] e i h lt = absurd (omega arith)
walk_below f size k (s ∷ ss) e zero h lt = rw h.0 h.1
walk_below f size k (s ∷ ss) e (suc i) h lt =
    walk_below f size (next f size k) ss e i h.2 (omega arith)

pub walk_count : (f : Format) (size k : ℕ) (ss : List ℕ) → IsSize size f → k ≤ group_count f
    → IsWalk f size k ss (group_count f) → k + length ss ≤ group_count f
walk_count f size k [] fits le h = omega arith
walk_count f size k (s ∷ ss) fits le h =
    let lt : k < group_count f = h.1 in
    let far : k < next f size k = next_room f size k fits lt in
    let more = walk_count f size (next f size k) ss fits (next_below f size k) h.2 in
    omega arith

pub group_count_most : (f : Format) → group_count f ≤ 8192 * 8192
group_count_most f =
    let columns : f.width / (group_of f).pixels ≤ 8192 =
    omega (arith, div-le_self f.width (group_of f).pixels, f.whole_width.most) in
    omega (
      arith,
      mul-le f.height (f.width / (group_of f).pixels) 8192 8192 f.whole_height.most columns,
    )

-- a raster has groups, so a plan has packets
pub some_count : (f : Format) → 0 < group_count f
some_count f =
    omega (arith, mul-le 1 1 f.height (row_groups f) f.whole_height.least (some_groups f))

pub walk_some : (f : Format) (size : ℕ) (ss : List ℕ) → IsWalk f size 0 ss (group_count f)
    → 0 < length ss
walk_some f size [] h = absurd (omega (arith, some_count f))
walk_some f size (s ∷ ss) h = omega arith

-- the same of the packets themselves
pub some_packets : (f : Format) (size : ℕ) (ss : List ℕ) → IsWalk f size 0 ss (group_count f)
    → 0 < length (map (packet_from f size) ss)
some_packets f size ss h =
    omega (arith, length-map (packet_from f size) ss, walk_some f size ss h)

-- each packet fits where the greatest size does
pub size_room : (f : Format) (size n : ℕ) (qs : List (List PacketRun)) → size ≤ n
    → AllByRecursion (IsPacket f size) qs → AllByRecursion (λ packet. packet_octets f packet ≤ n) qs
size_room f size n [] le each = tt
size_room f size n (q ∷ qs) le each = (omega (arith, each.0.fits), size_room f size n qs le each.1)
