-- Numbers of packets over more than one round of the bits that packets say of them.
use Rattle.std.specs.Prelude.{◌≡◌, ℕ, ◌+◌, ◌-◌, ◌*◌, ◌/◌, ◌%◌, ◌^◌, ◌<◌, ◌≤◌, min, max, nat_lt}
use Rattle.std.specs.Prelude.{if◌then◌else◌}
use Rattle.std.specs.Prelude.{List, [], ◌∷◌, ◌++◌, map, Option, Some, None}
use Rattle.std.specs.Option.{option_map_or}
use Rattle.st_format.specs.Device.{capped}
use Rattle.st_format.specs.declared.path.Path.{Path}
use Rattle.recording_counts.specs.declared.packet.Packet.{Packet}

-- The number has these low bits, of as many as a round has numbers, and lies at most half a round
-- from another one. RFC 3550, A.1
pub record IsNearest (round highest low number : ℕ) : Type 0 where
  pub bits : number % round ≡ low
  pub above : highest ≤ number + round / 2
  pub below : number < highest + round / 2

-- how far low bits are ahead of a number's
abbrev pub ahead : ℕ → ℕ → ℕ → ℕ
ahead round number low = (low + round - number % round) % round

-- the number with these low bits that is nearest to the highest so far
abbrev pub nearest : ℕ → ℕ → ℕ → ℕ
nearest round highest low =
    if nat_lt (ahead round highest low) (round / 2)
    then capped (highest + ahead round highest low)
    else highest - (round - ahead round highest low)

-- what packets say of their number: 16 bits, and 16 more above them where the payload has these.
-- RFC 4175, 4.2
abbrev pub low_bits : Option ℕ → ℕ → ℕ
low_bits None sequence = sequence
low_bits (Some extended) sequence = 65536 * extended + sequence

-- the number nearest to the highest so far: by 32 bits where the payload has the upper 16,
-- and else by 16. RFC 4175, 4.2; RFC 3550, A.1
abbrev pub nearest_by : Option ℕ → ℕ → ℕ → ℕ
nearest_by None highest sequence = nearest (2 ^ 16) highest sequence
nearest_by (Some extended) highest sequence =
    nearest (2 ^ 32) highest (low_bits (Some extended) sequence)

-- The number of a packet behind others, of which this is the highest. The first one's is what it
-- says and a round of 32 bits, so that others have place below it (own).
abbrev pub number_after : Option ℕ → Packet → ℕ
number_after None p = 2 ^ 32 + low_bits p.extended p.sequence
number_after (Some highest) p = nearest_by p.extended highest p.sequence

-- the first of a list joined with the others, if there are such
abbrev pub joined : (ℕ → ℕ → ℕ) → List ℕ → Option ℕ
joined f [] = None
joined f (n ∷ ns) = Some (option_map_or (f n) (joined f ns) n)

-- the least and the greatest of numbers
abbrev pub lowest_of : List ℕ → Option ℕ
lowest_of ns = joined min ns

-- the greatest of numbers, where there are such
abbrev pub highest_of : List ℕ → Option ℕ
highest_of ns = joined max ns

-- A packet that came by a path, and its number.
pub record Numbered : Type 0 where
  pub path : Path
  pub number : ℕ

-- a packet of a stream with its number, behind others
abbrev pub numbered_behind : List Numbered → Packet → Numbered
numbered_behind before p =
    record {
      path = p.path;
      number = number_after (highest_of (map (λ n. n.number) before)) p;
    }

-- the packets of a stream with their numbers, in the order of their coming
abbrev pub numbered_after : List Numbered → List Packet → List Numbered
numbered_after before [] = before
numbered_after before (p ∷ packets) =
    numbered_after (before ++ numbered_behind before p ∷ []) packets

-- all packets of a stream, each with its number behind those that came before it
abbrev pub numbered : List Packet → List Numbered
numbered packets = numbered_after [] packets
