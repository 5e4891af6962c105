-- A receiver's file, read from the left (own).
use Rattle.std.specs.Prelude.{ℕ, zero, suc, ◌==◌, if◌then◌else◌, List, [], ◌∷◌, ◌++◌, Result, Ok}
use Rattle.std.specs.Prelude.{Err}
use Rattle.std.specs.List.{list_any}
use Rattle.st_format.specs.Fields.{Fields}
use Rattle.media_file.specs.declared.fault.FileFault.{FileFault}
use Rattle.media_file.specs.declared.fault.FileFault.TheVariants.{BadField}
use Rattle.media_file.specs.Blocks.{block_at}
use Rattle.st_format.specs.Reading.{◌>>=◌}
use Rattle.st_format.specs.Given.{with_rest}
use Rattle.media_file.specs.Groups.{groups_at, shape_of}
use Rattle.media_file.specs.Fields.{nothing_at}
use Rattle.media_file.specs.StateFile.{Held, Kept, raster_groups}
use Rattle.receiver_file.specs.Front.{head_at, name_at}
use Rattle.receiver_file.specs.Numbers.{number_at}

-- a timestamp that didn't stand before
abbrev pub new_of : List ℕ → ℕ → Result ℕ FileFault
new_of before t = if list_any (λ u. u == t) before then Err BadField else Ok t

-- a timestamp of four octets that didn't stand before
unfoldable pub timestamp_at : List ℕ → List ℕ → Result (ℕ × List ℕ) FileFault
timestamp_at before octets = number_at octets >>= λ x. with_rest (new_of before x.0) x.1

-- a timestamp and the groups of its frame
unfoldable pub held_at : Fields → List ℕ → List ℕ → Result (Held × List ℕ) FileFault
held_at f before octets =
    timestamp_at before octets >>=
    λ t. groups_at (shape_of f.sampling f.depth) (raster_groups f) t.1 >>=
    λ g. Ok (record { timestamp = t.0; groups = g.0 }, g.1)

-- so many of them, behind those of these timestamps
unfoldable pub all_held_at : Fields → ℕ → List ℕ → List ℕ → Result (List Held × List ℕ) FileFault
all_held_at f zero before octets = Ok ([], octets)
all_held_at f (suc n) before octets =
    held_at f before octets >>= λ h. all_held_at f n (before ++ h.0.timestamp ∷ []) h.1 >>=
    λ y. Ok (h.0 ∷ y.0, y.1)

-- the walk from the left: a receiver's file, or the first fault
unfoldable pub state_walk : List ℕ → Result (Kept × List ℕ) FileFault
state_walk octets =
    name_at octets >>= λ a. block_at a.1 >>= λ f. head_at f.1 >>=
    λ p. all_held_at f.0 p.0.count [] p.1 >>= λ h. nothing_at h.1 >>= λ z.
    Ok (
      record { format = f.0; payload_type = p.0.payload_type; ssrc = p.0.ssrc; frames = h.0 },
      z.1,
    )
