-- The records of a capture at the moments that a sender has for them (own).
use Rattle.std.specs.Prelude.{ℕ, List, [], ◌∷◌, ◌++◌}
use Rattle.st_format.specs.declared.path.Path.{Path}
use Rattle.media_file.specs.Records.{Entry}
use Rattle.paced_export.specs.Counts.{count_of}
use Rattle.paced_export.specs.Pacing.{paced_moment, timestamp_in}
use Rattle.paced_export.specs.declared.pace.Pace.{Pace}

-- A record behind some others, where so many of a path have a timestamp in all: its moment is that
-- of the packet of its frame before which those of its path and timestamp stand.
abbrev pub paced_entry : Pace → (Path → ℕ → ℕ) → List Entry → Entry → Entry
paced_entry p all before e =
    record {
      path = e.path;
      moment =
          paced_moment p (timestamp_in e.octets)
          (count_of e.path (timestamp_in e.octets) before)
          (all e.path (timestamp_in e.octets));
      octets = e.octets;
    }

-- records behind some others
abbrev pub paced_behind : Pace → (Path → ℕ → ℕ) → List Entry → List Entry → List Entry
paced_behind p all before [] = []
paced_behind p all before (e ∷ entries) =
    paced_entry p all before e ∷ paced_behind p all (before ++ e ∷ []) entries

-- all records of a capture
abbrev pub paced : Pace → (Path → ℕ → ℕ) → List Entry → List Entry
paced p all entries = paced_behind p all [] entries

-- how many records of a path have a timestamp, of all of a capture
abbrev pub count_in_all : List Entry → Path → ℕ → ℕ
count_in_all whole path ts = count_of path ts whole
