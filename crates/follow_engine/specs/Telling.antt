-- What `follow` prints (own).
use Rattle.std.specs.Prelude.{ℕ, ◌==◌, if◌then◌else◌, nat_le, nat_lt, List, ◌++◌}
use Rattle.std.specs.Prelude.{Option, None, Some}
use Rattle.std.specs.List.{flat_map}
use Rattle.frame_assembly.specs.Kinds.{counts_of}
use Rattle.follow_engine.specs.Events.{Event, Running}
use Rattle.follow_engine.specs.Events as happens
use Rattle.follow_engine.specs.Line.{ended_in, ended_line}
use Rattle.follow_engine.specs.declared.line.FollowLine.{FollowLine}
use Rattle.follow_engine.specs.declared.line.FollowLine.TheVariants as line
use Rattle.follow_engine.specs.declared.telling.FollowTotals.{FollowTotals}

-- the line of a frame that leaves, and of a stream that is followed anew
abbrev pub event_text : Event → List ℕ
event_text (happens.Left h late) = ended_line (line.Left h.timestamp (counts_of h.frame) late)
event_text (happens.Anew timestamp) = ended_line (line.Anew timestamp)

-- the lines of all that happens, in order
abbrev pub events_text : List Event → List ℕ
events_text events = flat_map event_text events

-- what became of a stream
abbrev pub totals_of : Running → FollowTotals
totals_of r = record {
  frames = r.frames;
  kept = r.tally.kept;
  late = r.tally.late;
  far = r.tally.far;
  refused = r.tally.refused;
}

-- The last line, where datagrams came late that more frames would have held than these: how many
-- frames.
abbrev pub wanted : ℕ → ℕ → ℕ → Option FollowLine
wanted size late need =
    if late == 0 then None else
    (if nat_le need size then None else
    (if nat_lt 16 need then Some line.WantsMore else Some (line.Wants need)))

-- the totals, and that line
abbrev pub totals_text : Running → List ℕ
totals_text r =
    ended_line (line.Totals (totals_of r))
    ++ ended_in (wanted r.follower.size r.tally.late r.need.need)
