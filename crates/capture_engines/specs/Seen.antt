-- What was seen of a file beside its datagrams (own).
use Rattle.std.specs.Prelude.{Bool, true, false, ◌||◌, List, [], Option, None, Some}
use Rattle.flow.specs.declared.Flow.{Flow}
use Rattle.flow.specs.declared.flows.Flows.{Flows}
use Rattle.media_file.specs.Records.{Entry}
use Rattle.recording_counts.specs.LeftOut.{left_out_of}
use Rattle.recording_counts.specs.declared.left_out.LeftOut.{LeftOut}
use Rattle.recording_reader.specs.FileReader.{FileReader}
use Rattle.recording_reader.specs.Files.{has_path}
use Rattle.st_format.specs.declared.path.Path.TheVariants.{A, B}
use Rattle.capture_engines.specs.declared.seen.Seen.{Seen}

-- of no file, and of a capture
abbrev pub no_file : Seen
no_file = record { a = None; b = None; left_out = left_out_of [] }

-- whether a datagram of a flow came, where it is asked for
abbrev pub came_by : Option Flow → Bool → Option Bool
came_by None has_come = None
came_by (Some flow) has_come = Some has_come

-- so in one of two files
abbrev pub either_by : Option Bool → Option Bool → Option Bool
either_by (Some one) (Some other) = Some (one || other)
either_by (Some one) None = Some one
either_by None other = other

-- it was asked for, and none came
abbrev pub is_lacking : Option Bool → Bool
is_lacking None = false
is_lacking (Some true) = false
is_lacking (Some false) = true

-- of a file by its records and what was left out: a recording is taken by flows
abbrev pub seen_by : Bool → Option Flows → List Entry → LeftOut → Seen
seen_by true (Some flows) records left = record {
  a = came_by flows.a (has_path A records);
  b = came_by flows.b (has_path B records);
  left_out = left;
}
seen_by true None records left = no_file
seen_by false flows records left = no_file

-- what a reader has seen of its file so far; of a capture nothing is told
abbrev pub seen_of : {S : Type 0} → FileReader S → Seen
seen_of r = seen_by r.is_recording r.flows r.records r.left_out
