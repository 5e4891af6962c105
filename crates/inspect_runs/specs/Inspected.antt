-- What `inspect` tells of files, and what it refuses before it reads them (own).
use Rattle.std.specs.Prelude.{◌≡◌, ℕ, ◌⊎◌, ⊤, List, Bool, true, false, Option, None, Some, Result}
use Rattle.std.specs.Prelude.{Ok, Err, All, Any, sum_by, if◌then◌else◌, ◌∷◌, [], vec_len}
use Rattle.std.specs.List.{zip}
use Rattle.capture_runs.specs.Looked.{BeginsCapture, IsNoCapture, ReadNone}
use Rattle.capture_runs.specs.Opened.{AreUnread, said_text}
use Rattle.capture_runs.specs.Refused.{IsFlowRefusal, IsTooLongSdp}
use Rattle.capture_runs.specs.Replayed.{ReplayedRead, replayed_failures}
use Rattle.inspect_runs.specs.declared.aim.Aim.{Aim}
use Rattle.inspect_runs.specs.declared.aim.Aim.TheVariants as aim
use Rattle.inspect_runs.specs.declared.aim.Inspected.{Inspected}
use Rattle.capture_runs.specs.declared.opening.Files.{Files}
use Rattle.capture_runs.specs.declared.replayed.Replayed.{Replayed}
use Rattle.inspect_engine.specs.Told as flows
use Rattle.inspect_engine.specs.declared.form.Form.TheVariants as lines
use Rattle.inspect_engine.specs.declared.form.Form.{Form as FlowForm}
use Rattle.recording_engines.specs.Ways.{AreWaysBy}
use Rattle.run_outcome.specs.Fault.{Accounts, Failures, counts}
use Rattle.run_outcome.specs.declared.fault.Fault.{Fault}
use Rattle.run_outcome.specs.declared.refusal.Refusal.{Refusal}
use Rattle.run_outcome.specs.declared.refusal.Refusal.TheVariants.{Script}
use Rattle.run_outcome.specs.declared.script_line.LineFault.TheVariants as line
use Rattle.st_format.specs.declared.format.FormatFault.{FormatFault}
use Rattle.stream_inspection.specs.Told as streams
use Rattle.stream_inspection.specs.declared.target.Target.{Target}
use Rattle.stream_inspection.specs.declared.target.Wanted.{Wanted}
use Rattle.stream_inspection.specs.declared.target.Wanted.TheVariants.{Given, Said}
use Rattle.stream_inspection.specs.declared.text.Form.TheVariants as columns
use Rattle.stream_inspection.specs.declared.text.Form.{Form as StreamForm}

-- ---- what is told

-- Flows are told where no word names a stream and no file that was looked at begins as a capture.
-- Where one does, the stream is that which the first file's text says.
abbrev pub IsSeen : List Replayed → Aim → Type 0
IsSeen looked aim.Flows = All IsNoCapture looked
IsSeen looked (aim.Streams w) = Any BeginsCapture looked × (w ≡ Said)

-- Else what came of the stream is told: of the format that is given; or of that which an SDP says.
abbrev pub IsAim : Option (Result Target FormatFault) → Bool → List Replayed → Aim → Type 0
IsAim (Some (Ok t)) is_named looked told = told ≡ aim.Streams (Given t)
IsAim (Some (Err e)) is_named looked told = ⊥
IsAim None true looked told = told ≡ aim.Streams Said
IsAim None false looked told = IsSeen looked told

-- what is read, of which nothing is read yet: that file of the SDP was
pub record AreFresh (f : Inspected) : Type 0 where
  pub streams : AreUnread f.streams
  pub flows : All ReadNone f.flows.items

-- the files that are read are so many
abbrev pub CountFiles : ℕ → Inspected → Aim → Type 0
CountFiles n f aim.Flows = (vec_len f.looked.value ≡ n) × (vec_len f.flows ≡ n)
CountFiles n f (aim.Streams w) = vec_len f.streams.recordings ≡ n

-- the flows by which each of them is taken are by the words, or by the SDP's text
abbrev pub TakesByWays : Option (List ℕ) → Option (List ℕ) → ℕ → Inspected → Aim → Type 0
TakesByWays a b n f aim.Flows = ⊤
TakesByWays a b n f (aim.Streams w) =
    AreWaysBy a b (said_text f.streams.said) n f.streams.ways.items

-- The refusals before files are read: that there is no such format, which is that of a script's
-- line; of the SDP's length; of the words for flows.
abbrev pub IsSetRefusal : Option (Result Target FormatFault) → Option (List ℕ) → Option (List ℕ)
    → Inspected → Refusal → Type 0
IsSetRefusal target a b f r =
    ((fault : FormatFault) × (target ≡ Some (Err fault)) × (r ≡ Script 1 (line.Format fault)))
    ⊎ IsTooLongSdp f.streams.sdp r ⊎ IsFlowRefusal a b r

-- ---- what was told

-- the form in which flows are told: lines, or objects of JSON
abbrev pub flow_form : Bool → FlowForm
flow_form is_json = if is_json then lines.Json else lines.Lines

-- the form in which streams are told: columns, or objects of JSON
abbrev pub stream_form : Bool → StreamForm
stream_form is_json = if is_json then columns.Json else columns.Columns

-- what was printed are the flows of the recordings that were read
abbrev pub TellsFlows : Bool → List Replayed → List Replayed → List ℕ → List ℕ → Type 0
TellsFlows is_json old new shown shown' =
    flows.Tells (flow_form is_json) ReplayedRead (zip old new) false shown shown'

-- what was printed is told of all datagrams of the captures and recordings that were read
abbrev pub TellsStream : Wanted → Bool → Files → Files → List ℕ → List ℕ → Type 0
TellsStream w is_json old new shown shown' =
    streams.TellsStreams w (stream_form is_json) (said_text old.said) old.ways.items ReplayedRead
    (zip old.recordings.items new.recordings.items) None shown shown'

-- what was printed is what was asked for: the flows, or a stream
abbrev pub TellsAim : Aim → Bool → Inspected → Inspected → List ℕ → List ℕ → Type 0
TellsAim aim.Flows is_json old new shown shown' =
    TellsFlows is_json old.flows.items new.flows.items shown shown'
TellsAim (aim.Streams w) is_json old new shown shown' =
    TellsStream w is_json old.streams new.streams shown shown'

-- the refusals of what was read
abbrev pub IsFlowsRefusal : Bool → List Replayed → List Replayed → List ℕ → List ℕ → Refusal
    → Type 0
IsFlowsRefusal is_json old new shown shown' =
    flows.IsInspectRefusal (flow_form is_json) ReplayedRead (zip old new) shown shown'

-- so of a stream that is told
abbrev pub IsToldStreamRefusal : Wanted → Bool → Files → Files → List ℕ → List ℕ → Refusal → Type 0
IsToldStreamRefusal w is_json old new shown shown' r =
    streams.IsStreamsRefusal w (stream_form is_json) (said_text old.said) old.ways.items
    ReplayedRead (zip old.recordings.items new.recordings.items) shown shown' r

-- so of what was asked for
abbrev pub IsAimRefusal : Aim → Bool → Inspected → Inspected → List ℕ → List ℕ → Refusal → Type 0
IsAimRefusal aim.Flows is_json old new shown shown' r =
    IsFlowsRefusal is_json old.flows.items new.flows.items shown shown' r
IsAimRefusal (aim.Streams w) is_json old new shown shown' r =
    IsToldStreamRefusal w is_json old.streams new.streams shown shown' r

-- which devices failed, by what the run came to
abbrev pub AccountsRead : List Replayed → List Replayed → Failures → Result (Unit {0}) Fault
    → Type 0
AccountsRead old new output outcome = Accounts outcome
    (counts (sum_by replayed_failures old) (sum_by replayed_failures new) ∷ output ∷ [])

-- so by what was asked for
abbrev pub AccountsAim : Aim → Inspected → Inspected → Failures → Result (Unit {0}) Fault → Type 0
AccountsAim aim.Flows old new output outcome =
    AccountsRead old.flows.items new.flows.items output outcome
AccountsAim (aim.Streams w) old new output outcome =
    AccountsRead old.streams.recordings.items new.streams.recordings.items output outcome
