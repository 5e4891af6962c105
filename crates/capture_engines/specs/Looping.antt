-- What `loop` takes out of its link, and what it prints (own).
use Rattle.std.specs.Prelude.{◌≡◌, ℕ, ◌≤◌, min, List, [], ◌∷◌, ◌++◌, length, map, take, Some}
use Rattle.run_outcome.specs.Line.{line_text}
use Rattle.run_outcome.specs.Pictures.{SaysPicture}
use Rattle.run_outcome.specs.declared.line.Line.TheVariants.{Sent, Delivered, Frame}
use Rattle.frame_assembly.specs.Kinds.{AreCounts}
use Rattle.frame_assembly.specs.declared.counts.Counts.{Counts}
use Rattle.packet_plan.specs.declared.run.PacketRun.{PacketRun}
use Rattle.packet_plan.specs.declared.stamp.Stamp.{Stamp}
use Rattle.packet_plan.specs.Plan.{IsFullPlan}
use Rattle.packet_plan.specs.Text.{datagram_texts}
use Rattle.path_receiver.specs.Frames.{Holds, State, frame_at}
use Rattle.path_receiver.specs.Opening.{Opening}
use Rattle.path_receiver.specs.Took.{CountsAll}
use Rattle.st_format.specs.declared.format.Format.{Format}
use Rattle.st_format.specs.Picture.{Values}
use Rattle.st_format.specs.Raster.{Raster}
use Rattle.st_format.specs.declared.path.Path.{Path}

-- what the receiver is opened with: payload type 96, source 1, and the window of timestamp 0
abbrev pub loop_opening : Format → Opening
loop_opening f = record { format = f; payload_type = 96; ssrc = Some 1; window = 0 ∷ [] }

-- what its datagrams have in common
abbrev pub loop_stamp : Stamp
loop_stamp = record { payload_type = 96; first = 0; timestamp = 0; ssrc = 1 }

-- What came of a link between two moments, so many datagrams and no more than turns were taken, is
-- what a receiver took that was just opened.
pub record Came (turns delivered : ℕ) (before now : List (Path × List ℕ)) (receiver : State)
    : Type 0 where
  pub arrivals : List (Path × List ℕ)
  pub came : now ≡ before ++ arrivals
  pub count : length arrivals ≡ delivered
  pub few : delivered ≤ turns
  pub holds : Holds receiver (map (λ (d : Path × List ℕ). d.1) arrivals)

-- a line, and LF behind it
abbrev pub ended_line : List ℕ → List ℕ
ended_line line = line ++ 10 ∷ []

-- how many datagrams were sent and delivered, and what a picture has then
abbrev pub loop_text : ℕ → ℕ → Counts → List ℕ
loop_text sent delivered counts =
    ended_line (line_text (Sent sent)) ++ (ended_line (line_text (Delivered delivered))
    ++ ended_line (line_text (Frame 0 counts)))

-- How many datagrams were sent and delivered is printed, and how many samples of a receiver's frame
-- of timestamp 0 are of each kind.
pub record Prints (sent delivered : ℕ) (receiver : State) (old new : List ℕ) : Type 0 where
  pub frame : Raster
  pub counts : Counts
  pub there : frame_at receiver.opening.window receiver.frames 0 ≡ Some frame
  pub counted : AreCounts frame counts
  pub printed : new ≡ old ++ loop_text sent delivered counts

-- What a link tells: the datagrams that it took, those that came of it, and how many it counts.
pub record Link : Type 0 where
  pub took : List (List ℕ)
  pub came : List (Path × List ℕ)
  pub delivered : ℕ

-- The picture that was read was sent by a plan: its datagrams were put into the link, in order and
-- up to a limit, one turn of the link was taken for each, and a receiver took what came in them: as
-- many datagrams as the link then counts more.
pub record Loops (max limit : ℕ) (told : List ℕ → Type 0) (before after : Link)
    (old new : List ℕ) : Type 0 where
  pub picture : Values
  pub packets : List (List PacketRun)
  pub delivered : ℕ
  pub receiver : State
  pub read : SaysPicture told picture
  pub plan : IsFullPlan packets picture.format max
  pub put : after.took
      ≡ before.took
      ++ take (min limit (length packets)) (datagram_texts picture loop_stamp 0 packets)
  pub opening : receiver.opening ≡ loop_opening picture.format
  pub came : Came (min limit (length packets)) delivered before.came after.came receiver
  pub counted : CountsAll delivered before.delivered after.delivered
  pub printed : Prints (min limit (length packets)) delivered receiver old new
