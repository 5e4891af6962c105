-- What is played of a rehearsal, what is printed of it, and why one is not played.
use Rattle.std.specs.Prelude.{◌≡◌, ℕ, ◌+◌, ◌<◌, ◌⊎◌, List, [], ◌∷◌, ◌++◌, Bool, length}
use Rattle.std.specs.Prelude.{⊤}
use Rattle.std.specs.List.{enumerate_from, flat_map}
use Rattle.run_outcome.specs.Frames.{frame_lines}
use Rattle.frame_assembly.specs.Kinds.{counts_of}
use Rattle.packet_plan.specs.declared.plan.PlanFault.{PlanFault}
use Rattle.packet_plan.specs.declared.plan.PlanFault.TheVariants as plan
use Rattle.packet_plan.specs.Plan.{IsFullPlan, RasterPlan, group_octets}
use Rattle.packet_plan.specs.Sender.{IsSenderList}
use Rattle.path_receiver.specs.declared.play_fault.PlayFault.{PlayFault}
use Rattle.path_receiver.specs.declared.play_fault.PlayFault.TheVariants as play
use Rattle.path_merge.specs.declared.schedule.played.Handed.{Handed}
use Rattle.path_merge.specs.declared.schedule.played.Played.{Played}
use Rattle.path_merge.specs.Admitted.{IsFirstBad}
use Rattle.path_receiver.specs.Frames.{State}
use Rattle.path_receiver.specs.Opening.{AreDifferent, IsWindow, IsWindowSize}
use Rattle.path_merge.specs.Played.{ArePictures, IsPlayed, IsReceiverCount}
use Rattle.path_merge.specs.Reached.{IsFrameOf, Scene}
use Rattle.path_merge.specs.Sent.{AreSentBy, IsSendersFrame, scene_of, sender_of}
use Rattle.path_merge.specs.Stays.{Stay}
use Rattle.st_format.specs.Device.{GrowsPart}
use Rattle.st_format.specs.Raster.{Raster}
use Rattle.run_outcome.specs.declared.line.Line.TheVariants.{HandedOut, Receiver}
use Rattle.run_outcome.specs.declared.fault.Fault.{Fault}
use Rattle.run_outcome.specs.declared.fault.Fault.TheVariants as fault
use Rattle.run_outcome.specs.declared.refusal.Refusal.TheVariants.{Script}
use Rattle.run_outcome.specs.declared.script_line.LineFault.TheVariants as line
use Rattle.run_outcome.specs.Line.{line_text}
use Rattle.script_engines.specs.Rehearsal.{Heading, IsFaultyRehearsal, Said, SaysRehearsal}
use Rattle.script_engines.specs.Script.{line_behind, numbered_lines}

-- ---- what is played

-- a full plan for the format and the greatest size of a rehearsal (own)
pub record IsRehearsalPlan (plan : RasterPlan) (h : Heading) : Type 0 where
  pub format_is : plan.format ≡ h.format
  pub max_is : plan.max_octets ≡ h.max_octets
  pub full : IsFullPlan plan.packets plan.format plan.max_octets

-- the scene of a rehearsal by a plan: its window, its receivers and all its pictures
abbrev pub scene_by : RasterPlan → Said → Scene
scene_by plan said =
    scene_of plan said.pictures said.heading.stamp said.heading.window said.heading.receivers

-- A rehearsal was played by a plan of its own: all its events, over all its pictures; and each
-- frame is the sender's (own)
pub record PlaysSaid {A : Type 0} (played : Played A) (said : Said) : Type 0 where
  pub plan : RasterPlan
  pub plan_is : IsRehearsalPlan plan said.heading
  pub window : IsWindow said.heading.window
  pub pictures : ArePictures said.pictures plan.format
  pub receivers : IsReceiverCount said.heading.receivers
  pub played_is : IsPlayed played (scene_by plan said) said.events
  pub list : IsSenderList (scene_by plan said).sent (sender_of plan said.heading.stamp)
      said.heading.stamp.first said.pictures
  pub packets : AreSentBy (scene_by plan said).sent (sender_of plan said.heading.stamp) plan 0
      said.heading.stamp.first said.pictures
  pub senders : (stay : Stay) (frame : Raster)
      → IsFrameOf frame stay (scene_by plan said) said.events
      → IsSendersFrame frame stay (sender_of plan said.heading.stamp) said.pictures
      (scene_by plan said) said.events

-- ---- why it isn't

-- there is no plan of such a greatest size
abbrev pub IsUnplanned : PlanFault → Heading → Type 0
IsUnplanned plan.NoMemory h = ⊥
IsUnplanned plan.BadPacketSize h =
    (h.max_octets < 20 + group_octets h.format) ⊎ (9000 < h.max_octets)

-- the first reason why a rehearsal is not played by a plan
abbrev pub IsUnplayedBy : PlayFault → RasterPlan → Said → Type 0
IsUnplayedBy play.NoMemory plan said = ⊥
IsUnplayedBy (play.BadEvent place) plan said = IsFirstBad place (scene_by plan said) said.events
IsUnplayedBy play.BadWindow plan said = IsWindowSize (length said.heading.window) → ⊥
IsUnplayedBy play.DoubleTimestamp plan said =
    IsWindowSize (length said.heading.window) × (AreDifferent said.heading.window → ⊥)
IsUnplayedBy play.BadPictures plan said =
    IsWindow said.heading.window × (ArePictures said.pictures plan.format → ⊥)
IsUnplayedBy play.BadReceivers plan said =
    IsWindow said.heading.window × ArePictures said.pictures plan.format
    × (IsReceiverCount said.heading.receivers → ⊥)

-- Why a rehearsal is not played: there is no plan, or by its plan this is the first reason; or
-- memory was wanted (own)
abbrev pub IsUnplayed : Fault → Said → Type 0
IsUnplayed (fault.Refused (Script number (line.Plan f))) said = IsUnplanned f said.heading
IsUnplayed (fault.Refused (Script number (line.Play f))) said =
    (plan : RasterPlan) × IsRehearsalPlan plan said.heading × IsUnplayedBy f plan said
IsUnplayed fault.Memory said = ⊤
IsUnplayed other said = ⊥

-- a script says a rehearsal that is not played
pub record HasUnplayed (lines : List (ℕ × List ℕ)) (f : Fault) : Type 0 where
  pub said : Said
  pub says : SaysRehearsal lines said
  pub unplayed : IsUnplayed f said

-- Why a script is refused, where memory is not wanted: it has a line at fault, or it says what is
-- not played (own)
abbrev pub IsRefusedScript : List ℕ → Bool → Fault → Type 0
IsRefusedScript script is_cut f =
    IsFaultyRehearsal (numbered_lines 0 script) is_cut (line_behind 0 script) f
    ⊎ HasUnplayed (numbered_lines 0 script) f

-- ---- what is printed

-- the line of a frame that was handed out
abbrev pub handed_line : {A : Type 0} → Handed A → List ℕ
handed_line h = line_text (HandedOut h.receiver h.timestamp (counts_of h.frame)) ++ 10 ∷ []

-- a receiver's number, and the lines of its frames
abbrev pub receiver_lines : ℕ × State → List ℕ
receiver_lines r = (line_text (Receiver r.0) ++ 10 ∷ []) ++ frame_lines r.1

-- the lines of all frames that were handed out, in order
abbrev pub handed_text : {A : Type 0} → List (Handed A) → List ℕ
handed_text handed = flat_map handed_line handed

-- the lines of all receivers, numbered from 0
abbrev pub receivers_text : List State → List ℕ
receivers_text receivers = flat_map receiver_lines (enumerate_from 0 receivers)

-- What is printed of a rehearsal: a line for each frame that was handed out, in order, and then for
-- each receiver its number and the lines of its frames (own)
abbrev pub played_text : {A : Type 0} → Played A → List ℕ
played_text played = handed_text played.handed.items ++ receivers_text played.receivers.items

-- A script says a rehearsal, which was played, and of which this was printed (own)
pub record Rehearses (A : Type 0) (script old new : List ℕ) : Type 0 where
  pub said : Said
  pub says : SaysRehearsal (numbered_lines 0 script) said
  pub played : Played A
  pub plays : PlaysSaid played said
  pub printed : new ≡ old ++ played_text played

-- A script says a rehearsal, which was played, and a first part of this was printed (own)
pub record RehearsesPart (A : Type 0) (script old new : List ℕ) : Type 0 where
  pub said : Said
  pub says : SaysRehearsal (numbered_lines 0 script) said
  pub played : Played A
  pub plays : PlaysSaid played said
  pub cut : GrowsPart old new (played_text played)
