-- What `process` sends (own).
use Rattle.std.specs.Prelude.{◌≡◌, ℕ, ◌^◌, ◌%◌, List, [], ◌∷◌, ◌++◌, Option, length, take, ◌<◌}
use Rattle.run_outcome.specs.Line.{line_text}
use Rattle.run_outcome.specs.declared.line.Line.TheVariants.{Sent}
use Rattle.run_outcome.specs.LowerFaults.{of_job, of_plan}
use Rattle.run_outcome.specs.declared.fault.Fault.{Fault}
use Rattle.run_outcome.specs.declared.fault.Fault.TheVariants.{Device}
use Rattle.key_mix.specs.declared.faults.SendJobFault.{SendJobFault}
use Rattle.key_mix.specs.declared.faults.SendJobFault.TheVariants as sending
use Rattle.packet_plan.specs.declared.plan.PlanFault.TheVariants as plan
use Rattle.key_mix.specs.Sending.{IsSendable, IsSentJob}
use Rattle.key_mix.specs.declared.Job.{Job}
use Rattle.packet_plan.specs.declared.stamp.Stamp.{Stamp}
use Rattle.media_file.specs.Writer.{written_text}
use Rattle.media_file.specs.declared.paths.Paths.TheVariants.{OnlyA}
use Rattle.path_receiver.specs.Frames.{State}
use Rattle.st_format.specs.Picture.{Values}
use Rattle.st_format.specs.Raster.{Raster}
use Rattle.receiver_engines.specs.Inputs.{AreFramesAt, IsFill, IsHeldFor, raster_formats}
use Rattle.receiver_engines.specs.Inputs.{settled_frames}
use Rattle.receiver_engines.specs.JobText.{IsJobText}
use Rattle.receiver_engines.specs.Reading.{SayReceivers, SaysHeld}

-- A sink of octets was written the capture of a text and of the datagrams of a job's picture of
-- pictures; so many modulo 2^32.
pub record TakesSaid (text : List ℕ) (job : Job) (pictures : List Values) (size : ℕ) (stamp : Stamp)
    (old new : List ℕ) (count : ℕ) : Type 0 where
  pub datagrams : List (List ℕ)
  pub spell : IsSentJob datagrams job pictures size stamp
  pub written : new ≡ old ++ written_text OnlyA text datagrams
  pub count_is : count ≡ length datagrams % 2 ^ 32

-- It was written that of receivers' frames of a timestamp, each settled. Nothing speaks against the
-- job, and the size is one for the format of its picture.
pub record SendsSaidJob (text : List ℕ) (job : Job) (ts : ℕ) (fill_text : List ℕ) (size : ℕ)
    (stamp : Stamp) (rs : List State) (held : Option Values) (old new : List ℕ) (count : ℕ)
    : Type 0 where
  pub frames : List Raster
  pub are : AreFramesAt frames rs ts
  pub fill : List ℕ
  pub fill_is : IsFill fill fill_text frames
  pub held_is : IsHeldFor held frames
  pub sendable : IsSendable job (raster_formats frames) size
  pub takes : TakesSaid text job (settled_frames held fill frames) size stamp old new count

-- It was written that of the job that a text says, of the receivers and the held picture whose
-- files were read.
pub record SendsSaidFiles {S : Type 0} (text : List ℕ) (told : S → List ℕ → Type 0)
    (states : List S) (hold : Option S) (job_text : List ℕ) (ts : ℕ) (fill_text : List ℕ) (size : ℕ)
    (stamp : Stamp) (old new : List ℕ) (count : ℕ) : Type 0 where
  pub job : Job
  pub job_is : IsJobText job_text job
  pub receivers : List State
  pub receivers_are : SayReceivers told states receivers
  pub held : Option Values
  pub held_is : SaysHeld told hold held
  pub sends : SendsSaidJob text job ts fill_text size stamp receivers held old new count

-- so with an empty text
abbrev pub SendsFiles : {S : Type 0} → (S → List ℕ → Type 0) → List S → Option S → List ℕ → ℕ
    → List ℕ → ℕ → Stamp → List ℕ → List ℕ → ℕ → Type 0
SendsFiles told states hold job_text ts fill_text size stamp old new count =
    SendsSaidFiles [] told states hold job_text ts fill_text size stamp old new count

-- How many datagrams were sent is printed.
abbrev pub PrintsSent : ℕ → List ℕ → List ℕ → Type 0
PrintsSent count old new = new ≡ old ++ (line_text (Sent count) ++ 10 ∷ [])

-- the fault by which a run ends that sends a job's picture: the job's, the plan's, or a device's
abbrev pub of_send_job : SendJobFault → Fault
of_send_job (sending.Job e) = of_job e
of_send_job sending.BadPacketSize = of_plan plan.BadPacketSize
of_send_job (sending.Sink sent) = Device

-- A sink of octets was written a first part of the capture of a text and of the datagrams of a
-- job's picture: none of it, or all, or less.
pub record SendsSaidPart (text : List ℕ) (size : ℕ) (stamp : Stamp) (old new : List ℕ)
    : Type 0 where
  pub job : Job
  pub pictures : List Values
  pub datagrams : List (List ℕ)
  pub count : ℕ
  pub spell : 0 < count → IsSentJob datagrams job pictures size stamp
  pub written : new ≡ old ++ take count (written_text OnlyA text datagrams)

-- so with an empty text
abbrev pub SendsUnsaidPart : ℕ → Stamp → List ℕ → List ℕ → Type 0
SendsUnsaidPart size stamp old new = SendsSaidPart [] size stamp old new
