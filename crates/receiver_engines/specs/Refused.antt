-- Which refusal ends a run of `process`: the first in one order of those that speak against its
-- words and files (own). Each is said to stand only where none before it does.
use Rattle.std.specs.Prelude.{◌≡◌, ℕ, ◌<◌, ◌⊎◌, List, length, take, slice_index_or, Option, None}
use Rattle.std.specs.Prelude.{Some}
use Rattle.receiver_engines.specs.States.{IsStateRefusal}
use Rattle.run_outcome.specs.Pictures.{IsPictureRefusal}
use Rattle.run_outcome.specs.declared.refusal.Refusal.{Refusal}
use Rattle.run_outcome.specs.declared.refusal.Refusal.TheVariants as refusal
use Rattle.key_mix.specs.Jobs.{IsRefusal}
use Rattle.key_mix.specs.Sending.{IsBadSize}
use Rattle.key_mix.specs.declared.Job.{Job}
use Rattle.packet_plan.specs.declared.plan.PlanFault.TheVariants as plan
use Rattle.path_receiver.specs.Frames.{State}
use Rattle.st_format.specs.declared.format.Format.{Format}
use Rattle.st_format.specs.Member.{IsMember}
use Rattle.st_format.specs.Picture.{Values}
use Rattle.st_format.specs.Raster.{Raster}
use Rattle.receiver_engines.specs.declared.processing.Processing.{Processing}
use Rattle.receiver_engines.specs.Inputs.{AreFramesAt, IsFill, IsHeldFor, raster_formats}
use Rattle.receiver_engines.specs.JobText.{IsJobText}
use Rattle.receiver_engines.specs.Reading.{SayReceivers, SaysHeld}
use Rattle.run_outcome.specs.TextRefusals.{IsTextOfRun, SaysTextOfRun}

-- ---- what the job is given

-- a receiver's window hasn't the timestamp
pub record LacksFrame (ts : ℕ) (rs : List State) : Type 0 where
  pub receiver : State
  pub is : IsMember receiver rs
  pub lacks : IsMember ts receiver.opening.window → ⊥

-- no fill that the text says fits the frames
abbrev pub HasNoFill : List ℕ → List Raster → Type 0
HasNoFill text qs = (fill : List ℕ) → IsFill fill text qs → ⊥

-- each receiver has a frame, and of the frames this holds
pub record OfFrames (w : Processing) (rs : List State) (Holds : List Raster → Type 0) : Type 0 where
  pub frames : List Raster
  pub are : AreFramesAt frames rs w.timestamp
  pub holds : Holds frames

-- frames have a fill, and the held picture has another format than the first of them
pub record DiffersHeld (w : Processing) (held : Option Values) (qs : List Raster) : Type 0 where
  pub fill : List ℕ
  pub fill_is : IsFill fill w.fill.now qs
  pub differs : IsHeldFor held qs → ⊥

-- frames have a fill, the held picture has the format of the first, and of their formats this holds
pub record OfFormats (w : Processing) (held : Option Values) (Holds : List Format → Type 0)
    (qs : List Raster) : Type 0 where
  pub fill : List ℕ
  pub fill_is : IsFill fill w.fill.now qs
  pub held_is : IsHeldFor held qs
  pub holds : Holds (raster_formats qs)

-- the refusals of the job itself, and of its packets' size
abbrev pub IsJobOrPlanRefusal : Job → ℕ → Refusal → List Format → Type 0
IsJobOrPlanRefusal job size (refusal.Job e) fs = IsRefusal e job fs
IsJobOrPlanRefusal job size (refusal.Plan plan.BadPacketSize) fs = IsBadSize job fs size
IsJobOrPlanRefusal job size r fs = ⊥

-- the refusals of a job of receivers and a held picture
abbrev pub IsJobRefusal : Job → Processing → List State → Option Values → Refusal → Type 0
IsJobRefusal job w rs held refusal.ProcessFrame = LacksFrame w.timestamp rs
IsJobRefusal job w rs held refusal.ProcessFill = OfFrames w rs (HasNoFill w.fill.now)
IsJobRefusal job w rs held refusal.ProcessHold = OfFrames w rs (DiffersHeld w held)
IsJobRefusal job w rs held r =
    OfFrames w rs (OfFormats w held (IsJobOrPlanRefusal job w.max_octets r))

-- ---- words and files

-- the refusal of the file of the picture that is held
abbrev pub IsHeldRefusal : {S : Type 0} → (S → List ℕ → Type 0) → Option S → Refusal → Type 0
IsHeldRefusal told None r = ⊥
IsHeldRefusal told (Some s) r = IsPictureRefusal (told s) r

-- the refusal of the receiver's file at a place
pub record IsRefusedAt {S : Type 0} (told : S → List ℕ → Type 0) (states : List S) (place : ℕ)
    (r : Refusal) : Type 0 where
  pub source : S
  pub at : (s : S) → slice_index_or states place s ≡ source
  pub refused : IsStateRefusal (told source) r

-- The refusal of the first receiver's file that is refused: those before it are receivers'.
pub record IsReceiversRefusal {S : Type 0} (told : S → List ℕ → Type 0) (states : List S)
    (r : Refusal) : Type 0 where
  pub place : ℕ
  pub within : place < length states
  pub receivers : List State
  pub receivers_are : SayReceivers told (take place states) receivers
  pub refused : IsRefusedAt told states place r

-- the files are those of receivers
pub record AreReceivers {S : Type 0} (told : S → List ℕ → Type 0) (states : List S)
    : Type 0 where
  pub receivers : List State
  pub receivers_are : SayReceivers told states receivers

-- the words say a job, the files are read, and of what they say this is the refusal
pub record IsRefusalOfRead {S : Type 0} (told : S → List ℕ → Type 0) (states : List S)
    (hold : Option S) (w : Processing) (r : Refusal) : Type 0 where
  pub job : Job
  pub job_is : IsJobText w.job.now job
  pub receivers : List State
  pub receivers_are : SayReceivers told states receivers
  pub held : Option Values
  pub held_is : SaysHeld told hold held
  pub refused : IsJobRefusal job w receivers held r

-- the words say a job
abbrev pub SaysJob : Processing → Type 0
SaysJob w = (job : Job) × IsJobText w.job.now job

-- The refusals of a run in their order: of the job's text; of the receivers' files; of the held
-- picture's; of a timestamp that a window hasn't; of the fill; of the held picture's format; of the
-- job; of the packets' size.
abbrev pub IsRunRefusal : {S : Type 0} → (S → List ℕ → Type 0) → List S → Option S → Processing
    → Refusal → Type 0
IsRunRefusal told states hold w refusal.ProcessJob =
    (job : Job) → IsJobText w.job.now job → ⊥
IsRunRefusal told states hold w (refusal.State f) =
    SaysJob w × IsReceiversRefusal told states (refusal.State f)
IsRunRefusal told states hold w (refusal.Picture f) =
    SaysJob w × AreReceivers told states × IsHeldRefusal told hold (refusal.Picture f)
IsRunRefusal told states hold w r = IsRefusalOfRead told states hold w r

-- the refusal of the job's text
abbrev pub IsJobTextRefusal : Processing → Refusal → Type 0
IsJobTextRefusal w r =
    (r ≡ refusal.ProcessJob) × ((job : Job) → IsJobText w.job.now job → ⊥)

-- The refusal of a run with a text: of the job's text; or the words say a job, and it is of the
-- text, or that is one, and it is of the run behind it.
abbrev pub IsSaidRunRefusal : {S : Type 0} → (S × S → List ℕ → Type 0) → Option S → Option S
    → List (S × S) → Option (S × S) → Processing → Refusal → Type 0
IsSaidRunRefusal told old new states hold w r =
    IsJobTextRefusal w r
    ⊎ (SaysJob w × (IsTextOfRun told old new r
    ⊎ (SaysTextOfRun told old new × IsRunRefusal told states hold w r)))
