-- What `send_job` owes its caller (own; SMPTE ST 2110-20, packets).
use Rattle.std.specs.Prelude.{
  ◌≡◌,
  ◌⊎◌,
  ℕ,
  ◌+◌,
  ◌%◌,
  ◌^◌,
  ◌<◌,
  List,
  Option,
  length,
  map,
  take,
  Result,
  Ok,
  Err,
}
use Rattle.st_format.specs.declared.format.Format.{Format}
use Rattle.st_format.specs.Device.{CountsOne, TakesAll}
use Rattle.st_format.specs.Picture.{Values}
use Rattle.st_format.specs.Puts.{FailsAt, TakesEach}
use Rattle.frame_assembly.specs.Settled.{IsBaseOf, settled_picture}
use Rattle.packet_plan.specs.declared.run.PacketRun.{PacketRun}
use Rattle.packet_plan.specs.declared.stamp.Stamp.{Stamp}
use Rattle.packet_plan.specs.Plan.{IsFullPlan, IsSize}
use Rattle.packet_plan.specs.Sent.{IsSentPicture}
use Rattle.key_mix.specs.Jobs.{IsJobFormat, IsJobPicture, IsRefusal, IsSoundJob}
use Rattle.key_mix.specs.declared.Job.{Job}
use Rattle.key_mix.specs.declared.faults.JobFault.TheVariants.{NoMemory}
use Rattle.key_mix.specs.declared.faults.SendJobFault.{SendJobFault}
use Rattle.key_mix.specs.declared.faults.SendJobFault.TheVariants as fault
use Rattle.key_mix.specs.declared.sending.JobInput.{JobInput}

-- the formats of the inputs' frames
abbrev pub input_formats : {A : Type 0} → List (JobInput A) → List Format
input_formats inputs = map (λ i. i.frame.now.format) inputs

-- the base of an input is one for its frame's format
abbrev pub HasBase : {A : Type 0} → JobInput A → Type 0
HasBase i = IsBaseOf i.base i.frame.now.format

-- Settled, of each input
abbrev pub settled_inputs : {A : Type 0} → List (JobInput A) → List Values
settled_inputs inputs = map (λ i. settled_picture i.frame.now i.base) inputs

-- Datagrams are those of the job's picture, by a full plan.
pub record IsSentJob (datagrams : List (List ℕ)) (j : Job) (pictures : List Values) (size : ℕ)
    (stamp : Stamp) : Type 0 where
  pub picture : Values
  pub made : IsJobPicture picture j pictures
  pub plan : List (List PacketRun)
  pub full : IsFullPlan plan picture.format size
  pub sent : IsSentPicture datagrams picture stamp size plan

-- What a sink has taken after an answer: such datagrams, all of them; where it failed, the first of
-- them; and else nothing. The first packet has the number `first`.
abbrev pub Sends : (List (List ℕ) → Type 0) → ℕ → Option (List (List ℕ)) → Option (List (List ℕ))
    → Result ℕ SendJobFault → Type 0
Sends Are first old new (Ok next) =
    (datagrams : List (List ℕ)) × Are datagrams × TakesAll old new datagrams
    × (next ≡ (first + length datagrams) % 2 ^ 32)
Sends Are first old new (Err (fault.Sink sent)) =
    (datagrams : List (List ℕ)) × Are datagrams × (sent < length datagrams)
    × TakesAll old new (take sent datagrams)
Sends Are first old new (Err (fault.Job e)) = new ≡ old
Sends Are first old new (Err fault.BadPacketSize) = new ≡ old

-- The same of any sink, by what its calls do to it: it took such datagrams, of which there is one;
-- or it failed at one of them; or it is as it was.
abbrev pub Puts : {S : Type 0} → (S → List ℕ → S → Type 0) → (S → List ℕ → S → Type 0)
    → (List (List ℕ) → Type 0) → ℕ → S → S → Result ℕ SendJobFault → Type 0
Puts {S} takes fails Are first old new (Ok next) =
    (datagrams : List (List ℕ)) × Are datagrams × (0 < length datagrams)
    × TakesEach takes old datagrams new × (next ≡ (first + length datagrams) % 2 ^ 32)
Puts {S} takes fails Are first old new (Err (fault.Sink sent)) =
    (datagrams : List (List ℕ)) × Are datagrams × FailsAt takes fails old datagrams sent new
Puts {S} takes fails Are first old new (Err (fault.Job e)) = new ≡ old
Puts {S} takes fails Are first old new (Err fault.BadPacketSize) = new ≡ old

-- A sink failed once where it is the fault, and else not at all.
abbrev pub CountsJobSink : ℕ → ℕ → Result ℕ SendJobFault → Type 0
CountsJobSink old new (Ok next) = new ≡ old
CountsJobSink old new (Err (fault.Sink sent)) = CountsOne old new
CountsJobSink old new (Err (fault.Job e)) = new ≡ old
CountsJobSink old new (Err fault.BadPacketSize) = new ≡ old

-- Nothing speaks against the job, and the size is one for the format of its picture.
pub record IsSendable (j : Job) (formats : List Format) (size : ℕ) : Type 0 where
  pub sound : IsSoundJob j formats
  pub format : Format
  pub is : IsJobFormat format j formats
  pub fits : IsSize size format

-- Nothing speaks against the job, and the size is none for the format of its picture.
pub record IsBadSize (j : Job) (formats : List Format) (size : ℕ) : Type 0 where
  pub sound : IsSoundJob j formats
  pub format : Format
  pub is : IsJobFormat format j formats
  pub none : IsSize size format → ⊥

-- When each fault comes: the first refusal of the job; then the size; then memory, and the sink
abbrev pub IsSendFault : SendJobFault → Job → List Format → ℕ → Type 0
IsSendFault (fault.Job e) j formats size =
    ((e ≡ NoMemory) × IsSendable j formats size) ⊎ IsRefusal e j formats
IsSendFault fault.BadPacketSize j formats size = IsBadSize j formats size
IsSendFault (fault.Sink sent) j formats size = IsSendable j formats size

-- the faults that come before a picture is sent
abbrev pub IsEarly : SendJobFault → Type 0
IsEarly (fault.Job e) = Unit {0}
IsEarly fault.BadPacketSize = Unit {0}
IsEarly (fault.Sink sent) = ⊥
