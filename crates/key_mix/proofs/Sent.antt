-- Sending a job's picture: one kind of datagrams for another, and the size of a plan.
use Rattle.std.proofs.Common.{◌≡◌, ℕ, suc, ◌+◌, ◌<◌, ◌⊎◌, ◌↔◌, List, [], ◌∷◌, Option, Result, Ok}
use Rattle.std.proofs.Common.{Err, IfErr, length, refl, arith, ap, inl, inr}
use Rattle.st_format.specs.declared.format.Format.{Format}
use Rattle.st_format.specs.Picture.{Values}
use Rattle.packet_plan.specs.Plan.{IsSize, group_octets}
use Rattle.packet_plan.specs.Sent.{AreSent}
use Rattle.packet_plan.specs.declared.plan.PlanFault.{PlanFault}
use Rattle.packet_plan.specs.declared.plan.PlanFault.TheVariants as plan
use Rattle.packet_plan.specs.declared.run.PacketRun.{PacketRun}
use Rattle.packet_plan.specs.declared.stamp.Stamp.{Stamp}
use Rattle.key_mix.specs.declared.faults.JobFault.{JobFault}
use Rattle.key_mix.specs.declared.faults.JobFault.TheVariants.{NoMemory}
use Rattle.key_mix.specs.declared.faults.SendJobFault.{SendJobFault}
use Rattle.key_mix.specs.declared.faults.SendJobFault.TheVariants as fault
use Rattle.key_mix.specs.declared.Job.{Job}
use Rattle.key_mix.specs.declared.Job.TheVariants.{Limit, Gain, ToYcc444, ToYcc422, Wipe, Key}
use Rattle.key_mix.specs.Jobs.{IsFault, IsJobFormat, IsJobPicture, IsSoundJob, formats_of}
use Rattle.key_mix.specs.Faults.{plan_job_fault}
use Rattle.key_mix.specs.Sending.{IsSendFault, Puts, Sends, input_formats, settled_inputs}
use Rattle.key_mix.specs.declared.sending.JobInput.{JobInput}
use Rattle.key_mix.proofs.Refused.{err, ok}

-- a size that isn't refused, and one that is
pub size_fits : (f : Format) (size : ℕ)
    → ((size < 20 + group_octets f) ⊎ (9000 < size) → ⊥) → IsSize size f
size_fits f size not =
    let low : size < 20 + group_octets f → ⊥ = λ h. not (inl h) in
    let high : 9000 < size → ⊥ = λ h. not (inr h) in
    record { least = omega (arith, low); most = omega (arith, high) }

pub size_bad : (f : Format) (size : ℕ) → (size < 20 + group_octets f) ⊎ (9000 < size)
    → IsSize size f → ⊥
size_bad f size (inl h) is = omega (arith, h, is.least)
size_bad f size (inr h) is = omega (arith, h, is.most)

-- the settled pictures have the formats of the frames
pub settled_formats : {A : Type 0} → (inputs : List (JobInput A))
    → formats_of (settled_inputs inputs) ≡ input_formats inputs
settled_formats [] = refl
settled_formats (i ∷ is) = ap (λ fs. i.frame.now.format ∷ fs) (settled_formats is)

-- a sound job has no fault but memory
pub only_memory : (e : JobFault) (j : Job) (fs : List Format) → IsSoundJob j fs → IsFault e j fs
    → e ≡ NoMemory
only_memory e j fs sound (inl h) = h.0
only_memory e j fs sound (inr h) = absurd (sound e h.is)

-- the format of a job's picture
pub picture_format : (j : Job) (vs : List Values) (p : Values) → IsJobPicture p j vs
    → IsJobFormat p.format j (formats_of vs)
picture_format (Limit range) (v ∷ []) p h = h.format
picture_format (Gain gain) (v ∷ []) p h = h.format
picture_format ToYcc444 (v ∷ []) p h = h.0
picture_format ToYcc422 (v ∷ []) p h = h.0
picture_format (Wipe w) (a ∷ b ∷ []) p h = h.format
picture_format Key (a ∷ b ∷ k ∷ []) p h = h.format
picture_format (Limit range) [] p h = elim h [ ]
picture_format (Limit range) (v ∷ (b ∷ _)) p h = elim h [ ]
picture_format (Gain gain) [] p h = elim h [ ]
picture_format (Gain gain) (v ∷ (b ∷ _)) p h = elim h [ ]
picture_format ToYcc444 [] p h = elim h [ ]
picture_format ToYcc444 (v ∷ (b ∷ _)) p h = elim h [ ]
picture_format ToYcc422 [] p h = elim h [ ]
picture_format ToYcc422 (v ∷ (b ∷ _)) p h = elim h [ ]
picture_format (Wipe w) [] p h = elim h [ ]
picture_format (Wipe w) (a ∷ []) p h = elim h [ ]
picture_format (Wipe w) (a ∷ (b ∷ (k ∷ _))) p h = elim h [ ]
picture_format Key [] p h = elim h [ ]
picture_format Key (a ∷ []) p h = elim h [ ]
picture_format Key (a ∷ (b ∷ [])) p h = elim h [ ]
picture_format Key (a ∷ (b ∷ (k ∷ (_ ∷ _)))) p h = elim h [ ]

no_memory : {T : Type 0} → err T plan.NoMemory ≡ err T plan.BadPacketSize → ⊥
no_memory h = cc

ok_apart : {T : Type 0} → (x : T) → ok PlanFault x ≡ err T plan.BadPacketSize → ⊥
ok_apart x h = cc

-- a plan's fault is one of sending, and where there is a plan its size is one
pub plan_fault : {T : Type 0} → (e : PlanFault) (j : Job) (fs : List Format) (f : Format) (size : ℕ)
    → IsSoundJob j fs → IsJobFormat f j fs
    → (err T e ≡ err T plan.BadPacketSize) ↔ ((size < 20 + group_octets f) ⊎ (9000 < size))
    → IsSendFault (plan_job_fault e) j fs size
plan_fault {T} plan.NoMemory j fs f size sound is when =
    inl (
      refl,
      record {
        sound = sound;
        format = f;
        is = is;
        fits = size_fits f size (λ h. absurd (no_memory {T = T} (when.1 h)));
      },
    )
plan_fault {T} plan.BadPacketSize j fs f size sound is when =
    record { sound = sound; format = f; is = is; none = size_bad f size (when.0 refl) }

pub plan_fits : {T : Type 0} → (x : T) (f : Format) (size : ℕ)
    → (ok PlanFault x ≡ err T plan.BadPacketSize) ↔ ((size < 20 + group_octets f) ⊎ (9000 < size))
    → IsSize size f
plan_fits x f size when = size_fits f size (λ h. absurd (ok_apart x (when.1 h)))

-- a result of a sound job whose faults come as they should has none but memory
pub only_if : {T : Type 0} → (r : Result T JobFault) (j : Job) (fs : List Format) → IsSoundJob j fs
    → IfErr r (λ e. IsFault e j fs) → IfErr r (λ e. e ≡ NoMemory)
only_if (Ok x) j fs sound h = tt
only_if (Err e) j fs sound h = only_memory e j fs sound h

-- a picture has as many datagrams as its plan has packets
pub length-sent : (p : Values) (stamp : Stamp) (i : ℕ) (qs : List (List PacketRun))
    (ds : List (List ℕ)) → AreSent ds p stamp i qs → length ds ≡ length qs
length-sent p stamp i [] [] h = refl
length-sent p stamp i (q ∷ qs) (d ∷ ds) h = ap suc (length-sent p stamp (i + 1) qs ds h.1)
length-sent p stamp i [] (d ∷ ds) h = elim h [ ]
length-sent p stamp i (q ∷ qs) [] h = elim h [ ]
