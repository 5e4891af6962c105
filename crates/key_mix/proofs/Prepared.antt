-- A prepared job: its picture has the format of its plan, and what is sent of it is sent of the job.
use Rattle.std.proofs.Common.{◌≡◌, ℕ, List, subst}
use Rattle.st_format.specs.Picture.{Values}
use Rattle.st_format.specs.declared.format.Format.{Format}
use Rattle.packet_plan.specs.Sent.{IsSentPicture}
use Rattle.packet_plan.specs.declared.stamp.Stamp.{Stamp}
use Rattle.key_mix.specs.Jobs.{IsJobFormat, IsJobPicture}
use Rattle.key_mix.specs.Preparing.{IsPreparedJob, Prepared}
use Rattle.key_mix.specs.Sending.{IsSentJob, input_formats, settled_inputs}
use Rattle.key_mix.specs.declared.Job.{Job}
use Rattle.key_mix.specs.declared.sending.JobInput.{JobInput}
use Rattle.key_mix.proofs.Resampled.{job_format_once}
use Rattle.key_mix.proofs.Sent.{picture_format, settled_formats}

-- the picture of the job has the format of its plan
pub planned_format : {A : Type 0} (j : Job) (inputs : List (JobInput A)) (p : Values) (f : Format)
    → IsJobPicture p j (settled_inputs inputs) → IsJobFormat f j (input_formats inputs)
    → p.format ≡ f
planned_format j inputs p f made is =
    job_format_once j (input_formats inputs) p.format f
    (subst (λ fs. IsJobFormat p.format j fs) (settled_formats inputs)
    (picture_format j (settled_inputs inputs) p made)) is

pub of_job : (p : Prepared) (j : Job) (vs : List Values) (size : ℕ) (stamp : Stamp)
    → IsPreparedJob p j vs size → (ds : List (List ℕ))
    → IsSentPicture ds p.picture stamp p.plan.max_octets p.plan.packets
    → IsSentJob ds j vs size stamp
of_job p j vs size stamp is ds sent = record {
  picture = p.picture;
  made = is.made;
  plan = p.plan.packets;
  full = is.full;
  sent = subst (λ (n : ℕ). IsSentPicture ds p.picture stamp n p.plan.packets) is.size_is sent;
}
