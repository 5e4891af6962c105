-- A job's picture that is ready to be sent (own).
use Rattle.std.specs.Prelude.{◌≡◌, ℕ, ◌<◌, List, length}
use Rattle.st_format.specs.Picture.{IsPicture, Values}
use Rattle.packet_plan.specs.Plan.{IsFullPlan, RasterPlan}
use Rattle.packet_plan.specs.Sending.{EachHasRoom}
use Rattle.key_mix.specs.Jobs.{IsJobPicture}
use Rattle.key_mix.specs.declared.Job.{Job}
use Rattle.key_mix.specs.declared.preparing.JobRaster.{JobRaster}
use Rattle.key_mix.specs.declared.preparing.JobRaster.TheVariants.{Made, Kept}

-- What is seen of a prepared job: the picture that is sent, and the plan by which it is
pub record Prepared : Type 0 where
  pub picture : Values
  pub plan : RasterPlan

-- the picture's values, however they are kept
abbrev pub raster_picture : {A C : Type 0} → JobRaster A C → Values
raster_picture (Made p) = p
raster_picture (Kept p) = p

-- what is seen of such a picture and a plan
abbrev pub prepared : {A C : Type 0} → JobRaster A C → RasterPlan → Prepared
prepared raster plan = record { picture = raster_picture raster; plan = plan }

-- The plan is one for the picture, and each of its datagrams has room in so many octets.
pub record FitsPlan (p : Prepared) (octets : ℕ) : Type 0 where
  pub format : p.picture.format ≡ p.plan.format
  pub room : EachHasRoom p.plan octets

-- What is prepared is a job's picture of pictures, and a full plan for it of a greatest size.
pub record IsPreparedJob (p : Prepared) (j : Job) (pictures : List Values) (size : ℕ)
    : Type 0 where
  pub made : IsJobPicture p.picture j pictures
  pub whole : IsPicture p.picture
  pub full : IsFullPlan p.plan.packets p.picture.format size
  pub some : 0 < length p.plan.packets
  pub size_is : p.plan.max_octets ≡ size
