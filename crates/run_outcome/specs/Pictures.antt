-- What a picture's file says, and which refusal is one of it or of its plan (own). The octets that
-- were read are told by a predicate: it holds of any that begin with those, and of no other where
-- the source has ended.
use Rattle.std.specs.Prelude.{◌≡◌, ℕ, ◌+◌, ◌<◌, ◌⊎◌, List}
use Rattle.st_format.specs.Device.{AreOctets}
use Rattle.st_format.specs.Picture.{Values}
use Rattle.st_format.specs.declared.format.Format.{Format}
use Rattle.media_file.specs.PictureFaults.{IsPictureFault}
use Rattle.media_file.specs.PictureFile.{IsPictureFile}
use Rattle.packet_plan.specs.Plan.{group_octets}
use Rattle.packet_plan.specs.declared.plan.PlanFault.{PlanFault}
use Rattle.packet_plan.specs.declared.plan.PlanFault.TheVariants.{NoMemory, BadPacketSize}
use Rattle.run_outcome.specs.declared.refusal.Refusal.{Refusal}
use Rattle.run_outcome.specs.declared.refusal.Refusal.TheVariants as refusal

-- the refusal of a picture's file: the fault's condition holds of what was read
abbrev pub IsPictureRefusal : (List ℕ → Type 0) → Refusal → Type 0
IsPictureRefusal told (refusal.Picture f) =
    (octets : List ℕ) → told octets → AreOctets octets → IsPictureFault f octets
IsPictureRefusal told r = ⊥

-- what was read is the file of a picture
abbrev pub SaysPicture : (List ℕ → Type 0) → Values → Type 0
SaysPicture told p = (octets : List ℕ) → told octets → IsPictureFile octets p

-- what was read is the file of a picture of this format
abbrev pub SaysPictureOf : (List ℕ → Type 0) → Format → Type 0
SaysPictureOf told format = (octets : List ℕ) → told octets
    → (p : Values) × (p.format ≡ format) × IsPictureFile octets p

-- a format has no plan of packets of so many octets
abbrev pub IsPlanFault : ℕ → Format → PlanFault → Type 0
IsPlanFault most format BadPacketSize = (most < 20 + group_octets format) ⊎ (9000 < most)
IsPlanFault most format NoMemory = ⊥
