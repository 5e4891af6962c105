-- What `convert` reads and writes, and which refusal ends it (own). The octets that were read are
-- told by a predicate, as those of a picture's file are.
use Rattle.std.specs.Prelude.{◌≡◌, ℕ, ◌⊎◌, List, ◌++◌}
use Rattle.st_format.specs.Device.{GrowsPart}
use Rattle.st_format.specs.Picture.{Values}
use Rattle.picture_forms.specs.declared.fault.FormFault.{FormFault}
use Rattle.picture_forms.specs.declared.fault.FormFault.TheVariants as form
use Rattle.form_files.specs.Files.{form_file}
use Rattle.form_files.specs.Form.{HoldsSampling}
use Rattle.run_outcome.specs.Pictures.{IsPictureRefusal, SaysPicture}
use Rattle.run_outcome.specs.declared.fault.Fault.{Fault}
use Rattle.run_outcome.specs.declared.fault.Fault.TheVariants.{Refused, Device, Memory}
use Rattle.run_outcome.specs.declared.refusal.Refusal.{Refusal}
use Rattle.run_outcome.specs.declared.refusal.Refusal.TheVariants as refusal
use Rattle.convert_engine.specs.declared.converting.Conversion.{Conversion}
use Rattle.convert_engine.specs.declared.converting.InputForm.{InputForm}
use Rattle.convert_engine.specs.declared.converting.InputForm.TheVariants.{Picture, Y4m, Pixmap}
use Rattle.convert_engine.specs.Inputs.{IsInPixmap, IsInStream, IsPixmapFault, IsStreamFault}

-- the fault of a run that stopped at one of a form: want of memory is the run's own, a device's
-- too, and all else a refusal
abbrev pub form_fault : FormFault → Fault
form_fault form.Device = Device
form_fault form.NoMemory = Memory
form_fault f = Refused (refusal.Form f)

-- what was read has this picture, by its form
abbrev pub SaysInput : InputForm → (List ℕ → Type 0) → Values → Type 0
SaysInput Picture read v = SaysPicture read v
SaysInput (Y4m place) read v = (octets : List ℕ) → read octets → IsInStream place octets v
SaysInput (Pixmap rate) read v =
    (octets : List ℕ) → read octets → IsInPixmap rate.n rate.d octets v

-- the refusal of a stream: what was read has this fault first
abbrev pub IsStreamRefusal : ℕ → (List ℕ → Type 0) → Refusal → Type 0
IsStreamRefusal place read (refusal.Form f) =
    (octets : List ℕ) → read octets → IsStreamFault place octets f
IsStreamRefusal place read r = ⊥

-- the refusal of a pixmap of a rate: what was read has this fault first
abbrev pub IsPixmapRefusal : ℕ → ℕ → (List ℕ → Type 0) → Refusal → Type 0
IsPixmapRefusal n d read (refusal.Form f) =
    (octets : List ℕ) → read octets → IsPixmapFault n d octets f
IsPixmapRefusal n d read r = ⊥

-- what was read is refused, by its form
abbrev pub IsInputRefusal : InputForm → (List ℕ → Type 0) → Refusal → Type 0
IsInputRefusal Picture read r = IsPictureRefusal read r
IsInputRefusal (Y4m place) read r = IsStreamRefusal place read r
IsInputRefusal (Pixmap rate) read r = IsPixmapRefusal rate.n rate.d read r

-- What was read has a picture, and its file in the form that was asked for was written.
pub record Converts (asked : Conversion) (read : List ℕ → Type 0) (old new : List ℕ)
    : Type 0 where
  pub picture : Values
  pub says : SaysInput asked.input read picture
  pub holds : HoldsSampling asked.form picture.format.sampling
  pub written : new ≡ old ++ form_file asked.form picture

-- a sink took nothing, or a first part of the file of the picture that was read, and not all
abbrev pub ConvertsPart : Conversion → (List ℕ → Type 0) → List ℕ → List ℕ → Type 0
ConvertsPart asked read old new =
    (new ≡ old)
    ⊎ ((picture : Values) × SaysInput asked.input read picture
    × GrowsPart old new (form_file asked.form picture))

-- a picture was read, whose sampling the form that was asked for doesn't hold
pub record HasOtherSampling (asked : Conversion) (read : List ℕ → Type 0) : Type 0 where
  pub picture : Values
  pub says : SaysInput asked.input read picture
  pub lacks : HoldsSampling asked.form picture.format.sampling → ⊥

-- The first refusal: what was read is refused, or it has a picture that the form doesn't hold.
abbrev pub IsConvertRefusal : Conversion → (List ℕ → Type 0) → Refusal → Type 0
IsConvertRefusal asked read r =
    IsInputRefusal asked.input read r
    ⊎ ((r ≡ refusal.ConvertForm) × HasOtherSampling asked read)
