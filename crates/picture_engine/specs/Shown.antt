-- What `picture` writes (own). What was read of the receiver's file is told by a predicate, and so
-- is what was read of the held picture's: it holds of any octets that begin with that, and of no
-- others where the source has ended.
use Rattle.std.specs.Prelude.{◌≡◌, ℕ, List, ◌++◌, ◌⊎◌, Option, Some}
use Rattle.std.specs.Borrow.{Bor}
use Rattle.form_files.specs.Files.{form_file}
use Rattle.form_files.specs.Form.{HoldsSampling}
use Rattle.form_files.specs.declared.form.Form.{Form}
use Rattle.path_receiver.specs.Frames.{State, frame_at}
use Rattle.receiver_engines.specs.Merging.{GivesReceiver, IsAgain, SaysReceiver}
use Rattle.receiver_engines.specs.Reading.{SaysHeld}
use Rattle.st_format.specs.Device.{GrowsPart}
use Rattle.st_format.specs.Picture.{Values}
use Rattle.st_format.specs.Raster.{Raster}
use Rattle.picture_engine.specs.declared.asked.PictureAsked.{PictureAsked}
use Rattle.picture_engine.specs.declared.asked.View.{View}
use Rattle.picture_engine.specs.declared.asked.View.TheVariants.{Settled, Marked}
use Rattle.picture_engine.specs.Views.{IsMarkedView, SettlesFrame}

-- a picture of which this holds was written in a form that holds it
pub record WritesForm (form : Form) (Is : Values → Type 0) (old new : List ℕ) : Type 0 where
  pub shown : Values
  pub is : Is shown
  pub holds : HoldsSampling form shown.format.sampling
  pub written : new ≡ old ++ form_file form shown

-- nothing was written, or a first part of that, and not all
abbrev pub WritesFormPart : Form → (Values → Type 0) → List ℕ → List ℕ → Type 0
WritesFormPart form Is old new =
    (new ≡ old) ⊎ ((v : Values) × Is v × GrowsPart old new (form_file form v))

-- What was read is the file of a receiver, whose window has the timestamp, and of its frame there
-- and a picture this holds; so whichever receiver's it is.
pub record OfFrame (read : List ℕ → Type 0) (ts : ℕ) (Is : Raster → Values → Type 0) (v : Values)
    : Type 0 where
  pub receiver : State
  pub says : SaysReceiver read receiver
  pub again : (s : State) → GivesReceiver read s → IsAgain s receiver
  pub frame : Raster
  pub frame_is : frame_at receiver.opening.window receiver.frames ts ≡ Some frame
  pub is : Is frame v

-- a frame settled, by the picture whose file was read where one is held
abbrev pub SettlesFiles : {S : Type 0} → (S → List ℕ → Type 0) → Option S
    → Option (Bor (List ℕ)) → Raster → Values → Type 0
SettlesFiles told hold text q v =
    (held : Option Values) × SaysHeld told hold held × SettlesFrame text held q v

-- a frame as it is shown
abbrev pub IsViewOf : {S : Type 0} → (S → List ℕ → Type 0) → Option S → View → Raster → Values
    → Type 0
IsViewOf told hold (Settled text) q v = SettlesFiles told hold text q v
IsViewOf told hold Marked q v = IsMarkedView q v

-- what is written is the frame of the timestamp, as it is shown, in the form that is asked for
abbrev pub ShowsFrame : {S : Type 0} → (List ℕ → Type 0) → (S → List ℕ → Type 0) → Option S
    → PictureAsked → List ℕ → List ℕ → Type 0
ShowsFrame read told hold w old new =
    WritesForm w.form (OfFrame read w.timestamp (IsViewOf told hold w.view)) old new

-- or nothing, or a first part of that, and not all
abbrev pub ShowsPart : {S : Type 0} → (List ℕ → Type 0) → (S → List ℕ → Type 0) → Option S
    → PictureAsked → List ℕ → List ℕ → Type 0
ShowsPart read told hold w old new =
    WritesFormPart w.form (OfFrame read w.timestamp (IsViewOf told hold w.view)) old new
