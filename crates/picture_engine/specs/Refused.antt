-- Which refusal ends a run of `picture`: the first in one order of those that speak against its
-- words and files (own). Each is said to stand only where none before it does.
use Rattle.std.specs.Prelude.{◌≡◌, ℕ, ◌⊎◌, List, [], ◌∷◌, Option, Some}
use Rattle.std.specs.Borrow.{Bor}
use Rattle.form_files.specs.Form.{HoldsSampling}
use Rattle.form_files.specs.declared.form.Form.{Form}
use Rattle.path_receiver.specs.Frames.{State, frame_at}
use Rattle.receiver_engines.specs.Inputs.{IsHeldFor}
use Rattle.receiver_engines.specs.Merging.{SaysReceiver}
use Rattle.receiver_engines.specs.Reading.{SaysHeld}
use Rattle.receiver_engines.specs.Refused.{IsHeldRefusal}
use Rattle.receiver_engines.specs.States.{IsStateRefusal}
use Rattle.run_outcome.specs.declared.refusal.Refusal.{Refusal}
use Rattle.run_outcome.specs.declared.refusal.Refusal.TheVariants as refusal
use Rattle.st_format.specs.declared.sampling.Sampling.TheVariants.{Rgb}
use Rattle.st_format.specs.Member.{IsMember}
use Rattle.st_format.specs.Picture.{Values}
use Rattle.st_format.specs.Raster.{Raster}
use Rattle.picture_engine.specs.declared.asked.PictureAsked.{PictureAsked}
use Rattle.picture_engine.specs.declared.asked.View.{View}
use Rattle.picture_engine.specs.declared.asked.View.TheVariants.{Settled, Marked}
use Rattle.picture_engine.specs.Views.{HasFill, LacksFill, SaysNoFill, SaysFill}

-- ---- what a frame is shown with

-- the refusals of a frame with marks: the form holds no R, G and B
abbrev pub IsMarkingRefusal : Form → Refusal → Raster → Type 0
IsMarkingRefusal form refusal.FrameForm q = HoldsSampling form Rgb → ⊥
IsMarkingRefusal form r q = ⊥

-- The refusals of a frame that is settled, in their order: of the fill; of the held picture's
-- format; of the form.
abbrev pub IsSettlingRefusal : Option (Bor (List ℕ)) → Form → Option Values → Refusal → Raster
    → Type 0
IsSettlingRefusal text form held refusal.FrameFill q = LacksFill text q
IsSettlingRefusal text form held refusal.FrameHold q =
    HasFill text q × (IsHeldFor held (q ∷ []) → ⊥)
IsSettlingRefusal text form held refusal.FrameForm q =
    HasFill text q × IsHeldFor held (q ∷ []) × (HoldsSampling form q.format.sampling → ⊥)
IsSettlingRefusal text form held r q = ⊥

-- the receiver's window has the timestamp, and of the frame there this holds
pub record OfFrameAt (s : State) (ts : ℕ) (Holds : Raster → Type 0) : Type 0 where
  pub frame : Raster
  pub is : frame_at s.opening.window s.frames ts ≡ Some frame
  pub holds : Holds frame

-- the refusals of a receiver: of a timestamp that its window hasn't; of the frame there
abbrev pub IsFrameRefusal : ℕ → (Refusal → Raster → Type 0) → State → Refusal → Type 0
IsFrameRefusal ts Is s refusal.FrameTimestamp = IsMember ts s.opening.window → ⊥
IsFrameRefusal ts Is s r = OfFrameAt s ts (Is r)

-- ---- words and files

-- what was read is the file of a receiver, and of that this holds
abbrev pub OfReceiver : (List ℕ → Type 0) → (State → Type 0) → Type 0
OfReceiver read Holds = (s : State) × SaysReceiver read s × Holds s

-- The refusals of a run with marks, in their order: of the receiver's file; of the receiver.
abbrev pub IsMarkedRefusal : (List ℕ → Type 0) → ℕ → Form → Refusal → Type 0
IsMarkedRefusal read ts form (refusal.State f) = IsStateRefusal read (refusal.State f)
IsMarkedRefusal read ts form r =
    OfReceiver read (λ s. IsFrameRefusal ts (IsMarkingRefusal form) s r)

-- the text says values, the files are read, and of what they say this holds
pub record OfFiles {S : Type 0} (read : List ℕ → Type 0) (told : S → List ℕ → Type 0)
    (hold : Option S) (text : Option (Bor (List ℕ))) (Holds : State → Option Values → Type 0)
    : Type 0 where
  pub said : SaysFill text
  pub receiver : State
  pub receiver_is : SaysReceiver read receiver
  pub held : Option Values
  pub held_is : SaysHeld told hold held
  pub holds : Holds receiver held

-- the refusals of what the text and the files say
abbrev pub IsRefusalOfFiles : {S : Type 0} → (List ℕ → Type 0) → (S → List ℕ → Type 0) → Option S
    → Option (Bor (List ℕ)) → ℕ → Form → Refusal → Type 0
IsRefusalOfFiles read told hold text ts form r = OfFiles read told hold text
    (λ s held. IsFrameRefusal ts (IsSettlingRefusal text form held) s r)

-- The refusals of a run that settles, in their order: of the fill's text; of the receiver's file;
-- of the held picture's; of the receiver and its frame.
abbrev pub IsSettledRefusal : {S : Type 0} → (List ℕ → Type 0) → (S → List ℕ → Type 0) → Option S
    → Option (Bor (List ℕ)) → ℕ → Form → Refusal → Type 0
IsSettledRefusal read told hold text ts form (refusal.State f) =
    SaysFill text × IsStateRefusal read (refusal.State f)
IsSettledRefusal read told hold text ts form (refusal.Picture f) =
    SaysFill text × OfReceiver read (λ _. IsHeldRefusal told hold (refusal.Picture f))
IsSettledRefusal read told hold text ts form refusal.FrameFill =
    SaysNoFill text ⊎ IsRefusalOfFiles read told hold text ts form refusal.FrameFill
IsSettledRefusal read told hold text ts form r = IsRefusalOfFiles read told hold text ts form r

-- so by how the frame is shown
abbrev pub IsViewRefusal : {S : Type 0} → (List ℕ → Type 0) → (S → List ℕ → Type 0) → Option S
    → View → ℕ → Form → Refusal → Type 0
IsViewRefusal read told hold (Settled text) ts form r =
    IsSettledRefusal read told hold text ts form r
IsViewRefusal read told hold Marked ts form r = IsMarkedRefusal read ts form r

-- the refusals of a run
abbrev pub IsShowRefusal : {S : Type 0} → (List ℕ → Type 0) → (S → List ℕ → Type 0) → Option S
    → PictureAsked → Refusal → Type 0
IsShowRefusal read told hold w r = IsViewRefusal read told hold w.view w.timestamp w.form r
