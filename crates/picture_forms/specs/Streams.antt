-- A reader of a stream of pictures (own).
use Rattle.std.specs.Prelude.{◌≡◌, ℕ, zero, suc, List, [], ◌∷◌, Option, None, Some, Result, Ok, Err}
use Rattle.st_format.specs.declared.format.Format.{Format}
use Rattle.st_format.specs.Picture.{IsPicture, Values}
use Rattle.picture_forms.specs.declared.fault.FormFault.{FormFault}
use Rattle.picture_forms.specs.Frames.{frame_walk}
use Rattle.picture_forms.specs.declared.streams.Standing.{Standing}
use Rattle.picture_forms.specs.declared.streams.Standing.TheVariants.{Reads, Ended, Failed}

-- what is seen of a reader
pub record Reader (S : Type 0) : Type 0 where
  pub source : S
  pub format : Format
  pub standing : Standing

-- where a reader stands after a call: it reads on after a picture
abbrev pub standing_after : Result (Option Values) FormFault → Standing
standing_after (Ok (Some p)) = Reads
standing_after (Ok None) = Ended
standing_after (Err f) = Failed f

-- The planes of the frames at the front of octets, at most so many, up to the first that isn't
-- whole and right.
abbrev pub frames_by : Result (List ℕ × List ℕ) FormFault → (List ℕ → List (List ℕ))
    → List (List ℕ)
frames_by (Ok x) next = x.0 ∷ next x.1
frames_by (Err f) next = []

-- the planes of at most so many frames at the front of octets
unfoldable pub frames_in : Format → ℕ → List ℕ → List (List ℕ)
frames_in f zero octets = []
frames_in f (suc n) octets = frames_by (frame_walk f octets) (frames_in f n)

-- a picture of this format
abbrev pub IsOf : Format → Values → Type 0
IsOf f v = (v.format ≡ f) × IsPicture v
