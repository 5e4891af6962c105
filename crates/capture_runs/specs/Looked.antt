-- Which files are captures, by what they begin with (own).
use Rattle.std.specs.Prelude.{◌≡◌, ℕ, ◌<◌, ◌⊎◌, List, [], Bool, true, false, All, Any, take}
use Rattle.std.specs.Str.{bytes_eq}
use Rattle.capture_runs.specs.Replayed.{replayed_ended, replayed_gave}
use Rattle.capture_runs.specs.declared.replayed.Replayed.{Replayed}
use Rattle.devices.specs.Passed.{file_failures}
use Rattle.media_file.specs.Fronts.{capture_name}
use Rattle.st_format.specs.History.{IsRead}

-- octets begin as a capture, of whatever version
abbrev pub is_capture : List ℕ → Bool
is_capture octets = bytes_eq (take 6 octets) capture_name

-- whatever is behind what a file gave, it begins as a capture, or doesn't
abbrev pub BeginsAsCapture : Replayed → Bool → Type 0
BeginsAsCapture r is = (octets : List ℕ) → IsRead [] (replayed_gave r) (replayed_ended r) octets
    → is_capture octets ≡ is

-- a file begins as a capture
abbrev pub BeginsCapture : Replayed → Type 0
BeginsCapture r = BeginsAsCapture r true

-- it doesn't, or its device failed
abbrev pub IsNoCapture : Replayed → Type 0
IsNoCapture r = BeginsAsCapture r false ⊎ (0 < file_failures r.file)

-- it was found that a file begins as a capture, or that it doesn't
abbrev pub IsLooked : Bool → Replayed → Type 0
IsLooked true r = BeginsCapture r
IsLooked false r = IsNoCapture r

-- whether one of some files begins as a capture
pub record HaveCapture (is : Bool) (files : List Replayed) : Type 0 where
  pub yes : is ≡ true → Any BeginsCapture files
  pub no : is ≡ false → All IsNoCapture files

-- nothing of a file was read yet
abbrev pub ReadNone : Replayed → Type 0
ReadNone r = replayed_gave r ≡ []
