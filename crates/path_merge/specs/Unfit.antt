-- What speaks against a schedule before its first event (own).
use Rattle.std.specs.Prelude.{ℕ, List, length}
use Rattle.st_format.specs.declared.format.Format.{Format}
use Rattle.st_format.specs.Picture.{Values}
use Rattle.path_receiver.specs.Opening.{AreDifferent, IsWindow, IsWindowSize}
use Rattle.path_merge.specs.Played.{ArePictures, IsReceiverCount}
use Rattle.path_receiver.specs.declared.play_fault.PlayFault.{PlayFault}
use Rattle.path_receiver.specs.declared.play_fault.PlayFault.TheVariants.{NoMemory, BadEvent}
use Rattle.path_receiver.specs.declared.play_fault.PlayFault.TheVariants.{BadWindow}
use Rattle.path_receiver.specs.declared.play_fault.PlayFault.TheVariants.{DoubleTimestamp}
use Rattle.path_receiver.specs.declared.play_fault.PlayFault.TheVariants.{BadPictures}
use Rattle.path_receiver.specs.declared.play_fault.PlayFault.TheVariants.{BadReceivers}

-- the faults of the pictures and of the number of receivers, in this order
abbrev pub IsUnfitPlay : PlayFault → List Values → Format → ℕ → Type 0
IsUnfitPlay NoMemory pictures format receivers = ⊥
IsUnfitPlay (BadEvent place) pictures format receivers = ⊥
IsUnfitPlay BadWindow pictures format receivers = ⊥
IsUnfitPlay DoubleTimestamp pictures format receivers = ⊥
IsUnfitPlay BadPictures pictures format receivers = ArePictures pictures format → ⊥
IsUnfitPlay BadReceivers pictures format receivers =
    ArePictures pictures format × (IsReceiverCount receivers → ⊥)

-- those of the window come before them
abbrev pub SpeaksAgainst : PlayFault → List ℕ → List Values → Format → ℕ → Type 0
SpeaksAgainst NoMemory window pictures format receivers = ⊥
SpeaksAgainst (BadEvent place) window pictures format receivers = ⊥
SpeaksAgainst BadWindow window pictures format receivers = IsWindowSize (length window) → ⊥
SpeaksAgainst DoubleTimestamp window pictures format receivers =
    IsWindowSize (length window) × (AreDifferent window → ⊥)
SpeaksAgainst BadPictures window pictures format receivers =
    IsWindow window × (ArePictures pictures format → ⊥)
SpeaksAgainst BadReceivers window pictures format receivers =
    IsWindow window × ArePictures pictures format × (IsReceiverCount receivers → ⊥)
