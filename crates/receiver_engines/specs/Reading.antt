-- What the files say that are processed (own). What was read of a source is told by a predicate.
use Rattle.std.specs.Prelude.{ℕ, List, Option, None, Some, ⊤}
use Rattle.std.specs.List.{AllZip}
use Rattle.path_receiver.specs.Frames.{State}
use Rattle.receiver_engines.specs.Merging.{SaysReceiver}
use Rattle.run_outcome.specs.Pictures.{SaysPicture}
use Rattle.st_format.specs.Picture.{Values}

-- what was read of sources are the files of receivers, one each
abbrev pub SayReceivers : {S : Type 0} → (S → List ℕ → Type 0) → List S → List State → Type 0
SayReceivers told ss rs = AllZip (λ s r. SaysReceiver (told s) r) ss rs

-- there is a picture where there is a source, of which its file was read
abbrev pub SaysHeld : {S : Type 0} → (S → List ℕ → Type 0) → Option S → Option Values → Type 0
SaysHeld told None None = ⊤
SaysHeld told None (Some p) = ⊥
SaysHeld told (Some s) None = ⊥
SaysHeld told (Some s) (Some p) = SaysPicture (told s) p
