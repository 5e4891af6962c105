-- What came since a frame came in.
use Rattle.std.specs.Prelude.{◌≡◌, ℕ, List, [], Option, None, Some}
use Rattle.st_format.specs.Raster.{Raster}
use Rattle.path_receiver.specs.Frames.{frame_at}
use Rattle.path_receiver.specs.Opening.{Opening}
use Rattle.following.specs.Follower.{Following}
use Rattle.following.specs.Times.{frame_of}

-- A frame, if it is in, is the Frames at this timestamp of these datagrams; else there are none.
abbrev pub IsFrameAt : Option Raster → Opening → List (List ℕ) → ℕ → Type 0
IsFrameAt None o datagrams timestamp = datagrams ≡ []
IsFrameAt (Some r) o datagrams timestamp = r ≡ frame_of o datagrams timestamp

-- A timestamp's frame is the Frames of these datagrams; where it isn't in, there are none. So it is
-- of those that were taken since it came in.
abbrev pub CameSince : Following → ℕ → List (List ℕ) → Type 0
CameSince s timestamp datagrams =
    IsFrameAt (frame_at s.opening.window s.frames timestamp) s.opening datagrams timestamp
