-- Frames in memory.
use Rattle.following.specs.declared.memory.Shown.{Shown}
use Rattle.following.specs.Following.{Handed}

-- a frame that was shown, as one that was handed out
abbrev pub shown_of : {A : Type 0} → Shown A → Handed
shown_of x = record { timestamp = x.timestamp; frame = x.frame }
