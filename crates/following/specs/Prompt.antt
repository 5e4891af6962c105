-- Streams of which what comes late is a repeat, also where complete frames go early.
use Rattle.std.specs.Prelude.{◌≡◌, ◌⊎◌, ℕ, ◌<◌, ◌≤◌, Bool, IsTrue, List, ◌∷◌, ◌++◌, length, Ok}
use Rattle.st_format.specs.declared.cell.Cell.TheVariants.{Contested}
use Rattle.st_format.specs.Member.{IsMember}
use Rattle.st_format.specs.Position.{IsPosition, Position}
use Rattle.st_format.specs.Raster.{cell_at}
use Rattle.path_receiver.specs.Grammar.{Datagram}
use Rattle.path_receiver.specs.Opening.{Opening}
use Rattle.following.specs.Serial.{wrapped}
use Rattle.following.specs.Follower.{reading_of}
use Rattle.following.specs.Times.{AreWithin, Timed, datagrams_at, frame_of, newer_than, times_of}
use Rattle.following.specs.Turned.{is_complete}

-- Each time first comes before a newer one's frame is complete: what comes of it behind that isn't
-- the first.
abbrev pub FirstsInTime : Opening → List Timed → Type 0
FirstsInTime o xs = (before after : List Timed) (x : Timed) (d : Datagram) (v : ℕ)
    → xs ≡ before ++ x ∷ after → reading_of o x.octets ≡ Ok d → IsMember v (times_of o before)
    → x.time < v → IsTrue (is_complete (frame_of o (datagrams_at v before) (wrapped v)))
    → IsMember x.time (times_of o before)

-- Each datagram for the receiver that comes after so many newer times is a repeat: the same came
-- before (SMPTE ST 2022-7: by the other path).
abbrev pub AreRepeats : Opening → ℕ → List Timed → Type 0
AreRepeats o size xs = (before after : List Timed) (x : Timed) (d : Datagram)
    → xs ≡ before ++ x ∷ after → reading_of o x.octets ≡ Ok d
    → size ≤ length (newer_than x.time (times_of o before)) → IsMember x before

-- A stream is prompt for a follower of so many frames, of which complete ones may go early or not:
-- all that comes of a time has come before that many newer ones have, but for repeats; none is more
-- ticks ahead of the greatest before it than it may be; and where frames may go early, each time
-- first comes before a newer one's frame is complete.
pub record IsPrompt (eager : Bool) (o : Opening) (size ahead : ℕ) (xs : List Timed) : Type 0 where
  pub repeats : AreRepeats o size xs
  pub within : AreWithin ahead (times_of o xs)
  pub firsts : IsTrue eager → FirstsInTime o xs

-- No two datagrams of a time give a sample different values.
abbrev pub AreAgreed : Opening → List Timed → Type 0
AreAgreed o xs = (u : ℕ) (at : Position) → IsPosition at o.format
    → cell_at (frame_of o (datagrams_at u xs) (wrapped u)) at ≡ Contested → ⊥

-- The times rise as they first come: each is one of those before it, or greater than all of them.
abbrev pub FirstsRise : List ℕ → Type 0
FirstsRise us = (before after : List ℕ) (u : ℕ) → us ≡ before ++ u ∷ after
    → IsMember u before ⊎ ((v : ℕ) → IsMember v before → v < u)
