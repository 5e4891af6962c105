-- When the next datagram of a file goes, and which of some goes first (own).
use Rattle.std.specs.Prelude.{⊤, ℕ, ◌+◌, Bool, true, false, if◌then◌else◌, List, [], ◌∷◌}
use Rattle.std.specs.Prelude.{Option, None, Some}
use Rattle.following.specs.Serial.{is_newer}
use Rattle.side_by_side.specs.declared.going.Going.{Going}
use Rattle.side_by_side.specs.declared.going.Going.TheVariants.{Unread, AtOnce, By, Never}

-- by its timestamp, or at once where it has none by which it goes
abbrev pub going_by : Option ℕ → Going
going_by None = AtOnce
going_by (Some timestamp) = By timestamp

-- what comes next is read
abbrev pub IsReadBy : Going → Type 0
IsReadBy Unread = ⊥
IsReadBy AtOnce = ⊤
IsReadBy (By timestamp) = ⊤
IsReadBy Never = ⊤

-- there is a datagram that goes
abbrev pub goes : Going → Bool
goes Unread = false
goes AtOnce = true
goes (By timestamp) = true
goes Never = false

-- A datagram that goes so is before another that goes so: at once is before by a timestamp, and an
-- older timestamp before a newer one (RFC 1982, 3.2).
abbrev pub goes_before : Going → Going → Bool
goes_before Unread other = false
goes_before AtOnce Unread = false
goes_before AtOnce AtOnce = false
goes_before AtOnce (By than) = true
goes_before AtOnce Never = false
goes_before (By timestamp) Unread = false
goes_before (By timestamp) AtOnce = false
goes_before (By timestamp) (By than) = is_newer than timestamp
goes_before (By timestamp) Never = false
goes_before Never other = false

-- one place on, behind another
abbrev pub one_on : Option (ℕ × Going) → Option (ℕ × Going)
one_on None = None
one_on (Some x) = Some (x.0 + 1, x.1)

-- the one that goes first of some goes before this
abbrev pub is_later : Going → Option (ℕ × Going) → Bool
is_later first None = false
is_later first (Some x) = goes_before x.1 first

-- the sooner of a first one, and of the one of those behind it that goes first; the first one where
-- they go alike
abbrev pub sooner : Going → Option (ℕ × Going) → Option (ℕ × Going)
sooner first later =
    if goes first then (if is_later first later then one_on later else Some (0, first))
    else one_on later

-- The place of the one that goes first, and when it goes; none where none goes.
abbrev pub first_place : List Going → Option (ℕ × Going)
first_place [] = None
first_place (w ∷ ws) = sooner w (first_place ws)
