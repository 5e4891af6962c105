-- Where a timestamp stands to the frames that are in (own).
use Rattle.std.specs.Prelude.{ℕ, suc, Bool, true, false, ◌==◌, ◌&&◌, if◌then◌else◌, nat_lt, List}
use Rattle.std.specs.Prelude.{[]}
use Rattle.std.specs.Prelude.{◌∷◌, length, drop, Option, None, Some, slice_get}
use Rattle.std.specs.List.{list_all}
use Rattle.following.specs.Serial.{ahead_of, is_newer}
use Rattle.following.specs.declared.standing.Standing.{Standing}
use Rattle.following.specs.declared.standing.Standing.TheVariants.{Beyond, Inside, New, Waits}
use Rattle.following.specs.declared.standing.Standing.TheVariants.{Nowhere}

-- how many of a window, from its first on, a timestamp is newer than
abbrev pub place_in : ℕ → List ℕ → ℕ
place_in timestamp [] = 0
place_in timestamp (t ∷ w) = if is_newer timestamp t then suc (place_in timestamp w) else 0

-- there is a timestamp, and it is this one
abbrev pub is_that : Option ℕ → ℕ → Bool
is_that None timestamp = false
is_that (Some t) timestamp = t == timestamp

-- it stands at that place
abbrev pub is_there : List ℕ → ℕ → ℕ → Bool
is_there window place timestamp = is_that (slice_get window place) timestamp

-- it is newer than the frame that was handed out last, where one was
abbrev pub is_behind : Option ℕ → ℕ → Bool
is_behind None timestamp = true
is_behind (Some gone) timestamp = is_newer timestamp gone

-- a new one: where there is room it comes in; where there is none, one that isn't older than all
-- waits for the oldest to go
abbrev pub entry_at : ℕ → ℕ → ℕ → Standing
entry_at count size place =
    if nat_lt count size then New place else (if place == 0 then Nowhere else Waits)

-- Where a timestamp stands: at the place behind all that it is newer than. It is there; or it is
-- new, newer than what has gone and older than all behind that place; or it has none.
abbrev pub standing_at : List ℕ → Option ℕ → ℕ → ℕ → ℕ → Standing
standing_at window gone size timestamp place =
    if is_there window place timestamp then Inside place else
    (if is_behind gone timestamp && list_all (λ t. is_newer t timestamp) (drop place window)
    then entry_at (length window) size place else Nowhere)

-- where a timestamp stands to a window and to what has gone, with places for so many frames
abbrev pub standing_in : List ℕ → Option ℕ → ℕ → ℕ → Standing
standing_in window gone size timestamp =
    standing_at window gone size timestamp (place_in timestamp window)

-- the newest timestamp: the last of the window, or else that of the frame that was handed out last
abbrev pub newest_in : Option ℕ → List ℕ → Option ℕ
newest_in newest [] = newest
newest_in newest (t ∷ w) = newest_in (Some t) w

-- it is newer than the newest, by more ticks than these
abbrev pub is_beyond : Option ℕ → ℕ → ℕ → Bool
is_beyond None most timestamp = false
is_beyond (Some newest) most timestamp =
    is_newer timestamp newest && nat_lt most (ahead_of timestamp newest)

-- where a timestamp stands, if it is not too far ahead
abbrev pub standing_near : Bool → Standing → Standing
standing_near beyond x = if beyond then Beyond else x
