-- How many frames a follower needs so that no datagram comes late (own).
use Rattle.std.specs.Prelude.{ℕ, ◌+◌, ◌-◌, ◌==◌, Bool, true, false, if◌then◌else◌, nat_lt, max}
use Rattle.std.specs.Prelude.{List}
use Rattle.std.specs.Prelude.{[], ◌∷◌, length, drop, Result, Ok, Err}
use Rattle.std.specs.List.{insert}
use Rattle.path_receiver.specs.declared.answer.Refusal.{Refusal}
use Rattle.following.specs.declared.answer.Followed.{Followed}
use Rattle.following.specs.declared.answer.Followed.TheVariants.{Kept, Due, Late, Far}
use Rattle.following.specs.Standing.{is_there, place_in}

-- What is noted: the newest timestamps that came, each once, oldest first, at most 16; and how many
-- frames are needed so far.
pub record Noted : Type 0 where
  pub newest : List ℕ
  pub need : ℕ

-- a datagram comes that a follower of enough frames would have kept
abbrev pub comes_of : Result Followed Refusal → Bool
comes_of (Ok (Kept number)) = true
comes_of (Ok Due) = false
comes_of (Ok Late) = true
comes_of (Ok Far) = false
comes_of (Err e) = false

-- how many frames a follower needs that a timestamp isn't late: one more than the newer ones
abbrev pub need_at : List ℕ → ℕ → ℕ → ℕ
need_at newest place timestamp =
    if is_there newest place timestamp then length newest - place else length newest - place + 1

-- the newest ones with one more, of which the oldest goes where there are 16
abbrev pub newest_with : List ℕ → ℕ → ℕ → List ℕ
newest_with newest place timestamp =
    if nat_lt (length newest) 16 then insert newest place timestamp else
    (if place == 0 then newest else insert (drop 1 newest) (place - 1) timestamp)

-- the newest timestamps behind one that comes, by its place; one that is there changes nothing
abbrev pub newest_after : List ℕ → ℕ → ℕ → List ℕ
newest_after newest place timestamp =
    if is_there newest place timestamp then newest else newest_with newest place timestamp

-- behind a timestamp that comes
abbrev pub noted_at : Noted → ℕ → Noted
noted_at n timestamp =
    record {
      newest = newest_after n.newest (place_in timestamp n.newest) timestamp;
      need = max n.need (need_at n.newest (place_in timestamp n.newest) timestamp);
    }

-- behind the answer to a datagram of a timestamp
abbrev pub noted_after : Noted → ℕ → Result Followed Refusal → Noted
noted_after n timestamp answer = if comes_of answer then noted_at n timestamp else n

-- ---- what that says of a stream

-- what is noted before any timestamp comes
abbrev pub none_noted : Noted
none_noted = record { newest = []; need = 0 }

-- behind timestamps that come, one after the other
abbrev pub noted_behind : Noted → List ℕ → Noted
noted_behind n [] = n
noted_behind n (t ∷ ts) = noted_behind (noted_at n t) ts
