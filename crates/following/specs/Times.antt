-- Datagrams with times that don't go round, and what they say of each time.
use Rattle.std.specs.Prelude.{◌≡◌, ℕ, ◌+◌, ◌^◌, ◌<◌, ◌≤◌, ◌==◌, if◌then◌else◌, nat_lt, List, []}
use Rattle.std.specs.Prelude.{◌∷◌, ◌++◌, length, map, Result, Ok, Err}
use Rattle.std.specs.List.{filter, flat_map}
use Rattle.st_format.specs.Member.{IsMember}
use Rattle.st_format.specs.Raster.{Raster, raster_of}
use Rattle.path_receiver.specs.declared.answer.Refusal.{Refusal}
use Rattle.path_receiver.specs.Grammar.{Datagram, IsFor}
use Rattle.path_receiver.specs.Offers.{offers}
use Rattle.path_receiver.specs.Opening.{Opening}
use Rattle.following.specs.Serial.{wrapped}
use Rattle.following.specs.Follower.{reading_of}
use Rattle.following.specs.Following.{Handed}

-- A datagram with its time: ticks of the 90 kHz clock, of which its timestamp has the low 32 bits.
-- Of octets that are no datagram for the receiver the time says nothing.
pub record Timed : Type 0 where
  pub time : ℕ
  pub octets : List ℕ

-- each datagram for the receiver has the timestamp of its time
abbrev pub AreTimed : Opening → List Timed → Type 0
AreTimed o xs = (x : Timed) (d : Datagram) → IsMember x xs → reading_of o x.octets ≡ Ok d
    → d.timestamp ≡ wrapped x.time

-- datagrams without their times
abbrev pub octets_of : List Timed → List (List ℕ)
octets_of xs = map (λ x. x.octets) xs

-- the time of octets, if they were read as a datagram; none of what is refused
abbrev pub time_if : ℕ → Result Datagram Refusal → List ℕ
time_if time (Ok d) = time ∷ []
time_if time (Err e) = []

-- the time of a datagram for the receiver; none of other octets
abbrev pub time_of : Opening → Timed → List ℕ
time_of o x = time_if x.time (reading_of o x.octets)

-- the times of the datagrams for the receiver, in the order in which these came
abbrev pub times_of : Opening → List Timed → List ℕ
times_of o xs = flat_map (time_of o) xs

-- a rising list with a time at its place
abbrev pub with_time : ℕ → List ℕ → List ℕ
with_time u [] = u ∷ []
with_time u (v ∷ vs) =
    if v == u then v ∷ vs else (if nat_lt u v then u ∷ v ∷ vs else v ∷ with_time u vs)

-- a rising list, with the times of another each at its place, once
abbrev pub in_order_behind : List ℕ → List ℕ → List ℕ
in_order_behind vs [] = vs
in_order_behind vs (u ∷ us) = in_order_behind (with_time u vs) us

-- the times of a list in rising order, each once
abbrev pub in_order : List ℕ → List ℕ
in_order us = in_order_behind [] us

-- the times of a list that are newer than this one, each once
abbrev pub newer_than : ℕ → List ℕ → List ℕ
newer_than u us = filter (λ v. nat_lt u v) (in_order us)

-- less than half of the round apart. RFC 1982, 3.2
pub record IsNear (u v : ℕ) : Type 0 where
  pub forth : u < v + 2 ^ 31
  pub back : v < u + 2 ^ 31

-- v is in the list, and nothing in it is greater
pub record IsGreatest (v : ℕ) (us : List ℕ) : Type 0 where
  pub inside : IsMember v us
  pub all : (u : ℕ) → IsMember u us → u ≤ v

-- none is more ticks than these ahead of the greatest before it
abbrev pub AreWithin : ℕ → List ℕ → Type 0
AreWithin ahead us = (before after : List ℕ) (u v : ℕ) → us ≡ before ++ u ∷ after
    → IsGreatest v before → u ≤ v + ahead

-- Times come in an order that a follower of so many frames can follow: none comes after so many
-- newer ones; each is near those before it that no more than so many newer ones followed; and none
-- is more ticks ahead of the greatest before it than a new timestamp may be.
pub record IsOrderly (size ahead : ℕ) (us : List ℕ) : Type 0 where
  pub in_time : (before after : List ℕ) (u : ℕ) → us ≡ before ++ u ∷ after
      → length (newer_than u before) < size
  pub near : (before after : List ℕ) (u v : ℕ) → us ≡ before ++ u ∷ after → IsMember v before
      → length (newer_than v before) ≤ size → IsNear u v
  pub within : AreWithin ahead us

-- the octets of the datagrams of a time, in the order of the list
abbrev pub datagrams_at : ℕ → List Timed → List (List ℕ)
datagrams_at u xs = octets_of (filter (λ x. x.time == u) xs)

-- Frames at a timestamp, of a list of datagrams
abbrev pub frame_of : Opening → List (List ℕ) → ℕ → Raster
frame_of o datagrams timestamp = raster_of o.format (flat_map (offers o) datagrams) timestamp

-- the frame of a time, of all datagrams of that time
abbrev pub handed_at : Opening → List Timed → ℕ → Handed
handed_at o xs u = record {
  timestamp = wrapped u;
  frame = frame_of o (datagrams_at u xs) (wrapped u);
}

-- the frame of a time, of all datagrams of the list
abbrev pub handed_of : Opening → List (List ℕ) → ℕ → Handed
handed_of o datagrams u = record {
  timestamp = wrapped u;
  frame = frame_of o datagrams (wrapped u);
}

-- a time of the round that begins at base
pub record IsInRound (base u : ℕ) : Type 0 where
  pub from : base ≤ u
  pub below : u < base + 2 ^ 32

-- all times of a list are within one round
abbrev pub AreInRound : ℕ → List ℕ → Type 0
AreInRound base us = (u : ℕ) → IsMember u us → IsInRound base u

-- a time of the half round that begins at base
pub record IsInHalf (base u : ℕ) : Type 0 where
  pub from : base ≤ u
  pub below : u < base + 2 ^ 31

-- all times of a list are within the half round that begins at base
abbrev pub AreInHalf : ℕ → List ℕ → Type 0
AreInHalf base us = (u : ℕ) → IsMember u us → IsInHalf base u

-- each datagram for the receiver, by the grammar, has the timestamp of its time
abbrev pub AreOfTimes : Opening → List Timed → Type 0
AreOfTimes o xs = (x : Timed) (d : Datagram) → IsMember x xs → IsFor x.octets o d
    → d.timestamp ≡ wrapped x.time

-- a time that one of the datagrams for the receiver, by the grammar, has
pub record HasTime (o : Opening) (xs : List Timed) (u : ℕ) : Type 0 where
  pub timed : Timed
  pub inside : IsMember timed xs
  pub datagram : Datagram
  pub is_for : IsFor timed.octets o datagram
  pub time : timed.time ≡ u

-- so many newer ones came before none of them
abbrev pub AreInTime : ℕ → List ℕ → Type 0
AreInTime size us = (before after : List ℕ) (u : ℕ) → us ≡ before ++ u ∷ after
    → length (newer_than u before) < size

-- less than twelve minutes apart, in ticks of the 90 kHz clock (own)
pub record IsClose (u v : ℕ) : Type 0 where
  pub forth : u < v + 2 ^ 26
  pub back : v < u + 2 ^ 26

-- Each time is close to the greatest before it.
abbrev pub AreSteady : List ℕ → Type 0
AreSteady us = (before after : List ℕ) (u v : ℕ) → us ≡ before ++ u ∷ after → IsGreatest v before
    → IsClose u v
