-- What becomes of a datagram, in the words of the grammar (own).
use Rattle.std.specs.Prelude.{◌≡◌, ◌⊎◌, ℕ, ◌<◌, ◌≤◌, List, ◌∷◌, ◌++◌, length, Some}
use Rattle.st_format.specs.Member.{IsMember}
use Rattle.path_receiver.specs.Grammar.{Datagram, IsFor}
use Rattle.following.specs.Serial.{IsNewer, ahead_of}
use Rattle.following.specs.Follower.{AreRising, Following, newest_of, since}

-- A timestamp fits in: there is a place in the window at which it keeps the timestamps rising, what
-- has gone among them.
pub record FitsIn (s : Following) (timestamp : ℕ) : Type 0 where
  pub front : List ℕ
  pub back : List ℕ
  pub parts : s.opening.window ≡ front ++ back
  pub rising : AreRising (since s.gone (front ++ timestamp ∷ back))

-- A timestamp is too far ahead: newer than the newest, by more ticks than it may be. The newest is
-- that of the last frame that is in, or else of the one that was handed out last.
pub record IsTooFar (s : Following) (timestamp : ℕ) : Type 0 where
  pub newest : ℕ
  pub is : newest_of s ≡ Some newest
  pub newer : IsNewer timestamp newest
  pub far : s.most_ahead < ahead_of timestamp newest

-- its frame comes in: it fits in, not too far ahead, and there is room
pub record ComesNew (s : Following) (timestamp : ℕ) : Type 0 where
  pub fits : FitsIn s timestamp
  pub near : IsTooFar s timestamp → ⊥
  pub room : length s.opening.window < s.size

-- Octets that a follower keeps: a datagram for it, of this number, whose frame is in or comes in
pub record IsKeptBy (octets : List ℕ) (s : Following) (number : ℕ) : Type 0 where
  pub datagram : Datagram
  pub is_for : IsFor octets s.opening datagram
  pub number_is : datagram.number ≡ number
  pub place : IsMember datagram.timestamp s.opening.window ⊎ ComesNew s datagram.timestamp

-- one of those in the window is older
pub record HasOlder (s : Following) (timestamp : ℕ) : Type 0 where
  pub older : ℕ
  pub inside : IsMember older s.opening.window
  pub newer : IsNewer timestamp older

-- Octets for which the oldest frame must go first: a datagram for it whose timestamp is new, fits
-- in, not too far ahead, and isn't older than all; and there is no room
pub record IsDueFor (octets : List ℕ) (s : Following) : Type 0 where
  pub datagram : Datagram
  pub is_for : IsFor octets s.opening datagram
  pub fits : FitsIn s datagram.timestamp
  pub near : IsTooFar s datagram.timestamp → ⊥
  pub full : s.size ≤ length s.opening.window
  pub older : HasOlder s datagram.timestamp

-- Octets that are too far ahead: a datagram for it whose timestamp is
pub record IsFarFor (octets : List ℕ) (s : Following) : Type 0 where
  pub datagram : Datagram
  pub is_for : IsFor octets s.opening datagram
  pub far : IsTooFar s datagram.timestamp

-- Octets that come too late: a datagram for it whose timestamp is new and not too far ahead, and
-- doesn't fit in; or does, but there is no room and none is older
pub record IsLateFor (octets : List ℕ) (s : Following) : Type 0 where
  pub datagram : Datagram
  pub is_for : IsFor octets s.opening datagram
  pub new : IsMember datagram.timestamp s.opening.window → ⊥
  pub near : IsTooFar s datagram.timestamp → ⊥
  pub full : FitsIn s datagram.timestamp → s.size ≤ length s.opening.window
  pub oldest : FitsIn s datagram.timestamp → HasOlder s datagram.timestamp → ⊥
