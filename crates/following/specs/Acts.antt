-- What a caller does with a follower, early handing out among it.
use Rattle.std.specs.Prelude.{◌≡◌, ℕ, ◌≤◌, List, [], ◌∷◌, ◌++◌, length, take, Ok, ⊤}
use Rattle.st_format.specs.Member.{IsMember}
use Rattle.following.specs.declared.answer.Followed.TheVariants.{Far, Late}
use Rattle.following.specs.Follower.{Following, answer_to, state_after, without_oldest}
use Rattle.following.specs.Following.{Handed, frames_in, handed_before, ready_for}
use Rattle.following.specs.Times.{IsNear, Timed, newer_than}

-- It gives it a datagram, and has the oldest frame handed out first where it is due; or it has the
-- oldest frame handed out before it is due.
pub data Act : Type 0 where
  Takes : (timed : Timed) → Act
  Hands : Act

-- what is handed out, up to its end
abbrev pub handed_by : Following → List Act → List Handed
handed_by s [] = frames_in s
handed_by s (Takes x ∷ acts) =
    handed_before s x.octets ++ handed_by (state_after (ready_for s x.octets) x.octets) acts
handed_by s (Hands ∷ acts) = take 1 (frames_in s) ++ handed_by (without_oldest s) acts

-- No datagram is answered Late, and none Far.
abbrev pub NoneLost : Following → List Act → Type 0
NoneLost s [] = ⊤
NoneLost s (Takes x ∷ acts) =
    (answer_to (ready_for s x.octets) x.octets ≡ Ok Late → ⊥)
    × (answer_to (ready_for s x.octets) x.octets ≡ Ok Far → ⊥)
    × NoneLost (state_after (ready_for s x.octets) x.octets) acts
NoneLost s (Hands ∷ acts) = NoneLost (without_oldest s) acts

-- the datagrams that are given
abbrev pub taken_of : List Act → List Timed
taken_of [] = []
taken_of (Takes x ∷ acts) = x ∷ taken_of acts
taken_of (Hands ∷ acts) = taken_of acts

-- each is less than 2^31 from those before that no more than so many newer ones followed
abbrev pub AreNearby : ℕ → List ℕ → Type 0
AreNearby size us = (before after : List ℕ) (u v : ℕ) → us ≡ before ++ u ∷ after
    → IsMember v before → length (newer_than v before) ≤ size → IsNear u v
