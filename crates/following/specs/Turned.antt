-- What a follower does with datagrams one after the other, and hands out meanwhile; where frames go
-- early, those that are complete go before they are due.
use Rattle.std.specs.Prelude.{ℕ, zero, suc, Bool, true, false, if◌then◌else◌, ◌==◌, ◌&&◌, List, []}
use Rattle.std.specs.Prelude.{◌∷◌, ◌++◌, count_by, take, Option, None, Some, Result, Ok, Err}
use Rattle.st_format.specs.Cell.{is_missing}
use Rattle.st_format.specs.Raster.{Raster}
use Rattle.path_receiver.specs.declared.answer.Refusal.{Refusal}
use Rattle.following.specs.declared.answer.Followed.{Followed}
use Rattle.following.specs.declared.answer.Followed.TheVariants.{Kept, Due, Late, Far}
use Rattle.following.specs.Follower.{Following, answer_to, state_after, without_oldest}
use Rattle.following.specs.Following.{Handed, frames_in, handed_before, ready_for}
use Rattle.following.specs.Times.{Timed}

-- nothing of a frame is missing
abbrev pub is_complete : Raster → Bool
is_complete r = count_by is_missing r.cells == 0

-- the first of these frames is complete
unfoldable pub first_complete : List Raster → Bool
first_complete [] = false
first_complete (r ∷ rs) = is_complete r

-- how many of these frames are complete, from the first on, up to one that isn't
unfoldable pub complete_count : List Raster → ℕ
complete_count [] = 0
complete_count (r ∷ rs) = if is_complete r then suc (complete_count rs) else 0

-- the oldest frame may go before it is due: frames may go early, and nothing of it is missing
abbrev pub goes_early : Bool → Following → Bool
goes_early eager s = eager && first_complete s.frames

-- how many frames may go before they are due: the oldest, up to one of which something is missing
abbrev pub early_count : Bool → Following → ℕ
early_count eager s = if eager then complete_count s.frames else 0

-- the follower without so many of its oldest frames
abbrev pub without_first : ℕ → Following → Following
without_first zero s = s
without_first (suc n) s = without_first n (without_oldest s)

-- the follower, where all have gone that may go early
abbrev pub state_early : Bool → Following → Following
state_early eager s = without_first (early_count eager s) s

-- these frames, oldest first
abbrev pub handed_early : Bool → Following → List Handed
handed_early eager s = take (early_count eager s) (frames_in s)

-- the follower where a datagram was taken: the oldest frame goes first, where it is due
abbrev pub state_taken : Following → List ℕ → Following
state_taken s octets = state_after (ready_for s octets) octets

-- The follower after a turn: a datagram was taken, and then all frames went that may go early.
unfoldable pub turned : Bool → Following → List ℕ → Following
turned eager s octets = state_early eager (state_taken s octets)

-- what is handed out in a turn: the frame that was due, and those that go early
unfoldable pub handed_in : Bool → Following → List ℕ → List Handed
handed_in eager s octets = handed_before s octets ++ handed_early eager (state_taken s octets)

-- what a turn answers
abbrev pub answer_in : Following → List ℕ → Result Followed Refusal
answer_in s octets = answer_to (ready_for s octets) octets

-- the follower after datagrams were taken one after the other, each in its turn
abbrev pub state_behind : Bool → Following → List (List ℕ) → Following
state_behind eager s [] = s
state_behind eager s (octets ∷ datagrams) = state_behind eager (turned eager s octets) datagrams

-- what is handed out meanwhile
abbrev pub handed_while : Bool → Following → List (List ℕ) → List Handed
handed_while eager s [] = []
handed_while eager s (octets ∷ datagrams) =
    handed_in eager s octets ++ handed_while eager (turned eager s octets) datagrams

-- the answers meanwhile
abbrev pub answers_in : Bool → Following → List (List ℕ) → List (Result Followed Refusal)
answers_in eager s [] = []
answers_in eager s (octets ∷ datagrams) =
    answer_in s octets ∷ answers_in eager (turned eager s octets) datagrams

-- a frame that was handed out, if one was
abbrev pub handed_as : Option ℕ → Raster → List Handed
handed_as None frame = []
handed_as (Some timestamp) frame = record { timestamp = timestamp; frame = frame } ∷ []

-- what becomes of a datagram: it was late, or too far ahead
abbrev pub is_lost_by : Followed → Bool
is_lost_by (Kept number) = false
is_lost_by Due = false
is_lost_by Late = true
is_lost_by Far = true

-- the answer says that a datagram was late, or too far ahead
abbrev pub is_lost : Result Followed Refusal → Bool
is_lost (Ok f) = is_lost_by f
is_lost (Err e) = false

-- a datagram before those that were kept, unless it was lost
abbrev pub with_kept : Bool → Timed → List Timed → List Timed
with_kept lost x xs = if lost then xs else x ∷ xs

-- those of datagrams, taken one after the other, that were neither late nor too far ahead
abbrev pub kept_of : Bool → Following → List Timed → List Timed
kept_of eager s [] = []
kept_of eager s (x ∷ xs) =
    with_kept (is_lost (answer_in s x.octets)) x (kept_of eager (turned eager s x.octets) xs)

-- what is handed out of datagrams, and what is in at their end
abbrev pub handed_all : Bool → Following → List (List ℕ) → List Handed
handed_all eager s datagrams =
    handed_while eager s datagrams ++ frames_in (state_behind eager s datagrams)
