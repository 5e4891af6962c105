-- What happens to a stream that is followed (own).
use Rattle.std.specs.Prelude.{◌≡◌, ℕ, Bool, true, false, if◌then◌else◌, List, [], ◌∷◌, ◌++◌}
use Rattle.std.specs.Prelude.{Option, None, Some, Result, Ok, Err}
use Rattle.std.specs.List.{filter_map}
use Rattle.following.specs.Follower.{Following, opened}
use Rattle.following.specs.Following.{Handed, frames_in}
use Rattle.following.specs.Need.{Noted, noted_after}
use Rattle.following.specs.Restarts.{is_restart, since_behind}
use Rattle.following.specs.Tally.{one_more, tally_after}
use Rattle.following.specs.Turned.{answer_in, handed_in, turned}
use Rattle.following.specs.declared.answer.Followed.{Followed}
use Rattle.following.specs.declared.answer.Followed.TheVariants.{Kept, Due, Late, Far}
use Rattle.following.specs.declared.tally.FollowTally.{FollowTally}
use Rattle.path_receiver.specs.declared.answer.Refusal.{Refusal}
use Rattle.rtp_header.specs.Grammar.{Rtp}
use Rattle.rtp_header.specs.Reading.{rtp_walk}
use Rattle.rtp_header.specs.declared.header.RtpFault.{RtpFault}

-- What happens: a frame left, and so many datagrams came late since the one before; or the stream
-- is followed anew, from this timestamp on.
pub data Event : Type 0 where
  Left : Handed → ℕ → Event
  Anew : ℕ → Event

-- A stream that is followed, and what was noted of it: the counts of answers, how many frames are
-- needed, since when only lost datagrams came, how many frames left, and how many datagrams came
-- late since the last of them.
pub record Running : Type 0 where
  pub follower : Following
  pub tally : FollowTally
  pub need : Noted
  pub since : Option ℕ
  pub frames : ℕ
  pub late : ℕ

-- nothing was followed yet
abbrev pub no_answers : FollowTally
no_answers = record { kept = 0; late = 0; far = 0; refused = 0 }

-- a stream is to be followed by this follower, and nothing was followed yet
abbrev pub running_from : Following → Running
running_from s = record {
  follower = s;
  tally = no_answers;
  need = record { newest = []; need = 0 };
  since = None;
  frames = 0;
  late = 0;
}

-- ---- a datagram

-- the timestamp of a header, where it was read
abbrev pub header_time : Result Rtp RtpFault → Option ℕ
header_time (Ok rtp) = Some rtp.timestamp
header_time (Err e) = None

-- the timestamp of a datagram, where its header is one (RFC 3550, 5.1)
abbrev pub datagram_time : List ℕ → Option ℕ
datagram_time octets = header_time (rtp_walk octets)

-- how many datagrams came late, with one more that is answered so
abbrev pub late_with : ℕ → Result Followed Refusal → ℕ
late_with late (Ok (Kept number)) = late
late_with late (Ok Due) = late
late_with late (Ok Late) = one_more late
late_with late (Ok Far) = late
late_with late (Err e) = late

-- which window the late datagrams want, with one more that is answered so
abbrev pub need_with : Noted → Option ℕ → Result Followed Refusal → Noted
need_with need None answer = need
need_with need (Some timestamp) answer = noted_after need timestamp answer

-- since which timestamp only late or far datagrams came, with one more that is answered so
abbrev pub since_with : ℕ → Option ℕ → Option ℕ → Result Followed Refusal → Option ℕ
since_with bound since None answer = since
since_with bound since (Some timestamp) answer = since_behind bound since timestamp answer

-- a datagram that is answered so is the first of a stream that begins anew
abbrev pub anew_with : ℕ → Option ℕ → Option ℕ → Result Followed Refusal → Bool
anew_with bound since None answer = false
anew_with bound since (Some timestamp) answer = is_restart bound since timestamp answer

-- which timestamp was answered so is noted
abbrev pub timed : ℕ → Running → ℕ → Result Followed Refusal → Running
timed bound r timestamp answer = record r {
  need = noted_after r.need timestamp answer;
  since = since_behind bound r.since timestamp answer;
}

-- it answers so, of a timestamp, where a new one may be so far ahead
abbrev pub noted_by : ℕ → Running → Option ℕ → Result Followed Refusal → Running
noted_by bound r time answer = record r {
  tally = tally_after r.tally answer;
  need = need_with r.need time answer;
  since = since_with bound r.since time answer;
  late = late_with r.late answer;
}

-- what is noted behind a datagram that is answered so
abbrev pub answered : Running → Option ℕ → Result Followed Refusal → Running
answered r time answer = noted_by r.follower.most_ahead r time answer

-- that it is followed anew is told with the timestamp
abbrev pub IsAnewAt : Bool → Option ℕ → Option ℕ → Type 0
IsAnewAt true time told = told ≡ time
IsAnewAt false time told = told ≡ None

-- ---- frames that leave

-- frames leave: the late datagrams are told with the first of them
abbrev pub leaving : ℕ → List Handed → List Event
leaving late [] = []
leaving late (h ∷ hs) = Left h late ∷ leaving 0 hs

-- the late datagrams that no frame which leaves has told
abbrev pub late_left : ℕ → List Handed → ℕ
late_left late [] = late
late_left late (h ∷ hs) = 0

-- how many frames left, with these
abbrev pub frames_with : ℕ → List Handed → ℕ
frames_with frames [] = frames
frames_with frames (h ∷ hs) = frames_with (one_more frames) hs

-- these left it
abbrev pub without : Running → List Handed → Following → Running
without r hs s = record r {
  follower = s;
  frames = frames_with r.frames hs;
  late = late_left r.late hs;
}

-- all that are in left it, and it is followed anew
abbrev pub anew : Running → Running
anew r = record (without r (frames_in r.follower)
    (opened r.follower.opening r.follower.size r.follower.most_ahead)) {
      need = record { newest = []; need = r.need.need };
    }

-- ---- a turn

-- a datagram was answered, and the frames left that are due or may go early
abbrev pub turn_taken : Bool → Running → List ℕ → Running
turn_taken eager r octets =
    without (answered r (datagram_time octets) (answer_in r.follower octets))
    (handed_in eager r.follower octets) (turned eager r.follower octets)

-- the frames that leave by a datagram
abbrev pub turn_left : Bool → Running → List ℕ → List Event
turn_left eager r octets =
    leaving (late_with r.late (answer_in r.follower octets)) (handed_in eager r.follower octets)

-- the stream is followed anew behind it
abbrev pub is_anew : Running → List ℕ → Bool
is_anew r octets =
    anew_with r.follower.most_ahead r.since (datagram_time octets) (answer_in r.follower octets)

-- a timestamp, or 0 where there is none
abbrev pub time_or_zero : Option ℕ → ℕ
time_or_zero None = 0
time_or_zero (Some timestamp) = timestamp

-- what is noted behind a datagram
unfoldable pub behind : Bool → Running → List ℕ → Running
behind eager r octets =
    if is_anew r octets then anew (turn_taken eager r octets) else turn_taken eager r octets

-- what happens by a datagram
unfoldable pub events_at : Bool → Running → List ℕ → List Event
events_at eager r octets =
    turn_left eager r octets ++ (if is_anew r octets then
    leaving (turn_taken eager r octets).late (frames_in (turn_taken eager r octets).follower)
    ++ Anew (time_or_zero (datagram_time octets)) ∷ [] else [])

-- ---- a stream

-- behind datagrams, one after the other
abbrev pub behind_all : Bool → Running → List (List ℕ) → Running
behind_all eager r [] = r
behind_all eager r (octets ∷ ds) = behind_all eager (behind eager r octets) ds

-- what happens meanwhile
abbrev pub events_in : Bool → Running → List (List ℕ) → List Event
events_in eager r [] = []
events_in eager r (octets ∷ ds) =
    events_at eager r octets ++ events_in eager (behind eager r octets) ds

-- at the end the frames leave that are in
abbrev pub events_end : Running → List Event
events_end r = leaving r.late (frames_in r.follower)

-- All that happens to a stream that is followed to its end.
abbrev pub events_of : Bool → Running → List (List ℕ) → List Event
events_of eager r ds = events_in eager r ds ++ events_end (behind_all eager r ds)

-- and what was noted then: the frames left that were in
abbrev pub ended : Running → Running
ended r = without r (frames_in r.follower) r.follower

-- what was noted at the end of a stream of these datagrams
abbrev pub run_end : Bool → Running → List (List ℕ) → Running
run_end eager r ds = ended (behind_all eager r ds)

-- ---- what is seen of it

-- the frame that left, where one did
abbrev pub frame_of_event : Event → Option Handed
frame_of_event (Left h late) = Some h
frame_of_event (Anew timestamp) = None

-- the frames that left, in the order in which they did
abbrev pub frames_of_events : List Event → List Handed
frames_of_events events = filter_map frame_of_event events
