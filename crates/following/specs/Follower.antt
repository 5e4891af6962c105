-- What a follower is, and what its calls do to it.
use Rattle.std.specs.Prelude.{◌≡◌, ℕ, ◌<◌, ◌≤◌, List, [], ◌∷◌, All}
use Rattle.std.specs.Prelude.{length, drop, Option, Some, None, Result, Ok, Err, ⊤}
use Rattle.std.specs.List.{AllByRecursion, insert}
use Rattle.st_format.specs.Raster.{Raster, IsWhole, blank}
use Rattle.st_format.specs.Reading.{◌>>=◌}
use Rattle.path_receiver.specs.declared.answer.Refusal.{Refusal}
use Rattle.path_receiver.specs.Admission.{datagram_walk}
use Rattle.path_receiver.specs.Frames.{frames_of, joined_frames}
use Rattle.path_receiver.specs.Grammar.{Datagram}
use Rattle.path_receiver.specs.Opening.{Opening, IsWindowSize}
use Rattle.path_receiver.specs.Sliding.{with_window}
use Rattle.following.specs.declared.answer.Followed.{Followed}
use Rattle.following.specs.declared.answer.Followed.TheVariants.{Kept, Due, Late, Far}
use Rattle.following.specs.declared.standing.Standing.{Standing}
use Rattle.following.specs.declared.standing.Standing.TheVariants.{Beyond, Inside, New, Waits}
use Rattle.following.specs.declared.standing.Standing.TheVariants.{Nowhere}
use Rattle.following.specs.Serial.{IsNewer}
use Rattle.following.specs.Standing.{is_beyond, newest_in, standing_in, standing_near}

-- A follower: what it was opened with, with the timestamps of the frames that are in as its window,
-- oldest first; their frames; how many there may be; how many ticks of the 90 kHz clock a new
-- timestamp may be ahead of the newest; and the timestamp of the frame that was handed out last,
-- where one was.
pub record Following : Type 0 where
  pub opening : Opening
  pub frames : List Raster
  pub size : ℕ
  pub most_ahead : ℕ
  pub gone : Option ℕ

-- each is newer than all before it
abbrev pub AreRising : List ℕ → Type 0
AreRising [] = ⊤
AreRising (t ∷ w) = AllByRecursion (λ u. IsNewer u t) w × AreRising w

-- what has gone, and behind it what is in
abbrev pub since : Option ℕ → List ℕ → List ℕ
since None window = window
since (Some gone) window = gone ∷ window

-- What a follower always is: its payload type has 7 bits (RFC 3550, 5.1); it has 1 to 16 places,
-- and no more frames than that; each timestamp is newer than those before it and than what has
-- gone; and there is one frame for each, of its format and with a cell for each position (own).
pub record IsFollower (s : Following) : Type 0 where
  pub payload_type : s.opening.payload_type < 128
  pub size : IsWindowSize s.size
  pub room : length s.opening.window ≤ s.size
  pub rising : AreRising (since s.gone s.opening.window)
  pub one_each : length s.frames ≡ length s.opening.window
  pub of_format : All (λ r. r.format ≡ s.opening.format) s.frames
  pub whole : All IsWhole s.frames

-- one that was just opened: no frame is in
abbrev pub opened : Opening → ℕ → ℕ → Following
opened o size ahead = record {
  opening = with_window o [];
  frames = [];
  size = size;
  most_ahead = ahead;
  gone = None;
}

-- the newest timestamp that it knows: of the frames that are in, or else of the one that went last
abbrev pub newest_of : Following → Option ℕ
newest_of s = newest_in s.gone s.opening.window

-- where a timestamp stands to a follower: that it is too far ahead is looked at first
abbrev pub standing_of : Following → ℕ → Standing
standing_of s timestamp =
    standing_near (is_beyond (newest_of s) s.most_ahead timestamp)
    (standing_in s.opening.window s.gone s.size timestamp)

-- a frame of which nothing is known came in, at a place
abbrev pub brought_in : Following → ℕ → ℕ → Following
brought_in s place timestamp = record {
  opening = with_window s.opening (insert s.opening.window place timestamp);
  frames = insert s.frames place (blank s.opening.format);
  size = s.size;
  most_ahead = s.most_ahead;
  gone = s.gone;
}

-- what a datagram offers was joined to the frames that are in
abbrev pub joined : Following → List ℕ → Following
joined s octets = record {
  opening = s.opening;
  frames = joined_frames s.frames (frames_of s.opening (octets ∷ []));
  size = s.size;
  most_ahead = s.most_ahead;
  gone = s.gone;
}

-- the follower where a timestamp's frame is in, if it has a place
abbrev pub reached : Following → ℕ → Standing → Following
reached s timestamp (Inside place) = s
reached s timestamp (New place) = brought_in s place timestamp
reached s timestamp Waits = s
reached s timestamp Nowhere = s
reached s timestamp Beyond = s

-- the place of a frame that is in then, or why there is none
abbrev pub place_reached : Standing → Result ℕ Followed
place_reached (Inside place) = Ok place
place_reached (New place) = Ok place
place_reached Waits = Err Due
place_reached Nowhere = Err Late
place_reached Beyond = Err Far

-- a datagram was taken, where its timestamp stands so
abbrev pub taken_in : Following → List ℕ → ℕ → Standing → Following
taken_in s octets timestamp (Inside place) = joined s octets
taken_in s octets timestamp (New place) = joined (brought_in s place timestamp) octets
taken_in s octets timestamp Waits = s
taken_in s octets timestamp Nowhere = s
taken_in s octets timestamp Beyond = s

-- the follower after octets were taken that are this datagram; what is refused changes nothing
abbrev pub read_in : Following → List ℕ → Result Datagram Refusal → Following
read_in s octets (Ok d) = taken_in s octets d.timestamp (standing_of s d.timestamp)
read_in s octets (Err e) = s

-- what octets say to it, or the first refusal
abbrev pub reading_of : Opening → List ℕ → Result Datagram Refusal
reading_of o octets = datagram_walk o.format o.payload_type o.ssrc octets

-- the follower after octets were taken
abbrev pub state_after : Following → List ℕ → Following
state_after s octets = read_in s octets (reading_of s.opening octets)

-- what becomes of a datagram of this packet number, where its timestamp stands so
abbrev pub followed_at : ℕ → Standing → Followed
followed_at number (Inside place) = Kept number
followed_at number (New place) = Kept number
followed_at number Waits = Due
followed_at number Nowhere = Late
followed_at number Beyond = Far

-- what `take` answers: the first refusal, or what becomes of the datagram
abbrev pub answer_to : Following → List ℕ → Result Followed Refusal
answer_to s octets =
    reading_of s.opening octets >>= λ d. Ok (followed_at d.number (standing_of s d.timestamp))

-- the timestamp that went last, when the oldest of a window has gone, where there was one
abbrev pub last_gone : Option ℕ → List ℕ → Option ℕ
last_gone before [] = before
last_gone before (t ∷ w) = Some t

-- its oldest frame was handed out, where there was one
abbrev pub without_oldest : Following → Following
without_oldest s = record {
  opening = with_window s.opening (drop 1 s.opening.window);
  frames = drop 1 s.frames;
  size = s.size;
  most_ahead = s.most_ahead;
  gone = last_gone s.gone s.opening.window;
}
