-- A sender's pictures, handed out in order.
use Rattle.std.specs.Prelude.{◌≡◌, ℕ, ◌+◌, ◌*◌, ◌/◌, List, [], ◌∷◌, length, map, Result, Ok, Err}
use Rattle.st_format.specs.declared.cell.Cell.{Cell}
use Rattle.st_format.specs.declared.cell.Cell.TheVariants.{Missing, Value, Contested}
use Rattle.st_format.specs.declared.format.Format.{Format}
use Rattle.st_format.specs.Member.{IsMember, SameDatagrams}
use Rattle.st_format.specs.Picture.{Values, timestamp_of}
use Rattle.st_format.specs.Position.{Position, sample_count}
use Rattle.st_format.specs.Raster.{cell_at}
use Rattle.packet_plan.specs.Sender.{IsSenderList, Sender}
use Rattle.path_receiver.specs.declared.answer.Refusal.{Refusal}
use Rattle.path_receiver.specs.Grammar.{Datagram}
use Rattle.path_receiver.specs.Opening.{Opening}
use Rattle.path_receiver.specs.Sender.{AreAmong, IsOpenFor, IsSendersCell, IsSendersValue}
use Rattle.path_receiver.specs.Sender.{picture_raster}
use Rattle.following.specs.Serial.{ahead_of}
use Rattle.following.specs.Follower.{reading_of}
use Rattle.following.specs.Following.{Handed}
use Rattle.following.specs.Times.{Timed, frame_of, times_of}

-- The time of picture k of a sender whose first picture has the time base, of which its timestamp
-- has the low 32 bits (SMPTE ST 2110-10, RTP timestamps)
abbrev pub picture_time : Format → ℕ → ℕ → ℕ
picture_time f base k = base + k * 90000 * f.d / f.n

-- the time of a datagram: how far its timestamp is behind that of base
abbrev pub time_behind : ℕ → Result Datagram Refusal → ℕ
time_behind base (Ok d) = base + ahead_of d.timestamp base
time_behind base (Err e) = base

-- datagrams with their times, in the round that begins at base
abbrev pub timed_from : Opening → ℕ → List ℕ → Timed
timed_from o base octets =
    record { time = time_behind base (reading_of o octets); octets = octets }

-- the times of the datagrams for the receiver, in the round that begins at base, as they came
abbrev pub times_from : Opening → ℕ → List (List ℕ) → List ℕ
times_from o base datagrams = times_of o (map (timed_from o base) datagrams)

-- a sender's pictures from the k-th on, each with its timestamp and nothing missing
abbrev pub pictures_from : Sender → ℕ → List Values → List Handed
pictures_from s k [] = []
pictures_from s k (p ∷ ps) =
    record { timestamp = timestamp_of s.format s.base k; frame = picture_raster p } ∷ pictures_from
    s (k + 1) ps

-- All datagrams of a sender's list came, each by one path or the other or both, and no others, to a
-- receiver that is opened for them.
pub record BroughtAll (o : Opening) (s : Sender) (pictures : List Values)
    (datagrams : List (List ℕ)) : Type 0 where
  pub first : ℕ
  pub sent : List (List ℕ)
  pub list : IsSenderList sent s first pictures
  pub opened : IsOpenFor o s.format s.payload_type s.ssrc
  pub whole : (p : Values) → IsMember p pictures → length p.samples ≡ sample_count p.format
  pub same : SameDatagrams datagrams sent

-- Each datagram that came is of a sender's list; some may have been lost.
pub record BroughtSome (o : Opening) (s : Sender) (pictures : List Values)
    (datagrams : List (List ℕ)) : Type 0 where
  pub first : ℕ
  pub sent : List (List ℕ)
  pub list : IsSenderList sent s first pictures
  pub format : s.format ≡ o.format
  pub among : AreAmong datagrams sent

-- Each cell of a frame is missing, or the sender's value there at the frame's timestamp.
abbrev pub ShowsSender : Handed → Sender → List Values → Type 0
ShowsSender h s pictures =
    (at : Position) → IsSendersCell (cell_at h.frame at) s pictures h.timestamp at

-- A frame that was handed out is the Frames at its timestamp of some of these datagrams.
pub record IsOfSome (o : Opening) (datagrams : List (List ℕ)) (h : Handed) : Type 0 where
  pub some : List (List ℕ)
  pub among : AreAmong some datagrams
  pub is : h.frame ≡ frame_of o some h.timestamp

-- A cell is the sender's value.
abbrev pub IsSendersSample : Cell → Sender → List Values → ℕ → Position → Type 0
IsSendersSample Missing s pictures timestamp at = ⊥
IsSendersSample (Value v) s pictures timestamp at = IsSendersValue v s pictures timestamp at
IsSendersSample Contested s pictures timestamp at = ⊥
