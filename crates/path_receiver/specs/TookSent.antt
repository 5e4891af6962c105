-- What a receiver took of a sender's datagrams: the premises of the laws on both, with names.
use Rattle.std.specs.Prelude.{◌≡◌, ℕ, List, length, Some, slice_get}
use Rattle.st_format.specs.Member.{IsMember}
use Rattle.st_format.specs.Picture.{Values, timestamp_of}
use Rattle.st_format.specs.Position.{sample_count}
use Rattle.st_format.specs.Device.{AreOctets}
use Rattle.packet_plan.specs.declared.run.PacketRun.{PacketRun}
use Rattle.packet_plan.specs.declared.stamp.Stamp.{Stamp}
use Rattle.packet_plan.specs.Sender.{IsSenderList, Sender}
use Rattle.packet_plan.specs.Sent.{IsSentPicture}
use Rattle.path_receiver.specs.Frames.{Holds, State}
use Rattle.path_receiver.specs.Grammar.{Datagram, IsFor}
use Rattle.path_receiver.specs.Opening.{Opening}
use Rattle.path_receiver.specs.Sender.{AreAmong, IsOpenFor}

-- A receiver holds the Frames of datagrams that are all of one sender's list, whose format it has.
-- Any payload type and source will do: what a receiver doesn't take offers nothing (SMPTE ST
-- 2022-7).
pub record TookOfSender (r : State) (s : Sender) (pictures : List Values) : Type 0 where
  pub first : ℕ
  pub sent : List (List ℕ)
  pub list : IsSenderList sent s first pictures
  pub format : s.format ≡ r.opening.format
  pub taken : List (List ℕ)
  pub holds : Holds r taken
  pub among : AreAmong taken sent

-- A receiver awaits picture k of a sender: it is opened for the sender's datagrams, and the
-- picture's timestamp is in its window (own).
pub record Awaits (r : State) (s : Sender) (pictures : List Values)
    (k : ℕ) (p : Values) : Type 0 where
  pub opened : IsOpenFor r.opening s.format s.payload_type s.ssrc
  pub there : slice_get pictures k ≡ Some p
  pub whole : length p.samples ≡ sample_count p.format
  pub inside : IsMember (timestamp_of s.format s.base k) r.opening.window

-- A receiver that is opened for a picture's datagrams holds the Frames of datagrams, among which
-- all of the picture's are, by some raster plan (SMPTE ST 2110-20, general packing).
pub record TookPicture (r : State) (p : Values) (stamp : Stamp) : Type 0 where
  pub opened : IsOpenFor r.opening p.format stamp.payload_type stamp.ssrc
  pub inside : IsMember stamp.timestamp r.opening.window
  pub whole : length p.samples ≡ sample_count p.format
  pub size : ℕ
  pub packets : List (List PacketRun)
  pub sent : List (List ℕ)
  pub picture : IsSentPicture sent p stamp size packets
  pub taken : List (List ℕ)
  pub holds : Holds r taken
  pub all : AreAmong sent taken

-- Each datagram for a receiver that has this timestamp, of those taken, is one of those sent (own).
pub record AreOnlyAt (taken sent : List (List ℕ)) (o : Opening) (timestamp : ℕ) : Type 0 where
  pub octets : (octets : List ℕ) → IsMember octets taken → AreOctets octets
  pub only : (octets : List ℕ) (d : Datagram) → IsMember octets taken → IsFor octets o d
      → d.timestamp ≡ timestamp → IsMember octets sent
