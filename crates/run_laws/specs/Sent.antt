-- Files of what is sent (own): what `send` writes, by its words, a text and pictures; and what it
-- takes that a capture is read as it was written.
use Rattle.std.specs.Prelude.{◌≡◌, ℕ, ◌^◌, ◌<◌, List, length, map, Option}
use Rattle.std.specs.List.{AllByRecursion}
use Rattle.st_format.specs.Member.{IsMember}
use Rattle.st_format.specs.Picture.{Values, value_at}
use Rattle.st_format.specs.Position.{IsPosition, Position, sample_count}
use Rattle.st_format.specs.declared.format.Format.{Format}
use Rattle.st_format.specs.declared.path.Path.{Path}
use Rattle.media_file.specs.Writer.{IsShortEnough, written_text}
use Rattle.packet_plan.specs.Sender.{IsSenderList, Sender}
use Rattle.packet_plan.specs.Text.{datagram_texts}
use Rattle.packet_plan.specs.declared.run.PacketRun.{PacketRun}
use Rattle.packet_plan.specs.declared.stamp.Stamp.{Stamp}
use Rattle.path_receiver.specs.Frames.{State}
use Rattle.path_receiver.specs.Sender.{AreAmong, IsOpenFor}
use Rattle.run_outcome.specs.Moments.{WasRead}
use Rattle.capture_engines.specs.Looping.{loop_stamp}
use Rattle.capture_engines.specs.Sending.{SayPictures, run_sender}
use Rattle.capture_engines.specs.declared.sender.Sending.{Sending}
use Rattle.run_outcome.specs.TextRefusals.{SaysText}

-- Octets are the capture of a text and of the datagrams of pictures of one format, as frames from 0
-- on, with the payload type, the source, the first timestamp and the first number of these words.
pub record IsSentFile (wanted : Sending) (text : List ℕ) (format : Format)
    (pictures : List Values) (file : List ℕ) : Type 0 where
  pub datagrams : List (List ℕ)
  pub sent : IsSenderList datagrams (run_sender format wanted) wanted.first pictures
  pub file_is : file ≡ written_text wanted.paths text datagrams

-- Octets are such a capture of the text and of the pictures whose files were read of sources: the
-- sources as they were, and as they are.
pub record IsSentOf {S : Type 0} (gave : S → List ℕ) (ended : S → Type 0) (wanted : Sending)
    (sdp sdp_later : Option S) (sources later : List S) (file : List ℕ) : Type 0 where
  pub text : List ℕ
  pub says : SaysText gave ended sdp sdp_later text
  pub format : Format
  pub pictures : List Values
  pub say : SayPictures (WasRead gave ended) sources later pictures
  pub is : IsSentFile wanted text format pictures file

-- the text and each datagram have at most 65,535 octets: a capture's counts have 16 bits
pub record FitCapture (text : List ℕ) (datagrams : List (List ℕ)) : Type 0 where
  pub text_fits : length text < 2 ^ 16
  pub short : AllByRecursion IsShortEnough datagrams

-- A receiver is open for a picture with this stamp, and has its timestamp in its window.
pub record AwaitsPicture (r : State) (p : Values) (stamp : Stamp) : Type 0 where
  pub opened : IsOpenFor r.opening p.format stamp.payload_type stamp.ssrc
  pub inside : IsMember stamp.timestamp r.opening.window
  pub whole : length p.samples ≡ sample_count p.format

-- ---- of `loop`

-- what is the same for the picture of a run, and would be for others behind it
abbrev pub loop_sender : Values → Sender
loop_sender p = record { format = p.format; base = 0; payload_type = 96; ssrc = 1 }

-- A link brought no datagram but those of the picture by these packets: it may lose, repeat and
-- reorder them.
abbrev pub BringsOnly : Values → List (List PacketRun) → List (Path × List ℕ) → Type 0
BringsOnly p packets arrivals =
    AreAmong (map (λ (d : Path × List ℕ). d.1) arrivals) (datagram_texts p loop_stamp 0 packets)

-- ---- of `process`

-- Pictures of one format, with one value at each position.
pub record AreOnePicture (p q : Values) : Type 0 where
  pub format : p.format ≡ q.format
  pub values : (at : Position) → IsPosition at p.format → value_at p at ≡ value_at q at
