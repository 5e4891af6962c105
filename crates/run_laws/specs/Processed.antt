-- Files whose frames are pictures (own): what `process` settles of them is these pictures.
use Rattle.std.specs.Prelude.{◌≡◌, ℕ, List, Some, length}
use Rattle.std.specs.List.{AllZip}
use Rattle.st_format.specs.Member.{SameDatagrams}
use Rattle.st_format.specs.Picture.{Values, timestamp_of}
use Rattle.st_format.specs.Position.{sample_count}
use Rattle.st_format.specs.declared.format.Format.{Format}
use Rattle.path_receiver.specs.Frames.{State, frame_at}
use Rattle.path_receiver.specs.Sender.{picture_raster}
use Rattle.path_receiver.specs.TookSent.{Awaits}
use Rattle.receiver_file.specs.Saved.{IsReceiverFile}
use Rattle.capture_engines.specs.Sending.{run_sender}
use Rattle.capture_engines.specs.declared.sender.Sending.{Sending}
use Rattle.run_laws.specs.Received.{IsReceivedFile}
use Rattle.run_laws.specs.Sent.{IsSentFile}

-- Octets are a receiver's file in which the frame of a timestamp is this picture, nothing missing.
pub record HasPicture (timestamp : ℕ) (file : List ℕ) (p : Values) : Type 0 where
  pub receiver : State
  pub file_is : IsReceiverFile file receiver
  pub frame : frame_at receiver.opening.window receiver.frames timestamp
      ≡ Some (picture_raster p)
  pub whole : length p.samples ≡ sample_count p.format

-- so each of some files has one of the pictures
abbrev pub HavePictures : ℕ → List (List ℕ) → List Values → Type 0
HavePictures timestamp files pictures =
    AllZip (λ file p. HasPicture timestamp file p) files pictures

-- Octets are a received file of a sent one's datagrams, all and no others, whatever brought them;
-- and its receiver awaits the picture that was sent with this timestamp, which is this one.
pub record HasSentPicture (timestamp : ℕ) (file : List ℕ) (p : Values) : Type 0 where
  pub wanted : Sending
  pub text : List ℕ
  pub format : Format
  pub pictures : List Values
  pub capture : List ℕ
  pub sent : IsSentFile wanted text format pictures capture
  pub window : List ℕ
  pub source : List ℕ
  pub said : List ℕ
  pub datagrams : List (List ℕ)
  pub received : IsReceivedFile window source said datagrams file
  pub same : SameDatagrams sent.datagrams datagrams
  pub number : ℕ
  pub awaits : Awaits received.receiver (run_sender format wanted) pictures number p
  pub time : timestamp_of format wanted.base number ≡ timestamp

-- so each of some files has one of the pictures
abbrev pub HaveSentPictures : ℕ → List (List ℕ) → List Values → Type 0
HaveSentPictures timestamp files pictures =
    AllZip (λ file p. HasSentPicture timestamp file p) files pictures
