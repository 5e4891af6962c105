-- A YUV4MPEG2 stream as pictures, and the first fault of its frames.
use Rattle.std.specs.Prelude.{◌≡◌, ◌<◌, ℕ, List, [], ◌∷◌, ◌++◌, length, Ok, Err}
use Rattle.st_format.specs.declared.format.Format.{Format}
use Rattle.st_format.specs.Fields.{fields_of}
use Rattle.st_format.specs.Picture.{IsPicture, Values}
use Rattle.picture_forms.specs.declared.fault.FormFault.{FormFault}
use Rattle.picture_forms.specs.Frames.{frame_walk}
use Rattle.picture_forms.specs.Heads.{HasY4mHead}
use Rattle.picture_forms.specs.Layouts.{planes_text}

-- Octets begin with a frame of this picture, of this format, and what is behind it is so.
pub record BeginsFrame (f : Format) (v : Values) (Behind : List ℕ → Type 0) (octets : List ℕ)
    : Type 0 where
  pub rest : List ℕ
  pub format : v.format ≡ f
  pub picture : IsPicture v
  pub frame : frame_walk f octets ≡ Ok (planes_text v, rest)
  pub behind : Behind rest

-- octets begin with the frames of these pictures, one after the other, and this is behind them
abbrev pub BeginsFrames : Format → List Values → List ℕ → List ℕ → Type 0
BeginsFrames f [] rest octets = octets ≡ rest
BeginsFrames f (v ∷ vs) rest octets = BeginsFrame f v (BeginsFrames f vs rest) octets

-- Octets are a stream of these pictures: a head of their format, the frames of all, in order, and
-- nothing behind them.
pub record IsStreamOf (octets : List ℕ) (f : Format) (pictures : List Values) : Type 0 where
  pub frames : List ℕ
  pub head : HasY4mHead octets frames (fields_of f)
  pub are : BeginsFrames f pictures [] frames

-- octets begin with a head and with the frames of these pictures, and this is behind them
pub record BeginsStream (octets : List ℕ) (f : Format) (pictures : List Values) (rest : List ℕ)
    : Type 0 where
  pub frames : List ℕ
  pub head : HasY4mHead octets frames (fields_of f)
  pub are : BeginsFrames f pictures rest frames

-- Behind a head and whole frames are octets, one at least, with this fault, the first: so where a
-- stream ends behind a frame, that is none.
pub record HasStreamFrameFault (octets : List ℕ) (e : FormFault) : Type 0 where
  pub format : Format
  pub before : List Values
  pub rest : List ℕ
  pub begins : BeginsStream octets format before rest
  pub some : 0 < length rest
  pub fault : frame_walk format rest ≡ Err e

-- octets begin with a head and so many frames
pub record HasFrames (count : ℕ) (octets : List ℕ) : Type 0 where
  pub format : Format
  pub pictures : List Values
  pub rest : List ℕ
  pub begins : BeginsStream octets format pictures rest
  pub many : length pictures ≡ count

-- A source gave the head of a stream of this format and the frames of these pictures, in order, and
-- no more: so it is whatever is behind them.
pub record GaveStream (f : Format) (pictures : List Values) (before now : List ℕ) : Type 0 where
  pub part : List ℕ
  pub grown : now ≡ before ++ part
  pub says : (behind : List ℕ) → BeginsStream (part ++ behind) f pictures behind
