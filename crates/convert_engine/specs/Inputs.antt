-- A picture in octets of a form of other tools, and the first fault of such octets.
use Rattle.std.specs.Prelude.{◌≡◌, ℕ, zero, suc, ◌+◌, ◌⊎◌, List, ◌++◌, Result, Ok, Err}
use Rattle.st_format.specs.declared.format.Format.{Format}
use Rattle.st_format.specs.Fields.{fields_of}
use Rattle.st_format.specs.Picture.{IsPicture, Values}
use Rattle.st_format.specs.Reading.{◌>>=◌}
use Rattle.picture_forms.specs.declared.fault.FormFault.{FormFault}
use Rattle.picture_forms.specs.Frames.{frame_walk}
use Rattle.picture_forms.specs.Heads.{HasY4mHead, head_walk}
use Rattle.picture_forms.specs.Layouts.{pixels_text, planes_text}
use Rattle.picture_forms.specs.Pixmaps.{HasPixmapHead, pixels_walk, pixmap_head_walk}

-- ---- YUV4MPEG2

-- The walk of frames from the left: the planes of the one at this place, 0 of the first, or the
-- first fault up to its end.
unfoldable pub frame_at_place : Format → ℕ → List ℕ → Result (List ℕ × List ℕ) FormFault
frame_at_place f zero octets = frame_walk f octets
frame_at_place f (suc k) octets = frame_walk f octets >>= λ x. frame_at_place f k x.1

-- Octets begin with the head of a stream, and with frames of which the one at this place is this
-- picture's.
pub record IsInStream (place : ℕ) (octets : List ℕ) (v : Values) : Type 0 where
  pub picture : IsPicture v
  pub rest : List ℕ
  pub behind : List ℕ
  pub head : HasY4mHead octets rest (fields_of v.format)
  pub frame : frame_at_place v.format place rest ≡ Ok (planes_text v, behind)

-- octets begin with the head of a stream, and a frame up to the one at this place has this fault,
-- as the first
pub record HasFrameFault (place : ℕ) (octets : List ℕ) (f : FormFault) : Type 0 where
  pub format : Format
  pub rest : List ℕ
  pub head : HasY4mHead octets rest (fields_of format)
  pub fault : frame_at_place format place rest ≡ Err f

-- the first fault of a stream, up to the end of the frame at this place
abbrev pub IsStreamFault : ℕ → List ℕ → FormFault → Type 0
IsStreamFault place octets f = (head_walk octets ≡ Err f) ⊎ HasFrameFault place octets f

-- A source gave so many frames: what it gave so far was `before`, and is `now`. Those behind them
-- are as far as their places say.
pub record PassesOver (f : Format) (count : ℕ) (before now : List ℕ) : Type 0 where
  pub part : List ℕ
  pub grown : now ≡ before ++ part
  pub says : (k : ℕ) (behind : List ℕ)
      → frame_at_place f (count + k) (part ++ behind) ≡ frame_at_place f k behind

-- ---- portable pixmaps

-- Octets begin with the head of a pixmap, where the rate is n / d, and the samples of this picture.
pub record IsInPixmap (n d : ℕ) (octets : List ℕ) (v : Values) : Type 0 where
  pub picture : IsPicture v
  pub rest : List ℕ
  pub behind : List ℕ
  pub head : HasPixmapHead n d octets rest (fields_of v.format)
  pub samples : pixels_walk v.format rest ≡ Ok (pixels_text v, behind)

-- octets begin with the head of a pixmap, and the samples have this fault, as the first
pub record HasPixelsFault (n d : ℕ) (octets : List ℕ) (f : FormFault) : Type 0 where
  pub format : Format
  pub rest : List ℕ
  pub head : HasPixmapHead n d octets rest (fields_of format)
  pub fault : pixels_walk format rest ≡ Err f

-- the first fault of a pixmap: of its head, or else of its samples
abbrev pub IsPixmapFault : ℕ → ℕ → List ℕ → FormFault → Type 0
IsPixmapFault n d octets f = (pixmap_head_walk n d octets ≡ Err f) ⊎ HasPixelsFault n d octets f
