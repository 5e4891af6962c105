-- Frames as pictures, one behind the other, and the stream of these (own).
use Rattle.std.specs.Prelude.{ℕ, Bool, false, if◌then◌else◌, List, [], ◌∷◌, ◌++◌}
use Rattle.std.specs.Prelude.{Option, None, Some}
use Rattle.following.specs.Following.{Handed}
use Rattle.frame_sinks.specs.Fills.{fill_of}
use Rattle.frame_sinks.specs.declared.filling.Filling.{Filling}
use Rattle.frame_sinks.specs.declared.filling.Filling.TheVariants.{Fill, Hold}
use Rattle.picture_engine.specs.Views.{settled_with}
use Rattle.picture_forms.specs.Layouts.{y4m_head}
use Rattle.settled_forms.specs.Settled.{form_text}
use Rattle.st_format.specs.declared.format.Format.{Format}
use Rattle.st_format.specs.declared.sampling.Sampling.{Sampling}
use Rattle.st_format.specs.declared.sampling.Sampling.TheVariants.{Ycc422, Ycc444, Rgb}
use Rattle.st_format.specs.Fields.{fields_of, same_fields}
use Rattle.st_format.specs.Picture.{Values}
use Rattle.st_format.specs.Raster.{Raster}

-- a stream has this format already
abbrev pub is_of : Option Format → Format → Bool
is_of None f = false
is_of (Some g) f = same_fields (fields_of g) (fields_of f)

-- ---- frames as pictures

-- the picture that is held, where it has this format: one of another counts for nothing
abbrev pub held_for : Option Values → Format → Option Values
held_for None f = None
held_for (Some p) f = if same_fields (fields_of p.format) (fields_of f) then Some p else None

-- the picture of a frame, where a fill may be given and a picture may be held
unfoldable pub picture_of : Option (List ℕ) → Option Values → Raster → Values
picture_of fill held q = settled_with (held_for held q.format) (fill_of fill q.format) q

-- what is held of a picture for the next one
abbrev pub held_by : Filling → Values → Option Values
held_by Fill p = None
held_by Hold p = Some p

-- The pictures of frames: each is settled by the fill, or over the picture before.
abbrev pub pictures_of : Filling → Option (List ℕ) → Option Values → List Handed → List Values
pictures_of filling fill held [] = []
pictures_of filling fill held (h ∷ hs) =
    picture_of fill held h.frame
    ∷ pictures_of filling fill (held_by filling (picture_of fill held h.frame)) hs

-- ---- pictures as a stream

-- what a stream of a format begins with: of YCbCr its line
abbrev pub head_as : Sampling → Format → List ℕ
head_as Ycc422 f = y4m_head f
head_as Ycc444 f = y4m_head f
head_as Rgb f = []

-- so of a format, by its sampling
abbrev pub form_head : Format → List ℕ
form_head f = head_as f.sampling f

-- what stands before a picture of a format: a stream's head, where the stream isn't of it already
abbrev pub head_for : Option Format → Format → List ℕ
head_for begun f = if is_of begun f then [] else form_head f

-- Pictures one behind the other: of YCbCr a YUV4MPEG2 stream, and of RGB portable pixmaps. Where
-- the format changes, another stream begins.
abbrev pub form_stream : Option Format → List Values → List ℕ
form_stream begun [] = []
form_stream begun (p ∷ ps) =
    (head_for begun p.format ++ form_text p) ++ form_stream (Some p.format) ps
