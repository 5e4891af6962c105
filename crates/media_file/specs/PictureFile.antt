-- A picture as a file (own): its text as a function of what it holds, and how octets are read as
-- one.
use Rattle.std.specs.Prelude.{◌≡◌, ℕ, ◌*◌, ◌/◌, List, ◌++◌, Option, Result, Ok, Err}
use Rattle.std.specs.Io.KnownBytes.{Consumes}
use Rattle.st_format.specs.Device.{AreOctets}
use Rattle.st_format.specs.Fields.{Fields, fields_of}
use Rattle.st_format.specs.Pgroup.{bits_of, pixel_group}
use Rattle.st_format.specs.Picture.{IsPicture, Values}
use Rattle.st_format.specs.Samples.{Spells, octets_in, values_in}
use Rattle.media_file.specs.declared.fault.FileFault.{FileFault}
use Rattle.media_file.specs.declared.fault.FileFault.TheVariants.{BadVersion}
use Rattle.media_file.specs.declared.front.Version.{Version}
use Rattle.media_file.specs.declared.front.Version.TheVariants.{One, Two}
use Rattle.media_file.specs.Blocks.{block_at}
use Rattle.media_file.specs.Fields.{field_at, nothing_at}
use Rattle.st_format.specs.Reading.{◌>>=◌}
use Rattle.media_file.specs.Fronts.{kind_at, kind_text, picture_name}
use Rattle.media_file.specs.StateFile.{format_text}

-- what a picture's file says: a format by its fields, and the samples in raster order
pub record Shown : Type 0 where
  pub format : Fields
  pub samples : List ℕ

-- what the file of a picture says
abbrev pub shown_of : Values → Shown
shown_of p = record { format = fields_of p.format; samples = p.samples }

-- name, version and format block: what stands before the pgroups
abbrev pub picture_head : Fields → List ℕ
picture_head f = kind_text picture_name One ++ format_text f

-- A picture's file: its head, and all pgroups in raster order, packed.
unfoldable pub picture_text : Values → List ℕ
picture_text p = picture_head (fields_of p.format) ++ octets_in (bits_of p.format.depth) p.samples

-- The octets are the file of this picture, each value of which fits its depth.
pub record IsPictureFile (octets : List ℕ) (p : Values) : Type 0 where
  pub picture : IsPicture p
  pub whole : octets ≡ picture_text p

-- how many octets the pgroups of a raster take
abbrev pub raster_octets : Fields → ℕ
raster_octets f =
    f.height *
    (f.width / (pixel_group f.sampling f.depth).pixels * (pixel_group f.sampling f.depth).octets)

-- version 01 alone
abbrev pub one_by : Version → List ℕ → Result (Version × List ℕ) FileFault
one_by One rest = Ok (One, rest)
one_by Two rest = Err BadVersion

-- a name, and version 01
unfoldable pub one_at : List ℕ → List ℕ → Result (Version × List ℕ) FileFault
one_at name octets = kind_at name octets >>= λ x. one_by x.0 x.1

-- the samples of a raster
unfoldable pub raster_at : Fields → List ℕ → Result (List ℕ × List ℕ) FileFault
raster_at f octets =
    field_at (raster_octets f) octets >>= λ x. Ok (values_in (bits_of f.depth) x.0, x.1)

-- what fields and samples show
abbrev pub shown_by : Fields → List ℕ → Shown
shown_by f samples = record { format = f; samples = samples }

-- the walk from the left: a picture's file, or the first fault
unfoldable pub picture_walk : List ℕ → Result (Shown × List ℕ) FileFault
picture_walk octets =
    one_at picture_name octets >>= λ v. block_at v.1 >>= λ f. raster_at f.0 f.1 >>=
    λ s. nothing_at s.1 >>= λ e. Ok (shown_by f.0 s.0, e.1)

-- A source gave octets that spell these values of so many bits.
pub record GivesSpelled (bits : ℕ) (old new : Option (List ℕ)) (values : List ℕ) : Type 0 where
  pub octets : List ℕ
  pub given : Consumes old new octets
  pub spelled : Spells bits octets values

-- A source gave octets that spell these values of so many bits: what it gave so far was `before`,
-- and is `now`.
pub record GaveSpelled (bits : ℕ) (before now values : List ℕ) : Type 0 where
  pub octets : List ℕ
  pub grown : now ≡ before ++ octets
  pub small : AreOctets octets
  pub spelled : Spells bits octets values
