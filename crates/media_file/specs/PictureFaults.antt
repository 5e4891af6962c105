-- The faults of a picture's file (own): each a condition of its own on the octets, with no step of
-- reading in it. Laws say that at most one holds, and that a picture is read with a fault exactly
-- where the fault's condition holds.
use Rattle.std.specs.Prelude.{◌≡◌, ◌≢◌, ℕ, ◌<◌, List, ◌++◌, codes, length, Ok}
use Rattle.st_format.specs.Fields.{Fields, format_at}
use Rattle.media_file.specs.declared.fault.FileFault.{FileFault}
use Rattle.media_file.specs.declared.fault.FileFault.TheVariants.{BadName, BadVersion, Truncated}
use Rattle.media_file.specs.declared.fault.FileFault.TheVariants.{BadField, TrailingBytes}
use Rattle.media_file.specs.declared.front.Version.TheVariants.{One}
use Rattle.media_file.specs.Fronts.{kind_text, picture_name}
use Rattle.media_file.specs.KindFaults.{HasKind, HasOtherName, IsCutKind}
use Rattle.media_file.specs.PictureFile.{picture_head, raster_octets}
use Rattle.media_file.specs.StateFile.{FitsBlock, format_text}

-- A format that there is, with its rate in lowest terms.
pub record IsFormat (f : Fields) : Type 0 where
  pub room : FitsBlock f
  pub is : format_at f.sampling f.depth f.width f.height f.n f.d ≡ Ok f

-- this name, and two octets that are not version 01
pub record HasOtherThanOne (octets name : List ℕ) : Type 0 where
  pub version : List ℕ
  pub kind : HasKind octets name version
  pub other : version ≢ codes "01"

-- behind name and version the octets end within the fourteen of the format block
pub record HasCutBlock (octets : List ℕ) : Type 0 where
  pub behind : List ℕ
  pub whole : octets ≡ kind_text picture_name One ++ behind
  pub short : length behind < 14

-- A block of fourteen octets that is the text of no format.
pub record HasNoFormat (octets : List ℕ) : Type 0 where
  pub block : List ℕ
  pub behind : List ℕ
  pub whole : octets ≡ kind_text picture_name One ++ (block ++ behind)
  pub long : length block ≡ 14
  pub none : (f : Fields) → IsFormat f → block ≢ format_text f

-- The head of a picture of some format, and these octets behind it.
pub record HasPictureHead (octets : List ℕ) (format : Fields) (behind : List ℕ) : Type 0 where
  pub is : IsFormat format
  pub whole : octets ≡ picture_head format ++ behind

-- fewer octets behind the head than the pgroups take
pub record HasCutGroups (octets : List ℕ) : Type 0 where
  pub format : Fields
  pub behind : List ℕ
  pub head : HasPictureHead octets format behind
  pub short : length behind < raster_octets format

-- more octets behind the head than the pgroups take
pub record HasTrailing (octets : List ℕ) : Type 0 where
  pub format : Fields
  pub behind : List ℕ
  pub head : HasPictureHead octets format behind
  pub long : raster_octets format < length behind

-- The octets end within name or version, within the format block, or within the pgroups.
pub data IsCutPicture (octets : List ℕ) : Type 0 where
  Kind : IsCutKind octets → IsCutPicture octets
  Block : HasCutBlock octets → IsCutPicture octets
  Groups : HasCutGroups octets → IsCutPicture octets

-- where a picture's file is cut
pub data PicturePlace : Type 0 where
  InKind : PicturePlace
  InBlock : PicturePlace
  InGroups : PicturePlace

-- the place at which a picture's file is cut
abbrev pub picture_place : {octets : List ℕ} → IsCutPicture octets → PicturePlace
picture_place (Kind short) = InKind
picture_place (Block cut) = InBlock
picture_place (Groups cut) = InGroups

-- the condition of each fault of a picture's file, by itself
abbrev pub IsPictureFault : FileFault → List ℕ → Type 0
IsPictureFault BadName octets = HasOtherName octets picture_name
IsPictureFault BadVersion octets = HasOtherThanOne octets picture_name
IsPictureFault Truncated octets = IsCutPicture octets
IsPictureFault BadField octets = HasNoFormat octets
IsPictureFault TrailingBytes octets = HasTrailing octets
IsPictureFault fault octets = ⊥
