-- What is wrong with a file's name and version (own): for each fault a condition on the octets,
-- with no step of reading in it.
use Rattle.std.specs.Prelude.{◌≡◌, ◌≢◌, ℕ, ◌<◌, List, ◌++◌, length}
use Rattle.media_file.specs.declared.front.Version.{Version}
use Rattle.media_file.specs.Fronts.{version_text}

-- Six octets of a name stand at the front, then two of a version, and then any.
pub record HasKind (octets name version : List ℕ) : Type 0 where
  pub behind : List ℕ
  pub six : length name ≡ 6
  pub two : length version ≡ 2
  pub whole : octets ≡ name ++ (version ++ behind)

-- the octets end within name or version
abbrev pub IsCutKind : List ℕ → Type 0
IsCutKind octets = length octets < 8

-- another name than this
pub record HasOtherName (octets name : List ℕ) : Type 0 where
  pub found : List ℕ
  pub version : List ℕ
  pub kind : HasKind octets found version
  pub other : found ≢ name

-- this name, and two octets that are no version
pub record HasOtherVersion (octets name : List ℕ) : Type 0 where
  pub version : List ℕ
  pub kind : HasKind octets name version
  pub other : (v : Version) → version ≢ version_text v
