-- What stands at the front of a file: six octets of name and two of version; and behind them, in a
-- capture of version 02, a text (own).
use Rattle.std.specs.Prelude.{◌≡◌, ℕ, ◌^◌, ◌<◌, if◌then◌else◌, List, [], ◌++◌, length, take, drop}
use Rattle.std.specs.Prelude.{codes, Result, Ok, Err}
use Rattle.std.specs.Int.{w16, from_be_bytes, to_be_bytes}
use Rattle.std.specs.Str.{bytes_eq}
use Rattle.media_file.specs.declared.fault.FileFault.{FileFault}
use Rattle.media_file.specs.declared.fault.FileFault.TheVariants.{BadName, BadVersion}
use Rattle.media_file.specs.declared.front.Version.{Version}
use Rattle.media_file.specs.declared.front.Version.TheVariants.{One, Two}
use Rattle.media_file.specs.Fields.{field_at}
use Rattle.st_format.specs.Given.{with_rest}
use Rattle.st_format.specs.Reading.{◌>>=◌}

-- what a capture begins with
abbrev pub capture_name : List ℕ
capture_name = codes "S20CAP"

-- what a picture's file begins with
abbrev pub picture_name : List ℕ
picture_name = codes "S20PIC"

-- what a receiver's file begins with
abbrev pub receiver_name : List ℕ
receiver_name = codes "S20RCV"

-- the two digits of a version
abbrev pub version_text : Version → List ℕ
version_text One = codes "01"
version_text Two = codes "02"

-- what a file begins with: six octets of a name, and two of a version
abbrev pub kind_text : List ℕ → Version → List ℕ
kind_text name v = name ++ version_text v

-- a length in two octets, and as many octets
abbrev pub counted_text : List ℕ → List ℕ
counted_text text = to_be_bytes w16 (length text) ++ text

-- what stands before the records of a capture, by its version
abbrev pub front_text : Version → List ℕ → List ℕ
front_text One text = kind_text capture_name One
front_text Two text = kind_text capture_name Two ++ counted_text text

-- the ten octets before a text
abbrev pub front_head : ℕ → List ℕ
front_head count = kind_text capture_name Two ++ to_be_bytes w16 count

-- a text that a capture of this version can have
abbrev pub HasFront : Version → List ℕ → Type 0
HasFront One text = text ≡ []
HasFront Two text = length text < 2 ^ 16

-- the version that two octets are
abbrev pub version_of : List ℕ → Result Version FileFault
version_of octets =
    if bytes_eq octets (codes "01") then Ok One
    else (if bytes_eq octets (codes "02") then Ok Two else Err BadVersion)

-- the version of a file of this name that begins with these eight octets
abbrev pub kind_of : List ℕ → List ℕ → Result Version FileFault
kind_of name octets =
    if bytes_eq (take 6 octets) name then version_of (drop 6 octets) else Err BadName

-- the version that name and digits at the front say of a kind of file, and what stands behind them
unfoldable pub kind_at : List ℕ → List ℕ → Result (Version × List ℕ) FileFault
kind_at name octets = field_at 8 octets >>= λ x. with_rest (kind_of name x.0) x.1

-- a text behind its length
unfoldable pub text_at : List ℕ → Result (List ℕ × List ℕ) FileFault
text_at octets = field_at 2 octets >>= λ x. field_at (from_be_bytes w16 x.0) x.1

-- the text of a capture: version 01 has none, and version 02 one behind its length
abbrev pub text_by : Version → List ℕ → Result (List ℕ × List ℕ) FileFault
text_by One octets = Ok ([], octets)
text_by Two octets = text_at octets

-- a capture's text, behind name and version
unfoldable pub front_at : List ℕ → Result (List ℕ × List ℕ) FileFault
front_at octets = kind_at capture_name octets >>= λ x. text_by x.0 x.1
