-- What stands in a receiver's file before its frames (own).
use Rattle.std.specs.Prelude.{ℕ, nat_lt, ◌==◌, ◌||◌, Bool, true, false, if◌then◌else◌, List, Option}
use Rattle.std.specs.Prelude.{None, Some, Result, Ok, Err}
use Rattle.media_file.specs.declared.fault.FileFault.{FileFault}
use Rattle.media_file.specs.declared.fault.FileFault.TheVariants.{BadField, BadVersion}
use Rattle.media_file.specs.declared.front.Version.{Version}
use Rattle.media_file.specs.declared.front.Version.TheVariants.{One, Two}
use Rattle.st_format.specs.Reading.{◌>>=◌}
use Rattle.media_file.specs.Fronts.{kind_at, receiver_name}
use Rattle.st_format.specs.Given.{with_rest}
use Rattle.receiver_file.specs.declared.front.Head.{Head}
use Rattle.receiver_file.specs.Numbers.{number_at, octet_at}

-- the one version of receivers' files
abbrev pub only_one : Version → Result (Unit {0}) FileFault
only_one One = Ok tt
only_one Two = Err BadVersion

-- a receiver's file's name and version
unfoldable pub name_at : List ℕ → Result (Unit {0} × List ℕ) FileFault
name_at octets = kind_at receiver_name octets >>= λ x. with_rest (only_one x.0) x.1

-- a payload type has seven bits
abbrev pub payload_type_of : ℕ → Result ℕ FileFault
payload_type_of n = if nat_lt 127 n then Err BadField else Ok n

-- an octet that is a payload type
unfoldable pub payload_type_at : List ℕ → Result (ℕ × List ℕ) FileFault
payload_type_at octets = octet_at octets >>= λ x. with_rest (payload_type_of x.0) x.1

-- whether a source is pinned
abbrev pub flag_of : ℕ → Result Bool FileFault
flag_of n = if n == 0 then Ok false else (if n == 1 then Ok true else Err BadField)

-- an octet that says whether a source is pinned
unfoldable pub flag_at : List ℕ → Result (Bool × List ℕ) FileFault
flag_at octets = octet_at octets >>= λ x. with_rest (flag_of x.0) x.1

-- the source that is pinned, and 0 where none is
abbrev pub ssrc_of : Bool → ℕ → Result (Option ℕ) FileFault
ssrc_of pinned n = if pinned then Ok (Some n) else (if n == 0 then Ok None else Err BadField)

-- whether a source is pinned, and which: in both cases five octets
unfoldable pub ssrc_at : List ℕ → Result (Option ℕ × List ℕ) FileFault
ssrc_at octets = flag_at octets >>= λ x. number_at x.1 >>= λ n. with_rest (ssrc_of x.0 n.0) n.1

-- a window has 1 to 16 timestamps
abbrev pub window_count : ℕ → Result ℕ FileFault
window_count n = if n == 0 || nat_lt 16 n then Err BadField else Ok n

-- an octet that counts a window
unfoldable pub count_at : List ℕ → Result (ℕ × List ℕ) FileFault
count_at octets = octet_at octets >>= λ x. with_rest (window_count x.0) x.1

-- the fields behind the format block
unfoldable pub head_at : List ℕ → Result (Head × List ℕ) FileFault
head_at octets =
    payload_type_at octets >>= λ p. ssrc_at p.1 >>= λ s. count_at s.1 >>=
    λ n. Ok (record { payload_type = p.0; ssrc = s.0; count = n.0 }, n.1)
