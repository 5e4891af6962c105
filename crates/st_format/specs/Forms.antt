-- The words for depths, paths, rates and formats, and what texts of these forms say.
use Rattle.std.specs.Prelude.{◌≡◌, ◌≢◌, ℕ, ◌/◌, ◌==◌, if◌then◌else◌, List, [], ◌∷◌, ◌++◌, codes}
use Rattle.std.specs.Prelude.{Option, Some, None, Result, Ok, Err, MatchResult}
use Rattle.std.specs.Fmt.{decimal}
use Rattle.std.specs.Option.{ok_or}
use Rattle.std.specs.Str.{bytes_eq}
use Rattle.st_format.specs.declared.sampling.Depth.{Depth}
use Rattle.st_format.specs.declared.sampling.Depth.TheVariants.{D8, D10, D12, D16}
use Rattle.st_format.specs.declared.path.Path.{Path}
use Rattle.st_format.specs.declared.path.Path.TheVariants.{A, B}
use Rattle.st_format.specs.declared.rate.Rate.{Rate}
use Rattle.st_format.specs.declared.format.FormatFault.{FormatFault}
use Rattle.st_format.specs.declared.format.FormatFault.TheVariants.{BadRate}
use Rattle.st_format.specs.declared.format_text.FormatTextFault.{FormatTextFault}
use Rattle.st_format.specs.declared.format_text.FormatTextFault.TheVariants.{NotFormat, NotRate}
use Rattle.st_format.specs.declared.format_text.FormatTextFault.TheVariants.{Refused}
use Rattle.st_format.specs.Fields.{Fields, format_at, is_bad_rate}
use Rattle.st_format.specs.Rate.{common_divisor}
use Rattle.st_format.specs.Reading.{◌>>=◌}
use Rattle.st_format.specs.Text.{parted}
use Rattle.st_format.specs.Words.{number, sampling_named, sampling_text}

-- A value was found by what is said of it: this is said of the value, or the fault is answered
-- and it is said of none (own).
abbrev pub FindsBy : {X V E : Type 0} → (V → X) → E → X → Result V E → Type 0
FindsBy {X} {V} said fault x r =
    MatchResult r (λ v. said v ≡ x) (λ e. (e ≡ fault) × ((v : V) → said v ≢ x))

-- the word for a depth: its bits in decimal digits (SMPTE ST 2110-20, depth)
abbrev pub depth_text : Depth → List ℕ
depth_text D8 = codes "8"
depth_text D10 = codes "10"
depth_text D12 = codes "12"
depth_text D16 = codes "16"

-- the depth of a word, by one comparison after another
unfoldable pub depth_named : List ℕ → Option Depth
depth_named text =
    if bytes_eq text (codes "8") then Some D8 else
    (if bytes_eq text (codes "10") then Some D10 else
    (if bytes_eq text (codes "12") then Some D12 else
    (if bytes_eq text (codes "16") then Some D16 else None)))

-- the word for a path (own, as scripts name it)
abbrev pub path_text : Path → List ℕ
path_text A = codes "A"
path_text B = codes "B"

-- the word for a rate of n frames in d seconds (SMPTE ST 2110-20, exactframerate)
abbrev pub rate_text : ℕ → ℕ → List ℕ
rate_text n d = if d == 1 then decimal n else decimal n ++ codes "/" ++ decimal d

-- n and d of a rate, without what is known of them
abbrev pub rate_of : Rate → ℕ × ℕ
rate_of r = (r.n, r.d)

-- what a call made, by its numbers
abbrev pub made_rate : {E : Type 0} → Result Rate E → Result (ℕ × ℕ) E
made_rate (Ok r) = Ok (rate_of r)
made_rate (Err e) = Err e

-- the rate of n frames in d seconds in lowest terms, or its refusal
abbrev pub rate_at : ℕ → ℕ → Result (ℕ × ℕ) FormatFault
rate_at n d =
    if is_bad_rate n d then Err BadRate else Ok (n / common_divisor n d, d / common_divisor n d)

-- two numbers, where both are there
abbrev pub number_pair : Option ℕ → Option ℕ → Option (ℕ × ℕ)
number_pair None d = None
number_pair (Some n) None = None
number_pair (Some n) (Some d) = Some (n, d)

-- n and d of a text that is parted at the first stroke, or has none
abbrev pub rate_in_parts : List ℕ → Option (List ℕ × List ℕ) → Option (ℕ × ℕ)
rate_in_parts text None = number_pair (number text) (Some 1)
rate_in_parts text (Some p) = number_pair (number p.0) (number p.1)

-- n and d of a text `N` or `N/D` (SMPTE ST 2110-20, exactframerate; leading zeros: own)
unfoldable pub rate_named : List ℕ → Option (ℕ × ℕ)
rate_named text = rate_in_parts text (parted 47 text)

-- words parted by single spaces
abbrev pub spaced : List (List ℕ) → List ℕ
spaced [] = []
spaced (w ∷ []) = w
spaced (w ∷ v ∷ vs) = w ++ 32 ∷ spaced (v ∷ vs)

-- the text of a format, `S B W H N/D` (own, as scripts have it)
abbrev pub format_text : Fields → List ℕ
format_text f =
    spaced
    (sampling_text f.sampling ∷ depth_text f.depth ∷ decimal f.width ∷ decimal f.height
    ∷ rate_text f.n f.d ∷ [])

-- a format's refusal as that of a text
abbrev pub or_refused : {V : Type 0} → Result V FormatFault → Result V FormatTextFault
or_refused (Ok v) = Ok v
or_refused (Err e) = Err (Refused e)

-- what a text says of a rate: `N` or `N/D`, within the limits, brought to lowest terms
unfoldable pub read_rate : List ℕ → Result (ℕ × ℕ) FormatTextFault
read_rate text = do
  rate ← ok_or (rate_named text) NotRate
  or_refused (rate_at rate.0 rate.1)

-- what a text says of a format: `S B W H N/D`, within the limits, the rate in lowest terms
unfoldable pub read_format : List ℕ → Result Fields FormatTextFault
read_format text = do
  first ← ok_or (parted 32 text) NotFormat
  second ← ok_or (parted 32 first.1) NotFormat
  third ← ok_or (parted 32 second.1) NotFormat
  fourth ← ok_or (parted 32 third.1) NotFormat
  sampling ← ok_or (sampling_named first.0) NotFormat
  depth ← ok_or (depth_named second.0) NotFormat
  width ← ok_or (number third.0) NotFormat
  height ← ok_or (number fourth.0) NotFormat
  rate ← ok_or (rate_named fourth.1) NotFormat
  or_refused (format_at sampling depth width height rate.0 rate.1)
