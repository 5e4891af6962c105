-- The line of a YUV4MPEG2 stream, read: its parameters are words with a space before each, and what
-- a word says is named by its first letter. The last of a letter counts, and words of other letters
-- say nothing.
use Rattle.std.specs.Prelude.{◌≡◌, ◌≢◌, ◌⊎◌, ℕ, ◌<◌, ◌==◌, if◌then◌else◌, List, [], ◌∷◌, ◌++◌}
use Rattle.std.specs.Prelude.{length, codes, Option, None, Some, ⊤, Result, Ok, Err}
use Rattle.std.specs.List.{AllByRecursion, slice_split}
use Rattle.std.specs.Str.{bytes_eq}
use Rattle.std.specs.Str.Parse.{digits_value}
use Rattle.st_format.specs.declared.sampling.Sampling.{Sampling}
use Rattle.st_format.specs.declared.sampling.Sampling.TheVariants.{Ycc422, Ycc444, Rgb}
use Rattle.st_format.specs.declared.sampling.Depth.{Depth}
use Rattle.st_format.specs.declared.sampling.Depth.TheVariants.{D8, D10, D12, D16}
use Rattle.st_format.specs.declared.format.FormatFault.{FormatFault}
use Rattle.st_format.specs.Fields.{Fields, format_at}
use Rattle.st_format.specs.Given.{with_rest}
use Rattle.st_format.specs.Reading.{◌>>=◌}
use Rattle.st_format.specs.Text.{parted}
use Rattle.st_format.specs.Words.{IsNumber, number}
use Rattle.picture_forms.specs.declared.fault.FormFault.{FormFault}
use Rattle.picture_forms.specs.declared.fault.FormFault.TheVariants.{BadHeader, UnsupportedForm}
use Rattle.picture_forms.specs.declared.fault.FormFault.TheVariants.{BadFormat, BadMagic}
use Rattle.picture_forms.specs.Layouts.{IsYcc}
use Rattle.picture_forms.specs.Walks.{field_at, line_at}

-- the words of a text
abbrev pub words : List ℕ → List (List ℕ)
words text = slice_split (λ octet. octet == 32) text

-- WHAT A HEAD IS

-- a word of another letter, or of none
abbrev pub IsOtherWord : ℕ → List ℕ → Type 0
IsOtherWord letter [] = ⊤
IsOtherWord letter (first ∷ text) = first ≢ letter

-- this stands behind a letter in the last word that begins with it
pub record IsLastWord (letter : ℕ) (ws : List (List ℕ)) (text : List ℕ) : Type 0 where
  pub front : List (List ℕ)
  pub behind : List (List ℕ)
  pub parts : ws ≡ front ++ (letter ∷ text) ∷ behind
  pub last : AllByRecursion (IsOtherWord letter) behind

-- decimal digits, one to ten, of this number, which 32 bits hold
pub record IsNumberText (text : List ℕ) (n : ℕ) : Type 0 where
  pub is : IsNumber text
  pub value : digits_value 10 text ≡ n

-- the last word of I is `Ip`, or there is none
abbrev pub IsProgressive : List (List ℕ) → Type 0
IsProgressive ws = IsLastWord 73 ws (codes "p") ⊎ AllByRecursion (IsOtherWord 73) ws

-- what stands behind C for sampling and depth (RGB has nothing)
abbrev pub colour_word : Sampling → Depth → List ℕ
colour_word Ycc422 D8 = codes "422"
colour_word Ycc422 D10 = codes "422p10"
colour_word Ycc422 D12 = codes "422p12"
colour_word Ycc422 D16 = codes "422p16"
colour_word Ycc444 D8 = codes "444"
colour_word Ycc444 D10 = codes "444p10"
colour_word Ycc444 D12 = codes "444p12"
colour_word Ycc444 D16 = codes "444p16"
colour_word Rgb b = []

-- A text of parameters says this format: by the last words of W, H, F, I and C.
pub record IsHead (text : List ℕ) (f : Fields) : Type 0 where
  pub width : ℕ
  pub height : ℕ
  pub n : ℕ
  pub d : ℕ
  pub sampling : Sampling
  pub depth : Depth
  pub width_text : List ℕ
  pub height_text : List ℕ
  pub rate : List ℕ
  pub n_text : List ℕ
  pub d_text : List ℕ
  pub is_width : IsLastWord 87 (words text) width_text
  pub width_is : IsNumberText width_text width
  pub is_height : IsLastWord 72 (words text) height_text
  pub height_is : IsNumberText height_text height
  pub is_rate : IsLastWord 70 (words text) rate
  pub rate_is : parted 58 rate ≡ Some (n_text, d_text)
  pub n_is : IsNumberText n_text n
  pub d_is : IsNumberText d_text d
  pub scan : IsProgressive (words text)
  pub is_colour : IsLastWord 67 (words text) (colour_word sampling depth)
  pub ycc : IsYcc sampling
  pub format : format_at sampling depth width height n d ≡ Ok f

-- Octets begin with the head of a stream of this format, and this is behind it: the name, a line of
-- at most 255 octets that says the format, and LF.
pub record HasY4mHead (octets rest : List ℕ) (f : Fields) : Type 0 where
  pub text : List ℕ
  pub whole : octets ≡ codes "YUV4MPEG2" ++ (text ++ 10 ∷ rest)
  pub plain : AllByRecursion (λ o. o ≢ 10) text
  pub short : length text < 256
  pub is : IsHead text f

-- HOW IT IS READ

-- what stands behind a letter in a word that begins with it, and else what was found before
abbrev pub told : ℕ → Option (List ℕ) → List ℕ → Option (List ℕ)
told letter found [] = found
told letter found (first ∷ text) = if first == letter then Some text else found

-- the same in words, one after the other
abbrev pub told_last : ℕ → Option (List ℕ) → List (List ℕ) → Option (List ℕ)
told_last letter found [] = found
told_last letter found (word ∷ ws) = told_last letter (told letter found word) ws

-- and in those of a text
abbrev pub last_of : ℕ → List ℕ → Option (List ℕ)
last_of letter text = told_last letter None (words text)

-- what a head has to say, or it is `BadHeader`
abbrev pub needed : {A : Type 0} → Option A → Result A FormFault
needed None = Err BadHeader
needed (Some x) = Ok x

-- the number that a text is, which has to be there
abbrev pub number_at : Option (List ℕ) → Result ℕ FormFault
number_at None = Err BadHeader
number_at (Some text) = needed (number text)

-- a rate, by its two numbers
abbrev pub rate_parts : Option (List ℕ × List ℕ) → Result (ℕ × ℕ) FormFault
rate_parts None = Err BadHeader
rate_parts (Some p) =
    number_at (Some p.0) >>= λ n. number_at (Some p.1) >>= λ d. Ok (n, d)

-- the rate of a text that has to be there, with a colon between the two
abbrev pub rate_at : Option (List ℕ) → Result (ℕ × ℕ) FormFault
rate_at None = Err BadHeader
rate_at (Some text) = rate_parts (parted 58 text)

-- progressive, or nothing is said
abbrev pub scan_at : Option (List ℕ) → Result ⊤ FormFault
scan_at None = Ok tt
scan_at (Some text) = if bytes_eq text (codes "p") then Ok tt else Err UnsupportedForm

-- the sampling and the depth of a word: 4:2:2 or 4:4:4, and the bits where they are more than 8
unfoldable pub colour_named : List ℕ → Result (Sampling × Depth) FormFault
colour_named text =
    if bytes_eq text (codes "422") then Ok (Ycc422, D8) else
    (if bytes_eq text (codes "422p10") then Ok (Ycc422, D10) else
    (if bytes_eq text (codes "422p12") then Ok (Ycc422, D12) else
    (if bytes_eq text (codes "422p16") then Ok (Ycc422, D16) else
    (if bytes_eq text (codes "444") then Ok (Ycc444, D8) else
    (if bytes_eq text (codes "444p10") then Ok (Ycc444, D10) else
    (if bytes_eq text (codes "444p12") then Ok (Ycc444, D12) else
    (if bytes_eq text (codes "444p16") then Ok (Ycc444, D16) else Err UnsupportedForm)))))))

-- the same of a text that has to be there
abbrev pub colour_at : Option (List ℕ) → Result (Sampling × Depth) FormFault
colour_at None = Err UnsupportedForm
colour_at (Some text) = colour_named text

-- a format within the limits
abbrev pub limited : Result Fields FormatFault → Result Fields FormFault
limited (Ok f) = Ok f
limited (Err e) = Err BadFormat

-- what the parameters say, or the first fault
unfoldable pub head_at : List ℕ → Result Fields FormFault
head_at text =
    number_at (last_of 87 text) >>= λ w. number_at (last_of 72 text) >>= λ h.
    rate_at (last_of 70 text) >>= λ r. scan_at (last_of 73 text) >>= λ p.
    colour_at (last_of 67 text) >>= λ c. limited (format_at c.0 c.1 w h r.0 r.1)

-- the name of a stream, its first nine octets
abbrev pub name_of : List ℕ → Result ⊤ FormFault
name_of name = if bytes_eq name (codes "YUV4MPEG2") then Ok tt else Err BadMagic

-- and that it stands in front
unfoldable pub name_at : List ℕ → Result (⊤ × List ℕ) FormFault
name_at octets = field_at 9 octets >>= λ x. with_rest (name_of x.0) x.1

-- The walk of a stream's head from the left: the name, a line behind it of at most 255 octets, and
-- the format that its parameters say; or the first fault.
unfoldable pub head_walk : List ℕ → Result (Fields × List ℕ) FormFault
head_walk octets =
    name_at octets >>= λ x. line_at 256 x.1 >>= λ y. with_rest (head_at y.0) y.1
