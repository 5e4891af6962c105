-- The frames of a YUV4MPEG2 stream, read.
use Rattle.std.specs.Prelude.{◌≡◌, ℕ, ◌+◌, ◌*◌, ◌^◌, nat_lt, if◌then◌else◌, Bool, true, false}
use Rattle.std.specs.Prelude.{List, []}
use Rattle.std.specs.Prelude.{◌∷◌, codes, ⊤, Option, None, Some, Result, Ok, Err}
use Rattle.std.specs.Io.KnownBytes.{Consumes, IsAtEnd}
use Rattle.std.specs.List.{list_all}
use Rattle.std.specs.Str.{bytes_eq}
use Rattle.st_format.specs.declared.format.Format.{Format}
use Rattle.st_format.specs.Given.{GaveValue, Takes, with_rest}
use Rattle.st_format.specs.Pgroup.{bits_of}
use Rattle.st_format.specs.Picture.{IsPicture, Values}
use Rattle.st_format.specs.Reading.{◌>>=◌}
use Rattle.picture_forms.specs.declared.fault.FormFault.{FormFault}
use Rattle.picture_forms.specs.declared.fault.FormFault.TheVariants.{BadHeader, ValueTooLarge}
use Rattle.picture_forms.specs.declared.planes.Spelling.{Spelling}
use Rattle.picture_forms.specs.declared.planes.Spelling.TheVariants.{One, Little, Big}
use Rattle.picture_forms.specs.Layouts.{plane_count, planes_text, y4m_spelling}
use Rattle.picture_forms.specs.Planes.{sample_size}
use Rattle.picture_forms.specs.Walks.{Ends, Gives, Reads, field_at, line_at}

-- the values that octets spell, one after another
abbrev pub spelled_values : Spelling → List ℕ → List ℕ
spelled_values One octets = octets
spelled_values Little [] = []
spelled_values Little (a ∷ []) = []
spelled_values Little (a ∷ b ∷ octets) = (a + b * 256) ∷ spelled_values Little octets
spelled_values Big [] = []
spelled_values Big (a ∷ []) = []
spelled_values Big (a ∷ b ∷ octets) = (a * 256 + b) ∷ spelled_values Big octets

-- octets that spell values of so many bits, or the refusal
unfoldable pub fitting : Spelling → ℕ → List ℕ → Result (List ℕ) FormFault
fitting s bits octets =
    if list_all (λ value. nat_lt value (2 ^ bits)) (spelled_values s octets)
    then Ok octets else Err ValueTooLarge

-- how many octets the planes of a picture take
abbrev pub planes_size : Format → ℕ
planes_size f =
    sample_size (y4m_spelling f.depth) * plane_count f 0
    + (sample_size (y4m_spelling f.depth) * plane_count f 1
    + sample_size (y4m_spelling f.depth) * plane_count f 2)

-- the octets of the planes of a picture, each value of which fits the depth
unfoldable pub planes_at : Format → List ℕ → Result (List ℕ × List ℕ) FormFault
planes_at f octets =
    field_at (planes_size f) octets
    >>= λ x. with_rest (fitting (y4m_spelling f.depth) (bits_of f.depth) x.0) x.1

-- whether parameters stand in the line of a frame, by its first six octets
unfoldable pub frame_mark : List ℕ → Result Bool FormFault
frame_mark head =
    if bytes_eq head (codes "FRAME\n") then Ok false else
    (if bytes_eq head (codes "FRAME ") then Ok true else Err BadHeader)

-- parameters, which say nothing, up to the line's end
abbrev pub parameters_at : Bool → List ℕ → Result (⊤ × List ℕ) FormFault
parameters_at false octets = Ok (tt, octets)
parameters_at true octets = line_at 256 octets >>= λ x. Ok (tt, x.1)

-- the line of a frame: `FRAME`, parameters, which say nothing, and LF
unfoldable pub frame_line_at : List ℕ → Result (⊤ × List ℕ) FormFault
frame_line_at octets =
    field_at 6 octets >>= λ x. frame_mark x.0 >>= λ more. parameters_at more x.1

-- The walk of a frame from the left: the octets of its planes, or the first fault.
unfoldable pub frame_walk : Format → List ℕ → Result (List ℕ × List ℕ) FormFault
frame_walk f octets = frame_line_at octets >>= λ x. planes_at f x.1

-- What a source gave where a picture was read: a frame of this picture, of this format, or it was
-- at its end.
abbrev pub TakesFrame : Format → Option (List ℕ) → Option (List ℕ) → Option Values → Type 0
TakesFrame f old new None = Consumes old new [] × IsAtEnd new
TakesFrame f old new (Some p) =
    (p.format ≡ f) × (IsPicture p × Takes (frame_walk f) old new (planes_text p))

-- the same of what it gave so far
abbrev pub GaveFrame : Format → List ℕ → List ℕ → Type 0 → Option Values → Type 0
GaveFrame f before now ended None = (now ≡ before) × ended
GaveFrame f before now ended (Some p) = GaveValue (frame_walk f) before now (planes_text p)

-- the line of a frame was read, or the source was at its end
abbrev pub ReadsLine : Option (List ℕ) → Option (List ℕ) → List ℕ → List ℕ → Type 0 → Bool
    → Type 0
ReadsLine was left before now ended true = Reads frame_line_at was left before now tt
ReadsLine was left before now ended false = Ends was left before now ended

-- a frame of these samples was read, or the source was at its end
abbrev pub ReadsFrame : Format → Option (List ℕ) → Option (List ℕ) → List ℕ → List ℕ → Type 0
    → List ℕ → Bool → Type 0
ReadsFrame f was left before now ended samples true =
    IsPicture (record { format = f; samples = samples })
    × Reads (frame_walk f) was left before now
    (planes_text (record { format = f; samples = samples }))
ReadsFrame f was left before now ended samples false = Ends was left before now ended

-- octets were read, or the source was at its end
abbrev pub ReadsStart : Option (List ℕ) → Option (List ℕ) → List ℕ → List ℕ → Type 0 → List ℕ
    → Bool → Type 0
ReadsStart was left before now ended octets true = Gives was left before now octets
ReadsStart was left before now ended octets false = Ends was left before now ended
