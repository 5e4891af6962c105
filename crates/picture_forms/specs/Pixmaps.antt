-- Portable pixmaps, read: `P6`, three numbers (Netpbm, ppm), and behind the last of these the
-- samples.
use Rattle.std.specs.Prelude.{◌≡◌, ℕ, ◌-◌, ◌*◌, ◌^◌, ◌==◌, if◌then◌else◌, List, ◌++◌, codes, ⊤}
use Rattle.std.specs.Prelude.{Result, Ok, Err}
use Rattle.std.specs.Str.{bytes_eq}
use Rattle.st_format.specs.declared.format.Format.{Format}
use Rattle.st_format.specs.declared.sampling.Sampling.TheVariants.{Rgb}
use Rattle.st_format.specs.declared.sampling.Depth.{Depth}
use Rattle.st_format.specs.declared.sampling.Depth.TheVariants.{D8, D10, D12, D16}
use Rattle.st_format.specs.Fields.{Fields, format_at}
use Rattle.st_format.specs.Given.{with_rest}
use Rattle.st_format.specs.Pgroup.{bits_of}
use Rattle.st_format.specs.Position.{sample_count}
use Rattle.st_format.specs.Reading.{◌>>=◌}
use Rattle.picture_forms.specs.declared.fault.FormFault.{FormFault}
use Rattle.picture_forms.specs.declared.fault.FormFault.TheVariants.{BadMagic, UnsupportedForm}
use Rattle.picture_forms.specs.declared.number_part.Stage.TheVariants.{Front, Gap}
use Rattle.picture_forms.specs.Frames.{fitting}
use Rattle.picture_forms.specs.Heads.{limited}
use Rattle.picture_forms.specs.Layouts.{pixmap_spelling}
use Rattle.picture_forms.specs.Numbers.{IsPixmapNumber, count_at}
use Rattle.picture_forms.specs.Planes.{sample_size}
use Rattle.picture_forms.specs.Walks.{field_at}

-- Octets are the head of a pixmap of this format, where the rate is n / d: `P6` and the numbers of
-- width, height and the greatest value. Behind it the samples begin.
pub record IsPixmapHead (n d : ℕ) (head : List ℕ) (f : Fields) : Type 0 where
  pub width : ℕ
  pub height : ℕ
  pub depth : Depth
  pub width_text : List ℕ
  pub height_text : List ℕ
  pub most_text : List ℕ
  pub parts : head ≡ codes "P6" ++ (width_text ++ (height_text ++ most_text))
  pub is_width : IsPixmapNumber Front width_text width
  pub is_height : IsPixmapNumber Gap height_text height
  pub is_most : IsPixmapNumber Gap most_text (2 ^ bits_of depth - 1)
  pub format : format_at Rgb depth width height n d ≡ Ok f

-- octets begin with such a head, and this is behind it
pub record HasPixmapHead (n d : ℕ) (octets rest : List ℕ) (f : Fields) : Type 0 where
  pub head : List ℕ
  pub is : IsPixmapHead n d head f
  pub whole : octets ≡ head ++ rest

-- the first two octets
abbrev pub magic_of : List ℕ → Result ⊤ FormFault
magic_of name = if bytes_eq name (codes "P6") then Ok tt else Err BadMagic

-- the first two octets of a pixmap, and what is behind them
unfoldable pub magic_at : List ℕ → Result (⊤ × List ℕ) FormFault
magic_at octets = field_at 2 octets >>= λ x. with_rest (magic_of x.0) x.1

-- the depth whose greatest value this is
abbrev pub depth_by : ℕ → Result Depth FormFault
depth_by most =
    if most == 255 then Ok D8 else
    (if most == 1023 then Ok D10 else
    (if most == 4095 then Ok D12 else
    (if most == 65535 then Ok D16 else Err UnsupportedForm)))

-- the format of three numbers and a rate of n / d pictures a second
unfoldable pub pixmap_format : ℕ → ℕ → ℕ → ℕ → ℕ → Result Fields FormFault
pixmap_format n d width height most =
    depth_by most >>= λ b. limited (format_at Rgb b width height n d)

-- The walk of a pixmap's head from the left, of a rate that it does not say; or the first fault.
unfoldable pub pixmap_head_walk : ℕ → ℕ → List ℕ → Result (Fields × List ℕ) FormFault
pixmap_head_walk n d octets =
    magic_at octets >>= λ x. count_at Front x.1 >>= λ w. count_at Gap w.1 >>= λ h.
    count_at Gap h.1 >>= λ m. with_rest (pixmap_format n d w.0 h.0 m.0) m.1

-- how many octets the samples of a pixmap take
abbrev pub pixels_size : Format → ℕ
pixels_size f = sample_size (pixmap_spelling f.depth) * sample_count f

-- The walk of a pixmap's samples from the left: their octets, or the first fault.
unfoldable pub pixels_walk : Format → List ℕ → Result (List ℕ × List ℕ) FormFault
pixels_walk f octets =
    field_at (pixels_size f) octets
    >>= λ x. with_rest (fitting (pixmap_spelling f.depth) (bits_of f.depth) x.0) x.1
