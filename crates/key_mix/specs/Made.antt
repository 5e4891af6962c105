-- A job's picture by the numbers of its samples, for one that is made as it is sent (own).
use Rattle.std.specs.Prelude.{◌≡◌, ℕ, map}
use Rattle.std.specs.List.{range_with_len}
use Rattle.st_format.specs.declared.format.Format.{Format}
use Rattle.st_format.specs.declared.sampling.Sampling.TheVariants.{Rgb, Ycc444}
use Rattle.st_format.specs.Pgroup.{bits_of}
use Rattle.st_format.specs.Picture.{IsPicture, Values}
use Rattle.st_format.specs.Position.{sample_count}
use Rattle.frame_assembly.specs.Settled.{settled_picture}
use Rattle.bt709_fixed.specs.Operations.{IsResampled, matrixed_at}
use Rattle.key_mix.specs.Rows.{keyed_at}
use Rattle.key_mix.specs.Sending.{HasBase}
use Rattle.key_mix.specs.declared.making.Making.{Making}
use Rattle.key_mix.specs.declared.making.Making.TheVariants.{Keyed, Matrixed}
use Rattle.key_mix.specs.declared.sending.JobInput.{JobInput}

-- an input's settled picture
abbrev pub settled : {A : Type 0} → JobInput A → Values
settled i = settled_picture i.frame.now i.base

-- sample number k of two inputs that are keyed by a third, all of one format
abbrev pub keyed_number : {A : Type 0} → JobInput A → JobInput A → JobInput A → ℕ → ℕ
keyed_number a b by k =
    keyed_at a.frame.now.format a.frame.now.format (settled a).samples (settled b).samples
    (settled by).samples k

-- sample number k of Y, Cb and Cr of an input
abbrev pub matrixed_number : {A : Type 0} → JobInput A → ℕ → ℕ
matrixed_number rgb k = matrixed_at (bits_of rgb.frame.now.format.depth) (settled rgb).samples k

-- sample number k of what is made
abbrev pub made_number : {A : Type 0} → Making A → ℕ → ℕ
made_number (Keyed a b by) k = keyed_number a.input b.input by.input k
made_number (Matrixed rgb) k = matrixed_number rgb.input k

-- the picture that is made, of this format: its samples in raster order
abbrev pub made_picture : {A : Type 0} → Format → Making A → Values
made_picture f m =
    record { format = f; samples = map (made_number m) (range_with_len 0 (sample_count f)) }

-- three inputs of a format, each with a base
pub record AreMadeOf {A : Type 0} (f : Format) (a b by : JobInput A) : Type 0 where
  pub base_of_a : HasBase a
  pub base_of_b : HasBase b
  pub base_of_by : HasBase by
  pub format_of_a : a.frame.now.format ≡ f
  pub format_of_b : b.frame.now.format ≡ f
  pub format_of_by : by.frame.now.format ≡ f

-- an input of R, G and B, of a format but for the sampling
pub record IsMatrixedOf {A : Type 0} (f : Format) (rgb : JobInput A) : Type 0 where
  pub base : HasBase rgb
  pub is_rgb : rgb.frame.now.format.sampling ≡ Rgb
  pub format : IsResampled f rgb.frame.now.format Ycc444
  pub picture : IsPicture (settled rgb)

-- inputs of which a picture of the format is made
abbrev pub AreInputs : {A : Type 0} → Format → Making A → Type 0
AreInputs f (Keyed a b by) = AreMadeOf f a.input b.input by.input
AreInputs f (Matrixed rgb) = IsMatrixedOf f rgb.input

-- What is made is a picture
pub record IsMade {A : Type 0} (f : Format) (m : Making A) : Type 0 where
  pub inputs : AreInputs f m
  pub whole : IsPicture (made_picture f m)
