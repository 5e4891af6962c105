-- What writing does to a sink of octets.
use Rattle.std.specs.Prelude.{◌≡◌, ℕ, List, ◌++◌, Option}
use Rattle.std.specs.Io.KnownBytes.{Appends}
use Rattle.st_format.specs.Device.{AppendsPrefix, GrowsPart}

-- A sink took this text: it holds it behind what it held, `was` before and `is` after, where it
-- tells that; and so does all that it took so far, `old` before and `new` after.
pub record Writes (was is : Option (List ℕ)) (old new text : List ℕ) : Type 0 where
  pub held : Appends was is text
  pub took : new ≡ old ++ text

-- a sink took some first part of this text, and not all
pub record WritesPart (was is : Option (List ℕ)) (old new text : List ℕ) : Type 0 where
  pub held : AppendsPrefix was is text
  pub took : GrowsPart old new text
