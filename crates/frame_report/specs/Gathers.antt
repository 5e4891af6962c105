-- Text that goes to a sink by way of a page (own).
use Rattle.std.specs.Prelude.{◌≡◌, ℕ, List, ◌++◌, Option}
use Rattle.std.specs.Fmt.{decimal}
use Rattle.std.specs.Io.KnownBytes.{Appends}
use Rattle.st_format.specs.Device.{AppendsPrefix, GrowsPart}

-- What a sink told at some moment: what it took so far, and what it holds, if it tells that.
pub record SinkTold : Type 0 where
  pub took : List ℕ
  pub held : Option (List ℕ)

-- of a sink, by what tells the one and the other of it
abbrev pub told_of : {K : Type 0} → (K → List ℕ) → (K → Option (List ℕ)) → K → SinkTold
told_of took held sink = record { took = took sink; held = held sink }

-- a text came behind what a sink took, and behind what it holds
pub record TakesText (old new : SinkTold) (text : List ℕ) : Type 0 where
  pub took : new.took ≡ old.took ++ text
  pub held : Appends old.held new.held text

-- some first part of a text came there, and not all
pub record TakesPart (old new : SinkTold) (text : List ℕ) : Type 0 where
  pub took : GrowsPart old.took new.took text
  pub held : AppendsPrefix old.held new.held text

-- Text was put behind what a page held: the sink took a first part of both, and the page then holds
-- the rest.
pub record Gathers (old new : SinkTold) (page page' text : List ℕ) : Type 0 where
  pub first : List ℕ
  pub taken : TakesText old new first
  pub whole : page ++ text ≡ first ++ page'

-- a word, and a number in decimal digits
abbrev pub numbered_word : List ℕ → ℕ → List ℕ
numbered_word word number = word ++ decimal number
