-- A reading from the left, step by step: each step answers a value or the first fault.
use Rattle.std.specs.Prelude.{◌≡◌, Result, Ok, Err}

-- the next step, of the value of the one before, where that gave one
infixl 10 ◌>>=◌
abbrev pub ◌>>=◌ : {E A B : Type 0} → Result A E → (A → Result B E) → Result B E
(Ok x) >>= f = f x
(Err e) >>= f = Err e

-- What a function answered, seen by view, is what a reading gives.
abbrev pub Gives : {E X Y : Type 0} → (X → Y) → Result X E → Result Y E → Type 0
Gives view (Ok x) read = read ≡ Ok (view x)
Gives view (Err e) read = read ≡ Err e
