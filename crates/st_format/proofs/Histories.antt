-- Histories that grow.
use Rattle.std.proofs.Common.{◌≡◌, ℕ, List, [], ◌++◌, length, drop, append_assoc, append-nil}
use Rattle.std.proofs.Common.{refl, sym, ap, ◌∙◌}
use Rattle.std.proofs.lemmas.List.{drop_at}
use Rattle.st_format.specs.History.{since, GrewFrom}

-- what a history has behind what it had before
pub since_is : (before now octets : List ℕ) → now ≡ before ++ octets → since before now ≡ octets
since_is before now octets is =
    ap (λ (l : List ℕ). drop (length before) l) is ∙ drop_at before octets (length before) refl

pub grew_by : (before now octets : List ℕ) → now ≡ before ++ octets → GrewFrom before now
grew_by before now octets is =
    is ∙ ap (λ (l : List ℕ). before ++ l) (sym (since_is before now octets is))

-- more behind it
more_is : (before now new piece : List ℕ) → GrewFrom before now → new ≡ now ++ piece
    → new ≡ before ++ (since before now ++ piece)
more_is before now new piece grew more =
    more ∙ ap (λ (l : List ℕ). l ++ piece) grew ∙ append_assoc before (since before now) piece

pub since_more : (before now new piece : List ℕ) → GrewFrom before now → new ≡ now ++ piece
    → since before new ≡ since before now ++ piece
since_more before now new piece grew more =
    since_is before new (since before now ++ piece) (more_is before now new piece grew more)

pub grew_more : (before now new piece : List ℕ) → GrewFrom before now → new ≡ now ++ piece
    → GrewFrom before new
grew_more before now new piece grew more =
    grew_by before new (since before now ++ piece) (more_is before now new piece grew more)

-- nothing yet
pub since_none : (now : List ℕ) → since now now ≡ []
since_none now = since_is now now [] (sym (append-nil now))

pub grew_none : (now : List ℕ) → GrewFrom now now
grew_none now = grew_by now now [] (sym (append-nil now))
