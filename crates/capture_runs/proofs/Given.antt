-- Octets that are given again.
use Rattle.std.proofs.Common.{◌≡◌, ◌+◌, ◌-◌, ◌≤◌, ℕ, List, [], ◌++◌, take, drop, sym, ap}
use Rattle.std.proofs.Common.{◌∙◌, append-nil}
use Rattle.std.proofs.lemmas.List.{take-take}
use Rattle.std.proofs.Math.Seq.{take-add}

-- more of the first octets, where nothing came behind them
pub first_more : (first rest piece : List ℕ) (at n : ℕ) → rest ≡ []
    → piece ≡ take n (drop at first)
    → take (at + n) first ++ rest ≡ (take at first ++ rest) ++ piece
first_more first rest piece at n none is =
    ap (λ (l : List ℕ). take (at + n) first ++ l) none ∙ append-nil (take (at + n) first)
    ∙ take-add at n first ∙ ap (λ (l : List ℕ). take at first ++ l) (sym is)
    ∙ ap (λ (l : List ℕ). l ++ piece) (sym (append-nil (take at first))
    ∙ ap (λ (l : List ℕ). take at first ++ l) (sym none))

-- a part of the first octets from one place to another
pub part_is : (first : List ℕ) (at len n : ℕ) → n ≤ len - at
    → take n (take (len - at) (drop at first)) ≡ take n (drop at first)
part_is first at len n few = take-take n (len - at) (drop at first) few
