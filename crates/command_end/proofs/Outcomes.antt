-- What several clauses say of one outcome, and lists of devices that were lent and come back.
use Rattle.std.proofs.Common.{◌≡◌, ℕ, ◌+◌, List, [], ◌++◌, length, take, drop}
use Rattle.std.proofs.Common.{append-nil, ◌∙◌, ap, Result, Ok, Err, arith}
use Rattle.std.specs.Prelude.{OnOk}
use Rattle.std.proofs.lemmas.List.{take_all, drop_all}

-- two of an outcome that is no fault
pub on_ok_both : {V E : Type 0} (P Q : Type 0) (r : Result V E) → OnOk r P → OnOk r Q
    → OnOk r (P × Q)
on_ok_both P Q (Ok v) p q = (p, q)
on_ok_both P Q (Err e) p q = tt

-- three of them
pub on_ok_all : {V E : Type 0} (P Q R S : Type 0) (r : Result V E) → OnOk r P → OnOk r Q
    → OnOk r (R × S) → OnOk r (P × Q × R × S)
on_ok_all P Q R S (Ok v) p q rs = (p, q, rs.0, rs.1)
on_ok_all P Q R S (Err e) p q rs = tt

-- what a vector of so many holds behind a loan of all of it
pub vec_back : {A : Type 0} (len : ℕ) (items lent : List A) → len ≡ length items
    → length lent ≡ length items → take len (lent ++ drop (length lent) items) ≡ lent
vec_back len items lent e f =
    let none : drop (length lent) items ≡ [] = drop_all (length lent) items (omega arith) in
    ap (λ (t : List _). take len (lent ++ t)) none
    ∙ ap (λ (t : List _). take len t) (append-nil lent) ∙ take_all len lent (omega arith)
