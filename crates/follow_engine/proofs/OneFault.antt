-- By the records that files have one fault at most is in its turn.
use Rattle.std.proofs.Common.{◌≡◌, ◌≤◌, ◌∙◌, ℕ, inl, inr, List, [], ◌∷◌, Some, ap, arith, length}
use Rattle.std.proofs.Common.{refl, subst, sym}
use Rattle.media_file.specs.Records.{Entry}
use Rattle.recording_engines.specs.Joining.{IsAtNoFault, Strand}
use Rattle.recording_reader.specs.declared.fault.ReadingFault.{ReadingFault}
use Rattle.side_by_side.specs.InOrder.{first_entry_at, without_at}
use Rattle.side_by_side.specs.Strands.{AllRunning, Goes, GoesNext}
use Rattle.side_by_side.specs.declared.going.Going.{Going}
use Rattle.side_by_side.specs.declared.steering.Steering.{Steering}
use Rattle.side_by_side.proofs.InOrder.{taken_head, taken_rest}
use Rattle.follow_engine.specs.Order.{FirstIsAt, GoesToFault}

-- ---- the first that is at a fault

-- where one is at it, not each goes on
first_stops : (f : ReadingFault) (ss : List Strand) → FirstIsAt f ss → AllRunning ss → ⊥
first_stops f [] at runs = at
first_stops f (s ∷ ss) (inl is) runs = subst (λ (x : Strand). IsAtNoFault x) is runs.0
first_stops f (s ∷ ss) (inr at) runs = first_stops f ss at.1 runs.1

same_some : (f g : ReadingFault) → Some f ≡ Some g → f ≡ g
same_some f g is = cc

one_first : (f g : ReadingFault) (ss : List Strand) → FirstIsAt f ss → FirstIsAt g ss → f ≡ g
one_first f g [] is other = absurd is
one_first f g (s ∷ ss) (inl is) (inl other) =
    same_some f g (sym (ap (λ (x : Strand). x.fault) is) ∙ ap (λ (x : Strand). x.fault) other)
one_first f g (s ∷ ss) (inl is) (inr other) =
    absurd (subst (λ (x : Strand). IsAtNoFault x) is other.0)
one_first f g (s ∷ ss) (inr is) (inl other) =
    absurd (subst (λ (x : Strand). IsAtNoFault x) other is.0)
one_first f g (s ∷ ss) (inr is) (inr other) = one_first f g ss is.1 other.1

-- ---- the record that goes next

same_place : (x y : ℕ × Going) → Some x ≡ Some y → x ≡ y
same_place x y is = cc

same_entry : (x y : Entry) → Some x ≡ Some y → x ≡ y
same_entry x y is = cc

next_place : (st : Steering) (ss left rest : List Strand) (e d : Entry)
    → (next : GoesNext st ss e left) → (other : GoesNext st ss d rest)
    → next.place ≡ other.place
next_place st ss left rest e d next other =
    ap (λ (x : ℕ × Going). x.0)
    (same_place (next.place, next.going) (other.place, other.going) (sym next.first ∙ other.first))

one_next : (st : Steering) (ss left rest : List Strand) (e d : Entry) → GoesNext st ss e left
    → GoesNext st ss d rest → (e ≡ d) × (left ≡ rest)
one_next st ss left rest e d next other =
    let place = next_place st ss left rest e d next other in (
      same_entry e d
          (sym (taken_head next.place ss e left next.takes)
          ∙ ap (λ (k : ℕ). first_entry_at k ss) place
          ∙ taken_head other.place ss d rest other.takes),
      sym (taken_rest next.place ss e left next.takes)
          ∙ ap (λ (k : ℕ). without_at k ss) place
          ∙ taken_rest other.place ss d rest other.takes,
    )

-- ---- up to the fault

-- no more go than those that are before it
pub no_more_go : (st : Steering) (f : ReadingFault) (ss left rest : List Strand)
    (es ds : List Entry) → Goes st ss es left → FirstIsAt f left → Goes st ss ds rest
    → length ds ≤ length es
no_more_go st f ss left rest es [] goes at other = omega arith
no_more_go st f ss left rest [] (d ∷ ds) goes at other =
    absurd (first_stops f ss (subst (λ (l : List Strand). FirstIsAt f l) goes at) other.1.running)
no_more_go st f ss left rest (e ∷ es) (d ∷ ds) goes at other =
    let one = one_next st ss goes.0 other.0 e d goes.1 other.1 in
    omega (
      arith,
      no_more_go st f goes.0 left rest es ds goes.2 at
          (subst (λ (l : List Strand). Goes st l ds rest) (sym one.1) other.2),
    )

cons : {x y : Entry} {xs ys : List Entry} → x ≡ y → xs ≡ ys → x ∷ xs ≡ y ∷ ys
cons one rest = cc

one_goes : (st : Steering) (f g : ReadingFault) (ss left rest : List Strand)
    (es ds : List Entry) → Goes st ss es left → Goes st ss ds rest → FirstIsAt f left
    → FirstIsAt g rest → (f ≡ g) × (es ≡ ds)
one_goes st f g ss left rest [] [] goes other at there = (
  one_first f g ss (subst (λ (l : List Strand). FirstIsAt f l) goes at)
      (subst (λ (l : List Strand). FirstIsAt g l) other there),
  refl,
)
one_goes st f g ss left rest [] (d ∷ ds) goes other at there =
    absurd (first_stops f ss (subst (λ (l : List Strand). FirstIsAt f l) goes at) other.1.running)
one_goes st f g ss left rest (e ∷ es) [] goes other at there =
    absurd (first_stops g ss (subst (λ (l : List Strand). FirstIsAt g l) other there)
    goes.1.running)
one_goes st f g ss left rest (e ∷ es) (d ∷ ds) goes other at there =
    let one = one_next st ss goes.0 other.0 e d goes.1 other.1 in
    let on =
    one_goes st f g goes.0 left rest es ds goes.2
    (subst (λ (l : List Strand). Goes st l ds rest) (sym one.1) other.2) at there in
    (on.0, cons one.0 on.1)

pub one_in_turn : (st : Steering) (strands : List Strand) (entries others : List Entry)
    (f g : ReadingFault) → GoesToFault f st strands entries → GoesToFault g st strands others
    → (f ≡ g) × (entries ≡ others)
one_in_turn st strands entries others f g is other =
    one_goes st f g strands is.left other.left entries others is.goes other.goes is.at other.at
