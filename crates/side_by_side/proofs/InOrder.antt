-- The records that went of files are told by how far these are.
use Rattle.std.proofs.Common.{◌≡◌, ℕ, zero, suc, ◌+◌, ◌-◌, List, [], ◌∷◌, Option, Some, refl, sym, ap}
use Rattle.std.proofs.Common.{◌∙◌, arith, length}
use Rattle.media_file.specs.Records.{Entry}
use Rattle.recording_engines.specs.Joining.{Strand}
use Rattle.recording_engines.specs.Steps.{Standing, lefts, wholes}
use Rattle.side_by_side.specs.InOrder.{before_rest, first_entry, first_entry_at, first_in_order}
use Rattle.side_by_side.specs.InOrder.{gone_of}
use Rattle.side_by_side.specs.InOrder.{next_first, record_count, tail_of, without_at}
use Rattle.side_by_side.specs.Steps.{HasGone}
use Rattle.side_by_side.specs.Strands.{Goes, TakesAt}
use Rattle.side_by_side.specs.declared.going.Going.{Going}
use Rattle.side_by_side.specs.declared.steering.Steering.{Steering}

-- ---- a record that is taken

pub taken_head : (k : ℕ) (strands : List Strand) (e : Entry) (left : List Strand)
    → TakesAt k strands e left → first_entry_at k strands ≡ Some e
taken_head k [] e left takes = absurd takes
taken_head k (s ∷ ss) e [] takes = absurd takes
taken_head zero (s ∷ ss) e (l ∷ ls) takes = ap (λ (x : Strand). first_entry x.entries) takes.0
taken_head (suc k) (s ∷ ss) e (l ∷ ls) takes = taken_head k ss e ls takes.1

cons : {x y : Strand} {xs ys : List Strand} → x ≡ y → xs ≡ ys → x ∷ xs ≡ y ∷ ys
cons one rest = cc

-- what is left of the file itself
tail_left : (s l : Strand) (e : Entry) → s ≡ record { entries = e ∷ l.entries; fault = l.fault }
    → (let t : Strand = record { entries = tail_of s.entries; fault = s.fault } in t) ≡ l
tail_left s l e is =
    ap (λ (x : Strand). (let t : Strand = record { entries = tail_of x.entries; fault = x.fault } in t))
    is

pub taken_rest : (k : ℕ) (strands : List Strand) (e : Entry) (left : List Strand)
    → TakesAt k strands e left → without_at k strands ≡ left
taken_rest k [] e left takes = absurd takes
taken_rest k (s ∷ ss) e [] takes = absurd takes
taken_rest zero (s ∷ ss) e (l ∷ ls) takes = cons (tail_left s l e takes.0) (sym takes.1)
taken_rest (suc k) (s ∷ ss) e (l ∷ ls) takes = cons (sym takes.0) (taken_rest k ss e ls takes.1)

taken_count : (k : ℕ) (strands : List Strand) (e : Entry) (left : List Strand)
    → TakesAt k strands e left → record_count strands ≡ suc (record_count left)
taken_count k [] e left takes = absurd takes
taken_count k (s ∷ ss) e [] takes = absurd takes
taken_count zero (s ∷ ss) e (l ∷ ls) takes =
    let one : length s.entries ≡ suc (length l.entries) =
    ap (λ (x : Strand). length x.entries) takes.0 in
    let rest : record_count ls ≡ record_count ss = ap record_count takes.1 in
    omega (arith, one, rest)
taken_count (suc k) (s ∷ ss) e (l ∷ ls) takes =
    let one : length l.entries ≡ length s.entries =
    ap (λ (x : Strand). length x.entries) takes.0 in
    let rest = taken_count k ss e ls takes.1 in
    omega (arith, one, rest)

-- ---- records that went

goes_count : (st : Steering) (strands : List Strand) (es : List Entry) (left : List Strand)
    → Goes st strands es left → record_count strands ≡ length es + record_count left
goes_count st strands [] left goes =
    let same : record_count left ≡ record_count strands = ap record_count goes in
    omega (arith, same)
goes_count st strands (e ∷ es) left goes =
    let one = taken_count goes.1.place strands e goes.0 goes.1.takes in
    let rest = goes_count st goes.0 es left goes.2 in
    let more : length (e ∷ es) ≡ suc (length es) = refl in
    omega (arith, one, rest, more)

goes_first : (st : Steering) (strands : List Strand) (es : List Entry) (left : List Strand)
    → Goes st strands es left → first_in_order (length es) st strands ≡ es
unfolding first_in_order
goes_first st strands [] left goes = refl
goes_first st strands (e ∷ es) left goes =
    let k : ℕ = goes.1.place in
    let rest = goes_first st goes.0 es left goes.2 in
    let behind = first_in_order (length es) st in
    ap (λ (x : Option (ℕ × Going)). next_first x strands behind) goes.1.first
    ∙ ap (λ (x : Option Entry). before_rest x (behind (without_at k strands)))
    (taken_head k strands e goes.0 goes.1.takes)
    ∙ ap (λ (l : List Strand). e ∷ behind l) (taken_rest k strands e goes.0 goes.1.takes)
    ∙ ap (λ (l : List Entry). e ∷ l) rest

pub gone_is : (st : Steering) (ss : List Standing) (es : List Entry) → HasGone st ss es
    → gone_of st ss ≡ es
unfolding gone_of
gone_is st ss es gone =
    let goes = gone.goes [] in
    let count = goes_count st (wholes ss []) es (lefts ss []) goes in
    let many : record_count (wholes ss []) - record_count (lefts ss []) ≡ length es =
    omega (arith, count) in
    ap (λ (n : ℕ). first_in_order n st (wholes ss [])) many
    ∙ goes_first st (wholes ss []) es (lefts ss []) goes
