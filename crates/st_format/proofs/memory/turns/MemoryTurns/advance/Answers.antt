use Rattle.std.proofs.Common.{◌≡◌, ◌≤◌, ◌<◌, ◌+◌, ◌-◌, ◌^◌, ℕ, zero, suc, List, [], ◌∷◌, ◌++◌}
use Rattle.std.proofs.Common.{length, map, take, drop, min, vec_len, arith, rules, ap, sym, ◌∙◌}
use Rattle.std.proofs.Common.{subst}
use Rattle.std.proofs.lemmas.List.{at_drop_more, take_at}
use Rattle.std.specs.Prelude.{slice_index_or}
use Rattle.st_format.specs.Memory.{IsTooLong, Turns, due_of}
use Rattle.st_format.specs.Turns.{Comes, Due, came_of}
use Rattle.st_format.specs.declared.path.Path.{Path}
use Rattle.st_format.specs.declared.memory.turns.MemoryTurn.{MemoryTurn}
use Rattle.st_format.specs.declared.memory.turns.MemoryTurn.TheVariants.{Datagram, Quiet}
use Rattle.st_format.proofs.memory.turns.MemoryTurns.advance.Goals as goal

-- the turns that are left, by the next one
next_due : {A : Type 0} (turns : List (MemoryTurn A)) (at : ℕ) (turn next : MemoryTurn A)
    → at < length turns → turn ≡ slice_index_or turns at turn → turn ≡ next
    → map (due_of {A = A}) (drop at turns) ≡ due_of next ∷ map (due_of {A = A}) (drop (at + 1)
    turns)
next_due {A} turns at turn next within here is =
    at_drop_more (map (due_of {A = A})) turns at turn within
    ∙ ap (λ (t : MemoryTurn A). due_of t ∷ map (due_of {A = A}) (drop (at + 1) turns))
    (sym here ∙ is)

-- one turn more
came_more : {A : Type 0} (turns : List (MemoryTurn A)) (at : ℕ) (turn next : MemoryTurn A)
    → at < length turns → turn ≡ slice_index_or turns at turn → turn ≡ next
    → came_of (map (due_of {A = A}) (take (suc at) turns))
    ≡ came_of (map (due_of {A = A}) (take at turns)) ++ came_of (due_of next ∷ [])
came_more [] at turn next within here is = absurd (omega (arith, within))
came_more {A} (t ∷ turns) zero turn next within here is =
    ap (λ (u : MemoryTurn A). came_of (due_of u ∷ [])) (sym here ∙ is)
came_more (Datagram path octets ∷ turns) (suc at) turn next within here is =
    ap (λ (l : List (Path × List ℕ)). (path, octets.items) ∷ l)
    (came_more turns at turn next (omega (arith, within)) here is)
came_more (Quiet ∷ turns) (suc at) turn next within here is =
    came_more turns at turn next (omega (arith, within)) here is

came_next : {A : Type 0} (turns : List (MemoryTurn A)) (at : ℕ) (turn next : MemoryTurn A)
    → at < length turns → turn ≡ slice_index_or turns at turn → turn ≡ next
    → came_of (map (due_of {A = A}) (take (at + 1) turns))
    ≡ came_of (map (due_of {A = A}) (take at turns)) ++ came_of (due_of next ∷ [])
came_next {A} turns at turn next within here is =
    let one : at + 1 ≡ suc at = omega arith in
    ap (λ (k : ℕ). came_of (map (due_of {A = A}) (take k turns))) one
    ∙ came_more turns at turn next within here is

pub index-requires : goal.index-requires
index-requires g c =
    let within : c.self.inside.at ≤ vec_len c.self.inside.turns = c.self.invariant in
    omega (arith, within, c.len.ensures, c.if-self-len.false)

pub invariant_of-self : goal.invariant_of-self
invariant_of-self g c = c.self.invariant

pub invariant_of-self-in-Datagram : goal.invariant_of-self-in-Datagram
invariant_of-self-in-Datagram g c =
    let within : c.self.inside.at ≤ vec_len c.self.inside.turns = c.self.invariant in
    let then : c.self.inside.at + 1 ≤ vec_len c.self.inside.turns =
    omega (arith, within, c.len.ensures, c.if-self-len.false) in
    then

pub returns-then-self-len-clause-delivered : goal.returns-then-self-len-clause-delivered
returns-then-self-len-clause-delivered g c = ap (λ (s : Turns). s.delivered) c.self.view_is

pub returns-then-self-len-clause-failures : goal.returns-then-self-len-clause-failures
returns-then-self-len-clause-failures g c = ap (λ (s : Turns). s.failures) c.self.view_is

pub returns-then-self-len-clause-last : goal.returns-then-self-len-clause-last
returns-then-self-len-clause-last g c = ap (λ (s : Turns). s.last_fault) c.self.view_is

pub returns-then-self-len-clause-fails_in : goal.returns-then-self-len-clause-fails_in
returns-then-self-len-clause-fails_in g c = ap (λ (s : Turns). s.fails_in) c.self.view_is

pub returns-in-Quiet-clause-delivered : goal.returns-in-Quiet-clause-delivered
returns-in-Quiet-clause-delivered g c = ap (λ (s : Turns). s.delivered) c.self.view_is

pub returns-in-Quiet-clause-failures : goal.returns-in-Quiet-clause-failures
returns-in-Quiet-clause-failures g c = ap (λ (s : Turns). s.failures) c.self.view_is

pub returns-in-Quiet-clause-last : goal.returns-in-Quiet-clause-last
returns-in-Quiet-clause-last g c = ap (λ (s : Turns). s.last_fault) c.self.view_is

pub returns-in-Quiet-clause-fails_in : goal.returns-in-Quiet-clause-fails_in
returns-in-Quiet-clause-fails_in g c = ap (λ (s : Turns). s.fails_in) c.self.view_is

pub returns-in-Datagram-clause-failures : goal.returns-in-Datagram-clause-failures
returns-in-Datagram-clause-failures g c = ap (λ (s : Turns). s.failures) c.self.view_is

pub returns-in-Datagram-clause-last : goal.returns-in-Datagram-clause-last
returns-in-Datagram-clause-last g c = ap (λ (s : Turns). s.last_fault) c.self.view_is

pub returns-in-Datagram-clause-fails_in : goal.returns-in-Datagram-clause-fails_in
returns-in-Datagram-clause-fails_in g c = ap (λ (s : Turns). s.fails_in) c.self.view_is

pub returns-in-Datagram-clause-delivered : goal.returns-in-Datagram-clause-delivered
returns-in-Datagram-clause-delivered g c =
    c.saturating_add-self-inside.ensures
    ∙ ap (λ (s : Turns). min (s.delivered + 1) (2 ^ 64 - 1)) c.self.view_is

pub returns-in-Quiet-clause-turn : goal.returns-in-Quiet-clause-turn
returns-in-Quiet-clause-turn g c =
    let within : c.self.inside.at ≤ vec_len c.self.inside.turns = c.self.invariant in
    let before : c.self.inside.at < length c.self.inside.turns.items =
    omega (arith, within, c.len.ensures, c.if-self-len.false) in
    let due =
    sym (ap (λ (s : Turns). s.turns) c.self.view_is)
    ∙ next_due c.self.inside.turns.items c.self.inside.at c.index.result.now Quiet before
    c.index.ensures c.in-Quiet.is in
    due

pub slice_bounds-copy_from_slice-end : goal.slice_bounds-copy_from_slice-end
slice_bounds-copy_from_slice-end g c =
    let within : c.self.inside.at ≤ vec_len c.self.inside.turns = c.self.invariant in
    let before : c.self.inside.at < length c.self.inside.turns.items =
    omega (arith, within, c.len.ensures, c.if-self-len.false) in
    let due =
    sym (ap (λ (s : Turns). s.turns) c.self.view_is)
    ∙ next_due c.self.inside.turns.items c.self.inside.at c.index.result.now (Datagram
    c.in-Datagram.path c.in-Datagram.octets) before
    c.index.ensures c.in-Datagram.is in
    let short : 65535 < length c.in-Datagram.octets.items → ⊥ =
    subst (λ (ds : List Due). IsTooLong ds → ⊥) due c.requires.fits in
    omega (arith, short, c.len-count.ensures, c.requires.room)

pub returns-in-Datagram-clause-within : goal.returns-in-Datagram-clause-within
returns-in-Datagram-clause-within g c =
    let within : c.self.inside.at ≤ vec_len c.self.inside.turns = c.self.invariant in
    let before : c.self.inside.at < length c.self.inside.turns.items =
    omega (arith, within, c.len.ensures, c.if-self-len.false) in
    let due =
    sym (ap (λ (s : Turns). s.turns) c.self.view_is)
    ∙ next_due c.self.inside.turns.items c.self.inside.at c.index.result.now (Datagram
    c.in-Datagram.path c.in-Datagram.octets) before
    c.index.ensures c.in-Datagram.is in
    let short : 65535 < length c.in-Datagram.octets.items → ⊥ =
    subst (λ (ds : List Due). IsTooLong ds → ⊥) due c.requires.fits in
    omega (arith, short, c.len-count.ensures)

pub returns-in-Datagram-clause-turn : goal.returns-in-Datagram-clause-turn
returns-in-Datagram-clause-turn g c =
    let within : c.self.inside.at ≤ vec_len c.self.inside.turns = c.self.invariant in
    let before : c.self.inside.at < length c.self.inside.turns.items =
    omega (arith, within, c.len.ensures, c.if-self-len.false) in
    let due =
    sym (ap (λ (s : Turns). s.turns) c.self.view_is)
    ∙ next_due c.self.inside.turns.items c.self.inside.at c.index.result.now (Datagram
    c.in-Datagram.path c.in-Datagram.octets) before
    c.index.ensures c.in-Datagram.is in
    let copied : c.copy_from_slice.new.self ≡ c.in-Datagram.octets.items = search rules in
    let long : length c.copy_from_slice.new.self ≡ c.len-count.result = search rules in
    due
    ∙ ap (λ (xs : List ℕ). Comes c.in-Datagram.path xs
    ∷ map due_of (drop (c.self.inside.at + 1) c.self.inside.turns.items))
    (sym copied
    ∙ sym (take_at c.copy_from_slice.new.self (drop c.len-count.result c.args.buf.now)
    c.len-count.result long))

pub returns-in-Quiet-clause-came : goal.returns-in-Quiet-clause-came
returns-in-Quiet-clause-came g c =
    let within : c.self.inside.at ≤ vec_len c.self.inside.turns = c.self.invariant in
    let before : c.self.inside.at < length c.self.inside.turns.items =
    omega (arith, within, c.len.ensures, c.if-self-len.false) in
    came_next c.self.inside.turns.items c.self.inside.at c.index.result.now Quiet before
    c.index.ensures c.in-Quiet.is
    ∙ ap (λ (s : Turns). s.came ++ []) c.self.view_is

pub returns-in-Datagram-clause-came : goal.returns-in-Datagram-clause-came
returns-in-Datagram-clause-came g c =
    let within : c.self.inside.at ≤ vec_len c.self.inside.turns = c.self.invariant in
    let before : c.self.inside.at < length c.self.inside.turns.items =
    omega (arith, within, c.len.ensures, c.if-self-len.false) in
    let copied : c.copy_from_slice.new.self ≡ c.in-Datagram.octets.items = search rules in
    let long : length c.copy_from_slice.new.self ≡ c.len-count.result = search rules in
    let given = take_at c.copy_from_slice.new.self (drop c.len-count.result c.args.buf.now)
    c.len-count.result long in
    came_next c.self.inside.turns.items c.self.inside.at c.index.result.now
    (Datagram c.in-Datagram.path c.in-Datagram.octets) before
    c.index.ensures c.in-Datagram.is
    ∙ ap (λ (l : List (Path × List ℕ)). l ++ (c.in-Datagram.path, c.in-Datagram.octets.items) ∷ [])
    (ap (λ (s : Turns). s.came) c.self.view_is)
    ∙ ap (λ (xs : List ℕ). c.args.self.now.came ++ (c.in-Datagram.path, xs) ∷ [])
    (sym copied ∙ sym given)
