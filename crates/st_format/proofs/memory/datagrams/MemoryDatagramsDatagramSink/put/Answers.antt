use Rattle.std.proofs.Common.{◌≡◌, ℕ, zero, suc, List, [], ◌∷◌, map, slice_set, slice_index_or}
use Rattle.std.proofs.Common.{refl, ap, ◌∙◌}
use Rattle.st_format.specs.Memory.{Datagrams, capacity_of}
use Rattle.st_format.proofs.memory.datagrams.MemoryDatagramsDatagramSink.put.Goals as goal

-- what an element that is replaced by one of the same f leaves of a list
map_kept : {X : Type 0} (f : X → ℕ) (xs : List X) (i : ℕ) (old new : X)
    → old ≡ slice_index_or xs i old → f new ≡ f old
    → map f (slice_set xs i new) ≡ map f xs
map_kept f [] i old new is same = refl
map_kept f (x ∷ xs) zero old new is same = ap (λ (k : ℕ). k ∷ map f xs) (same ∙ ap f is)
map_kept f (x ∷ xs) (suc i) old new is same =
    ap (λ (ks : List ℕ). f x ∷ ks) (map_kept f xs i old new is same)

pub returns-clause-capacities : goal.returns-clause-capacities
returns-clause-capacities g c =
    map_kept (capacity_of {A =
    g.row.A.Denot}) c.self.inside.slots.items c.self.inside.used c.index_mut.result.now
    c.refill.new.slot c.index_mut.ensures.value c.refill.ensures.room
    ∙ ap (λ (s : Datagrams). s.capacities) c.self.view_is
