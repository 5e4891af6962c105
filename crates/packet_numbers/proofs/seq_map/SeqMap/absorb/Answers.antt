use Rattle.std.proofs.Common.{arith}
use Rattle.packet_numbers.specs.Numbers.{Numbers, AreAlike}
use Rattle.packet_numbers.proofs.NumberSets.{absorbed_numbers, absorbed_places}
use Rattle.packet_numbers.proofs.seq_map.SeqMap.absorb.Goals as goal

pub invariant_of-self : goal.invariant_of-self
invariant_of-self g c =
    let m : Numbers = record { first = c.self.inside.first; noted = c.self.inside.noted } in
    let n : Numbers = record { first = c.other.inside.first; noted = c.other.inside.noted } in
    let alike : AreAlike m n = record { first = omega arith; count = omega arith } in
    absorbed_numbers m n c.absorb.new.self c.absorb.ensures c.self.invariant alike

pub returns-clause-numbers : goal.returns-clause-numbers
returns-clause-numbers g c = invariant_of-self g c

pub returns-clause-places : goal.returns-clause-places
returns-clause-places g c =
    let m : Numbers = record { first = c.self.inside.first; noted = c.self.inside.noted } in
    let n : Numbers = record { first = c.other.inside.first; noted = c.other.inside.noted } in
    let alike : AreAlike m n = record { first = omega arith; count = omega arith } in
    absorbed_places m n c.args.self.now c.args.other.now c.absorb.new.self c.absorb.ensures alike
    c.self.view_is c.other.view_is
