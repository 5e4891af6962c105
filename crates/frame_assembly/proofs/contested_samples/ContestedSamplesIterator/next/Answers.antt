use Rattle.std.proofs.Common.{◌+◌, ◌*◌, ◌<◌, ◌≤◌, ℕ, List, ◌-◌, ◌∙◌, ap, arith}
use Rattle.std.proofs.Common.{drop, length, refl, rules, sym, take}
use Rattle.std.proofs.lemmas.List.{take_rest}
use Rattle.frame_assembly.specs.ContestedSamples.{spots_of_marks}
use Rattle.frame_assembly.proofs.Spots.{sample_behind, sample_here, sample_none}
use Rattle.frame_assembly.proofs.contested_samples.ContestedSamplesIterator.next.Goals as goal

pub returns-then-at-self-clause-steps : goal.returns-then-at-self-clause-steps
returns-then-at-self-clause-steps c =
    let a = c.self.inside in
    let given =
    sample_here a.sampling a.first a.size a.mark a.at c.next_set-at.result
    (spots_of_marks a.sampling a.size a.group a.marks.now) c.spot.result c.next_set-at.ensures
    c.if-at-self.true c.spot.ensures.place c.spot.ensures.component in
    (sym c.self.view_is ∙ given.0, given.1)

pub returns-then-at-self-clause-goes : goal.returns-then-at-self-clause-goes
returns-then-at-self-clause-goes c =
    let a = c.self.inside in
    let given =
    sample_here a.sampling a.first a.size a.mark a.at c.next_set-at.result
    (spots_of_marks a.sampling a.size a.group a.marks.now) c.spot.result c.next_set-at.ensures
    c.if-at-self.true c.spot.ensures.place c.spot.ensures.component in
    let shorter = ap length (sym c.self.view_is ∙ given.0) in search rules

pub returns-then-even-marks-clause-steps : goal.returns-then-even-marks-clause-steps
returns-then-even-marks-clause-steps c =
    let a = c.self.inside in
    let none =
    sym c.self.view_is
    ∙ sample_none a.sampling a.first a.size a.mark a.at c.next_set-at.result a.group
    c.even_groups-even.result a.marks.now c.next_set-at.ensures c.if-at-self.false
    c.even_groups-even.ensures c.if-even-marks.true in
    (none, none)

pub returns-clause-steps : goal.returns-clause-steps
returns-clause-steps c =
    let a = c.self.inside in
    let marks : List ℕ = a.marks.now in
    let k : ℕ = c.even_groups-even.result in
    let within : k ≤ length marks = c.even_groups-even.ensures.within in
    let lt : k < length marks = omega (arith, within, c.if-even-marks.false) in
    let last : List ℕ = take (length marks - (k + 1)) (drop (k + 1) marks) in
    let given =
    sample_behind a.sampling a.first a.size a.mark a.at c.next_set-at.result a.group k
    (a.group + (k + 1)) (a.size * (a.group + k)) c.next_set-found.result marks last c.spot-2.result
    c.next_set-at.ensures c.if-at-self.false c.even_groups-even.ensures lt
    c.next_set-found.ensures refl (take_rest marks (k + 1)) (omega arith) c.spot-2.ensures.place
    c.spot-2.ensures.component in
    (sym c.self.view_is ∙ given.0, given.1)

pub returns-clause-goes : goal.returns-clause-goes
returns-clause-goes c =
    let a = c.self.inside in
    let marks : List ℕ = a.marks.now in
    let k : ℕ = c.even_groups-even.result in
    let within : k ≤ length marks = c.even_groups-even.ensures.within in
    let lt : k < length marks = omega (arith, within, c.if-even-marks.false) in
    let last : List ℕ = take (length marks - (k + 1)) (drop (k + 1) marks) in
    let given =
    sample_behind a.sampling a.first a.size a.mark a.at c.next_set-at.result a.group k
    (a.group + (k + 1)) (a.size * (a.group + k)) c.next_set-found.result marks last c.spot-2.result
    c.next_set-at.ensures c.if-at-self.false c.even_groups-even.ensures lt
    c.next_set-found.ensures refl (take_rest marks (k + 1)) (omega arith) c.spot-2.ensures.place
    c.spot-2.ensures.component in
    let shorter = ap length (sym c.self.view_is ∙ given.0) in search rules
