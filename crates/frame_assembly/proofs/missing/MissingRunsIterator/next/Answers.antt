use Rattle.std.proofs.Common.{◌+◌, ℕ, List, ◌-◌, ◌∙◌, ap, arith, drop, length, rules}
use Rattle.std.proofs.Common.{sym, take}
use Rattle.std.proofs.lemmas.List.{take_rest}
use Rattle.frame_assembly.proofs.MissingWalk.{none_here, run_here}
use Rattle.frame_assembly.proofs.missing.MissingRunsIterator.next.Goals as goal

pub returns-then-missing-eq0-clause-steps : goal.returns-then-missing-eq0-clause-steps
returns-then-missing-eq0-clause-steps c =
    let marks : List ℕ = c.self.inside.marks.now in
    let k : ℕ = c.stretch-known.result in
    let m : ℕ = c.stretch-missing.result in
    let rest : List ℕ = take (length marks - k) (drop k marks) in
    let last : List ℕ = take (length rest - m) (drop m rest) in
    let none =
    none_here c.self.inside.columns c.self.inside.group ((c.self.inside.group + k) + m) k m marks
    rest last (take_rest marks k) (take_rest rest m) c.stretch-known.ensures
    c.stretch-missing.ensures c.if-missing-eq0.true in
    (sym c.self.view_is ∙ none.0, none.1)

pub returns-clause-steps : goal.returns-clause-steps
returns-clause-steps c =
    let marks : List ℕ = c.self.inside.marks.now in
    let k : ℕ = c.stretch-known.result in
    let m : ℕ = c.stretch-missing.result in
    let rest : List ℕ = take (length marks - k) (drop k marks) in
    let last : List ℕ = take (length rest - m) (drop m rest) in
    let run =
    run_here c.self.inside.columns c.self.inside.group k m marks rest last (take_rest marks k)
    (take_rest rest m) c.stretch-known.ensures c.stretch-missing.ensures
    (omega (arith, c.if-missing-eq0.false)) c.self.invariant.0 in
    (sym c.self.view_is ∙ run.0, run.1)

pub returns-clause-goes : goal.returns-clause-goes
returns-clause-goes c =
    let marks : List ℕ = c.self.inside.marks.now in
    let k : ℕ = c.stretch-known.result in
    let m : ℕ = c.stretch-missing.result in
    let rest : List ℕ = take (length marks - k) (drop k marks) in
    let last : List ℕ = take (length rest - m) (drop m rest) in
    let run =
    run_here c.self.inside.columns c.self.inside.group k m marks rest last (take_rest marks k)
    (take_rest rest m) c.stretch-known.ensures c.stretch-missing.ensures
    (omega (arith, c.if-missing-eq0.false)) c.self.invariant.0 in
    let shorter = ap length (sym c.self.view_is ∙ run.0) in search rules
