use Rattle.std.proofs.Common.{◌≡◌, ℕ, ◌+◌, ◌≤◌, ◌++◌, [], Bool, true, false, cond, eqb, List, length}
use Rattle.std.proofs.Common.{take, drop, arith, subst, sym, ap, ◌∙◌, append-nil}
use Rattle.std.proofs.lemmas.List.{length-take, take-take}
use Rattle.std.proofs.Math.Seq.{take-add}
use Rattle.st_format.specs.Memory.{Source}
use Rattle.st_format.proofs.memory.source.MemorySourceByteSource.pass.Goals as goal

-- what is passed stands behind what was given
passed : (tells : Bool) (at count piece : ℕ) (items : List ℕ)
    → count ≤ length (cond tells (take piece (drop at items)) [])
    → take (at + count) items
    ≡ take at items ++ take count (cond tells (take piece (drop at items)) [])
passed true at count piece items le =
    let few : count ≤ piece = omega (arith, le, length-take piece (drop at items)) in
    take-add at count items
    ∙ ap (λ (t : List ℕ). take at items ++ t) (sym (take-take count piece (drop at items) few))
passed false at count piece items le =
    let none : at + count ≡ at = omega (arith, le) in
    let zero : count ≡ 0 = omega (arith, le) in
    ap (λ (k : ℕ). take k items) none ∙ sym (append-nil (take at items))
    ∙ ap (λ (k : ℕ). take at items ++ take k []) (sym zero)

pub returns-clause-gave : goal.returns-clause-gave
returns-clause-gave g c = λ t.
    let a = c.self.inside in
    let hand : Source → List ℕ = λ v. cond (eqb v.fails_in 0) (take v.piece v.to_give) [] in
    let few : c.args.count ≤ length (cond (eqb a.fails_in 0) (take a.piece (drop a.at a.octets.items)) []) =
    subst (λ (k : ℕ). c.args.count ≤ k)
    (ap (λ (x : List ℕ). length x) (c.at_hand.ensures ∙ sym (ap hand c.self.view_is)))
    c.if-count-at_hand.false in
    subst (λ (v : Source). take (a.at + c.args.count) a.octets.items
    ≡ v.gave ++ take c.args.count (cond (eqb v.fails_in 0) (take v.piece v.to_give) []))
    c.self.view_is
    (passed (eqb a.fails_in 0) a.at c.args.count a.piece a.octets.items few)
