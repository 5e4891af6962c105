use Rattle.std.proofs.Common.{rules, arith, ◌≡◌, ◌+◌, ◌++◌, List, ℕ, length, take, drop, ap, sym}
use Rattle.std.proofs.Common.{◌∙◌, subst}
use Rattle.std.specs.List.{slice_range}
use Rattle.std.proofs.lemmas.List.{take_at}
use Rattle.std.proofs.Math.Seq.{take-add}
use Rattle.std.proofs.lemmas.List.Folds.{drop_split}
use Rattle.st_format.specs.Device.{AreOctets}
use Rattle.st_format.specs.Memory.{Source}
use Rattle.st_format.proofs.Octets.{AreOctets-drop}
use Rattle.st_format.proofs.memory.source.MemorySourceByteSource.read.Goals as goal

pub returns-clause-given : goal.returns-clause-given
returns-clause-given g c =
    let items = c.self.inside.octets.items in
    let at = c.self.inside.at in
    let n = c.min-n.result in
    let copied : c.copy_from_slice.new.self ≡ slice_range items at (at + n) = search rules in
    let long : length c.copy_from_slice.new.self ≡ n = search rules in
    sym (ap (λ (s : Source). s.to_give) c.self.view_is)
    ∙ drop_split items at (at + n) (omega arith)
    ∙ ap (λ (xs : List ℕ). xs ++ drop (at + n) items)
    (sym copied ∙ sym (take_at c.copy_from_slice.new.self (drop n c.args.buf.now) n long))

pub returns-then-fails-clause-octets : goal.returns-then-fails-clause-octets
returns-then-fails-clause-octets g c =
    subst (λ (s : Source). AreOctets s.to_give) c.self.view_is
    (AreOctets-drop c.self.inside.at _ (rw c.deref.ensures.value at c.are_octets.ensures.each))

pub returns-clause-octets : goal.returns-clause-octets
returns-clause-octets g c =
    subst (λ (s : Source). AreOctets s.to_give) c.self.view_is
    (AreOctets-drop c.self.inside.at _ (rw c.deref.ensures.value at c.are_octets.ensures.each))

pub returns-clause-gave : goal.returns-clause-gave
returns-clause-gave g c =
    let items = c.self.inside.octets.items in
    let at = c.self.inside.at in
    let n = c.min-n.result in
    let piece = c.copy_from_slice.new.self in
    let copied : piece ≡ slice_range items at (at + n) = search rules in
    let long : length piece ≡ n = search rules in
    let given = take_at piece (drop n c.args.buf.now) n long in
    let part : take n (drop at items) ≡ piece =
    ap (λ (l : List ℕ). take n l) (drop_split items at (at + n) (omega arith))
    ∙ take_at (slice_range items at (at + n)) (drop (at + n) items) n
    (sym (ap (λ (l : List ℕ). length l) copied) ∙ long)
    ∙ sym copied in
    take-add at n items
    ∙ ap (λ (l : List ℕ). take at items ++ l) (part ∙ sym given)
    ∙ ap (λ (s : Source). s.gave ++ take n (piece ++ drop n c.args.buf.now)) c.self.view_is
