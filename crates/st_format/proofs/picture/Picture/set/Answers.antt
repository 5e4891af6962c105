use Rattle.std.proofs.Common.{ℕ, subst, sym}
use Rattle.std.proofs.Math.ListN.{set}
use Rattle.st_format.specs.Picture.{Values, SetsOne}
use Rattle.st_format.specs.Position.{Position, IsPosition}
use Rattle.st_format.proofs.PictureLemmas.{sets_one, values}
use Rattle.st_format.proofs.picture.Picture.set.Goals as goal

pub returns-clause-one : goal.returns-clause-one
returns-clause-one g c =
    let q : Position =
    record { row = c.args.row; column = c.args.column; component = c.args.component } in
    let f = c.self.inside.format in
    let old : Values = values f c.self.inside.samples.items in
    let v = c.args.value in
    let at : IsPosition q f =
    subst (λ (p : Values). IsPosition q p.format) (sym c.self.view_is) c.requires.place in
    subst (λ (p : Values). SetsOne p
    (values f (set old.samples c.sample_number-number.result v)) q v) c.self.view_is
    (subst (λ (k : ℕ). SetsOne old (values f (set old.samples k v)) q v)
    (sym c.sample_number-number.ensures.value) (sets_one old q v c.self.invariant at))
