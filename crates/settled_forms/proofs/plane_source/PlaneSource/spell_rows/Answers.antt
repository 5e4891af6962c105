use Rattle.std.proofs.Common.{◌≡◌, ◌≤◌, ◌+◌, ◌-◌, ◌*◌, ◌∙◌, ℕ, List, length, drop, ap}
use Rattle.std.proofs.Common.{arith, sym}
use Rattle.std.proofs.lemmas.List.{length-drop, length-take-le}
use Rattle.frame_assembly.specs.Settled.{settled_picture}
use Rattle.st_format.specs.declared.format.Format.{Format}
use Rattle.st_format.specs.Picture.{Values}
use Rattle.settled_forms.specs.Pieces.{row_size}
use Rattle.settled_forms.proofs.Groups.{times_le}
use Rattle.settled_forms.proofs.Rows.{row_put, rows_none}
use Rattle.settled_forms.proofs.plane_source.PlaneSource.spell_rows.Goals as goal

pub loop-i-init : goal.loop-i-init
loop-i-init g c =
    let v : Values = settled_picture c.args.self.now.frame.now c.args.self.now.base in
    let none : c.row_octets_of-size.result * 0 ≡ 0 = omega arith in
    rw none (sym (rows_none v c.args.component c.args.first))

pub loop-i-preserved : goal.loop-i-preserved
loop-i-preserved g c =
    let v : Values = settled_picture c.args.self.now.frame.now c.args.self.now.base in
    let size : ℕ = c.row_octets_of-size.result in
    let i : ℕ = c.loop-i.i in
    let octets : List ℕ = c.loop-i.octets in
    let row : List ℕ = c.spell_row.new.octets in
    let same : size ≡ row_size v.format c.args.component =
    c.row_octets_of-size.ensures.value
    ∙ ap (λ (f : Format). row_size f c.args.component) c.format.ensures.format in
    let all : length octets ≡ size * c.args.count =
    c.loop-i.auto.octets ∙ c.requires.octets
    ∙ ap (λ (n : ℕ). n * c.args.count) (sym same) in
    let more : size * (i + 1) ≡ size * i + size = omega arith in
    let most : size * (i + 1) ≤ size * c.args.count =
    times_le size (i + 1) c.args.count (omega arith) in
    let long : length row ≡ size * (i + 1) - size * i =
    c.spell_row.auto.octets
    ∙ length-take-le (size * (i + 1) - size * i) (drop (size * i) octets)
    (omega (arith, all, most, more, length-drop (size * i) octets)) in
    row_put v c.args.component c.args.first i (size * i) (size * (i + 1) - size * i)
    (size * (i + 1)) octets row (omega (arith, long, more)) (omega (arith, all, most, more))
    c.loop-i.invariant c.spell_row.ensures
