use Rattle.std.proofs.Common.{ℕ, ◌+◌, ◌-◌, ◌*◌, ◌/◌, ◌%◌, ◌^◌, ◌∙◌, ap, arith, sym}
use Rattle.settled_forms.proofs.PackedSamples.{ten_at}
use Rattle.settled_forms.proofs.packed.packed_sample.Goals as goal

pub returns : goal.returns
returns c =
    let i : ℕ = c.args.i in
    ap (λ (w : ℕ). w / 2 ^ (6 - i % 4 * 2) % 1024) c.word_at.ensures
    ∙ sym (ten_at c.args.packed.now i (i + i / 4) (i % 4 * 2) (6 - i % 4 * 2)
    (λ j. omega (arith, c.type_inv.packed j)) (omega arith) (omega arith) (omega arith))
