use Rattle.std.proofs.Common.{◌≡◌, ℕ, ◌+◌, ◌*◌, length, sym, ap, ◌∙◌, arith}
use Rattle.st_format.specs.Pgroup.{bits_of, pixel_group}
use Rattle.frame_assembly.specs.Settled.{base_number}
use Rattle.frame_assembly.proofs.PackedLemmas.{groups_agree, sizes}
use Rattle.frame_assembly.proofs.SettleSteps.{all_settled, same_base}
use Rattle.frame_assembly.proofs.settling.read_settled.Goals as goal

pub returns-clause-settled : goal.returns-clause-settled
returns-clause-settled g c =
    let f = c.args.format.now in
    let s : ℕ = (pixel_group f.sampling f.depth).samples in
    all_settled f c.args.marks.now c.args.octets.now c.unpack.new.samples
    c.settle_over.new.samples (base_number f.sampling c.args.base)
    c.requires.packed c.unpack.ensures.values
    (same_base s (length c.args.marks.now) c.args.marks.now
    (λ (k : ℕ). base_number f.sampling c.args.base (s * 0 + k))
    (base_number f.sampling c.args.base) c.unpack.new.samples c.settle_over.new.samples
    (λ k. let front : s * 0 + k ≡ k = omega arith in
    ap (base_number f.sampling c.args.base) front) c.settle_over.ensures.settled)

pub unpack-requires : goal.unpack-requires
unpack-requires g c =
    ap (λ (k : ℕ). 8 * k) c.requires.packed.long
    ∙ groups_agree _ _ _ (length c.args.marks.now)
    (sizes c.args.format.now.sampling c.args.format.now.depth)
    ∙ ap (λ (k : ℕ). bits_of c.args.format.now.depth * k) (sym c.requires.samples)

pub settle_over-requires-clause-groups : goal.settle_over-requires-clause-groups
settle_over-requires-clause-groups g c =
    omega (arith, c.requires.groups)

pub settle_over-requires-clause-base : goal.settle_over-requires-clause-base
settle_over-requires-clause-base g c =
    c.requires.base

pub settle_over-requires-clause-samples : goal.settle_over-requires-clause-samples
settle_over-requires-clause-samples g c =
    c.unpack.auto.samples ∙ c.requires.samples

pub returns-clause-held : goal.returns-clause-held
returns-clause-held g c =
    c.settle_over.ensures.held
