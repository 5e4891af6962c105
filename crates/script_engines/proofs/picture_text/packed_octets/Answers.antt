use Rattle.std.proofs.Common.{◌≡◌, ℕ, ◌*◌, ◌/◌, ap, subst, sym}
use Rattle.st_format.specs.Pgroup.{bits_of}
use Rattle.st_format.specs.Position.{sample_count}
use Rattle.st_format.specs.declared.sampling.Depth.TheVariants.{D10, D12}
use Rattle.script_engines.proofs.RehearsalLemmas.{ten_bits, twelve_bits, whole_groups}
use Rattle.script_engines.proofs.picture_text.packed_octets.Goals as goal

pub returns-in-D10-clause-agree : goal.returns-in-D10-clause-agree
returns-in-D10-clause-agree c =
    let f = c.args.format in
    let ten : f.depth ≡ D10 = cc in
    let groups = whole_groups f in
    subst (λ (n : ℕ). 8 * (n / 4 * 5) ≡ bits_of f.depth * sample_count f)
    (sym c.sample_count-count.ensures.value)
    (ten_bits (bits_of f.depth) (sample_count f) groups.0 (ap bits_of ten) groups.1)

pub returns-in-D12-clause-agree : goal.returns-in-D12-clause-agree
returns-in-D12-clause-agree c =
    let f = c.args.format in
    let twelve : f.depth ≡ D12 = cc in
    let groups = whole_groups f in
    subst (λ (n : ℕ). 8 * (n / 2 * 3) ≡ bits_of f.depth * sample_count f)
    (sym c.sample_count-count.ensures.value)
    (twelve_bits (bits_of f.depth) (sample_count f) groups.0 (ap bits_of twelve) groups.1)
