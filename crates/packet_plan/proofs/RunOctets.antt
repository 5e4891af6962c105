-- Pgroups as bits: those of a group's samples are those of its octets.
use Rattle.std.proofs.Common.{◌≡◌, ℕ, ◌*◌, refl, ap, ◌∙◌, arith}
use Rattle.st_format.specs.Pgroup.{pixel_group, bits_of}
use Rattle.st_format.specs.declared.sampling.Sampling.{Sampling}
use Rattle.st_format.specs.declared.sampling.Sampling.TheVariants.{Ycc422, Ycc444, Rgb}
use Rattle.st_format.specs.declared.sampling.Depth.{Depth}
use Rattle.st_format.specs.declared.sampling.Depth.TheVariants.{D8, D10, D12, D16}

group_bits : (s : Sampling) (d : Depth)
    → bits_of d * (pixel_group s d).samples ≡ 8 * (pixel_group s d).octets
group_bits Ycc422 D8 = refl
group_bits Ycc422 D10 = refl
group_bits Ycc422 D12 = refl
group_bits Ycc422 D16 = refl
group_bits Ycc444 D8 = refl
group_bits Ycc444 D10 = refl
group_bits Ycc444 D12 = refl
group_bits Ycc444 D16 = refl
group_bits Rgb D8 = refl
group_bits Rgb D10 = refl
group_bits Rgb D12 = refl
group_bits Rgb D16 = refl

regroup : (b g s o : ℕ) → b * s ≡ 8 * o → b * (g * s) ≡ 8 * (g * o)
regroup b g s o e =
    let front : b * (g * s) ≡ g * (b * s) = omega arith in
    let back : g * (8 * o) ≡ 8 * (g * o) = omega arith in
    front ∙ ap (λ (k : ℕ). g * k) e ∙ back

-- the bits of some groups
pub groups_bits : (s : Sampling) (d : Depth) (g : ℕ)
    → bits_of d * (g * (pixel_group s d).samples) ≡ 8 * (g * (pixel_group s d).octets)
groups_bits s d g =
    regroup (bits_of d) g (pixel_group s d).samples (pixel_group s d).octets (group_bits s d)
