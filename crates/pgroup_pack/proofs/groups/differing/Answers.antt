use Rattle.std.proofs.Common.{◌≡◌, ◌≤◌, ℕ, ◌*◌, List, length, take, sym, ap, ◌∙◌, arith}
use Rattle.std.proofs.lemmas.List.{length-take-le}
use Rattle.st_format.specs.Pgroup.{bits_of, pixel_group}
use Rattle.st_format.specs.declared.sampling.Sampling.{Sampling}
use Rattle.st_format.specs.declared.sampling.Depth.{Depth}
use Rattle.pgroup_pack.proofs.Marking.{group_agrees, sample_bounds}
use Rattle.pgroup_pack.proofs.groups.differing.Goals as goal

-- the first samples of a list beside the octets of one group
agree : (s : Sampling) (d : Depth) (count : ℕ) (octets xs : List ℕ)
    → count ≡ (pixel_group s d).samples → length octets ≡ (pixel_group s d).octets
    → 12 ≤ length xs → 8 * length octets ≡ bits_of d * length (take count xs)
agree s d count octets xs same long room =
    ap (λ (n : ℕ). 8 * n) long ∙ group_agrees s d ∙ ap (λ (n : ℕ). bits_of d * n)
    (sym same ∙ sym (length-take-le count xs (omega (arith, same, room, (sample_bounds s d).1))))

pub unpack-requires : goal.unpack-requires
unpack-requires c =
    agree c.args.format.now.sampling c.args.format.now.depth c.pgroup-count.result.samples
    c.args.a.now _ c.pgroup-count.ensures.samples c.requires.first (omega arith)

pub unpack-requires-2 : goal.unpack-requires-2
unpack-requires-2 c =
    agree c.args.format.now.sampling c.args.format.now.depth c.pgroup-count.result.samples
    c.args.b.now _ c.pgroup-count.ensures.samples c.requires.second (omega arith)
