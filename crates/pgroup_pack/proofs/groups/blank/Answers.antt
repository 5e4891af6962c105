use Rattle.std.proofs.Common.{ℕ, List, ◌<◌, ◌^◌, length, get_or, sym, subst}
use Rattle.st_format.specs.Pgroup.{bits_of}
use Rattle.pgroup_pack.proofs.GroupLemmas.{blanked_from-fit}
use Rattle.pgroup_pack.proofs.groups.blank.Goals as goal

pub pack-requires-clause-fit : goal.pack-requires-clause-fit
pack-requires-clause-fit c =
    let n : ℕ = bits_of c.args.format.now.depth in
    subst (λ (vs : List ℕ). (k d : ℕ) → k < length vs → get_or vs k d < 2 ^ n)
    (sym c.blank_samples.ensures)
    (blanked_from-fit n c.args.mask 0 c.unpack.new.samples c.unpack.ensures.spelled.fit)
