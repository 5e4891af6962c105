use Rattle.std.proofs.Common.{ℕ, ◌<◌, get_or, lit<}
use Rattle.pgroup_pack.proofs.Blocks.{lanes_16, lanes_of, octet_lanes}
use Rattle.pgroup_pack.proofs.Numbers.{Spells-append}
use Rattle.pgroup_pack.proofs.sixteen_bits.samples_of.Goals as goal

pub returns-clause-spelled : goal.returns-clause-spelled
returns-clause-spelled c =
    let octets = c.args.octets in
    let small : (k : ℕ) → k < 16
    → get_or octets k 0 < 256 = octet_lanes octets c.fits-octets.0 c.fits-octets.1 in
    let all =
    Spells-append 16 _ _ _ _ (lanes_16 octets 0 small (lit< tt))
    (Spells-append 16 _ _ _ _ (lanes_16 octets 2 small (lit< tt))
    (Spells-append 16 _ _ _ _ (lanes_16 octets 4 small (lit< tt))
    (Spells-append 16 _ _ _ _ (lanes_16 octets 6 small (lit< tt))
    (Spells-append 16 _ _ _ _ (lanes_16 octets 8 small (lit< tt))
    (Spells-append 16 _ _ _ _ (lanes_16 octets 10 small (lit< tt))
    (Spells-append 16 _ _ _ _ (lanes_16 octets 12 small (lit< tt))
    (lanes_16 octets 14 small (lit< tt)))))))) in
    rw (lanes_of 16 octets c.fits-octets.0) all
