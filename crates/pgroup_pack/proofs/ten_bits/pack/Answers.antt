use Rattle.std.proofs.Common.{◌≡◌, ℕ, ◌+◌, ◌-◌, ◌*◌, ◌/◌, length, take, subst, arith}
use Rattle.st_format.specs.Samples.{Spells}
use Rattle.pgroup_pack.proofs.Blocks.{in_two, part_stored, rest_put, taken}
use Rattle.pgroup_pack.proofs.Numbers.{Spells-more}
use Rattle.pgroup_pack.proofs.ten_bits.pack.Goals as goal

pub loop-i-preserved : goal.loop-i-preserved
loop-i-preserved c =
    let i = c.loop-i.i in
    let long = c.octets_of.ensures.long in
    Spells-more 10
    (part_stored (10 * i) 10 (10 * (i + 1)) c.loop-i.octets c.octets_of.result (omega arith)
    (omega (arith, long)) (omega (arith, long)))
    (taken c.args.samples.now (8 * i) 8 (8 * (i + 1))
    (omega arith)) c.loop-i.invariant c.octets_of.ensures.spelled

pub returns : goal.returns
returns c =
    let blocks : ℕ = c.saturating_sub-blocks.result / 10 in
    let end : c.loop-i.i ≡ blocks = omega arith in
    let done : Spells 10 (take (10 * blocks) c.loop-i.octets) (take (8 * blocks) c.args.samples.now)
    = subst
    (λ (k : ℕ). Spells 10 (take (10 * k) c.loop-i.octets)
    (take (8 * k) c.args.samples.now)) end c.loop-i.invariant in
    Spells-more 10
    (rest_put (10 * blocks)
    (length c.loop-i.octets - 10 * blocks) c.loop-i.octets c.pack_rest.new.octets (omega arith))
    (in_two (8 * blocks) c.args.samples.now) done c.pack_rest.ensures
