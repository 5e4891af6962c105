use Rattle.std.proofs.Common.{◌≡◌, ℕ, ◌+◌, ◌-◌, ◌*◌, ◌/◌, length, take, subst, arith}
use Rattle.std.proofs.lemmas.Simd.{take_more_put_chunk}
use Rattle.st_format.specs.Samples.{Spells}
use Rattle.pgroup_pack.proofs.Blocks.{in_two, rest_put, taken}
use Rattle.pgroup_pack.proofs.Numbers.{Spells-more}
use Rattle.pgroup_pack.proofs.sixteen_bits.unpack.Goals as goal

pub loop-i-preserved : goal.loop-i-preserved
loop-i-preserved c =
    let i = c.loop-i.i in
    let long = c.samples_of.ensures.long in
    Spells-more 16 (taken c.args.octets.now (16 * i) 16 (16 * (i + 1)) (omega arith))
    (take_more_put_chunk (8 * i) c.loop-i.samples c.samples_of.result (8 * (i + 1))
    (omega (arith, long)) (omega arith)) c.loop-i.invariant
    c.samples_of.ensures.spelled

pub returns : goal.returns
returns c =
    let blocks : ℕ = length c.args.octets.now / 16 in
    let end : c.loop-i.i ≡ blocks = omega arith in
    let done : Spells 16 (take (16 * blocks) c.args.octets.now) (take (8 * blocks) c.loop-i.samples)
    = subst
    (λ (k : ℕ). Spells 16 (take (16 * k) c.args.octets.now)
    (take (8 * k) c.loop-i.samples)) end c.loop-i.invariant in
    Spells-more 16 (in_two (16 * blocks) c.args.octets.now)
    (rest_put (8 * blocks)
    (length c.loop-i.samples - 8 * blocks) c.loop-i.samples c.unpack_twos.new.samples
    (omega arith)) done c.unpack_twos.ensures
