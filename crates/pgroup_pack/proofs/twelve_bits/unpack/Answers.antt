use Rattle.std.proofs.Common.{◌≡◌, ℕ, ◌+◌, ◌-◌, ◌*◌, ◌/◌, length, take, subst, arith}
use Rattle.std.proofs.lemmas.Simd.{take_more_put_chunk}
use Rattle.st_format.specs.Samples.{Spells}
use Rattle.pgroup_pack.proofs.Blocks.{in_two, loaded, rest_put}
use Rattle.pgroup_pack.proofs.Numbers.{Spells-more}
use Rattle.pgroup_pack.proofs.twelve_bits.unpack.Goals as goal

pub loop-i-preserved : goal.loop-i-preserved
loop-i-preserved c =
    let i = c.loop-i.i in
    let long = c.samples_of.ensures.long in
    Spells-more 12
    (loaded c.args.octets.now (12 * i) 12 16 (12 * (i + 1)) (omega arith) (omega arith))
    (take_more_put_chunk (8 * i) c.loop-i.samples c.samples_of.result (8 * (i + 1))
    (omega (arith, long)) (omega arith)) c.loop-i.invariant
    c.samples_of.ensures.spelled

pub returns : goal.returns
returns c =
    let blocks : ℕ = c.saturating_sub-blocks.result / 12 in
    let end : c.loop-i.i ≡ blocks = omega arith in
    let done : Spells 12 (take (12 * blocks) c.args.octets.now) (take (8 * blocks) c.loop-i.samples)
    = subst
    (λ (k : ℕ). Spells 12 (take (12 * k) c.args.octets.now)
    (take (8 * k) c.loop-i.samples)) end c.loop-i.invariant in
    Spells-more 12 (in_two (12 * blocks) c.args.octets.now)
    (rest_put (8 * blocks)
    (length c.loop-i.samples - 8 * blocks) c.loop-i.samples c.unpack_threes.new.samples
    (omega arith)) done c.unpack_threes.ensures
