use Rattle.std.proofs.Common.{◌≡◌, ℕ, ◌-◌, List, length, take, sym, subst, arith}
use Rattle.std.proofs.lemmas.Simd.{length-put_chunk, take_more_put_chunk}
use lib.Lanes.{put_chunk}
use Rattle.st_format.specs.Samples.{Spells}
use Rattle.pgroup_pack.proofs.Blocks.{in_two, rest_put}
use Rattle.pgroup_pack.proofs.Numbers.{Spells-more}
use Rattle.pgroup_pack.proofs.ten_bits.unpack_rest.Goals as goal

pub returns : goal.returns
returns c =
    let octets : List ℕ = c.args.octets.now in
    let v : List ℕ = c.samples_of.result in
    let now : List ℕ = put_chunk 0 c.args.samples.now v in
    let long = c.samples_of.ensures.long in
    let kept = length-put_chunk 0 c.args.samples.now v in
    let spelled : Spells 10 (take 10 octets) v =
    subst (λ
    (xs : List ℕ). Spells 10 xs v) c.ten_octets.ensures.octets c.samples_of.ensures.spelled in
    let stored : take 8 now ≡ v =
    take_more_put_chunk 0 c.args.samples.now v 8 (omega (arith, long)) (omega arith) in
    let done : Spells 10 (take 10 octets) (take 8 now) =
    subst (Spells 10 (take 10 octets)) (sym stored) spelled in
    Spells-more 10 (in_two 10 octets)
    (rest_put 8 (length now - 8) now c.unpack_fives-2.new.samples
    (omega arith)) done c.unpack_fives-2.ensures
