use Rattle.std.proofs.Common.{◌≡◌, ◌<◌, ◌≤◌, ℕ, ◌*◌, List, length, take, refl, sym, ap, ◌∙◌}
use Rattle.std.proofs.Common.{subst}
use Rattle.std.proofs.Common.{arith, rules}
use Rattle.st_format.specs.Pgroup.{bits_of, pixel_group}
use Rattle.st_format.specs.Samples.{values_in}
use Rattle.st_format.specs.declared.sampling.Depth.{Depth}
use Rattle.pgroup_pack.specs.Groups.{AreContested}
use Rattle.pgroup_pack.proofs.Marking.{few_contested, first_samples}
use Rattle.pgroup_pack.proofs.Marking.{length-group_values, sample_bounds}
use Rattle.pgroup_pack.proofs.Values.{spelled_values}
use Rattle.pgroup_pack.proofs.contests.contest_lanes.Goals as goal

pub returns : goal.returns
returns c =
    let depth : Depth = c.args.format.now.depth in
    let n : ℕ = bits_of depth in
    let s : ℕ = c.args.samples in
    let marks : List ℕ = c.args.marks.now in
    let new_marks : List ℕ = c.mark_differing-contested.new.marks in
    let octets : List ℕ = c.args.octets.now in
    let others : List ℕ = c.args.others.now in
    let new : List ℕ = values_in n c.pack_at.new.octets in
    let same : s * length marks
    ≡ (pixel_group c.args.format.now.sampling depth).samples * length marks =
    ap (λ (k : ℕ). k * length marks) c.requires.samples in
    let left_is : c.unpack_at.new.samples ≡ values_in n octets =
    spelled_values c.args.depth c.unpack_at.ensures
    ∙ ap (λ (d : Depth). values_in (bits_of d) octets) c.requires.depth in
    let right_is : c.unpack_at-2.new.samples ≡ values_in n others =
    spelled_values c.args.depth c.unpack_at-2.ensures
    ∙ ap (λ (d : Depth). values_in (bits_of d) others) c.requires.depth in
    let new_is : take (s * length marks) c.blank_bits.new.samples ≡ new =
    spelled_values c.args.depth c.pack_at.ensures
    ∙ ap (λ (d : Depth). values_in (bits_of d) c.pack_at.new.octets) c.requires.depth in
    let long : length c.unpack_at.new.samples ≡ s * length marks =
    ap length left_is
    ∙ length-group_values c.args.format.now.sampling depth octets
    (length marks) c.requires.octets ∙ sym same in
    let long1 : length c.unpack_at-2.new.samples ≡ s * length marks =
    ap length right_is
    ∙ length-group_values c.args.format.now.sampling depth others (length marks)
    (c.requires.others ∙ c.requires.octets) ∙ sym same in
    let all : AreContested s c.unpack_at.new.samples c.unpack_at-2.new.samples marks new_marks new =
    few_contested s
    (s * length marks) c.unpack_at.new.samples c.unpack_at-2.new.samples _ _ marks new_marks
    c.blank_bits.new.samples new c.differing_bits-differ.result
    c.mark_differing-contested.result
    refl (omega (arith, same)) long long1
    (search rules) c.differing_bits-differ.ensures c.mark_differing-contested.ensures.marks
    c.mark_differing-contested.ensures.bits c.blank_bits.ensures
    new_is in
    let left : AreContested s (values_in n octets) c.unpack_at-2.new.samples marks new_marks new =
    subst (λ
    (xs : List ℕ). AreContested s xs c.unpack_at-2.new.samples marks new_marks new) left_is
    all in
    let right : AreContested s (values_in n octets) (values_in n others) marks new_marks new =
    subst (λ (xs : List ℕ). AreContested s
    (values_in n octets) xs marks new_marks new) right_is left in
    subst (λ (k : ℕ). AreContested k (values_in n octets)
    (values_in n others) marks new_marks new) c.requires.samples right

lanes : (samples group marks : ℕ) → samples ≡ group → group * marks ≤ 48 → samples * marks ≤ 48
lanes samples group marks same few = subst (λ (n : ℕ). n * marks ≤ 48) (sym same) few

pub overflow_mul-count : goal.overflow_mul-count
overflow_mul-count c =
    omega (
      arith,
      lanes c.args.samples _ (length c.args.marks.now)
          c.requires.samples c.requires.few,
    )

pub unpack_at-requires : goal.unpack_at-requires
unpack_at-requires c =
    first_samples c.args.format.now.sampling c.args.format.now.depth c.args.depth c.args.samples
    c.args.octets.now c.args.marks.now _ c.requires.depth c.requires.samples c.requires.octets
    (lanes c.args.samples _ (length c.args.marks.now) c.requires.samples c.requires.few)

pub unpack_at-requires-2 : goal.unpack_at-requires-2
unpack_at-requires-2 c =
    first_samples c.args.format.now.sampling c.args.format.now.depth c.args.depth c.args.samples
    c.args.others.now c.args.marks.now _ c.requires.depth c.requires.samples
    (c.requires.others ∙ c.requires.octets)
    (lanes c.args.samples _ (length c.args.marks.now) c.requires.samples c.requires.few)

pub mark_differing-contested-requires-clause-some :
    goal.mark_differing-contested-requires-clause-some
mark_differing-contested-requires-clause-some c =
    subst (λ (n : ℕ). 0 < n) (sym c.requires.samples)
    (sample_bounds c.args.format.now.sampling c.args.format.now.depth).0

pub mark_differing-contested-requires-clause-most :
    goal.mark_differing-contested-requires-clause-most
mark_differing-contested-requires-clause-most c =
    subst (λ (n : ℕ). n ≤ 12) (sym c.requires.samples)
    (sample_bounds c.args.format.now.sampling c.args.format.now.depth).1

pub mark_differing-contested-requires-clause-few :
    goal.mark_differing-contested-requires-clause-few
mark_differing-contested-requires-clause-few c =
    lanes c.args.samples _ (length c.args.marks.now) c.requires.samples c.requires.few

pub pack_at-requires-clause-lengths : goal.pack_at-requires-clause-lengths
pack_at-requires-clause-lengths c =
    first_samples c.args.format.now.sampling c.args.format.now.depth c.args.depth c.args.samples
    c.args.octets.now c.args.marks.now c.blank_bits.new.samples c.requires.depth c.requires.samples
    c.requires.octets
    (omega (
      arith,
      c.blank_bits.auto,
      c.unpack_at.auto.samples,
      lanes c.args.samples _ (length c.args.marks.now) c.requires.samples c.requires.few,
    ))
