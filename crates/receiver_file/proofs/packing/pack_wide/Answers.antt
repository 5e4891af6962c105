use Rattle.std.proofs.Common.{◌≡◌, ◌+◌, ◌-◌, ◌≤◌, ◌∙◌, ℕ, List, ◌++◌, length, take, drop}
use Rattle.std.proofs.Common.{ap, arith, refl}
use Rattle.std.proofs.lemmas.List.{length-drop, take_all}
use Rattle.receiver_file.specs.Known.{shape_in}
use Rattle.receiver_file.proofs.PackedRuns.{packed_next}
use Rattle.receiver_file.proofs.TakenGroups.{groups_zero}
use Rattle.receiver_file.proofs.packing.pack_wide.Goals as goal

pub loop-count-init : goal.loop-count-init
loop-count-init c = record {
  few = omega arith;
  at_is = omega arith;
  end_is = omega arith;
  inside = omega arith;
  same_room = refl;
  groups = groups_zero (shape_in c.args.format.now) _;
}

pub loop-count-preserved : goal.loop-count-preserved
loop-count-preserved c =
    let i = c.loop-count in
    let octets : List ℕ = c.args.octets.now in
    let size : ℕ = c.pgroup-size.result.octets in
    let rest : List ℕ = drop (i.at + 1) octets in
    let more : i.at + (1 + size) ≤ length octets =
    omega (arith, c.if-octets-at-gt-WIDE.true, c.pgroup-size.ensures.most) in
    let behind : take (length octets - (i.at + 1)) rest ≡ rest =
    take_all (length octets - (i.at + 1)) rest (omega (arith, length-drop (i.at + 1) octets)) in
    packed_next c.pgroup-size.ensures.octets c.requires c.loop-count-test.true more
    c.if-octets-at-eq1.true c.put_wide-end.ensures.value c.put_wide-end.ensures.length
    (c.put_wide-end.ensures.put
    ∙ ap (λ (t : List ℕ). take i.end i.packed ++ take size t) behind) i.invariant
