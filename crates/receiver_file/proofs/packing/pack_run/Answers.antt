use Rattle.std.proofs.Common.{◌≡◌, ◌+◌, ◌-◌, ◌*◌, ◌≤◌, ◌∙◌, ℕ, List, ◌++◌, length, take, drop}
use Rattle.std.proofs.Common.{ap, arith, sym, subst, refl}
use Rattle.std.proofs.lemmas.List.{length-drop, length-take-le}
use Rattle.receiver_file.specs.Known.{shape_in}
use Rattle.receiver_file.specs.Taking.{AreGroups}
use Rattle.receiver_file.proofs.PackedRuns.{packed_next}
use Rattle.receiver_file.proofs.WholeRuns.{valued_cells}
use Rattle.receiver_file.proofs.packing.pack_run.Goals as goal

pub loop-count-init : goal.loop-count-init
loop-count-init c =
    let wide = c.pack_wide-count.ensures in
    let s = shape_in c.args.format.now in
    let size : ℕ = c.pgroup-size.result.octets in
    let same : size ≡ s.octets = c.pgroup-size.ensures.octets in
    let n : ℕ = c.pack_wide-count.result in
    let packed : List ℕ = c.pack_wide-count.new.packed in
    record {
      few = wide.most;
      at_is = refl;
      end_is = refl;
      inside = subst (λ (k : ℕ). (1 + k) * n ≤ length c.args.octets.now) (sym same) wide.within;
      same_room = refl;
      groups =
          subst (λ (k : ℕ). AreGroups s n (take ((1 + k) * n) c.args.octets.now)
          (valued_cells s (take (k * n) packed))) (sym same) wide.groups;
    }

pub loop-count-preserved : goal.loop-count-preserved
loop-count-preserved c =
    let i = c.loop-count in
    let octets : List ℕ = c.args.octets.now in
    let size : ℕ = c.pgroup-size.result.octets in
    let rest : List ℕ = drop (i.at + 1) octets in
    let more : i.at + (1 + size) ≤ length octets = omega (arith, c.if-octets-at.true) in
    let cut : (i.at + 1 + size) - (i.at + 1) ≡ size = omega arith in
    let part : length (take ((i.at + 1 + size) - (i.at + 1)) rest) ≡ size =
    ap (λ (k : ℕ). length (take k rest)) cut
    ∙ length-take-le size rest (omega (arith, more, length-drop (i.at + 1) octets)) in
    packed_next c.pgroup-size.ensures.octets
    (omega (arith, c.requires, c.pack_wide-count.ensures.room)) c.loop-count-test.true more
    c.if-octets-at-eq1.true
    (c.put_octets-end.ensures.value ∙ ap (λ (k : ℕ). i.end + k) part)
    c.put_octets-end.ensures.length
    (c.put_octets-end.ensures.put
    ∙ ap (λ (k : ℕ). take i.end i.packed ++ take k rest) cut) i.invariant
