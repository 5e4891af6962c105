use Rattle.std.proofs.Common.{arith}
use Rattle.std.proofs.Math.Nat.{mul-le-mul}
use Rattle.frame_assembly.proofs.PackedLemmas.{sizes}
use Rattle.frame_assembly.proofs.CountLemmas.{counted}
use Rattle.frame_assembly.proofs.counts.count_cells.Goals as goal

pub overflow_mul-result : goal.overflow_mul-result
overflow_mul-result c =
    let are =
    counted _ _ _ c.pgroup-samples.result.samples c.count_marks-groups.result
    c.samples_mask.result c.count_marks-contested.result c.args.marks.now c.args.octets.now
    (sizes c.args.format.now.sampling c.args.format.now.depth) c.requires.packed
    c.pgroup-samples.ensures.samples c.count_marks-groups.ensures c.samples_mask.ensures
    c.count_marks-contested.ensures in
    record { fits = omega (arith, are.few, mul-le-mul c.pgroup-samples.ensures.most.2 are.few) }

pub overflow_sub-result : goal.overflow_sub-result
overflow_sub-result c =
    let are =
    counted _ _ _ c.pgroup-samples.result.samples c.count_marks-groups.result
    c.samples_mask.result c.count_marks-contested.result c.args.marks.now c.args.octets.now
    (sizes c.args.format.now.sampling c.args.format.now.depth) c.requires.packed
    c.pgroup-samples.ensures.samples c.count_marks-groups.ensures c.samples_mask.ensures
    c.count_marks-contested.ensures in
    omega (arith, are.present)

pub overflow_sub-result-2 : goal.overflow_sub-result-2
overflow_sub-result-2 c =
    let are =
    counted _ _ _ c.pgroup-samples.result.samples c.count_marks-groups.result
    c.samples_mask.result c.count_marks-contested.result c.args.marks.now c.args.octets.now
    (sizes c.args.format.now.sampling c.args.format.now.depth) c.requires.packed
    c.pgroup-samples.ensures.samples c.count_marks-groups.ensures c.samples_mask.ensures
    c.count_marks-contested.ensures in
    are.few

pub returns-clause-present : goal.returns-clause-present
returns-clause-present c =
    let are =
    counted _ _ _ c.pgroup-samples.result.samples c.count_marks-groups.result
    c.samples_mask.result c.count_marks-contested.result c.args.marks.now c.args.octets.now
    (sizes c.args.format.now.sampling c.args.format.now.depth) c.requires.packed
    c.pgroup-samples.ensures.samples c.count_marks-groups.ensures c.samples_mask.ensures
    c.count_marks-contested.ensures in
    omega (arith, are.present)

pub returns-clause-missing : goal.returns-clause-missing
returns-clause-missing c =
    let are =
    counted _ _ _ c.pgroup-samples.result.samples c.count_marks-groups.result
    c.samples_mask.result c.count_marks-contested.result c.args.marks.now c.args.octets.now
    (sizes c.args.format.now.sampling c.args.format.now.depth) c.requires.packed
    c.pgroup-samples.ensures.samples c.count_marks-groups.ensures c.samples_mask.ensures
    c.count_marks-contested.ensures in
    are.missing

pub returns-clause-contested : goal.returns-clause-contested
returns-clause-contested c =
    let are =
    counted _ _ _ c.pgroup-samples.result.samples c.count_marks-groups.result
    c.samples_mask.result c.count_marks-contested.result c.args.marks.now c.args.octets.now
    (sizes c.args.format.now.sampling c.args.format.now.depth) c.requires.packed
    c.pgroup-samples.ensures.samples c.count_marks-groups.ensures c.samples_mask.ensures
    c.count_marks-contested.ensures in
    are.contested_is
