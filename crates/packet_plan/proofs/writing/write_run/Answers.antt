use Rattle.std.proofs.Common.{◌≡◌, ◌+◌, ◌-◌, ◌*◌, ◌^◌, ◌<◌, ◌≤◌, ℕ, drop, length, sym, ap}
use Rattle.std.proofs.Common.{◌++◌, ◌∙◌, List, take, subst, arith}
use Rattle.std.specs.List.{All}
use Rattle.st_format.specs.Pgroup.{bits_of}
use Rattle.st_format.specs.Samples.{octets_in}
use Rattle.packet_plan.specs.Sent.{run_values}
use Rattle.st_format.specs.declared.format.Format.{Format}
use Rattle.packet_plan.specs.Plan.{group_octets}
use Rattle.std.proofs.lemmas.List.{length-drop, length-take-le}
use Rattle.std.proofs.lemmas.Slice.{drop-put_mid, take-put_mid}
use Rattle.packet_plan.proofs.RunLemmas.{octets_are, run_agrees}
use Rattle.packet_plan.proofs.writing.write_run.Goals as goal

pub slice_bounds-write_values-end : goal.slice_bounds-write_values-end
slice_bounds-write_values-end g c =
    omega (
      arith,
      c.requires.room,
      octets_are c.args.picture.now c.args.run c.format-format.result c.group_octets_of.result
          c.format-format.ensures.value c.group_octets_of.ensures.value,
    )

pub write_values-requires-clause-lengths : goal.write_values-requires-clause-lengths
write_values-requires-clause-lengths g c =
    run_agrees c.args.picture.now c.args.run c.format-format.result c.group_octets_of.result
    c.args.at c.args.buf.now c.run_samples-values.result.now
    c.format-format.ensures.value c.group_octets_of.ensures.value
    c.run_samples-values.ensures.value c.requires.room

pub returns-clause-behind : goal.returns-clause-behind
returns-clause-behind g c =
    let at = c.args.at in
    let buf = c.args.buf.now in
    let octets = c.write_values.new.octets in
    let end : ℕ = at + c.args.run.groups * c.group_octets_of.result in
    let inside : end ≤ length buf =
    omega (
      arith,
      c.requires.room,
      octets_are c.args.picture.now c.args.run c.format-format.result c.group_octets_of.result
          c.format-format.ensures.value c.group_octets_of.ensures.value,
    ) in
    let long : length octets ≡ end - at =
    omega (
      arith,
      c.write_values.auto.octets,
      length-take-le (end - at) (drop at buf) (omega (arith, inside, length-drop at buf)),
    ) in
    drop-put_mid at (end - at) buf octets end (omega arith) (omega arith) long

pub run_samples-values-requires : goal.run_samples-values-requires
run_samples-values-requires g c = c.requires.head

pub overflow_mul-end : goal.overflow_mul-end
overflow_mul-end g c =
    omega (
      arith,
      c.requires.head.small,
      ap (λ (k : ℕ). c.args.run.groups * k)
          (c.group_octets_of.ensures.value ∙ ap group_octets c.format-format.ensures.value),
    )

pub overflow_cast-end : goal.overflow_cast-end
overflow_cast-end g c =
    omega (
      arith,
      c.requires.head.small,
      ap (λ (k : ℕ). c.args.run.groups * k)
          (c.group_octets_of.ensures.value ∙ ap group_octets c.format-format.ensures.value),
    )

pub overflow_add-end : goal.overflow_add-end
overflow_add-end g c =
    omega (
      arith,
      c.requires.room,
      octets_are c.args.picture.now c.args.run c.format-format.result c.group_octets_of.result
          c.format-format.ensures.value c.group_octets_of.ensures.value,
    )

pub slice_bounds-write_values-count : goal.slice_bounds-write_values-count
slice_bounds-write_values-count g c = omega arith

pub slice_bounds-write_values-start : goal.slice_bounds-write_values-start
slice_bounds-write_values-start g c = omega arith

pub write_values-requires-clause-fit : goal.write_values-requires-clause-fit
write_values-requires-clause-fit g c =
    subst (λ (f : Format). All (λ v. v < 2 ^ bits_of f.depth) c.run_samples-values.result.now)
    (sym c.format-format.ensures.value) c.run_samples-values.ensures.fit

pub returns-clause-value : goal.returns-clause-value
returns-clause-value g c =
    ap (λ (k : ℕ). c.args.at + k)
    (octets_are c.args.picture.now c.args.run c.format-format.result c.group_octets_of.result
    c.format-format.ensures.value c.group_octets_of.ensures.value)

pub returns-clause-written : goal.returns-clause-written
returns-clause-written g c =
    let at = c.args.at in
    let buf = c.args.buf.now in
    let octets = c.write_values.new.octets in
    let end : ℕ = at + c.args.run.groups * c.group_octets_of.result in
    let inside : end ≤ length buf =
    omega (
      arith,
      c.requires.room,
      octets_are c.args.picture.now c.args.run c.format-format.result c.group_octets_of.result
          c.format-format.ensures.value c.group_octets_of.ensures.value,
    ) in
    let long : length octets ≡ end - at =
    omega (
      arith,
      c.write_values.auto.octets,
      length-take-le (end - at) (drop at buf) (omega (arith, inside, length-drop at buf)),
    ) in
    take-put_mid at (end - at) buf octets end (omega (arith, long)) (omega (arith, inside))
    ∙ ap (λ (os : List ℕ). take at buf ++ os)
    (c.write_values.ensures
    ∙ ap (octets_in (bits_of c.format-format.result.depth)) c.run_samples-values.ensures.value
    ∙ ap (λ (f : Format). octets_in (bits_of f.depth)
    (run_values c.args.picture.now c.args.run)) c.format-format.ensures.value)
