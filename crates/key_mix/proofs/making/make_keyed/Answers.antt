use Rattle.std.proofs.Common.{◌≡◌, ℕ, ◌*◌, ◌%◌, ◌<◌, get_or, length, take, drop}
use Rattle.std.proofs.Common.{ap, ◌∙◌, arith}
use Rattle.std.proofs.lemmas.List.{length-take}
use Rattle.st_format.specs.declared.format.Format.{Format}
use Rattle.st_format.specs.Pgroup.{bits_of, pixel_group}
use Rattle.st_format.specs.Position.{number_in_row, place_in_row, run_samples}
use Rattle.lane_kernels.specs.Formulas.{key, scale}
use Rattle.key_mix.specs.Made.{settled}
use Rattle.key_mix.specs.Rows.{column_key}
use Rattle.key_mix.proofs.MadeParts.{ends, keyed_here, luma-inside}
use Rattle.key_mix.proofs.making.make_keyed.Goals as goal

pub row_keys-requires-clause-lumas : goal.row_keys-requires-clause-lumas
row_keys-requires-clause-lumas g c = λ i lt.
    let f : Format = c.args.a.now.input.frame.now.format in
    let n : ℕ = length c.args.out.now in
    let form = c.format-format.ensures.format in
    let whole : n % run_samples f.sampling ≡ 0 =
    ap (λ (k : ℕ). k % run_samples f.sampling) c.requires.room
    ∙ ends f.sampling f.depth c.args.count in
    let below = luma-inside f.sampling n i whole (omega (arith, simp length-take at lt)) in
    let s = c.sampling.ensures ∙ ap (λ (h : Format). h.sampling) form in
    let s_2 = c.sampling-2.ensures ∙ ap (λ (h : Format). h.sampling) form in
    let same : number_in_row c.sampling-2.result (place_in_row c.sampling.result i).0 0
    ≡ number_in_row f.sampling (place_in_row f.sampling i).0 0
    = λ j. number_in_row (s_2 j) (place_in_row (s j) i).0 0 in
    omega (arith, same, below, c.settle-3.auto.samples)

pub returns-clause-each : goal.returns-clause-each
returns-clause-each g c = λ i lt.
    let a = c.args.a.now.input in
    let b = c.args.b.now.input in
    let by = c.args.by.now.input in
    let f : Format = a.frame.now.format in
    let first : ℕ = c.args.first in
    let count : ℕ = c.args.count in
    let n : ℕ = (pixel_group f.sampling f.depth).samples * count in
    let keys = c.row_keys.new.keys in
    let sc = c.scale_of-scale.result in
    let form = c.format-format.ensures.format in
    let s = c.sampling.ensures ∙ ap (λ (h : Format). h.sampling) form in
    let s_2 = c.sampling-2.ensures ∙ ap (λ (h : Format). h.sampling) form in
    let depth : sc ≡ scale (bits_of f.depth) =
    c.scale_of-scale.ensures.value
    ∙ ap (λ d. scale (bits_of d)) (c.depth.ensures ∙ ap (λ (h : Format). h.depth) form) in
    let of_b = c.settle-2.ensures.settled
    ∙ ap (λ (h : Format). take ((pixel_group h.sampling h.depth).samples * count)
    (drop ((pixel_group h.sampling h.depth).samples * first) (settled b).samples))
    c.requires.inputs.format_of_b in
    let of_by = c.settle-3.ensures.settled
    ∙ ap (λ (h : Format). take ((pixel_group h.sampling h.depth).samples * count)
    (drop ((pixel_group h.sampling h.depth).samples * first) (settled by).samples))
    c.requires.inputs.format_of_by in
    let below : i < n =
    omega (arith, lt, c.key_mix.auto.out, c.settle-3.auto.samples, c.requires.room) in
    let in_keys : i < length keys =
    omega (
      arith,
      lt,
      c.key_mix.auto.out,
      simp length-take at c.row_keys.ensures.long,
      c.settle-3.auto.samples,
    ) in
    let key_is = c.row_keys.ensures.each i in_keys
    ∙ (λ j. column_key (s_2 j) sc (of_by j) (place_in_row (s j) i).0) in
    c.key_mix.ensures i lt
    ∙ (λ j. key (219 * sc) (get_or (c.settle.ensures.settled j) i 0)
    (get_or (of_b j) i 0) (get_or keys i 0))
    ∙ keyed_here f (settled a).samples (settled b).samples (settled by).samples keys first n i sc
    (ends f.sampling f.depth count) below depth key_is
