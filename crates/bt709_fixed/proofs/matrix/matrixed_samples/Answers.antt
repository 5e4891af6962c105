use Rattle.std.proofs.Common.{◌≡◌, ℕ, List, ◌+◌, ◌-◌, ◌++◌, ◌∙◌, get_or, length, take, drop, ap, arith, ◌%◌}
use Rattle.std.proofs.lemmas.List.{length-append, length-drop, length-take}
use Rattle.std.proofs.lemmas.List.{length-take-le}
use Rattle.st_format.specs.Pgroup.{bits_of}
use Rattle.lane_kernels.specs.Pixels.{ycc_at}
use Rattle.bt709_fixed.proofs.Pixels.{fits_part, matrixed_more}
use Rattle.bt709_fixed.proofs.matrix.matrixed_samples.Goals as goal

pub ycc709-requires-clause-lengths : goal.ycc709-requires-clause-lengths
ycc709-requires-clause-lengths g c =
    let rgb : List ℕ = c.args.rgb.now in
    let d : ℕ = c.loop-done.done in
    let s : ℕ = c.min-some.result in
    let block = length-take-le s c.loop-done.block (omega (arith, c.min-some.array_long, c.min-some.ensures)) in
    omega (
      arith,
      block,
      c.min-some.ensures,
      length-take (d + s - d) (drop d rgb),
      length-drop d rgb,
    )

pub ycc709-requires-clause-whole : goal.ycc709-requires-clause-whole
ycc709-requires-clause-whole g c =
    let s : ℕ = c.min-some.result in
    let block = length-take-le s c.loop-done.block (omega (arith, c.min-some.array_long, c.min-some.ensures)) in
    omega (arith, block, c.min-some.ensures, c.requires.whole, c.loop-done.invariant.pixels)

pub ycc709-requires-clause-fit : goal.ycc709-requires-clause-fit
ycc709-requires-clause-fit g c =
    let d : ℕ = c.loop-done.done in
    let s : ℕ = c.min-some.result in
    fits_part c.args.rgb.now d (d + s - d) (bits_of c.args.depth) c.bits-bits.result c.bits-bits.ensures
    c.requires.fit

pub loop-done-preserved : goal.loop-done-preserved
loop-done-preserved g c =
    let rgb : List ℕ = c.args.rgb.now in
    let vs : List ℕ = c.loop-done.samples.items in
    let ws : List ℕ = c.ycc709.new.out in
    let d : ℕ = c.loop-done.done in
    let s : ℕ = c.min-some.result in
    let inv = c.loop-done.invariant in
    let items : c.extend_from_slice.new.self.items ≡ vs ++ ws =
    c.in_ok-extend_from_slice.ensures.items in
    let long : length ws ≡ s =
    c.ycc709.ensures.long
    ∙ length-take-le s c.loop-done.block (omega (arith, c.min-some.array_long, c.min-some.ensures)) in
    let n : ℕ = bits_of c.args.depth in
    let part : List ℕ = take (d + s - d) (drop d rgb) in
    let ends : s % 3 ≡ 0 = omega (arith, c.min-some.ensures, c.requires.whole, inv.pixels) in
    let more =
    matrixed_more n rgb vs ws d s (d + s - d) (omega arith) inv.pixels ends inv.long long inv.made
    (λ i h. c.ycc709.ensures.each i h ∙ ap (λ n. ycc_at n part i) c.bits-bits.ensures) in
    record {
      long = ap length items ∙ length-append vs ws ∙ omega arith;
      within = omega (arith, c.min-some.ensures);
      pixels = omega (arith, ends, inv.pixels);
      made = λ k h. ap (λ xs. get_or xs k 0) items ∙ more k h;
    }
