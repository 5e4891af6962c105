use Rattle.std.proofs.Common.{◌≡◌, ℕ, List, length, get_or, ◌+◌, ◌-◌, ◌<◌, arith, ◌∙◌}
use borrow.Rule.Slice.PartMut.{same_len_mid}
use Rattle.lane_kernels.specs.Pixels.{ycc_at}
use Rattle.lane_kernels.proofs.Parts.{Below-part, ycc_part}
use Rattle.lane_kernels.proofs.pixels.ycc709.Goals as goal

pub loop-out-preserved : goal.loop-out-preserved
loop-out-preserved c =
    let rgb : List ℕ = c.args.rgb.now in
    let xs : List ℕ = c.loop-out.out in
    let ys : List ℕ = c.eight_pixels.new.out in
    let a : ℕ = c.loop-out.at in
    let m : ℕ = a + 24 - a in
    let inv = c.loop-out.invariant in
    let n : ℕ = c.args.bits in
    let long = c.eight_pixels.ensures.long in
    let size : length ys ≡ m = omega arith in
    let each : (i : ℕ) → i < length ys → get_or ys i 0 ≡ ycc_at n rgb (a + i) =
    λ i h. c.eight_pixels.ensures.each i h
    ∙ ycc_part rgb a m i inv.pixels (omega arith) (omega (arith, h, size)) n in
    let done = Below-part (λ k. ycc_at n rgb k) xs ys a m (omega arith) size inv.done each in
    record {
      long = same_len_mid a m xs ys long ∙ inv.long;
      within = omega arith;
      pixels = omega arith;
      done = λ k h. done k (omega arith);
    }

pub returns-then-at-out-clause-each : goal.returns-then-at-out-clause-each
returns-then-at-out-clause-each c =
    let rgb : List ℕ = c.args.rgb.now in
    let xs : List ℕ = c.loop-out.out in
    let ys : List ℕ = c.last_pixels.new.out in
    let a : ℕ = c.loop-out.at in
    let m : ℕ = length xs - a in
    let inv = c.loop-out.invariant in
    let n : ℕ = c.args.bits in
    let long = c.last_pixels.ensures.long in
    let size : length ys ≡ m = omega arith in
    let whole = same_len_mid a m xs ys long in
    let each : (i : ℕ) → i < length ys → get_or ys i 0 ≡ ycc_at n rgb (a + i) =
    λ i h. c.last_pixels.ensures.each i h
    ∙ ycc_part rgb a (length rgb - a) i inv.pixels (omega arith) (omega (arith, h, size)) n in
    let done = Below-part (λ k. ycc_at n rgb k) xs ys a m (omega arith) size inv.done each in
    λ k h. done k (omega (arith, h, whole))
