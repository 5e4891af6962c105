use Rattle.std.proofs.Common.{◌≡◌, ℕ, List, ◌+◌, ◌*◌, ◌-◌, ◌++◌, ◌∙◌, get_or, length, ap, arith}
use Rattle.std.proofs.lemmas.List.{length-append, length-take-le}
use Rattle.bt709_fixed.proofs.Thinned.{thinned_more}
use Rattle.bt709_fixed.proofs.thinning.thinned_samples.Goals as goal

pub loop-done-preserved : goal.loop-done-preserved
loop-done-preserved g c =
    let full : List ℕ = c.args.full.now in
    let vs : List ℕ = c.loop-done.samples.items in
    let ws : List ℕ = c.thin_samples.new.out in
    let d : ℕ = c.loop-done.done in
    let s : ℕ = c.min-some.result in
    let inv = c.loop-done.invariant in
    let items : c.extend_from_slice.new.self.items ≡ vs ++ ws =
    c.in_ok-extend_from_slice.ensures.items in
    let room = c.min-some.array_long in
    let long : length ws ≡ 4 * s =
    c.thin_samples.ensures.long
    ∙ length-take-le (4 * s) c.loop-done.block (omega (arith, room, c.min-some.ensures)) in
    let more =
    thinned_more full vs ws d s (6 * (d + s) - 6 * d) (omega arith) inv.long long inv.made
    c.thin_samples.ensures.each in
    record {
      long = ap length items ∙ length-append vs ws ∙ omega arith;
      within = omega (arith, c.min-some.ensures);
      made = λ k h. ap (λ xs. get_or xs k 0) items ∙ more k h;
    }
