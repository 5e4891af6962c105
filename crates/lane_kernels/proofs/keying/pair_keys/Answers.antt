use Rattle.std.proofs.Common.{◌∙◌, ℕ, List, length, ltb, w16, ◌+◌, ◌-◌, ◌%◌, ◌^◌, ◌≤◌, arith}
use Rattle.std.proofs.lemmas.Simd.{length-put_chunk}
use Rattle.lane_kernels.proofs.Stored.{Below-store, HasLanes-load, HasLanes-same}
use Rattle.lane_kernels.proofs.Stored.{HasLanes-select, HasLanes-splat, HasLanes-zip2}
use Rattle.lane_kernels.proofs.Turns.{pair_lumas}
use Rattle.lane_kernels.proofs.Clipping.{key_lane}
use Rattle.lane_kernels.proofs.keying.pair_keys.Goals as goal

pub loop-keys-preserved : goal.loop-keys-preserved
loop-keys-preserved c =
    let i : ℕ = c.loop-keys.at in
    let row : List ℕ = c.args.row.now in
    let keys : List ℕ = c.loop-keys.keys in
    let inv = c.loop-keys.invariant in
    let minus = λ (x y : ℕ). (x + (2 ^ 16 - y)) % 2 ^ 16 in
    let low = HasLanes-splat 8 c.args.low in
    let most = HasLanes-splat 8 c.args.most in
    let room : i + 8 ≤ length row = omega (arith, inv.long, c.requires.of_row) in
    let lumas = pair_lumas row i inv.pairs (HasLanes-load i 8 row room) in
    let above = HasLanes-zip2 minus 8 (HasLanes-select w16 ltb 8 lumas low low lumas) low in
    let made = HasLanes-same 8 (HasLanes-select w16 ltb 8 above most above most) (λ k h.
    key_lane _ c.args.low c.args.most (c.type_inv.row _).fits c.ranges.low.fits) in
    record {
      long = length-put_chunk i keys _ ∙ inv.long;
      within = omega (arith, inv.long);
      pairs = omega (arith, inv.pairs);
      done = Below-store _ i 8 keys (omega arith) inv.done made;
    }
