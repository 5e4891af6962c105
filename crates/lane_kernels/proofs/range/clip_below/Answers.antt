use Rattle.std.proofs.Common.{◌≡◌, ℕ, ◌+◌, ◌%◌, ◌<◌, ◌≤◌, List, length, get_or, min, max, ltb, w16}
use Rattle.std.proofs.Common.{ap, arith, ◌∙◌}
use Rattle.lane_kernels.proofs.Clipping.{chosen}
use Rattle.lane_kernels.proofs.Stored.{HasLanes-part, HasLanes-same, HasLanes-select}
use Rattle.lane_kernels.proofs.Stored.{HasLanes-splat, Made, Made-load, Made-store}
use Rattle.lane_kernels.proofs.range.clip_below.Goals as goal

pub loop-values-preserved : goal.loop-values-preserved
loop-values-preserved c =
    let i : ℕ = c.loop-values.at in
    let old : List ℕ = c.args.values.now in
    let table : List ℕ = c.args.highs.now in
    let inv = c.loop-values.invariant in
    let f = λ (k : ℕ).
    min (get_or table (k % 24) 0) (max c.args.low (get_or old k 0)) in
    let room : i + 24 ≤ length old = omega arith in
    let turn : (t k j : ℕ) → t + k < 24 → j ≡ i + (t + k) → t + k ≡ j % 24 =
    λ t k j h e. omega (arith, inv.turns) in
    let made : Made old f i c.loop-values.values =
    record { long = inv.long; done = inv.done; kept = inv.kept } in
    let low = HasLanes-splat 8 c.args.low in
    let x_0 = Made-load old f i 8 (omega arith) made in
    let turned_0 = HasLanes-part 0 24 8 table (omega arith) (omega arith) in
    let raised_0 = HasLanes-select w16 ltb 8 x_0 low low x_0 in
    let lanes_0 = HasLanes-same 8 (HasLanes-select w16 ltb 8 raised_0 turned_0 raised_0 turned_0)
    (λ k h. chosen _ c.args.low _
    ∙ ap (λ j. min (get_or table j 0) (max c.args.low (get_or old (i + k) 0)))
    (turn 0 k (i + k) (omega arith) (omega arith))) in
    let made_1 = Made-store old f i 8 (i + 8) (omega arith) (omega arith) made lanes_0 in
    let x_1 = Made-load old f (i + 8) 8 (omega arith) made_1 in
    let turned_1 = HasLanes-part 8 16 8 table (omega arith) (omega arith) in
    let raised_1 = HasLanes-select w16 ltb 8 x_1 low low x_1 in
    let lanes_1 = HasLanes-same 8 (HasLanes-select w16 ltb 8 raised_1 turned_1 raised_1 turned_1)
    (λ k h. chosen _ c.args.low _
    ∙ ap (λ j. min (get_or table j 0) (max c.args.low (get_or old ((i + 8) + k) 0)))
    (turn 8 k (i + 8 + k) (omega arith) (omega arith))) in
    let made_2 = Made-store old f (i + 8) 8 (i + 16) (omega arith) (omega arith) made_1 lanes_1 in
    let x_2 = Made-load old f (i + 16) 8 (omega arith) made_2 in
    let turned_2 = HasLanes-part 16 8 8 table (omega arith) (omega arith) in
    let raised_2 = HasLanes-select w16 ltb 8 x_2 low low x_2 in
    let lanes_2 = HasLanes-same 8 (HasLanes-select w16 ltb 8 raised_2 turned_2 raised_2 turned_2)
    (λ k h. chosen _ c.args.low _
    ∙ ap (λ j. min (get_or table j 0) (max c.args.low (get_or old ((i + 16) + k) 0)))
    (turn 16 k (i + 16 + k) (omega arith) (omega arith))) in
    let made_3 = Made-store old f (i + 16) 8 (i + 24) (omega arith) (omega arith) made_2 lanes_2 in
    record {
      long = made_3.long;
      within = room;
      turns = omega (arith, inv.turns);
      done = made_3.done;
      kept = made_3.kept;
    }
