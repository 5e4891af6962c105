use Rattle.std.proofs.Common.{◌≡◌, ℕ, ◌+◌, ◌%◌, ◌<◌, ◌≤◌, List, length, get_or, ap, arith, ◌∙◌}
use Rattle.lane_kernels.specs.Formulas.{clip, gain}
use Rattle.lane_kernels.proofs.Stored.{HasLanes-part, HasLanes-same, Made, Made-load, Made-store}
use Rattle.lane_kernels.proofs.gains.gain_about.Goals as goal

pub loop-values-preserved : goal.loop-values-preserved
loop-values-preserved c =
    let i : ℕ = c.loop-values.at in
    let old : List ℕ = c.args.values.now in
    let table : List ℕ = c.args.zeros.now in
    let inv = c.loop-values.invariant in
    let f = λ (k : ℕ).
    clip c.args.low c.args.high (gain (get_or table (k % 24) 0) c.args.g (get_or old k 0)) in
    let room : i + 24 ≤ length old = omega arith in
    let turn : (t k j : ℕ) → t + k < 24 → j ≡ i + (t + k) → t + k ≡ j % 24 =
    λ t k j h e. omega (arith, inv.turns) in
    let made : Made old f i c.loop-values.values =
    record { long = inv.long; done = inv.done; kept = inv.kept } in
    let x_0 = Made-load old f i 8 (omega arith) made in
    let turned_0 = HasLanes-part 0 24 8 table (omega arith) (omega arith) in
    let lanes_0 = HasLanes-same 8 c.gain_lanes.ensures (λ k h.
    let z = turned_0.each k h
    ∙ ap (λ j. get_or table j 0) (turn 0 k (i + k) (omega arith) (omega arith)) in
    (λ j. clip c.args.low c.args.high (gain (z j) c.args.g (x_0.each k h j)))) in
    let made_1 = Made-store old f i 8 (i + 8) (omega arith) (omega arith) made lanes_0 in
    let x_1 = Made-load old f (i + 8) 8 (omega arith) made_1 in
    let turned_1 = HasLanes-part 8 16 8 table (omega arith) (omega arith) in
    let lanes_1 = HasLanes-same 8 c.gain_lanes-in-loop-values.ensures (λ k h.
    let z = turned_1.each k h
    ∙ ap (λ j. get_or table j 0) (turn 8 k (i + 8 + k) (omega arith) (omega arith)) in
    (λ j. clip c.args.low c.args.high (gain (z j) c.args.g (x_1.each k h j)))) in
    let made_2 = Made-store old f (i + 8) 8 (i + 16) (omega arith) (omega arith) made_1 lanes_1 in
    let x_2 = Made-load old f (i + 16) 8 (omega arith) made_2 in
    let turned_2 = HasLanes-part 16 8 8 table (omega arith) (omega arith) in
    let lanes_2 = HasLanes-same 8 c.gain_lanes-in-loop-values-2.ensures (λ k h.
    let z = turned_2.each k h
    ∙ ap (λ j. get_or table j 0) (turn 16 k (i + 16 + k) (omega arith) (omega arith)) in
    (λ j. clip c.args.low c.args.high (gain (z j) c.args.g (x_2.each k h j)))) in
    let made_3 = Made-store old f (i + 16) 8 (i + 24) (omega arith) (omega arith) made_2 lanes_2 in
    record {
      long = made_3.long;
      within = room;
      turns = omega (arith, inv.turns);
      done = made_3.done;
      kept = made_3.kept;
    }
