use Rattle.std.proofs.Common.{◌<◌, ℕ, List, get_or, bit_or, arith}
use Rattle.std.proofs.lemmas.Simd.{length-put_chunk}
use Rattle.lane_kernels.proofs.Stored.{Below-store, HasLanes-load, HasLanes-zip2}
use Rattle.frame_assembly.proofs.groups.or_marks.Goals as goal

pub returns : goal.returns
returns c = λ k lt.
    let into : List ℕ = c.args.into.now in
    let from : List ℕ = c.args.from.now in
    let x = HasLanes-load 0 8 into (omega arith) in
    let y = HasLanes-load 0 8 from (omega arith) in
    let v = HasLanes-zip2 bit_or 8 x y in
    let below : k < 8 =
    omega (arith, lt, length-put_chunk {A = ℕ}, c.if-into-ne-CHUNK.false) in
    Below-store (λ (j : ℕ). bit_or (get_or into j 0) (get_or from j 0)) 0 8 into (omega arith)
    (λ j h. absurd (omega arith)) v k below
