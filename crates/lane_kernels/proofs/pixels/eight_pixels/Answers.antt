use Rattle.std.proofs.Common.{◌≡◌, ℕ, List, length, ◌^◌, arith, refl, ◌∙◌}
use Rattle.std.proofs.lemmas.Simd.{length-put_chunk}
use lib.Lanes.{put_chunk}
use Rattle.lane_kernels.specs.Differences.{difference}
use Rattle.lane_kernels.specs.Formulas.{luma, video_data}
use Rattle.lane_kernels.specs.Pixels.{ycc_at}
use Rattle.lane_kernels.specs.declared.matrix.Difference.TheVariants.{Cb, Cr}
use Rattle.lane_kernels.proofs.Stored.{Below-store, HasLanes-same}
use Rattle.lane_kernels.proofs.Turns.{reds, greens, blues, component_below, first, second, third}
use Rattle.lane_kernels.proofs.pixels.eight_pixels.Goals as goal

pub pixel_luma-requires-clause-of_red : goal.pixel_luma-requires-clause-of_red
pixel_luma-requires-clause-of_red c =
    component_below c.args.rgb.now 0 0 (2 ^ c.args.bits) _
    (reds c.args.rgb.now 0 0 refl c.in_turns.ensures) (omega arith) (omega arith) c.requires.fit

pub pixel_luma-requires-clause-of_green : goal.pixel_luma-requires-clause-of_green
pixel_luma-requires-clause-of_green c =
    component_below c.args.rgb.now 0 1 (2 ^ c.args.bits) _
    (greens c.args.rgb.now 0 0 refl c.in_turns-2.ensures) (omega arith) (omega arith) c.requires.fit

pub pixel_luma-requires-clause-of_blue : goal.pixel_luma-requires-clause-of_blue
pixel_luma-requires-clause-of_blue c =
    component_below c.args.rgb.now 0 2 (2 ^ c.args.bits) _
    (blues c.args.rgb.now 0 0 refl c.in_turns-3.ensures) (omega arith) (omega arith) c.requires.fit

pub pixel_colour-requires-clause-of_main : goal.pixel_colour-requires-clause-of_main
pixel_colour-requires-clause-of_main c =
    component_below c.args.rgb.now 0 2 (2 ^ c.args.bits) _
    (blues c.args.rgb.now 0 0 refl c.in_turns-3.ensures) (omega arith) (omega arith) c.requires.fit

pub pixel_colour-requires-clause-of_first : goal.pixel_colour-requires-clause-of_first
pixel_colour-requires-clause-of_first c =
    component_below c.args.rgb.now 0 0 (2 ^ c.args.bits) _
    (reds c.args.rgb.now 0 0 refl c.in_turns.ensures) (omega arith) (omega arith) c.requires.fit

pub pixel_colour-requires-clause-of_second : goal.pixel_colour-requires-clause-of_second
pixel_colour-requires-clause-of_second c =
    component_below c.args.rgb.now 0 1 (2 ^ c.args.bits) _
    (greens c.args.rgb.now 0 0 refl c.in_turns-2.ensures) (omega arith) (omega arith) c.requires.fit

pub pixel_colour-requires-2-clause-of_main : goal.pixel_colour-requires-2-clause-of_main
pixel_colour-requires-2-clause-of_main c =
    component_below c.args.rgb.now 0 0 (2 ^ c.args.bits) _
    (reds c.args.rgb.now 0 0 refl c.in_turns.ensures) (omega arith) (omega arith) c.requires.fit

pub pixel_colour-requires-2-clause-of_first : goal.pixel_colour-requires-2-clause-of_first
pixel_colour-requires-2-clause-of_first c =
    component_below c.args.rgb.now 0 1 (2 ^ c.args.bits) _
    (greens c.args.rgb.now 0 0 refl c.in_turns-2.ensures) (omega arith) (omega arith) c.requires.fit

pub pixel_colour-requires-2-clause-of_second : goal.pixel_colour-requires-2-clause-of_second
pixel_colour-requires-2-clause-of_second c =
    component_below c.args.rgb.now 0 2 (2 ^ c.args.bits) _
    (blues c.args.rgb.now 0 0 refl c.in_turns-3.ensures) (omega arith) (omega arith) c.requires.fit

pub returns-clause-each : goal.returns-clause-each
returns-clause-each c =
    let rgb : List ℕ = c.args.rgb.now in
    let out : List ℕ = c.args.out.now in
    let n : ℕ = c.args.bits in
    let r = reds rgb 0 0 refl c.in_turns.ensures in
    let g = greens rgb 0 0 refl c.in_turns-2.ensures in
    let b = blues rgb 0 0 refl c.in_turns-3.ensures in
    let y =
    HasLanes-same 8 c.pixel_luma.ensures (λ k h.
    λ j. video_data n (luma (r.each k h j) (g.each k h j) (b.each k h j))) in
    let u =
    HasLanes-same 8 c.pixel_colour.ensures (λ k h.
    λ j. video_data n (difference Cb n (b.each k h j) (r.each k h j) (g.each k h j))) in
    let w =
    HasLanes-same 8 c.pixel_colour-2.ensures (λ k h.
    λ j. video_data n (difference Cr n (r.each k h j) (g.each k h j) (b.each k h j))) in
    let v_0 = c.in_turns-4.result in
    let v_1 = c.in_turns-5.result in
    let v_2 = c.in_turns-6.result in
    let f = λ (k : ℕ). ycc_at n rgb k in
    let out_1 = put_chunk 0 out v_0 in
    let out_2 = put_chunk 8 out_1 v_1 in
    let long_1 : length out_1 ≡ length out = length-put_chunk 0 out v_0 in
    let long_2 : length out_2 ≡ length out = length-put_chunk 8 out_1 v_1 ∙ long_1 in
    let long_3 = length-put_chunk 16 out_2 v_2 ∙ long_2 in
    let done_1 =
    Below-store f 0 8 out (omega arith) (λ k h. absurd (omega arith))
    (first n rgb 0 0 refl u y w c.in_turns-4.ensures) in
    let done_2 =
    Below-store f 8 8 out_1 (omega arith) done_1
    (second n rgb 0 0 refl u y w c.in_turns-5.ensures) in
    let done_3 =
    Below-store f 16 8 out_2 (omega arith) done_2
    (third n rgb 0 0 refl u y w c.in_turns-6.ensures) in
    λ k h. done_3 k (omega (arith, h, long_3))
