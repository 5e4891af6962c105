use Rattle.std.proofs.Common.{slice_index_or, sym, ◌∙◌, ap, arith}
use Rattle.st_format.specs.Raster.{Raster, joined_rasters}
use Rattle.path_receiver.proofs.Joined.{alike_at, alike_length, alike_set, frames_next}
use Rattle.path_receiver.proofs.joining.join_frames.Goals as goal

pub offset_bounds-others-i : goal.offset_bounds-others-i
offset_bounds-others-i g c =
    omega (
      arith,
      alike_length c.loop-i.frames c.args.others.now c.loop-i.invariant.are_alike,
      c.loop-i-test.true,
      c.loop-i.auto.frames,
    )

pub bounds-others-i : goal.bounds-others-i
bounds-others-i g c =
    omega (
      arith,
      alike_length c.loop-i.frames c.args.others.now c.loop-i.invariant.are_alike,
      c.loop-i-test.true,
      c.loop-i.auto.frames,
    )

pub absorb-requires : goal.absorb-requires
absorb-requires g c =
    ap (λ (r : Raster). r.format) c.index-others-i.is
    ∙ alike_at c.loop-i.i c.loop-i.frames c.args.others.now c.index-frames-i.result
    c.index-others-i.result c.loop-i.invariant.are_alike
    (omega (arith, c.loop-i-test.true, c.loop-i.auto.frames))

pub loop-i-preserved : goal.loop-i-preserved
loop-i-preserved g c = record {
  are_alike =
      alike_set c.loop-i.i c.loop-i.frames c.args.others.now c.absorb.new.self
      c.index-frames-i.result c.loop-i.invariant.are_alike c.absorb.ensures.format;
  left =
      sym (frames_next c.loop-i.i c.loop-i.frames c.args.others.now c.absorb.new.self
      c.index-frames-i.result c.index-others-i.result c.loop-i.invariant.are_alike
      (omega (arith, c.loop-i-test.true, c.loop-i.auto.frames))
      (c.absorb.ensures.rasters
      ∙ ap
      (λ (q : Raster). joined_rasters
      (slice_index_or c.loop-i.frames c.loop-i.i c.index-frames-i.result) q)
      c.index-others-i.is)) ∙ c.loop-i.invariant.left;
}
