use Rattle.std.proofs.Common.{◌++◌, drop, append-nil, refl}
use Rattle.std.proofs.lemmas.List.{drop_all, take_all}
use Rattle.std.proofs.Common.{ℕ, ◌<◌, ◌∙◌, List, length, get_or, set, ap, sym, arith}
use Rattle.st_format.specs.Raster.{Raster}
use Rattle.path_receiver.specs.Frames.{State}
use Rattle.path_receiver.specs.Opening.{Opening}
use Rattle.receiver_file.proofs.Exchanged.{given_one, next_rest, next_set}
use Rattle.receiver_file.proofs.loading.set_frames.Goals as goal

pub set_frame-requires-clause-format : goal.set_frame-requires-clause-format
set_frame-requires-clause-format g c =
    let d : Raster = c.index-frames-place.result in
    let lt : c.loop-place.place < length c.args.frames.now = omega arith in
    ap (λ (r : Raster). r.format)
    (given_one c.loop-place.frames c.args.frames.now c.loop-place.place d
    c.loop-place.invariant.left)
    ∙ c.requires.of_format c.loop-place.place d lt
    ∙ sym (ap (λ (o : Opening). o.format) c.loop-place.invariant.opening)

pub loop-place-preserved : goal.loop-place-preserved
loop-place-preserved g c =
    let d : Raster = c.index-frames-place.result in
    let i : ℕ = c.loop-place.place in
    let x : Raster = get_or c.loop-place.frames i d in
    let lt : i < length c.args.frames.now = omega arith in
    record {
      receiver = c.set_frame.ensures.receiver;
      opening =
          ap (λ (s : State). s.opening) c.set_frame.ensures.set ∙ c.loop-place.invariant.opening;
      refusals =
          ap (λ (s : State). s.refusals) c.set_frame.ensures.set ∙ c.loop-place.invariant.refusals;
      frames =
          ap (λ (s : State). s.frames) c.set_frame.ensures.set
          ∙ ap (λ (t : List Raster). set t i x) c.loop-place.invariant.frames
          ∙ next_set c.args.frames.now c.args.receiver.now.frames i x d lt
          (c.requires.receiver.one_each ∙ sym c.requires.one_each)
          (given_one c.loop-place.frames c.args.frames.now i d c.loop-place.invariant.left);
      left =
          next_rest c.loop-place.frames c.args.frames.now i c.set_frame.new.frame
          c.loop-place.invariant.left;
    }

pub loop-place-init : goal.loop-place-init
loop-place-init g c =
    record {
      receiver = c.requires.receiver;
      opening = refl;
      refusals = refl;
      frames = refl;
      left = refl;
    }

pub bounds-frames-place : goal.bounds-frames-place
bounds-frames-place g c = omega (arith, c.loop-place.auto.frames, c.loop-place-test.true)

pub set_frame-requires-clause-place : goal.set_frame-requires-clause-place
set_frame-requires-clause-place g c =
    omega (
      arith,
      c.requires.one_each,
      c.loop-place-test.true,
      ap (λ (o : Opening). length o.window) c.loop-place.invariant.opening,
    )

pub returns-clause-opening : goal.returns-clause-opening
returns-clause-opening g c = c.loop-place.invariant.opening

pub returns-clause-frames : goal.returns-clause-frames
returns-clause-frames g c =
    let i : ℕ = c.loop-place.place in
    let fs : List Raster = c.args.frames.now in
    let rs : List Raster = c.args.receiver.now.frames in
    c.loop-place.invariant.frames
    ∙ ap (λ (t : List Raster). t ++ drop i rs) (take_all i fs c.loop-place-test.false)
    ∙ ap (λ (t : List Raster). fs ++ t)
    (drop_all i rs
    (omega (arith, c.loop-place-test.false, c.requires.one_each, c.requires.receiver.one_each)))
    ∙ append-nil fs

pub returns-clause-refusals : goal.returns-clause-refusals
returns-clause-refusals g c = c.loop-place.invariant.refusals

pub returns-clause-receiver : goal.returns-clause-receiver
returns-clause-receiver g c = c.loop-place.invariant.receiver
