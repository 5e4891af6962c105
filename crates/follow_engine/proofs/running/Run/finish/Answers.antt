use Rattle.std.proofs.Common.{◌∙◌, [], ap, arith, length, refl, subst, sym}
use Rattle.std.proofs.lemmas.List.{length-drop}
use Rattle.std.proofs.lemmas.Result.{err_from_is_err_and}
use Rattle.following.specs.Follower.{Following, IsFollower}
use Rattle.following.specs.Following.{frames_in}
use Rattle.following.specs.Turned.{handed_as}
use Rattle.following.specs.declared.restarts.Restarts.{Restarts}
use Rattle.path_receiver.specs.Sliding.{with_window}
use Rattle.st_format.specs.Raster.{Raster}
use Rattle.follow_engine.specs.Running.{running_of}
use Rattle.follow_engine.proofs.Blamed.{blames_both}
use Rattle.follow_engine.proofs.Cut.{leaving_cut}
use Rattle.follow_engine.proofs.Leaving.{left_all, left_end, left_more, left_none}
use Rattle.follow_engine.proofs.Leaving.{oldest_frames}
use Rattle.follow_engine.proofs.Turns.{run_oldest}
use Rattle.follow_engine.proofs.running.Run.finish.Goals as goal

pub loop-self-init : goal.loop-self-init
loop-self-init g c = record {
  run = c.requires;
  eager = refl;
  opening = refl;
  size = refl;
  ahead = refl;
  left = left_none g.P.PictureSink.takes frames_in (running_of c.args.self.now) c.args.pictures.now
      (g.O.ByteSink.took c.args.output.now);
  picture_failures = refl;
  output_failures = refl;
}

pub hand_out-handed-requires : goal.hand_out-handed-requires
hand_out-handed-requires g c = c.loop-self.invariant.run.format

pub loop-self-preserved : goal.loop-self-preserved
loop-self-preserved g c =
    let l = c.loop-self in
    let old = l.self in
    let out = c.hand_out-handed in
    let new = c.leave.new.self in
    let took = g.O.ByteSink.took in
    let is = c.in_ok-leave.ensures in
    let at = is.follower ∙ out.ensures.state in
    record {
      run = run_oldest old new l.invariant.run at
          (subst (λ (f : Following). IsFollower f) (sym is.follower) out.ensures.follower)
          (ap (λ (r : Raster). r.format) is.frame ∙ out.ensures.format
          ∙ sym (ap (λ (f : Following). f.opening.format) is.follower))
          (ap (λ (r : Restarts). r.bound) is.restarts) is.steering;
      eager = is.eager ∙ l.invariant.eager;
      opening = ap (λ (f : Following). with_window f.opening []) at ∙ l.invariant.opening;
      size = ap (λ (f : Following). f.size) at ∙ l.invariant.size;
      ahead = ap (λ (f : Following). f.most_ahead) at ∙ l.invariant.ahead;
      left = left_more g.P.PictureSink.takes frames_in (running_of c.args.self.now)
          (running_of old) (running_of new) c.args.pictures.now l.pictures c.leave.new.pictures
          (took c.args.output.now) (took l.output) (took c.leave.new.output)
          (handed_as out.result out.new.frame) out.new.follower l.invariant.left
          (oldest_frames old.follower out.new.follower (handed_as out.result out.new.frame)
          out.ensures.state out.ensures.handed) is.left;
      picture_failures = is.failures.0 ∙ l.invariant.picture_failures;
      output_failures = is.failures.1 ∙ l.invariant.output_failures;
    }

pub loop-self-smaller : goal.loop-self-smaller
loop-self-smaller g c =
    let l = c.loop-self in
    let window = l.self.follower.opening.window in
    let at =
    ap (λ (f : Following). length f.opening.window)
    (c.in_ok-leave.ensures.follower ∙ c.hand_out-handed.ensures.state) in
    omega (arith, at, length-drop 1 window, c.has_frames.ensures.some c.loop-self-test.true)

pub returns-in_err-leave-clause-eager : goal.returns-in_err-leave-clause-eager
returns-in_err-leave-clause-eager g c =
    c.leave.ensures.eager ∙ c.loop-self.invariant.eager

pub returns-in_err-leave-clause-failures : goal.returns-in_err-leave-clause-failures
returns-in_err-leave-clause-failures g c =
    let l = c.loop-self in
    let shown = g.P.PictureSink.failures in
    let told = g.O.ByteSink.failures in
    let p = err_from_is_err_and c.from_residual.result c.from_residual.ensures.1 in
    rw (p.1, p.2)
    (blames_both c.in_err-leave.field-0.0 (shown c.args.pictures.now) (shown l.pictures)
    (shown c.leave.new.pictures) (told c.args.output.now) (told l.output)
    (told c.leave.new.output) l.invariant.picture_failures l.invariant.output_failures
    c.in_err-leave.ensures.failures)

pub returns-clause-finished : goal.returns-clause-finished
returns-clause-finished g c =
    let l = c.loop-self in
    let took = g.O.ByteSink.took in
    let none = c.has_frames.ensures.none c.loop-self-test.false in
    let all =
    left_all g.P.PictureSink.takes frames_in (running_of c.args.self.now) (running_of l.self)
    c.args.pictures.now l.pictures (took c.args.output.now) (took l.output) l.invariant.left
    (left_end l.self.follower none) in
    record {
      run = l.invariant.run;
      none = none;
      opening = l.invariant.opening;
      size = l.invariant.size;
      ahead = l.invariant.ahead;
      running = all.0;
      told = all.1;
    }

pub returns-in_err-leave-clause-part : goal.returns-in_err-leave-clause-part
returns-in_err-leave-clause-part g c =
    let p = err_from_is_err_and c.from_residual.result c.from_residual.ensures.1 in
    let l = c.loop-self in
    let old = l.self in
    let out = c.hand_out-handed in
    let took = g.O.ByteSink.took in
    rw (p.1)
    (leaving_cut g.P.PictureSink.takes g.P.PictureSink.fails frames_in
    (running_of c.args.self.now) (running_of old) c.args.pictures.now l.pictures c.leave.new.pictures (took c.args.output.now)
    (took l.output) (took c.leave.new.output) (handed_as out.result out.new.frame)
    out.new.follower l.invariant.left
    (oldest_frames old.follower out.new.follower (handed_as out.result out.new.frame)
    out.ensures.state out.ensures.handed) c.in_err-leave.ensures.part)
