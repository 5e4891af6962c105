use Rattle.std.proofs.Common.{◌∙◌, [], Bool, ap, arith, length, refl, subst, sym}
use Rattle.std.proofs.lemmas.List.{length-drop}
use Rattle.std.proofs.lemmas.Result.{err_from_is_err_and}
use Rattle.following.specs.Follower.{Following, IsFollower, without_oldest}
use Rattle.following.specs.Turned.{goes_early, handed_as, handed_early}
use Rattle.following.proofs.Driving.{early_state}
use Rattle.following.proofs.Turning.{some_early}
use Rattle.st_format.specs.Raster.{Raster}
use Rattle.follow_engine.specs.Running.{LeavesTurn, running_of}
use Rattle.follow_engine.proofs.Blamed.{blames_both}
use Rattle.follow_engine.proofs.Cut.{leaving_cut}
use Rattle.follow_engine.proofs.Leaving.{early_frames, left_early, left_more, left_none}
use Rattle.follow_engine.proofs.running.Run.leave_early.Goals as goal

pub loop-self-init : goal.loop-self-init
loop-self-init g c = record {
  format = c.requires;
  follower = c.facts.ensures;
  restarts = refl;
  eager = refl;
  steering = refl;
  state = refl;
  left = left_none g.P.PictureSink.takes (handed_early c.args.self.now.is_eager)
      (running_of c.args.self.now) c.args.pictures.now (g.O.ByteSink.took c.args.output.now);
  picture_failures = refl;
  output_failures = refl;
}

pub hand_out-handed-requires : goal.hand_out-handed-requires
hand_out-handed-requires g c =
    c.loop-self.invariant.format
    ∙ sym (ap (λ (f : Following). f.opening.format) c.goes_early.ensures.same)

pub loop-self-preserved : goal.loop-self-preserved
loop-self-preserved g c =
    let l = c.loop-self in
    let was = c.args.self.now in
    let old = l.self in
    let out = c.hand_out-handed in
    let test = c.goes_early in
    let new = c.leave.new.self in
    let took = g.O.ByteSink.took in
    let is = c.in_ok-leave.ensures in
    let goes =
    ap (λ (b : Bool). goes_early b old.follower) (sym l.invariant.eager) ∙ sym test.ensures.goes
    ∙ c.loop-self-test.true in
    let gone = handed_as out.result out.new.frame in
    record {
      format =
          ap (λ (r : Raster). r.format) is.frame ∙ out.ensures.format
          ∙ sym (ap (λ (f : Following). f.opening.format) is.follower);
      follower =
          subst (λ (f : Following). IsFollower f) (sym is.follower) out.ensures.follower;
      restarts = is.restarts ∙ l.invariant.restarts;
      eager = is.eager ∙ l.invariant.eager;
      steering = is.steering ∙ l.invariant.steering;
      state =
          early_state was.is_eager old.follower test.new.follower new.follower was.follower
          test.ensures.same (is.follower ∙ out.ensures.state) goes l.invariant.state;
      left = left_more g.P.PictureSink.takes (handed_early was.is_eager) (running_of was)
          (running_of old) (running_of new) c.args.pictures.now l.pictures c.leave.new.pictures
          (took c.args.output.now) (took l.output) (took c.leave.new.output) gone
          out.new.follower l.invariant.left
          (early_frames was.is_eager old.follower test.new.follower out.new.follower gone
          test.ensures.same out.ensures.state out.ensures.handed goes) is.left;
      picture_failures = is.failures.0 ∙ l.invariant.picture_failures;
      output_failures = is.failures.1 ∙ l.invariant.output_failures;
    }

pub loop-self-smaller : goal.loop-self-smaller
loop-self-smaller g c =
    let l = c.loop-self in
    let s = l.self.follower in
    let test = c.goes_early in
    let goes = sym test.ensures.goes ∙ c.loop-self-test.true in
    let at =
    ap (λ (f : Following). length f.opening.window)
    (c.in_ok-leave.ensures.follower ∙ c.hand_out-handed.ensures.state
    ∙ ap (λ (f : Following). without_oldest f) test.ensures.same) in
    omega (
      arith,
      at,
      length-drop 1 s.opening.window,
      some_early l.self.is_eager s goes l.invariant.follower.one_each,
    )

pub returns-clause-left : goal.returns-clause-left
returns-clause-left g c =
    let l = c.loop-self in
    let was = c.args.self.now in
    let took = g.O.ByteSink.took in
    let test = c.goes_early in
    let still =
    ap (λ (b : Bool). goes_early b l.self.follower) (sym l.invariant.eager)
    ∙ sym test.ensures.goes ∙ c.loop-self-test.false in
    subst (λ (f : Following). LeavesTurn g.P.PictureSink.takes was.is_eager (running_of was)
    (record (running_of l.self) { follower = f }) [] c.args.pictures.now l.pictures
    (took c.args.output.now) (took l.output))
    (sym test.ensures.same)
    (left_early g.P.PictureSink.takes was.is_eager (running_of was) (running_of l.self)
    c.args.pictures.now l.pictures (took c.args.output.now) (took l.output) l.invariant.left still
    l.invariant.state)

pub returns-in_err-leave-clause-format : goal.returns-in_err-leave-clause-format
returns-in_err-leave-clause-format g c =
    let is = c.leave.ensures in
    ap (λ (r : Raster). r.format) is.frame ∙ c.hand_out-handed.ensures.format
    ∙ sym (ap (λ (f : Following). f.opening.format) is.follower)

pub returns-in_err-leave-clause-follower : goal.returns-in_err-leave-clause-follower
returns-in_err-leave-clause-follower g c =
    subst (λ (f : Following). IsFollower f) (sym c.leave.ensures.follower)
    c.hand_out-handed.ensures.follower

pub returns-in_err-leave-clause-restarts : goal.returns-in_err-leave-clause-restarts
returns-in_err-leave-clause-restarts g c =
    c.leave.ensures.restarts ∙ c.loop-self.invariant.restarts

pub returns-in_err-leave-clause-eager : goal.returns-in_err-leave-clause-eager
returns-in_err-leave-clause-eager g c = c.leave.ensures.eager ∙ c.loop-self.invariant.eager

pub returns-in_err-leave-clause-steering : goal.returns-in_err-leave-clause-steering
returns-in_err-leave-clause-steering g c =
    c.leave.ensures.steering ∙ c.loop-self.invariant.steering

pub returns-in_err-leave-clause-failures : goal.returns-in_err-leave-clause-failures
returns-in_err-leave-clause-failures g c =
    let l = c.loop-self in
    let shown = g.P.PictureSink.failures in
    let told = g.O.ByteSink.failures in
    let p = err_from_is_err_and c.from_residual.result c.from_residual.ensures.1 in
    rw (p.1, p.2)
    (blames_both c.in_err-leave.field-0.0 (shown c.args.pictures.now) (shown l.pictures)
    (shown c.leave.new.pictures) (told c.args.output.now) (told l.output)
    (told c.leave.new.output) l.invariant.picture_failures l.invariant.output_failures
    c.in_err-leave.ensures.failures)

pub returns-in_err-leave-clause-part : goal.returns-in_err-leave-clause-part
returns-in_err-leave-clause-part g c =
    let p = err_from_is_err_and c.from_residual.result c.from_residual.ensures.1 in
    let l = c.loop-self in
    let was = c.args.self.now in
    let old = l.self in
    let out = c.hand_out-handed in
    let test = c.goes_early in
    let took = g.O.ByteSink.took in
    let goes =
    ap (λ (b : Bool). goes_early b old.follower) (sym l.invariant.eager) ∙ sym test.ensures.goes
    ∙ c.loop-self-test.true in
    let gone = handed_as out.result out.new.frame in
    rw (p.1)
    (leaving_cut g.P.PictureSink.takes g.P.PictureSink.fails (handed_early was.is_eager)
    (running_of was) (running_of old) c.args.pictures.now l.pictures c.leave.new.pictures
    (took c.args.output.now) (took l.output) (took c.leave.new.output) gone out.new.follower
    l.invariant.left
    (early_frames was.is_eager old.follower test.new.follower out.new.follower gone
    test.ensures.same out.ensures.state out.ensures.handed goes) c.in_err-leave.ensures.part)
