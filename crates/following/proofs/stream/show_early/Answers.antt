use Rattle.std.proofs.Common.{◌∙◌, ◌++◌, [], Some, ap, arith, length, sym}
use Rattle.std.proofs.lemmas.List.{length-drop}
use Rattle.following.specs.Follower.{Following, without_oldest}
use Rattle.following.specs.Turned.{handed_as, handed_early}
use Rattle.following.proofs.Driving.{early_shown, early_state}
use Rattle.following.proofs.Turning.{some_early}
use Rattle.following.proofs.stream.show_early.Goals as goal

pub returns-in-Some-clause-state : goal.returns-in-Some-clause-state
returns-in-Some-clause-state g c =
    let l = c.loop-follower in
    let test = c.goes_early in
    let out = c.hand_out-handed in
    early_state c.args.eager l.follower test.new.follower out.new.follower c.args.follower.now
    test.ensures.same out.ensures.state (sym test.ensures.goes ∙ c.loop-follower-test.true)
    l.invariant.state

pub returns-in-Some-clause-shown : goal.returns-in-Some-clause-shown
returns-in-Some-clause-shown g c =
    let l = c.loop-follower in
    let shown = g.K.FrameSink.shown in
    let test = c.goes_early in
    let out = c.hand_out-handed in
    early_shown c.args.eager l.follower test.new.follower out.new.follower
    (handed_as out.result out.new.frame) (handed_as (Some c.in-Some.timestamp) out.new.frame)
    (shown l.sink) (shown c.show.new.sink)
    (shown c.args.sink.now ++ handed_early c.args.eager c.args.follower.now) test.ensures.same
    out.ensures.state out.ensures.handed (sym test.ensures.goes ∙ c.loop-follower-test.true)
    l.invariant.shown c.in-Some.ensures.shown

pub loop-follower-smaller : goal.loop-follower-smaller
loop-follower-smaller g c =
    let l = c.loop-follower in
    let test = c.goes_early in
    let out = c.hand_out-handed in
    let goes = sym test.ensures.goes ∙ c.loop-follower-test.true in
    let at =
    ap (λ (f : Following). length f.opening.window)
    (out.ensures.state ∙ ap (λ (f : Following). without_oldest f) test.ensures.same) in
    omega (
      arith,
      at,
      length-drop 1 l.follower.opening.window,
      some_early c.args.eager l.follower goes l.invariant.follower.one_each,
    )

pub loop-follower-preserved : goal.loop-follower-preserved
loop-follower-preserved g c =
    let l = c.loop-follower in
    let shown = g.K.FrameSink.shown in
    let test = c.goes_early in
    let out = c.hand_out-handed in
    let goes = sym test.ensures.goes ∙ c.loop-follower-test.true in
    record {
      shown =
          early_shown c.args.eager l.follower test.new.follower out.new.follower
          (handed_as out.result out.new.frame) [] (shown l.sink) (shown c.show.new.sink)
          (shown c.args.sink.now ++ handed_early c.args.eager c.args.follower.now)
          test.ensures.same out.ensures.state out.ensures.handed goes l.invariant.shown
          c.in_default.ensures.shown;
      state =
          early_state c.args.eager l.follower test.new.follower out.new.follower
          c.args.follower.now test.ensures.same out.ensures.state goes l.invariant.state;
      failures = c.in_default.ensures.blameless ∙ l.invariant.failures;
      format = out.ensures.format;
      follower = out.ensures.follower;
    }
