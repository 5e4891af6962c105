use Rattle.std.proofs.Common.{ℕ, Err, ap, arith, subst, slice_index_or}
use Rattle.std.proofs.lemmas.Option.{slice_get-get_or}
use Rattle.path_merge.specs.declared.schedule.event.Event.TheVariants.{Send}
use Rattle.path_merge.specs.declared.schedule.stop.Stop.{Stop}
use Rattle.path_merge.specs.Stage.{RefusesAt}
use Rattle.std.proofs.Common.{inl, inr, length, refl}
use Rattle.path_merge.specs.Stage.{FollowsTo}
use Rattle.path_merge.proofs.Stopped.{not_event}
use Rattle.path_merge.proofs.CountingUp.{fewer, reached}
use Rattle.path_merge.proofs.PlayLemmas.{fails_here, follows_next, same_place}
use Rattle.path_merge.proofs.schedule.playing.follow_all.Goals as goal

pub loop-place-preserved : goal.loop-place-preserved
loop-place-preserved g c = record {
  ready = c.in-Ok.ensures.ready;
  followed =
      follows_next c.args.plan.now c.args.stamp c.args.pictures.now c.args.events.now
      c.loop-place.place (slice_index_or c.args.events.now c.loop-place.place Send)
      c.args.stage.now c.loop-place.stage c.follow.new.stage
      (slice_get-get_or c.args.events.now c.loop-place.place Send
      (omega (
        arith,
        c.loop-place-test.true,
      ))) c.loop-place.invariant.followed c.in-Ok.ensures.followed;
}

pub returns-in-Err-Unfit-clause-bad : goal.returns-in-Err-Unfit-clause-bad
returns-in-Err-Unfit-clause-bad g c place e =
    subst (λ
    (n : ℕ). RefusesAt c.args.plan.now c.args.stamp c.args.pictures.now c.args.events.now n
    c.args.stage.now) (same_place c.loop-place.place place e)
    (fails_here c.args.plan.now c.args.stamp c.args.pictures.now c.args.events.now
    c.loop-place.place (slice_index_or c.args.events.now c.loop-place.place Send)
    c.args.stage.now c.loop-place.stage
    (slice_get-get_or c.args.events.now c.loop-place.place Send
    (omega (arith, c.loop-place-test.true))) c.loop-place.invariant.followed
    (c.in-Err-Unfit.ensures.unfit (ap (λ (x : Stop). Err x) c.in-Err-Unfit.field-0-is)))

pub returns-in-Err-NoMemory-clause-bad : goal.returns-in-Err-NoMemory-clause-bad
returns-in-Err-NoMemory-clause-bad g c place e = absurd (not_event place e)

pub bounds-events-place : goal.bounds-events-place
bounds-events-place g c = c.loop-place-test.true

pub follow-requires-clause-payload_type : goal.follow-requires-clause-payload_type
follow-requires-clause-payload_type g c = c.requires.payload_type

pub follow-requires-clause-formats : goal.follow-requires-clause-formats
follow-requires-clause-formats g c = c.requires.pictures.of_format

pub follow-requires-clause-few : goal.follow-requires-clause-few
follow-requires-clause-few g c = c.requires.pictures.few

pub follow-requires-clause-ready : goal.follow-requires-clause-ready
follow-requires-clause-ready g c = c.loop-place.invariant.ready

pub loop-place-smaller : goal.loop-place-smaller
loop-place-smaller g c = fewer (length c.args.events.now) c.loop-place.place c.loop-place-test.true

pub returns-in-Err-NoMemory-clause-followed : goal.returns-in-Err-NoMemory-clause-followed
returns-in-Err-NoMemory-clause-followed g c = tt

pub returns-in-Err-NoMemory-clause-others : goal.returns-in-Err-NoMemory-clause-others
returns-in-Err-NoMemory-clause-others g c = inl refl

pub returns-in-Err-Unfit-clause-followed : goal.returns-in-Err-Unfit-clause-followed
returns-in-Err-Unfit-clause-followed g c = tt

pub returns-in-Err-Unfit-clause-others : goal.returns-in-Err-Unfit-clause-others
returns-in-Err-Unfit-clause-others g c = inr (_, refl)

pub returns-clause-followed : goal.returns-clause-followed
returns-clause-followed g c =
    subst
    (λ (n : ℕ). FollowsTo c.args.plan.now c.args.stamp c.args.pictures.now c.args.events.now n
    c.args.stage.now c.loop-place.stage)
    (reached c.loop-place.place (length c.args.events.now) c.loop-place.auto.place-end
    c.loop-place-test.false)
    c.loop-place.invariant.followed

pub returns-clause-bad : goal.returns-clause-bad
returns-clause-bad g c = tt

pub returns-clause-others : goal.returns-clause-others
returns-clause-others g c = tt
