use Rattle.std.proofs.Common.{arith, refl}
use Rattle.std.proofs.lemmas.List.{with_items_is}
use Rattle.path_merge.proofs.StepLemmas.{arrive_unfit_of, arrives_of, merge_unfit_of, merges_of}
use Rattle.path_merge.specs.declared.schedule.event.Event.TheVariants.{Send, Arrive, Slide, Merge}
use Rattle.path_merge.specs.declared.schedule.stop.Stop.TheVariants.{Unfit}
use Rattle.path_merge.proofs.StageLemmas.{follows_arrive, follows_merge, follows_of, follows_send}
use Rattle.path_merge.proofs.StageLemmas.{follows_slide, never_of, on_err, on_ok_map, unfit_arrive}
use Rattle.path_merge.proofs.StageLemmas.{unfit_merge, unfit_send, unfit_slide}
use Rattle.path_merge.proofs.schedule.stage.follow.Goals as goal

pub returns-in-Send-clause-followed : goal.returns-in-Send-clause-followed
returns-in-Send-clause-followed g c =
    on_ok_map c.send.result
    (λ h. follows_of c.args.plan.now c.args.stamp c.args.pictures.now Send c.args.event
    c.args.stage.now c.send.new.stage c.in-Send.is
    (follows_send c.args.plan.now c.args.stamp c.args.pictures.now c.args.stage.now
    c.send.new.stage h))
    c.send.ensures.sent

pub returns-in-Send-clause-unfit : goal.returns-in-Send-clause-unfit
returns-in-Send-clause-unfit g c is =
    never_of c.args.plan.now c.args.stamp c.args.pictures.now Send c.args.event c.args.stage.now
    c.in-Send.is (unfit_send c.args.plan.now c.args.stamp c.args.pictures.now c.args.stage.now
    (c.send.ensures.none is))

pub returns-in-Arrive-clause-followed : goal.returns-in-Arrive-clause-followed
returns-in-Arrive-clause-followed g c =
    on_ok_map c.arrive.result
    (λ h. follows_of c.args.plan.now c.args.stamp c.args.pictures.now
    (Arrive c.in-Arrive.to c.in-Arrive.path c.in-Arrive.number) c.args.event c.args.stage.now _
    c.in-Arrive.is
    (follows_arrive c.args.plan.now c.args.stamp c.args.pictures.now c.in-Arrive.to
    c.in-Arrive.number c.in-Arrive.path c.args.stage.now _ h refl refl refl))
    (arrives_of c.in-Arrive.to c.in-Arrive.number c.args.stage.now.sent.items c.as_slice.result.now
    c.args.stage.now.receivers.items c.as_mut_slice.result.now _ c.arrive.new.receivers
    c.arrive.result
    c.as_slice.ensures.value c.as_mut_slice.ensures.value
    (with_items_is c.args.stage.now.receivers c.arrive.new.receivers
    (omega (
      arith,
      c.arrive.auto.receivers,
      c.as_mut_slice.ensures.len,
    ))) c.arrive.ensures.taken)

pub returns-in-Arrive-clause-unfit : goal.returns-in-Arrive-clause-unfit
returns-in-Arrive-clause-unfit g c is =
    never_of c.args.plan.now c.args.stamp c.args.pictures.now
    (Arrive c.in-Arrive.to c.in-Arrive.path c.in-Arrive.number) c.args.event c.args.stage.now
    c.in-Arrive.is
    (unfit_arrive c.args.plan.now c.args.stamp c.args.pictures.now c.in-Arrive.to
    c.in-Arrive.number c.in-Arrive.path c.args.stage.now
    (on_err c.arrive.result Unfit is
    (arrive_unfit_of c.in-Arrive.to c.in-Arrive.number c.args.stage.now.sent.items
    c.as_slice.result.now c.args.stage.now.receivers.items c.as_mut_slice.result.now
    c.arrive.result c.as_slice.ensures.value c.as_mut_slice.ensures.value
    c.arrive.ensures.unfit)))

pub returns-in-Slide-clause-followed : goal.returns-in-Slide-clause-followed
returns-in-Slide-clause-followed g c =
    on_ok_map c.hand_out.result
    (λ h. follows_of c.args.plan.now c.args.stamp c.args.pictures.now
    (Slide c.in-Slide.at c.in-Slide.next) c.args.event c.args.stage.now c.hand_out.new.stage
    c.in-Slide.is
    (follows_slide c.args.plan.now c.args.stamp c.args.pictures.now c.in-Slide.at c.in-Slide.next
    c.args.stage.now c.hand_out.new.stage h c.hand_out.ensures.rest.0))
    c.hand_out.ensures.handed

pub returns-in-Slide-clause-unfit : goal.returns-in-Slide-clause-unfit
returns-in-Slide-clause-unfit g c is =
    never_of c.args.plan.now c.args.stamp c.args.pictures.now
    (Slide c.in-Slide.at c.in-Slide.next) c.args.event c.args.stage.now c.in-Slide.is
    (unfit_slide c.args.plan.now c.args.stamp c.args.pictures.now c.in-Slide.at c.in-Slide.next
    c.args.stage.now (c.hand_out.ensures.unfit is))

pub returns-in-Merge-clause-followed : goal.returns-in-Merge-clause-followed
returns-in-Merge-clause-followed g c =
    on_ok_map c.merge.result
    (λ h. follows_of c.args.plan.now c.args.stamp c.args.pictures.now
    (Merge c.in-Merge.into c.in-Merge.from) c.args.event c.args.stage.now _ c.in-Merge.is
    (follows_merge c.args.plan.now c.args.stamp c.args.pictures.now c.in-Merge.into c.in-Merge.from
    c.args.stage.now _ h refl refl refl))
    (merges_of c.in-Merge.into c.in-Merge.from c.args.stage.now.receivers.items
    c.as_mut_slice-in-Merge.result.now _ c.merge.new.receivers c.merge.result
    c.as_mut_slice-in-Merge.ensures.value
    (with_items_is c.args.stage.now.receivers c.merge.new.receivers
    (omega (
      arith,
      c.merge.auto.receivers,
      c.as_mut_slice-in-Merge.ensures.len,
    ))) c.merge.ensures.merged)

pub returns-in-Merge-clause-unfit : goal.returns-in-Merge-clause-unfit
returns-in-Merge-clause-unfit g c is =
    never_of c.args.plan.now c.args.stamp c.args.pictures.now
    (Merge c.in-Merge.into c.in-Merge.from) c.args.event c.args.stage.now c.in-Merge.is
    (unfit_merge c.args.plan.now c.args.stamp c.args.pictures.now c.in-Merge.into c.in-Merge.from
    c.args.stage.now (on_err c.merge.result Unfit is
    (merge_unfit_of c.in-Merge.into c.in-Merge.from c.args.stage.now.receivers.items
    c.as_mut_slice-in-Merge.result.now c.merge.result c.as_mut_slice-in-Merge.ensures.value
    c.merge.ensures.unfit)))
