use Rattle.std.proofs.Common.{◌≡◌, Err, arith, refl, rules, subst}
use Rattle.st_format.specs.declared.format.Format.{Format}
use Rattle.path_merge.specs.Played.{ArePictures}
use Rattle.path_merge.specs.Sent.{scene_of, sender_of}
use Rattle.path_merge.specs.Unfit.{SpeaksAgainst}
use Rattle.path_receiver.specs.declared.play_fault.PlayFault.TheVariants.{BadEvent}
use Rattle.path_receiver.specs.declared.play_fault.PlayFault.TheVariants.{BadPictures}
use Rattle.path_receiver.specs.declared.play_fault.PlayFault.TheVariants.{BadReceivers}
use Rattle.path_merge.proofs.PlayLemmas.{fault_is, no_pictures, no_receivers, played_all, texts_by}
use Rattle.path_merge.proofs.PlayLemmas.{texts_list}
use Rattle.path_merge.proofs.SenderStays.{senders_frame}
use Rattle.path_merge.proofs.UnfitLemmas.{bad_double, bad_pictures, bad_receivers, bad_window}
use Rattle.path_merge.proofs.UnfitLemmas.{no_event}
use Rattle.path_merge.proofs.schedule.playing.play.Goals as goal

pub returns-in_err-check-clause-window : goal.returns-in_err-check-clause-window
returns-in_err-check-clause-window g c =
    let e = c.in_err-check.field-0.0 in
    let is : c.from_residual.result ≡ Err e = search rules in
    bad_window c.args.window.now c.args.pictures.now c.format.result c.args.receivers
    c.from_residual.result e is c.in_err-check.ensures.fault

pub returns-in_err-check-clause-double : goal.returns-in_err-check-clause-double
returns-in_err-check-clause-double g c =
    let e = c.in_err-check.field-0.0 in
    let is : c.from_residual.result ≡ Err e = search rules in
    bad_double c.args.window.now c.args.pictures.now c.format.result c.args.receivers
    c.from_residual.result e is c.in_err-check.ensures.fault

pub returns-in_err-check-clause-pictures : goal.returns-in_err-check-clause-pictures
returns-in_err-check-clause-pictures g c =
    let e = c.in_err-check.field-0.0 in
    let is : c.from_residual.result ≡ Err e = search rules in
    bad_pictures c.args.window.now c.args.pictures.now c.args.plan.now.format c.args.receivers
    c.from_residual.result e is (subst (λ
    (f : Format). SpeaksAgainst e c.args.window.now c.args.pictures.now f c.args.receivers)
    c.format.ensures c.in_err-check.ensures.fault)

pub returns-in_err-check-clause-receivers : goal.returns-in_err-check-clause-receivers
returns-in_err-check-clause-receivers g c =
    let e = c.in_err-check.field-0.0 in
    let is : c.from_residual.result ≡ Err e = search rules in
    bad_receivers c.args.window.now c.args.pictures.now c.args.plan.now.format c.args.receivers
    c.from_residual.result e is (subst (λ
    (f : Format). SpeaksAgainst e c.args.window.now c.args.pictures.now f c.args.receivers)
    c.format.ensures c.in_err-check.ensures.fault)

pub returns-in_err-check-clause-event : goal.returns-in_err-check-clause-event
returns-in_err-check-clause-event g c place here =
    let e = c.in_err-check.field-0.0 in
    let is : c.from_residual.result ≡ Err e = search rules in
    absurd (no_event c.args.window.now c.args.pictures.now c.format.result c.args.receivers
    c.from_residual.result e is place c.in_err-check.ensures.fault here)

pub returns-in-Err-clause-pictures : goal.returns-in-Err-clause-pictures
returns-in-Err-clause-pictures g c = (
  λ e. absurd
      (no_pictures c.in-Err.fault c.in-Err.ensures.others
      (fault_is _ c.in-Err.fault BadPictures refl e)),
  λ h. absurd
      (h.1 (subst
      (λ (f : Format). ArePictures c.args.pictures.now f) c.format.ensures
      c.in_ok-check.ensures.fine.1)),
)

pub returns-in-Err-clause-receivers : goal.returns-in-Err-clause-receivers
returns-in-Err-clause-receivers g c = (
  λ e. absurd
      (no_receivers c.in-Err.fault c.in-Err.ensures.others
      (fault_is _ c.in-Err.fault BadReceivers refl e)),
  λ h. absurd (h.2 c.in_ok-check.ensures.fine.2),
)

pub returns-in-Err-clause-event : goal.returns-in-Err-clause-event
returns-in-Err-clause-event g c place e =
    c.in-Err.ensures.bad place (fault_is _ c.in-Err.fault (BadEvent place) refl e)
    (scene_of c.args.plan.now c.args.pictures.now c.args.stamp c.args.window.now
    c.args.receivers)
    c.in_ok-check.ensures.fine.0.size.some (c.in_ok-stage.ensures.stage c.args.pictures.now)

pub returns-clause-pictures : goal.returns-clause-pictures
returns-clause-pictures g c = (
  λ e. absurd cc,
  λ h. absurd
      (h.1 (subst
      (λ (f : Format). ArePictures c.args.pictures.now f) c.format.ensures
      c.in_ok-check.ensures.fine.1)),
)

pub returns-clause-receivers : goal.returns-clause-receivers
returns-clause-receivers g c = (λ e. absurd cc, λ h. absurd (h.2 c.in_ok-check.ensures.fine.2))

pub returns-clause-played : goal.returns-clause-played
returns-clause-played g c =
    played_all c.args.plan.now c.args.stamp c.args.pictures.now
    (scene_of c.args.plan.now c.args.pictures.now c.args.stamp c.args.window.now c.args.receivers)
    c.args.events.now c.in_ok-stage.stage c.follow_all.new.stage
    c.in_ok-check.ensures.fine.0.size.some
    (c.in_ok-stage.ensures.stage c.args.pictures.now) c.in_default.ensures.followed

pub returns-clause-list : goal.returns-clause-list
returns-clause-list g c =
    texts_list c.args.plan.now c.args.stamp c.args.pictures.now c.facts.ensures.full
    (omega (arith, c.requires)) c.stamp_facts.ensures
    (subst (λ
    (f : Format). ArePictures c.args.pictures.now f) c.format.ensures c.in_ok-check.ensures.fine.1)
    c.in_ok-check.ensures.whole

pub returns-clause-packets : goal.returns-clause-packets
returns-clause-packets g c =
    texts_by c.args.plan.now c.args.stamp c.args.pictures.now c.facts.ensures.full
    (omega (arith, c.requires)) c.stamp_facts.ensures
    (subst (λ
    (f : Format). ArePictures c.args.pictures.now f) c.format.ensures c.in_ok-check.ensures.fine.1)
    c.in_ok-check.ensures.whole

pub returns-clause-senders : goal.returns-clause-senders
returns-clause-senders g c stay frame is =
    let scene =
    scene_of c.args.plan.now c.args.pictures.now c.args.stamp c.args.window.now
    c.args.receivers in
    senders_frame scene
    (sender_of c.args.plan.now c.args.stamp) c.args.pictures.now c.args.events.now stay frame
    (record {
      first = c.args.stamp.first;
      datagrams = scene.sent;
      list =
          texts_list c.args.plan.now c.args.stamp c.args.pictures.now c.facts.ensures.full
          (omega (arith, c.requires)) c.stamp_facts.ensures
          (subst (λ
          (f : Format). ArePictures c.args.pictures.now f) c.format.ensures
          c.in_ok-check.ensures.fine.1) c.in_ok-check.ensures.whole;
      format = refl;
      among = λ octets m. m;
    }) is
