use Rattle.std.proofs.Common.{arith, refl}
use Rattle.std.proofs.lemmas.List.{with_items_is}
use Rattle.path_merge.proofs.StepLemmas.{slides_of}
use Rattle.path_merge.proofs.schedule.stage.hand_out.Goals as goal

pub returns-clause-handed : goal.returns-clause-handed
returns-clause-handed g c = record {
  out = c.in_ok-handed.handed;
  slides =
      slides_of c.args.at c.args.next c.args.stage.now.receivers.items c.as_mut_slice.result.now _
      c.slide.new.receivers c.in_ok-handed.handed c.as_mut_slice.ensures.value
      (with_items_is c.args.stage.now.receivers c.slide.new.receivers
      (omega (
        arith,
        c.slide.auto.receivers,
        c.as_mut_slice.ensures.len,
      ))) c.in_ok-handed.ensures.handed;
  handed = c.in_ok-push.ensures.items;
  sent = refl;
}
