use Rattle.std.proofs.Common.{List, [], ◌∷◌, arith, ap, length, length-append}
use Rattle.path_receiver.specs.Frames.{State}
use Rattle.path_merge.proofs.OpeningLemmas.{opened_more, opening_of}
use Rattle.path_merge.proofs.schedule.opening.open_receivers.Goals as goal

pub loop-preserved : goal.loop-preserved
loop-preserved g c =
    let h = c.in-Ok-push.ensures.items in
    record {
      count =
          omega (
            arith,
            ap (λ (xs : List State). length xs) h,
            c.loop.invariant.count,
            length-append c.loop.receivers.items (c.in-Ok-open.receiver ∷ []),
          );
      each =
          opened_more (opening_of c.args.format c.args.stamp c.args.window.now)
          c.loop.receivers.items c.push.new.self.items c.in-Ok-open.receiver h c.loop.invariant.each
          c.in-Ok-open.ensures.opening c.in-Ok-open.ensures.holds;
    }
