use Rattle.std.proofs.Common.{Some, map, option_copied, arith, refl, subst, sym, ap, ◌∙◌}
use Rattle.std.proofs.lemmas.List.{take_all}
use Rattle.path_receiver.specs.Frames.{frame_at}
use Rattle.st_format.specs.Member.{IsMember}
use Rattle.receiver_engines.proofs.Lists.{map_next}
use Rattle.receiver_engines.proofs.Refusals.{member_at, window_lacks}
use Rattle.receiver_engines.proofs.inputs.frames_at.Goals as goal

pub returns-in_default-clause-refused : goal.returns-in_default-clause-refused
returns-in_default-clause-refused g c =
    let receivers = c.args.receivers.now in
    let receiver = c.receiver-item.result in (
      refl,
      record {
        receiver = receiver;
        is = subst (λ r. IsMember r receivers) (sym c.receiver-item.is)
            (member_at receivers c.loop-receiver.receiver-index receiver (omega arith));
        lacks = window_lacks c.frame.result (IsMember c.args.timestamp receiver.opening.window)
            c.in_default.not-Some c.frame.ensures.within;
      },
    )

pub loop-receiver-preserved : goal.loop-receiver-preserved
loop-receiver-preserved g c =
    map_next (λ r. frame_at r.opening.window r.frames c.args.timestamp) (λ f. Some f.now)
    c.args.receivers.now c.loop-receiver.frames.items c.loop-receiver.receiver-index
    c.receiver-item.result c.in-Some.frame c.loop-receiver-test.true c.receiver-item.is
    c.loop-receiver.invariant
    (sym c.frame.ensures.frame ∙ ap (λ o. option_copied o) c.in-Some.is)
    ∙ ap (λ fs. map (λ f. Some f.now) fs) (sym c.in-Ok.ensures.items)

pub returns-clause-are : goal.returns-clause-are
returns-clause-are g c =
    ap (λ rs. map (λ r. frame_at r.opening.window r.frames c.args.timestamp) rs)
    (sym (take_all c.loop-receiver.receiver-index c.args.receivers.now
    c.loop-receiver-test.false))
    ∙ c.loop-receiver.invariant
