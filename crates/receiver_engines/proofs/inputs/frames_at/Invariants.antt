use Rattle.std.proofs.Common.{◌≡◌, map, take, Some}
use Rattle.path_receiver.specs.Frames.{frame_at}
use Rattle.receiver_engines.proofs.inputs.frames_at.Given as goal

abbrev pub invariant-loop-receiver : goal.invariant-loop-receiver
invariant-loop-receiver g l =
    map (λ r. frame_at r.opening.window r.frames l.timestamp) (take l.receiver-index l.receivers)
    ≡ map (λ f. Some f.now) l.frames.items
