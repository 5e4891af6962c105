use Rattle.std.proofs.Common.{refl}
use Rattle.path_receiver.proofs.Joined.{cells_joined, holds_both}
use Rattle.path_receiver.proofs.receiver.Receiver.merge.Goals as goal

pub returns-clause-cells : goal.returns-clause-cells
returns-clause-cells g c =
    cells_joined c.args.self.now c.args.other.now c.join_all.new.self
    (c.if-not-is_opened_like.ensures.alike.0 refl) c.join_all.ensures.old
    c.join_all.ensures.other c.join_all.ensures.opening c.join_all.ensures.frames

pub returns-clause-holds : goal.returns-clause-holds
returns-clause-holds g c =
    holds_both c.args.self.now c.args.other.now c.join_all.new.self
    (c.if-not-is_opened_like.ensures.alike.0 refl) c.join_all.ensures.opening
    c.join_all.ensures.frames
