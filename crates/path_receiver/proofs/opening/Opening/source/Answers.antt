use Rattle.std.proofs.Common.{Some, ap}
use Rattle.path_receiver.specs.Opening.{Opening}
use Rattle.path_receiver.proofs.opening.Opening.source.Goals as goal

pub returns : goal.returns
returns c = ap (λ (o : Opening). record o { ssrc = Some c.args.ssrc }) c.self.view_is
