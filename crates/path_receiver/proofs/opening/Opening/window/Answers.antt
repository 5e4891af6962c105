use Rattle.std.proofs.Common.{ap}
use Rattle.path_receiver.specs.Opening.{Opening}
use Rattle.path_receiver.proofs.opening.Opening.window.Goals as goal

pub returns : goal.returns
returns c = ap (λ (o : Opening). record o { window = c.args.window.now }) c.self.view_is
