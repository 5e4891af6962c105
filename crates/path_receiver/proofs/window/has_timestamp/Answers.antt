use Rattle.path_receiver.proofs.Answered.{has_iff}
use Rattle.path_receiver.proofs.window.has_timestamp.Goals as goal

pub returns : goal.returns
returns c = has_iff c.args.timestamp c.args.window.now c.contains.result c.contains.ensures.value
