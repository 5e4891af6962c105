use Rattle.run_laws.proofs.ScriptFrames.{in_any_order}
use Rattle.run_laws.proofs.scripts.traced_in_any_order.Goals as goal

pub returns : goal.returns
returns c = in_any_order
