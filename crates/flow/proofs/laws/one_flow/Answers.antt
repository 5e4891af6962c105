use Rattle.flow.proofs.FlowTexts.{flow_once}
use Rattle.flow.proofs.laws.one_flow.Goals as goal

pub returns : goal.returns
returns c = flow_once
