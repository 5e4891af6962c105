use Rattle.flow.proofs.FlowTexts.{flow_again}
use Rattle.flow.proofs.laws.flow_read_again.Goals as goal

pub returns : goal.returns
returns c = flow_again
