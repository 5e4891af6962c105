use Rattle.path_receiver.proofs.Held.{whole_by_grammar, whole_by_others}
use Rattle.path_receiver.proofs.laws.whole_frame.Goals as goal

pub returns-clause-others : goal.returns-clause-others
returns-clause-others c = whole_by_others

pub returns-clause-grammar : goal.returns-clause-grammar
returns-clause-grammar c = whole_by_grammar
