use Rattle.follow_engine.proofs.Parts.{behind_append, events_append}
use Rattle.follow_engine.proofs.laws.in_parts.Goals as goal

pub returns-clause-behind : goal.returns-clause-behind
returns-clause-behind c = behind_append

pub returns-clause-events : goal.returns-clause-events
returns-clause-events c = events_append
