use Rattle.run_laws.proofs.Captures.{datagrams_again, text_again}
use Rattle.run_laws.proofs.sent.written_again.Goals as goal

pub returns-clause-datagrams : goal.returns-clause-datagrams
returns-clause-datagrams c = datagrams_again

pub returns-clause-text : goal.returns-clause-text
returns-clause-text c = text_again
