use Rattle.export_engine.proofs.Rereading.{are_datagrams, is_reread}
use Rattle.export_engine.proofs.laws.written_recording.Goals as goal

pub returns-clause-packets : goal.returns-clause-packets
returns-clause-packets c = is_reread

pub returns-clause-datagrams : goal.returns-clause-datagrams
returns-clause-datagrams c = are_datagrams
