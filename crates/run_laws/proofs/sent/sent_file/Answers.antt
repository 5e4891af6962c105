use Rattle.run_laws.proofs.SentAgain.{sent_of}
use Rattle.run_laws.proofs.sent.sent_file.Goals as goal

pub returns : goal.returns
returns g c = sent_of g.S.ByteSource.gave g.S.ByteSource.ended
