use Rattle.receiver_file.proofs.Again.{state_again}
use Rattle.receiver_file.proofs.SameKept.{same_read}
use Rattle.receiver_file.proofs.Savable.{writable_saved}
use Rattle.receiver_file.proofs.telling.tell_receiver.Goals as goal

pub returns-clause-again : goal.returns-clause-again
returns-clause-again g c = state_again _ (writable_saved _ c.tell_all.ensures)

pub returns-clause-same : goal.returns-clause-same
returns-clause-same g c = λ s is read. same_read c.args.receiver.now s c.tell_all.ensures is read
