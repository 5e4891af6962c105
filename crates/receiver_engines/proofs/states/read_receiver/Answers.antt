use Rattle.st_format.specs.History.{IsRead}
use Rattle.receiver_engines.proofs.StateRefusals.{state_refused}
use Rattle.receiver_engines.proofs.states.read_receiver.Goals as goal

pub returns-in-Ok-clause-found : goal.returns-in-Ok-clause-found
returns-in-Ok-clause-found g c = λ octets read. (c.in-Ok.ensures.gave octets read).0

pub returns-in-Ok-clause-same : goal.returns-in-Ok-clause-same
returns-in-Ok-clause-same g c = λ s gives.
    let same = c.in-Ok.ensures.gave_same s gives.read gives.writable in
    record { opening = same.0; frames = same.1 }

pub returns-in-Err-clause-refused : goal.returns-in-Err-clause-refused
returns-in-Err-clause-refused g c =
    let source = c.load_receiver.new.source in
    let read =
    IsRead (g.S.ByteSource.gave c.args.source.now) (g.S.ByteSource.gave source)
    (g.S.ByteSource.ended source) in
    rw c.of_state.ensures (state_refused read c.in-Err.fault c.in-Err.ensures.gave_wrong)
