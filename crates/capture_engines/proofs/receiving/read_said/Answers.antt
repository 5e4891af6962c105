use Rattle.capture_engines.proofs.Said.{wants_given}
use Rattle.capture_engines.proofs.receiving.read_said.Goals as goal

pub returns-in-Err-clause-memory : goal.returns-in-Err-clause-memory
returns-in-Err-clause-memory g c = λ memory.
    wants_given g.S.ByteSource.gave c.args.sdp.now _ _ c.in-Some.is (c.in-Err.ensures.memory memory)
