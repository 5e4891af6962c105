use Rattle.capture_engines.proofs.receiving.begin.Goals as goal

pub returns-in-Err-clause-memory : goal.returns-in-Err-clause-memory
returns-in-Err-clause-memory g c = λ memory. rw c.in-Some.is (c.in-Err.ensures.memory memory)
