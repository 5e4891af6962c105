use Rattle.std.proofs.Common.{◌≡◌, List, ℕ, [], rules}
use Rattle.run_outcome.proofs.SaidTexts.{said_none, said_some, wants_some}
use Rattle.run_outcome.proofs.text.read_if_given.Goals as goal

pub returns-in-None-clause-says : goal.returns-in-None-clause-says
returns-in-None-clause-says g c =
    let items : List ℕ = c.new.result.items in
    let none : items ≡ [] = search rules in
    said_none g.S.ByteSource.gave g.S.ByteSource.ended c.args.sdp.now _ items c.in-None.is none

pub returns-in-Ok-clause-says : goal.returns-in-Ok-clause-says
returns-in-Ok-clause-says g c =
    said_some g.S.ByteSource.gave g.S.ByteSource.ended c.args.sdp.now _ _ c.in-Ok.said.items
    c.in-Some.is c.in-Ok.ensures.read c.in-Ok.ensures.says

pub returns-in-Err-clause-memory : goal.returns-in-Err-clause-memory
returns-in-Err-clause-memory g c = λ memory.
    wants_some g.S.ByteSource.gave c.args.sdp.now _ _ c.in-Some.is (c.in-Err.ensures.memory memory)
