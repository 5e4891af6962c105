use Rattle.recording_engines.proofs.Openings.{first_begins, first_refused}
use Rattle.recording_engines.proofs.opening.read_first.Goals as goal

pub returns-clause-refusal : goal.returns-clause-refusal
returns-clause-refusal g c =
    let told = g.S.ByteSource in
    first_refused told.gave told.ended c.go_on-read.result c.args.file.now c.go_on-read.new.self
    c.requires.none c.go_on-read.ensures.stopped c.know.ensures.known

pub returns-clause-begins : goal.returns-clause-begins
returns-clause-begins g c =
    let told = g.S.ByteSource in
    first_begins told.gave told.ended c.go_on-read.result c.args.file.now c.go_on-read.new.self
    c.requires.none c.go_on-read.ensures.read c.know.ensures.known c.know.ensures.by_flows
