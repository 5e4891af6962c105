use Rattle.capture_runs.specs.Opened.{said_text}
use Rattle.capture_runs.proofs.Told.{none_read}
use Rattle.capture_runs.proofs.opening.Files.read_sdp.Goals as goal

pub returns-in_default-clause-read : goal.returns-in_default-clause-read
returns-in_default-clause-read c = λ none.
    none_read c.args.self.now.sdp (said_text c.args.self.now.said) none

pub returns-in-Ok-clause-read : goal.returns-in-Ok-clause-read
returns-in-Ok-clause-read c = λ none. c.in-Ok.ensures.said
