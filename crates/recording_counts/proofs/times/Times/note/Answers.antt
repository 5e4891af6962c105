use Rattle.recording_counts.proofs.Said.{times_none, times_some}
use Rattle.recording_counts.proofs.times.Times.note.Goals as goal

pub returns-in-Some : goal.returns-in-Some
returns-in-Some c =
    λ all e. times_some all _ _ c.in-Some.moment _ _ e c.in-Some.is c.least-first.ensures
    c.greatest-last.ensures

pub returns-in-None : goal.returns-in-None
returns-in-None c = λ all e. times_none all _ _ e c.in-None.is
