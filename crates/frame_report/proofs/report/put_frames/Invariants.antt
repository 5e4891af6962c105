use Rattle.std.proofs.Common.{◌≡◌}
use Rattle.frame_report.specs.Gathers.{told_of}
use Rattle.frame_report.specs.Report.{frames_text}
use Rattle.frame_report.proofs.FrameTexts.{frames_from}
use Rattle.frame_report.proofs.Gathering.{IsPut}
use Rattle.frame_report.proofs.report.put_frames.Given as goal

pub record Putting (so_far count : Type 0) : Type 0 where
  pub put : so_far
  pub failures : count

abbrev pub invariant-loop-timestamp : goal.invariant-loop-timestamp
invariant-loop-timestamp g l = Putting
    (IsPut (told_of g.K.ByteSink.took g.K.ByteSink.held l.initial.sink)
    (told_of g.K.ByteSink.took g.K.ByteSink.held l.sink) l.initial.page l.page
    (frames_from l.receiver l.timestamp-index) (frames_text l.receiver))
    (g.K.ByteSink.failures l.sink ≡ g.K.ByteSink.failures l.initial.sink)
