use Rattle.follow_engine.proofs.Grows.{grows_part}
use Rattle.run_outcome.proofs.Blaming.{failed_one}
use Rattle.frame_sinks.proofs.report_sink.ReportSinkPictureSink.show.Goals as goal

pub returns-in-Err-clause-failed : goal.returns-in-Err-clause-failed
returns-in-Err-clause-failed g c = grows_part _ _ _ c.in-Err.ensures.fault

pub returns-in-Err-clause-failures : goal.returns-in-Err-clause-failures
returns-in-Err-clause-failures g c = failed_one _ _ c.in-Err.ensures.counted
