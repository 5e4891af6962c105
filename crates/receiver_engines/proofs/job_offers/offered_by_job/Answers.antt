use Rattle.receiver_engines.proofs.Meaning.{job_offered}
use Rattle.receiver_engines.proofs.job_offers.offered_by_job.Goals as goal

pub returns-clause-datagrams : goal.returns-clause-datagrams
returns-clause-datagrams c = job_offered

pub returns-clause-sent : goal.returns-clause-sent
returns-clause-sent c =
    λ j pictures size stamp old new next h.
    (h.0, h.2, job_offered j pictures size stamp h.0 h.1)
