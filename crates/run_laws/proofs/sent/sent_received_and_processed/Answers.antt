use Rattle.receiver_engines.proofs.Meaning.{job_offered}
use Rattle.run_laws.specs.Received.{all_read}
use Rattle.run_laws.proofs.ProcessedSent.{have_pictures, sent_processed}
use Rattle.run_laws.proofs.sent.sent_received_and_processed.Goals as goal

pub returns-clause-pictures : goal.returns-clause-pictures
returns-clause-pictures g c =
    λ text states hold job timestamp fill size stamp old new count pictures run have.
    sent_processed g.S.ByteSource.gave g.S.ByteSource.ended text states hold job timestamp fill
    size stamp old new count pictures run
    (have_pictures timestamp (all_read g.S.ByteSource.gave states) pictures have)

pub returns-clause-means : goal.returns-clause-means
returns-clause-means g c =
    λ text states hold job timestamp fill size stamp old new count pictures run have.
    let taken =
    sent_processed g.S.ByteSource.gave g.S.ByteSource.ended text states hold job timestamp fill
    size stamp old new count pictures run
    (have_pictures timestamp (all_read g.S.ByteSource.gave states) pictures have) in (
      taken.datagrams,
      taken.written,
      job_offered run.job pictures size stamp taken.datagrams taken.spell,
    )

pub returns-clause-frames : goal.returns-clause-frames
returns-clause-frames g c =
    λ text states hold job timestamp fill size stamp old new count pictures run have.
    sent_processed g.S.ByteSource.gave g.S.ByteSource.ended text states hold job timestamp fill
    size stamp old new count pictures run have
