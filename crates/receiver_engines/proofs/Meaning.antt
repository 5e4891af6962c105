-- The datagrams of a job's picture are a picture's.
use Rattle.std.proofs.Common.{ℕ, List}
use Rattle.st_format.specs.Picture.{Values}
use Rattle.packet_plan.specs.declared.stamp.Stamp.{Stamp}
use Rattle.path_receiver.proofs.SentOffers.{offers-picture}
use Rattle.key_mix.specs.Sending.{IsSentJob}
use Rattle.key_mix.specs.declared.Job.{Job}
use Rattle.receiver_engines.specs.Offered.{OffersJob}

pub job_offered : (j : Job) (pictures : List Values) (size : ℕ) (stamp : Stamp)
    (datagrams : List (List ℕ)) → IsSentJob datagrams j pictures size stamp
    → OffersJob datagrams j pictures stamp
job_offered j pictures size stamp datagrams is =
    record {
      picture = is.picture;
      made = is.made;
      offered = λ o opened.
          offers-picture o is.picture stamp size is.plan datagrams opened is.sent;
    }
