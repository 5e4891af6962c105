-- What the datagrams of a job's picture mean (RFC 4175, 4.3; SMPTE ST 2110-20, packets).
use Rattle.std.specs.Prelude.{◌≡◌, ℕ, List, map}
use Rattle.std.specs.List.{flat_map}
use Rattle.st_format.specs.Picture.{Values}
use Rattle.st_format.specs.Position.{places}
use Rattle.packet_plan.specs.declared.stamp.Stamp.{Stamp}
use Rattle.path_receiver.specs.Offers.{offers}
use Rattle.path_receiver.specs.Opening.{Opening}
use Rattle.path_receiver.specs.Sender.{IsOpenFor, offer_at}
use Rattle.key_mix.specs.Jobs.{IsJobPicture}
use Rattle.key_mix.specs.declared.Job.{Job}

-- To each receiver that is opened for them, datagrams offer the values of a job's picture at the
-- stamp's timestamp: each position once, and no other.
pub record OffersJob (datagrams : List (List ℕ)) (j : Job) (pictures : List Values)
    (stamp : Stamp) : Type 0 where
  pub picture : Values
  pub made : IsJobPicture picture j pictures
  pub offered : (o : Opening) → IsOpenFor o picture.format stamp.payload_type stamp.ssrc
      → flat_map (offers o) datagrams
      ≡ map (offer_at picture stamp.timestamp) (places picture.format)
