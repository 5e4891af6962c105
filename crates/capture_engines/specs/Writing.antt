-- What a writer of a capture writes of datagrams.
use Rattle.std.specs.Prelude.{ℕ, List}
use Rattle.st_format.specs.Picture.{Values}
use Rattle.media_file.specs.Writer.{Writer, WritesDatagrams}
use Rattle.packet_plan.specs.Plan.{RasterPlan}
use Rattle.packet_plan.specs.Sent.{IsSentPicture}
use Rattle.packet_plan.specs.declared.stamp.Stamp.{Stamp}

-- a writer of a capture wrote the records of a picture's datagrams by a plan, of all and in order
pub record WritesPicture {K : Type 0} (took : K → List ℕ) (p : Values) (stamp : Stamp)
    (plan : RasterPlan) (old new : Writer K) : Type 0 where
  pub datagrams : List (List ℕ)
  pub sent : IsSentPicture datagrams p stamp plan.max_octets plan.packets
  pub written : WritesDatagrams took datagrams old new
