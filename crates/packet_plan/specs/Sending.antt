-- What a sink has taken once a picture was sent, or a part of it (own).
use Rattle.std.specs.Prelude.{ℕ, ◌<◌, ◌≤◌, Option, List, length, take}
use Rattle.std.specs.List.{AllByRecursion}
use Rattle.st_format.specs.Device.{TakesAll}
use Rattle.st_format.specs.Picture.{Values}
use Rattle.st_format.specs.Puts.{FailsAt, TakesEach}
use Rattle.packet_plan.specs.declared.stamp.Stamp.{Stamp}
use Rattle.packet_plan.specs.Plan.{RasterPlan, packet_octets}
use Rattle.packet_plan.specs.Sent.{IsSentPicture}

-- each datagram of a plan has room in so many octets
abbrev pub EachHasRoom : RasterPlan → ℕ → Type 0
EachHasRoom plan octets =
    AllByRecursion (λ packet. packet_octets plan.format packet ≤ octets) plan.packets

-- A sink took the datagrams of a picture by a plan, all of them and in order.
pub record SendsPicture (p : Values) (stamp : Stamp) (plan : RasterPlan)
    (old new : Option (List (List ℕ))) : Type 0 where
  pub datagrams : List (List ℕ)
  pub sent : IsSentPicture datagrams p stamp plan.max_octets plan.packets
  pub taken : TakesAll old new datagrams

-- A sink took so many of them, from the first on, and not all.
pub record SendsPart (p : Values) (stamp : Stamp) (plan : RasterPlan) (count : ℕ)
    (old new : Option (List (List ℕ))) : Type 0 where
  pub datagrams : List (List ℕ)
  pub sent : IsSentPicture datagrams p stamp plan.max_octets plan.packets
  pub short : count < length datagrams
  pub taken : TakesAll old new (take count datagrams)

-- Any sink took the datagrams of a picture by a plan: each call did what `takes` says.
pub record PutsPicture {S : Type 0} (takes : S → List ℕ → S → Type 0) (p : Values) (stamp : Stamp)
    (plan : RasterPlan) (old new : S) : Type 0 where
  pub datagrams : List (List ℕ)
  pub sent : IsSentPicture datagrams p stamp plan.max_octets plan.packets
  pub taken : TakesEach takes old datagrams new

-- Any sink took so many of them, from the first on, and failed at the next, as `fails` says.
pub record PutsPart {S : Type 0} (takes fails : S → List ℕ → S → Type 0) (p : Values)
    (stamp : Stamp) (plan : RasterPlan) (count : ℕ) (old new : S) : Type 0 where
  pub datagrams : List (List ℕ)
  pub sent : IsSentPicture datagrams p stamp plan.max_octets plan.packets
  pub failed : FailsAt takes fails old datagrams count new
