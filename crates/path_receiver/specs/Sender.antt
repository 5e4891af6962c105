-- What a sender's datagrams mean to a receiver.
use Rattle.std.specs.Prelude.{◌≡◌, ◌≢◌, ◌⊎◌, ⊤, ℕ, List, map, Some, slice_get}
use Rattle.std.specs.List.{flat_map}
use Rattle.st_format.specs.declared.cell.Cell.{Cell}
use Rattle.st_format.specs.declared.cell.Cell.TheVariants.{Missing, Value, Contested}
use Rattle.st_format.specs.declared.format.Format.{Format}
use Rattle.st_format.specs.Member.{IsMember}
use Rattle.st_format.specs.Offer.{Offer}
use Rattle.st_format.specs.Picture.{Values, value_at, timestamp_of}
use Rattle.st_format.specs.Position.{Position, positions_of_group}
use Rattle.st_format.specs.Raster.{Raster}
use Rattle.packet_plan.specs.declared.run.PacketRun.{PacketRun}
use Rattle.packet_plan.specs.Plan.{numbers}
use Rattle.packet_plan.specs.Sent.{IsSentPicture}
use Rattle.packet_plan.specs.Sender.{Sender, stamp_of}
use Rattle.path_receiver.specs.Opening.{Opening, IsSource}
use Rattle.path_receiver.specs.Offers.{offers}

-- A receiver is opened for datagrams of this format, payload type and source: the source is the one
-- that is pinned, where one is (RFC 3550, 5.1).
pub record IsOpenFor (o : Opening) (f : Format) (payload_type ssrc : ℕ) : Type 0 where
  pub format : f ≡ o.format
  pub type_is : payload_type ≡ o.payload_type
  pub source : IsSource o.ssrc ssrc

-- the positions of a run of pgroups, in the order in which they are sent (RFC 4175, 4.3)
abbrev pub run_places : Format → PacketRun → List Position
run_places f r = flat_map (positions_of_group f) (numbers f r)

-- the value of a picture at a position, as an offer at a timestamp
abbrev pub offer_at : Values → ℕ → Position → Offer
offer_at p timestamp at = record { timestamp = timestamp; position = at; value = value_at p at }

-- the offers of a picture at the positions of a run
abbrev pub run_offers : Values → ℕ → PacketRun → List Offer
run_offers p timestamp r = map (offer_at p timestamp) (run_places p.format r)

-- each datagram of the one list is in the other
abbrev pub AreAmong : List (List ℕ) → List (List ℕ) → Type 0
AreAmong xs ys = (octets : List ℕ) → IsMember octets xs → IsMember octets ys

-- A datagram offers nothing at a timestamp.
abbrev pub OffersNothingAt : List ℕ → Opening → ℕ → Type 0
OffersNothingAt octets o timestamp =
    (x : Offer) → IsMember x (offers o octets) → x.timestamp ≢ timestamp

-- Each datagram that a receiver took is one of these, or offers nothing at this timestamp.
abbrev pub AreAmongAt : List (List ℕ) → List (List ℕ) → Opening → ℕ → Type 0
AreAmongAt xs ys o timestamp = (octets : List ℕ) → IsMember octets xs
    → IsMember octets ys ⊎ OffersNothingAt octets o timestamp

-- the raster of a picture, with nothing missing
abbrev pub picture_raster : Values → Raster
picture_raster p = record { format = p.format; cells = map (λ v. Value v) p.samples }

-- A value is a sender's at a timestamp and a position: a picture of the sender has that timestamp,
-- and has it there.
pub record IsSendersValue (v : ℕ) (s : Sender) (pictures : List Values) (timestamp : ℕ)
    (at : Position) : Type 0 where
  pub number : ℕ
  pub picture : Values
  pub there : slice_get pictures number ≡ Some picture
  pub time : timestamp_of s.format s.base number ≡ timestamp
  pub is : value_at picture at ≡ v

-- A cell is a sender's: nothing is known, or the sender's value.
abbrev pub IsSendersCell : Cell → Sender → List Values → ℕ → Position → Type 0
IsSendersCell Missing s pictures timestamp at = ⊤
IsSendersCell (Value v) s pictures timestamp at = IsSendersValue v s pictures timestamp at
IsSendersCell Contested s pictures timestamp at = ⊥

-- A picture of a sender is sent by a list: some of its datagrams are the picture's by some raster
-- plan, from some packet number on.
pub record IsSentAmong (p : Values) (s : Sender) (k : ℕ) (datagrams : List (List ℕ)) : Type 0 where
  pub first : ℕ
  pub size : ℕ
  pub packets : List (List PacketRun)
  pub mine : List (List ℕ)
  pub format : p.format ≡ s.format
  pub picture : IsSentPicture mine p (stamp_of s k first) size packets
  pub among : AreAmong mine datagrams
