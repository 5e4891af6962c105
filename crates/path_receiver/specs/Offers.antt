-- What a datagram offers to a receiver.
use Rattle.std.specs.Prelude.{◌≡◌, ℕ, List, [], Result, Ok, Err}
use Rattle.st_format.specs.declared.format.Format.{Format}
use Rattle.st_format.specs.Member.{IsMember}
use Rattle.st_format.specs.Offer.{Offer}
use Rattle.st_format.specs.Position.{Position}
use Rattle.st_format.specs.Raster.{offers_in_all}
use Rattle.path_receiver.specs.declared.answer.Refusal.{Refusal}
use Rattle.path_receiver.specs.Opening.{Opening}
use Rattle.path_receiver.specs.Grammar.{Datagram, IsFor}
use Rattle.path_receiver.specs.Admission.{datagram_walk}

-- Offers, over the grammar: where octets are a datagram for a receiver, the offers of its segments
-- in turn at its timestamp; where they are none, nothing. RFC 4175, 4.3
pub record AreOffersOf (offered : List Offer) (octets : List ℕ) (o : Opening) : Type 0 where
  pub datagram : (d : Datagram) → IsFor octets o d
      → offered ≡ offers_in_all o.format d.timestamp d.segments
  pub nothing : ((d : Datagram) → IsFor octets o d → ⊥) → offered ≡ []

-- the offers of what a walk admits, and none where it refuses
abbrev pub offers_of : Format → Result Datagram Refusal → List Offer
offers_of f (Ok d) = offers_in_all f d.timestamp d.segments
offers_of f (Err e) = []

-- Offers as a function: the walk finds them. Of octets it is the one list that has AreOffersOf (a
-- law).
abbrev pub offers : Opening → List ℕ → List Offer
offers o octets = offers_of o.format (datagram_walk o.format o.payload_type o.ssrc octets)

-- A datagram carries a position at a timestamp: it offers a value for it.
pub record Carries (octets : List ℕ) (o : Opening) (timestamp : ℕ) (at : Position) : Type 0 where
  pub value : ℕ
  pub offered : IsMember (record { timestamp = timestamp; position = at; value = value })
      (offers o octets)

-- None of these datagrams carries it.
abbrev pub NoneCarries : List (List ℕ) → Opening → ℕ → Position → Type 0
NoneCarries datagrams o timestamp at =
    (octets : List ℕ) → IsMember octets datagrams → Carries octets o timestamp at → ⊥
