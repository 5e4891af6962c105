-- What a sender sends of many pictures (SMPTE ST 2110-20, packets; ST 2110-10, RTP timestamps).
use Rattle.std.specs.Prelude.{◌≡◌, ℕ, ◌+◌, ◌%◌, ◌^◌, ◌≤◌, List, [], ◌∷◌, ◌++◌, length}
use Rattle.st_format.specs.declared.format.Format.{Format}
use Rattle.st_format.specs.Picture.{Values, timestamp_of}
use Rattle.packet_plan.specs.declared.run.PacketRun.{PacketRun}
use Rattle.packet_plan.specs.declared.stamp.Stamp.{Stamp}
use Rattle.packet_plan.specs.Sent.{IsSentPicture}

-- what is the same for all pictures of a sender
pub record Sender : Type 0 where
  pub format : Format
  pub base : ℕ
  pub payload_type : ℕ
  pub ssrc : ℕ

-- the stamp of picture k, whose first packet has this number
abbrev pub stamp_of : Sender → ℕ → ℕ → Stamp
stamp_of s k first =
    record {
      payload_type = s.payload_type;
      first = first;
      timestamp =
          timestamp_of s.format s.base k;
      ssrc = s.ssrc;
    }

-- The datagrams of picture k by some raster plan, and then others, whose numbers run on
pub record IsNextSent (s : Sender) (k first : ℕ) (p : Values) (later : ℕ → List (List ℕ) → Type 0)
    (datagrams : List (List ℕ)) : Type 0 where
  pub size : ℕ
  pub packets : List (List PacketRun)
  pub mine : List (List ℕ)
  pub others : List (List ℕ)
  pub format : p.format ≡ s.format
  pub picture : IsSentPicture mine p (stamp_of s k first) size packets
  pub rest : later ((first + length packets) % 2 ^ 32) others
  pub whole : datagrams ≡ mine ++ others

-- pictures from the k-th on, the first packet's number given
abbrev pub SendsFrom : Sender → ℕ → List Values → ℕ → List (List ℕ) → Type 0
SendsFrom s k [] first datagrams = datagrams ≡ []
SendsFrom s k (p ∷ ps) first datagrams = IsNextSent s k first p (SendsFrom s (k + 1) ps) datagrams

-- A sender's list: at most 10,000 pictures (own), one after another
pub record IsSenderList (datagrams : List (List ℕ)) (s : Sender) (first : ℕ)
    (pictures : List Values) : Type 0 where
  pub few : length pictures ≤ 10000
  pub sent : SendsFrom s 0 pictures first datagrams
