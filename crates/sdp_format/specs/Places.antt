-- Where a text has its fault (own). RFC 8866, 5: a line ends with LF, or with CR and LF.
use Rattle.std.specs.Prelude.{◌≡◌, ◌≤◌, ◌+◌, ◌==◌, ℕ, Bool, List, length, take, count_by}
use Rattle.std.specs.Prelude.{Result, Ok, Err}
use Rattle.sdp_format.specs.declared.fault.SdpFault.{SdpFault}
use Rattle.sdp_format.specs.declared.place.Place.{Place}
use Rattle.sdp_format.specs.declared.place.Located.{Located}
use Rattle.sdp_format.specs.declared.sdp.Stop.{Stop}

-- an LF, which ends a line with a CR before it or without (RFC 8866, 5)
abbrev pub is_line_feed : ℕ → Bool
is_line_feed c = c == 10

-- how many lines end in a text
abbrev pub line_feeds : List ℕ → ℕ
line_feeds text = count_by is_line_feed text

-- the number of the line in which an index of a text stands, counted from 1
abbrev pub line_number : List ℕ → ℕ → ℕ
line_number text index = line_feeds (take index text) + 1

-- A place in a text: octets of it, in the line of this number. As its end stands in that line too,
-- none of them is an LF
pub record IsPlace (text : List ℕ) (p : Place) : Type 0 where
  pub ordered : p.start ≤ p.end
  pub within : p.end ≤ length text
  pub line : p.line ≡ line_number text p.start
  pub same_line : p.line ≡ line_number text p.end

-- what was returned, its fault without the section or the place
abbrev pub without_section : {X : Type 0} → Result X Stop → Result X SdpFault
without_section (Ok x) = Ok x
without_section (Err stop) = Err stop.fault

-- what was returned, its fault without the place in the text
abbrev pub without_place : {X : Type 0} → Result X Located → Result X SdpFault
without_place (Ok x) = Ok x
without_place (Err located) = Err located.fault
