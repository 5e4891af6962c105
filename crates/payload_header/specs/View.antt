-- What a payload that was read says.
use Rattle.std.specs.Prelude.{ℕ, List, map}
use Rattle.st_format.specs.Raster.{Segment}
use Rattle.payload_header.specs.declared.payload.PayloadView.{PayloadView}
use Rattle.payload_header.specs.Payload.{seen_segment}

-- the segments of a payload that was read, in their order (RFC 4175, 4.2)
abbrev pub segments_of : PayloadView → List Segment
segments_of v = map seen_segment v.segments.items

-- the extended number and the segments
abbrev pub said_payload : PayloadView → ℕ × List Segment
said_payload v = (v.extended, segments_of v)
