-- Texts that have a section's canonical line.
use Rattle.std.specs.Prelude.{◌≡◌, ◌<◌, ◌≤◌, ◌^◌, ◌++◌, ℕ, true, List, ◌∷◌, length, Some, Ok}
use Rattle.std.specs.List.{AllZip}
use Rattle.std.specs.Str.{str_eq_ignore_ascii_case}
use Rattle.std.proofs.Common.{codes}
use Rattle.st_format.specs.Fields.{format_at}
use Rattle.sdp_format.specs.Bytes.{trimmed, lines}
use Rattle.sdp_format.specs.Naming.{colorimetry}
use Rattle.sdp_format.specs.Sections.{Section, Leg, video_sections}
use Rattle.sdp_format.specs.Grammar.{IsMediaLine, HasNone, IsFirst, IsDescribed}

-- What a section can say: numbers of 32 bits, a payload type, a format that its own fields give, a
-- colorimetry
pub record IsLeg (l : Leg) : Type 0 where
  pub small_type : l.payload_type ≤ 127
  pub width : l.format.width < 2 ^ 32
  pub height : l.format.height < 2 ^ 32
  pub n : l.format.n < 2 ^ 32
  pub d : l.format.d < 2 ^ 32
  pub is_format : format_at l.format.sampling l.format.depth l.format.width l.format.height
      l.format.n l.format.d ≡ Ok l.format
  pub is_colorimetry : colorimetry l.colorimetry ≡ Some l.colorimetry

-- A section of this port and payload type, with raw/90000 and with this line as its first fmtp line
pub record HasLine (s : Section) (line : List ℕ) (payload_type port : ℕ) : Type 0 where
  pub media : IsMediaLine s.media port payload_type
  pub map : List ℕ
  pub rtpmap : IsFirst s.lines (codes "a=rtpmap:") payload_type map
  pub raw : str_eq_ignore_ascii_case (trimmed map) (codes "raw/90000") ≡ true
  pub before : List (List ℕ)
  pub after : List (List ℕ)
  pub whole : s.lines ≡ before ++ line ∷ after
  pub none : HasNone before (codes "a=fmtp:") payload_type

-- each text of one or two video sections that have this line says the leg, whatever its ports are
abbrev pub ReadsBack : List ℕ → Leg → Type 0
ReadsBack line l =
    (text ports : List ℕ)
    → AllZip (λ s port. HasLine s line l.payload_type port) (video_sections (lines text)) ports
    → 0 < length ports → length ports ≤ 2
    → IsDescribed (video_sections (lines text)) (record { ports = ports; leg = l })
