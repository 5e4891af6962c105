-- The one fmtp line of what a section says.
use Rattle.std.specs.Prelude.{ℕ, ◌==◌, if◌then◌else◌, List, [], ◌++◌}
use Rattle.std.specs.Fmt.{decimal}
use Rattle.std.proofs.Common.{codes}
use Rattle.st_format.specs.Forms.{depth_text}
use Rattle.st_format.specs.Words.{sampling_text}
use Rattle.sdp_format.specs.declared.sdp.Range.{Range}
use Rattle.sdp_format.specs.declared.sdp.Range.TheVariants.{Narrow, FullProtect, Full}
use Rattle.sdp_format.specs.Sections.{Leg}

-- the part of a rate behind its first number, and the end of the line
abbrev pub divisor_text : ℕ → List ℕ
divisor_text d = if d == 1 then [] else codes "/" ++ decimal d

-- the item RANGE, its semicolon in front; nothing where the range is narrow, as that is what a
-- missing one means (ST 2110-20, media type parameters)
abbrev pub range_text : Range → List ℕ
range_text Narrow = []
range_text FullProtect = codes "; RANGE=FULLPROTECT"
range_text Full = codes "; RANGE=FULL"

-- the one line of fmtp that is written of a section (RFC 8866, 6.15)
unfoldable pub canonical_line : Leg → List ℕ
canonical_line l =
    codes "a=fmtp:" ++ decimal l.payload_type
    ++ codes " sampling=" ++ sampling_text l.format.sampling
    ++ codes "; width=" ++ decimal l.format.width
    ++ codes "; height=" ++ decimal l.format.height
    ++ codes "; exactframerate=" ++ decimal l.format.n ++ divisor_text l.format.d
    ++ codes "; depth=" ++ depth_text l.format.depth
    ++ codes "; colorimetry=" ++ l.colorimetry
    ++ codes "; PM=2110GPM; SSN=ST2110-20:2017" ++ range_text l.range
