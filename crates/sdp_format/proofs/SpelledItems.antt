-- The canonical line as a list of items.
use Rattle.std.proofs.Common.{ℕ, List, [], ◌∷◌, ◌++◌, codes}
use Rattle.std.specs.Fmt.{decimal}
use Rattle.sdp_format.specs.declared.sdp.Range.{Range}
use Rattle.sdp_format.specs.declared.sdp.Range.TheVariants.{Narrow, FullProtect, Full}
use Rattle.sdp_format.specs.Naming.{Item}
use Rattle.sdp_format.specs.Sections.{Leg}
use Rattle.sdp_format.specs.Canonical.{divisor_text}
use Rattle.st_format.specs.Words.{sampling_text}
use Rattle.st_format.specs.Forms.{depth_text}

abbrev pub range_items : Range → List Item
range_items Narrow = []
range_items FullProtect = (codes "RANGE", codes "FULLPROTECT") ∷ []
range_items Full = (codes "RANGE", codes "FULL") ∷ []

abbrev pub said_items : Leg → List Item
said_items l =
    (codes "sampling", sampling_text l.format.sampling)
    ∷ (codes "width", decimal l.format.width)
    ∷ (codes "height", decimal l.format.height)
    ∷ (codes "exactframerate", decimal l.format.n ++ divisor_text l.format.d)
    ∷ (codes "depth", depth_text l.format.depth)
    ∷ (codes "colorimetry", l.colorimetry)
    ∷ (codes "PM", codes "2110GPM")
    ∷ (codes "SSN", codes "ST2110-20:2017")
    ∷ range_items l.range

-- items, each behind a space, with semicolons between
abbrev pub spelled : List Item → List ℕ
spelled [] = []
spelled (p ∷ []) = 32 ∷ p.0 ++ 61 ∷ p.1
spelled (p ∷ q ∷ ps) = (32 ∷ p.0 ++ 61 ∷ p.1) ++ 59 ∷ spelled (q ∷ ps)
