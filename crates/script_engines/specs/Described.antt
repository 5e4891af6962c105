-- What is printed of an SDP text, and why one is refused.
use Rattle.std.specs.Prelude.{◌≡◌, ℕ, List, [], ◌∷◌, ◌++◌, Bool, true, false, IfSome, ⊤}
use Rattle.st_format.specs.Device.{GrowsPart}
use Rattle.sdp_format.specs.Bytes.{lines}
use Rattle.sdp_format.specs.Canonical.{canonical_line}
use Rattle.sdp_format.specs.Grammar.{IsDescribed, IsTextFault}
use Rattle.sdp_format.specs.Places.{IsPlace}
use Rattle.sdp_format.specs.Sections.{Description, video_sections}
use Rattle.run_outcome.specs.declared.fault.Fault.{Fault}
use Rattle.run_outcome.specs.declared.fault.Fault.TheVariants as fault
use Rattle.run_outcome.specs.declared.refusal.Refusal.TheVariants as refusal
use Rattle.run_outcome.specs.declared.script_line.Form.TheVariants.{TextEnd}
use Rattle.run_outcome.specs.LowerFaults.{of_script}

-- A text describes a video, whose canonical fmtp line and an LF this is (RFC 8866; SMPTE ST
-- 2110-20, SDP)
pub record IsCanonicalOf (text line : List ℕ) : Type 0 where
  pub described : Description
  pub is_described : IsDescribed (video_sections (lines text)) described
  pub line_is : line ≡ canonical_line described.leg ++ 10 ∷ []

-- the line of a text that describes a video was printed
pub record DescribesVideo (text old new : List ℕ) : Type 0 where
  pub line : List ℕ
  pub is : IsCanonicalOf text line
  pub printed : new ≡ old ++ line

-- the line of a text that describes a video was printed in part
pub record DescribesPart (text old new : List ℕ) : Type 0 where
  pub line : List ℕ
  pub is : IsCanonicalOf text line
  pub cut : GrowsPart old new line

-- why a text describes no video, and where in it; or that memory was wanted
abbrev pub IsUndescribedText : List ℕ → Fault → Type 0
IsUndescribedText text (fault.Refused (refusal.Sdp at)) =
    IsTextFault (video_sections (lines text)) at.fault × IfSome at.place (IsPlace text)
IsUndescribedText text fault.Memory = ⊤
IsUndescribedText text other = ⊥

-- Why a script is refused as an SDP text: it passes the limit, or describes no video (own)
abbrev pub IsUndescribed : List ℕ → Bool → Fault → Type 0
IsUndescribed text true f = f ≡ of_script 1 TextEnd
IsUndescribed text false f = IsUndescribedText text f
