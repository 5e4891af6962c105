-- A text that describes a video isn't refused once more.
use Rattle.std.proofs.Common.{◌≡◌, List, ℕ, sym, subst, ◌⊎◌, inl, inr, Result, Ok, Err, Option}
use Rattle.std.proofs.Common.{None, Some}
use Rattle.std.specs.Prelude.{IsSome}
use Rattle.std.proofs.lemmas.Bool.{false≢true}
use Rattle.run_outcome.specs.Fault.{IfRefused}
use Rattle.run_outcome.specs.LowerFaults.{of_sdp, sdp_fault}
use Rattle.run_outcome.specs.TextRefusals.{IsCaptureText, SaysText}
use Rattle.run_outcome.specs.declared.refusal.Refusal.TheVariants.{Sdp}
use Rattle.sdp_format.specs.Bytes.{lines}
use Rattle.sdp_format.specs.Grammar.{IsDescribed, IsTextFault}
use Rattle.sdp_format.specs.Reading.{text_walk}
use Rattle.sdp_format.specs.Sections.{Description, video_sections}
use Rattle.sdp_format.specs.declared.fault.SdpFault.{SdpFault}
use Rattle.sdp_format.specs.declared.fault.SdpFault.TheVariants.{NoMemory}
use Rattle.sdp_format.specs.declared.place.Located.{Located}
use Rattle.sdp_format.proofs.TextFaults.{text_fault, text_said}

-- a text that describes a video has no fault
never_both : (text : List ℕ) (d : Description) (f : SdpFault)
    → IsDescribed (video_sections (lines text)) d → IsTextFault (video_sections (lines text)) f → ⊥
never_both text d f is bad =
    clash (text_walk text) ((text_said text d).1 is) ((text_fault text f).1 bad)
  where
    clash : (r : Result Description SdpFault) → r ≡ Ok d → r ≡ Err f → ⊥
    clash r said told = cc

-- so a reading of it comes to want of memory alone
pub reads_again : (text : List ℕ) (l : Located) → IsCaptureText text
    → (l.fault ≡ NoMemory) ⊎ IsTextFault (video_sections (lines text)) l.fault
    → IfRefused (of_sdp l) ⊥
reads_again text l is (inl memory) =
    subst (λ (f : SdpFault). IfRefused (sdp_fault f (Sdp l)) ⊥) (sym memory) tt
reads_again text l is (inr bad) =
    absurd (never_both text is.description l.fault is.described bad)

-- the text that was given is one
pub text_given : {S : Type 0} (gave : S → List ℕ) (ended : S → Type 0) (sdp later : Option S)
    (text : List ℕ) → IsSome sdp → SaysText gave ended sdp later text → IsCaptureText text
text_given gave ended None later text some says = absurd (false≢true some)
text_given gave ended (Some s) None text some says = absurd says
text_given gave ended (Some s) (Some t) text some says = says.2
