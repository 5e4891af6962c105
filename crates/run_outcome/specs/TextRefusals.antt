-- Which refusal is one of a text that is read for a capture (own). The octets that were read are
-- told by a predicate: it holds of any that begin with those, and of no other where the source has
-- ended.
use Rattle.std.specs.Prelude.{◌≡◌, ℕ, ◌<◌, ◌≤◌, ◌⊎◌, List, [], ◌++◌, length, Option, None, Some}
use Rattle.sdp_format.specs.Bytes.{lines}
use Rattle.sdp_format.specs.Grammar.{IsDescribed, IsTextFault}
use Rattle.sdp_format.specs.Sections.{Description, video_sections}
use Rattle.sdp_format.specs.declared.fault.SdpFault.{SdpFault}
use Rattle.run_outcome.specs.Text.{GivesFew}
use Rattle.run_outcome.specs.declared.refusal.Refusal.{Refusal}
use Rattle.run_outcome.specs.declared.refusal.Refusal.TheVariants as refusal

-- what was read is more octets than so many
abbrev pub GivesAbove : ℕ → (List ℕ → Type 0) → Type 0
GivesAbove most told = (octets : List ℕ) → told octets → most < length octets

-- what was read is at most so many octets, and the source has no more
abbrev pub GivesAtMost : ℕ → (List ℕ → Type 0) → Type 0
GivesAtMost most told = (octets : List ℕ) → told octets → length octets ≤ most

-- an SDP text's fault is that of what was read
abbrev pub HasTextFault : (List ℕ → Type 0) → SdpFault → Type 0
HasTextFault told f =
    (octets : List ℕ) → told octets → IsTextFault (video_sections (lines octets)) f

-- a text describes a video
abbrev pub IsSdp : List ℕ → Type 0
IsSdp text = (d : Description) × IsDescribed (video_sections (lines text)) d

-- the refusal of a text that was read whole and opens something: its fault
abbrev pub IsDescriptionRefusal : List ℕ → Refusal → Type 0
IsDescriptionRefusal text (refusal.Sdp at) = IsTextFault (video_sections (lines text)) at.fault
IsDescriptionRefusal text r = ⊥

-- the refusal of an SDP text
abbrev pub IsSdpRefusal : (List ℕ → Type 0) → Refusal → Type 0
IsSdpRefusal told (refusal.Sdp at) = HasTextFault told at.fault
IsSdpRefusal told r = ⊥

-- the refusals of a capture's text, in their order: that it is too long; that of an SDP, of a text
-- that isn't
abbrev pub IsTextRefusal : Refusal → (List ℕ → Type 0) → Refusal → Type 0
IsTextRefusal too_long told r =
    ((r ≡ too_long) × GivesAbove 65535 told) ⊎ (GivesAtMost 65535 told × IsSdpRefusal told r)

-- a text describes a video, in no more octets than a capture's text may have
pub record IsCaptureText (text : List ℕ) : Type 0 where
  pub few : length text ≤ 65535
  pub description : Description
  pub described : IsDescribed (video_sections (lines text)) description

-- what was read is such a text
abbrev pub SaysCaptureText : (List ℕ → Type 0) → Type 0
SaysCaptureText told = (octets : List ℕ) → told octets → IsCaptureText octets

-- ---- where one may be given

-- the text of a capture: all that the SDP's source gave, up to its end, which describes a video; or
-- nothing, where there is none
abbrev pub SaysText : {S : Type 0} → (S → List ℕ) → (S → Type 0) → Option S → Option S → List ℕ
    → Type 0
SaysText gave ended None later text = text ≡ []
SaysText gave ended (Some sdp) None text = ⊥
SaysText gave ended (Some sdp) (Some later) text =
    (gave later ≡ gave sdp ++ text) × ended later × IsCaptureText text

-- the refusals of the text, where one is given
abbrev pub IsTextOfRun : {S : Type 0} → (S × S → List ℕ → Type 0) → Option S → Option S → Refusal
    → Type 0
IsTextOfRun {S} told old new r = (was : S) × (now : S) × (old ≡ Some was) × (new ≡ Some now)
    × IsTextRefusal refusal.SendSdp (told (was, now)) r

-- what was read of the text's source, where one is given, is a text that a capture may have
abbrev pub SaysTextOfRun : {S : Type 0} → (S × S → List ℕ → Type 0) → Option S → Option S → Type 0
SaysTextOfRun {S} told old new =
    (was now : S) → old ≡ Some was → new ≡ Some now → SaysCaptureText (told (was, now))

-- what the text's source gave where memory was wanted for the text: there is a source, and it gave
-- at most as many octets as a capture's text may have
abbrev pub WantsText : {S : Type 0} → (S → List ℕ) → Option S → Option S → Type 0
WantsText gave None new = ⊥
WantsText gave (Some was) None = ⊥
WantsText gave (Some was) (Some now) = GivesFew 65535 (gave was) (gave now)
