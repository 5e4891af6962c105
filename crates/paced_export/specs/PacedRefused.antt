-- Which refusal ends a run of `export --paced`: the first (own). What was read is told by a
-- predicate: it holds of any octets that begin with it, and of no others where the source has
-- ended.
use Rattle.std.specs.Prelude.{◌≡◌, ◌⊎◌, ℕ, List, [], Option, Ok, Err}
use Rattle.media_file.specs.Capture.{Content, capture_walk}
use Rattle.media_file.specs.Fronts.{front_at}
use Rattle.media_file.specs.declared.fault.FileFault.{FileFault}
use Rattle.run_outcome.specs.TextRefusals.{IsDescriptionRefusal, IsSdp}
use Rattle.run_outcome.specs.declared.refusal.Refusal.{Refusal}
use Rattle.run_outcome.specs.declared.refusal.Refusal.TheVariants as refusal
use Rattle.export_engine.specs.ExportRefused.{IsReadRefusal}
use Rattle.export_engine.specs.Packets.{AreEnvelopes}
use Rattle.export_engine.specs.declared.places.Envelopes.{Envelopes}

-- the refusal of the text of a capture that was read, which is to say the rate: it is no SDP of
-- video
abbrev pub IsPacedFrontRefusal : (List ℕ → Type 0) → Refusal → Type 0
IsPacedFrontRefusal told r = (octets : List ℕ) → told octets
    → (x : List ℕ × List ℕ) × (front_at octets ≡ Ok x) × IsDescriptionRefusal x.0 r

-- a capture that was read is at fault at its front
abbrev pub HasFrontFault : (List ℕ → Type 0) → FileFault → Type 0
HasFrontFault told f = (octets : List ℕ) → told octets → front_at octets ≡ Err f

-- the text at the front of a capture that was read describes a video, and so it says the rate
abbrev pub HasRate : (List ℕ → Type 0) → Type 0
HasRate told = (octets : List ℕ) → told octets
    → (x : List ℕ × List ℕ) × (front_at octets ≡ Ok x) × IsSdp x.0

-- all of a capture was read, and its text says the rate
pub record IsReadAhead (told : List ℕ → Type 0) : Type 0 where
  pub content : Content
  pub read : (octets : List ℕ) → told octets → capture_walk 16777216 octets ≡ Ok (content, [])
  pub rate : IsSdp content.text

-- The first refusal of the first reading: of the capture's front; of its text; of what is behind
-- them, where that says the rate.
abbrev pub IsAheadRefusal : (List ℕ → Type 0) → Refusal → Type 0
IsAheadRefusal told (refusal.Capture f) =
    IsReadRefusal told (refusal.Capture f) × (HasFrontFault told f ⊎ HasRate told)
IsAheadRefusal told (refusal.Sdp at) = IsPacedFrontRefusal told (refusal.Sdp at)
IsAheadRefusal told r = ⊥

-- The refusal of `export --paced`: the texts are no flows to addresses; or they are, and it is that
-- of the first reading; or of the second, where the first was of all of a capture.
abbrev pub IsPacedRefusal : List ℕ → Option (List ℕ) → (List ℕ → Type 0) → (List ℕ → Type 0)
    → Refusal → Type 0
IsPacedRefusal a b ahead told refusal.ExportFlow = (es : Envelopes) → AreEnvelopes a b es → ⊥
IsPacedRefusal a b ahead told r = ((es : Envelopes) × AreEnvelopes a b es)
    × (IsAheadRefusal ahead r ⊎ (IsReadAhead ahead × IsReadRefusal told r))
