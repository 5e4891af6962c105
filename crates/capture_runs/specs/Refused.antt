-- What `receive` refuses before it takes datagrams (own).
use Rattle.std.specs.Prelude.{◌≡◌, ◌⊎◌, ⊤, ℕ, List, [], Bool, IsFalse, IsTrue, Option, None, Some}
use Rattle.capture_runs.specs.Opened.{said_text}
use Rattle.capture_runs.specs.Replayed.{replayed_ended, replayed_gave}
use Rattle.capture_runs.specs.Window.{AskForReceiver, IsFirstAsked, IsLookedRefusal}
use Rattle.capture_runs.specs.declared.opening.Files.{Files}
use Rattle.capture_runs.specs.declared.replayed.Replayed.{Replayed}
use Rattle.recording_engines.specs.Imported as flows
use Rattle.recording_engines.specs.Ways.{AreWaysBy}
use Rattle.run_outcome.specs.Text.{GivesMore, GivesText}
use Rattle.run_outcome.specs.declared.refusal.Refusal.{Refusal}
use Rattle.run_outcome.specs.declared.refusal.Refusal.TheVariants.{OutputIsInput, ReceiveSdp}
use Rattle.run_outcome.specs.declared.refusal.Writer.TheVariants as writer

-- the SDP's file gave more than a text may have
abbrev pub IsTooLongSdp : Option Replayed → Refusal → Type 0
IsTooLongSdp None r = ⊥
IsTooLongSdp (Some file) r = (r ≡ ReceiveSdp) × GivesMore 16777216 [] (replayed_gave file)

-- it gave a text, where it is named
abbrev pub HasSdpText : Option Replayed → Option (List ℕ) → Type 0
HasSdpText None said = ⊤
HasSdpText (Some file) None = ⊥
HasSdpText (Some file) (Some text) =
    GivesText 16777216 [] (replayed_gave file) (replayed_ended file) text

-- a word for a flow is none
abbrev pub IsFlowRefusal : Option (List ℕ) → Option (List ℕ) → Refusal → Type 0
IsFlowRefusal a b r = flows.IsNoFlowRefusal a r ⊎ flows.IsNoFlowRefusal b r

-- The refusals before datagrams are taken, each only where none before it is: of the window and the
-- source; that what is to be written is read; of the SDP's length; of the words for flows; of
-- looking for the first timestamps.
abbrev pub IsReceiveStartRefusal : List ℕ → List ℕ → Bool → Option (List ℕ) → Option (List ℕ)
    → Files → Refusal → Type 0
IsReceiveStartRefusal window ssrc is_input a b files r = IsFirstAsked window ssrc r
    ⊎ (AskForReceiver window ssrc
    × (((r ≡ OutputIsInput writer.Receive) × IsTrue is_input)
    ⊎ (IsFalse is_input
    × (IsTooLongSdp files.sdp r
    ⊎ (HasSdpText files.sdp (said_text files.said)
    × (IsFlowRefusal a b r
    ⊎ (((n : ℕ) × AreWaysBy a b (said_text files.said) n files.ways.items)
    × IsLookedRefusal window ssrc (said_text files.said) files.ways.items files.looked.items
    r)))))))
