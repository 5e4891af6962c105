-- What `receive` and `inspect` have opened before they take datagrams (own).
use Rattle.std.specs.Prelude.{ℕ, List, [], Option, None, Some, All, Vec, ⊤}
use Rattle.capture_runs.specs.Looked.{ReadNone}
use Rattle.capture_runs.specs.Replayed.{replayed_ended, replayed_gave}
use Rattle.capture_runs.specs.declared.opening.Files.{Files}
use Rattle.capture_runs.specs.declared.replayed.Replayed.{Replayed}
use Rattle.run_outcome.specs.Text.{GivesText}

-- the octets of a text, where there is one
abbrev pub said_text : {A : Type 0} → Option (Vec ℕ A) → Option (List ℕ)
said_text None = None
said_text (Some text) = Some text.items

-- an SDP's text is all that was read of its file
abbrev pub IsReadSdp : Option Replayed → Option (List ℕ) → Type 0
IsReadSdp file None = ⊤
IsReadSdp None (Some text) = ⊥
IsReadSdp (Some file) (Some text) =
    GivesText 16777216 [] (replayed_gave file) (replayed_ended file) text

-- the SDP was read, where there is one, and nothing of the captures and recordings
pub record AreUnread (f : Files) : Type 0 where
  pub said : IsReadSdp f.sdp (said_text f.said)
  pub unread : All ReadNone f.recordings.items
