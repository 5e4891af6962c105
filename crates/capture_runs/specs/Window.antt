-- Which window `receive` takes (own).
use Rattle.std.specs.Prelude.{◌≡◌, ◌⊎◌, ℕ, List, length, All, Option, None, Some, Result}
use Rattle.std.specs.List.{zip}
use Rattle.capture_engines.specs.Received as words
use Rattle.capture_runs.specs.Looked.{ReadNone}
use Rattle.capture_runs.specs.Replayed.{ReplayedRead}
use Rattle.capture_runs.specs.declared.replayed.Replayed.{Replayed}
use Rattle.capture_runs.specs.declared.window.Found.{Found}
use Rattle.flow.specs.declared.flows.Flows.{Flows}
use Rattle.run_outcome.specs.Sources.{IsSourceText}
use Rattle.run_outcome.specs.Timestamps.{AreTimestamps}
use Rattle.run_outcome.specs.declared.refusal.Refusal.{Refusal}
use Rattle.run_outcome.specs.declared.refusal.Refusal.TheVariants.{ReceiveWindow}
use Rattle.window_finding.specs.Finding.{FindsFirst, IsFindRefusal}
use Rattle.window_finding.specs.Words.{AsksFirst}
use Rattle.window_finding.specs.declared.finder.Sought.{Sought}

-- the timestamps of the window, as a text: those that were found, or else those of the words
abbrev pub window_text : Option Found → List ℕ → List ℕ
window_text None window = window
window_text (Some f) window = f.window.items

-- the words ask for this: the first so many timestamps of a source, or else those that they list
abbrev pub IsSought : List ℕ → List ℕ → Option Sought → Type 0
IsSought window source None = ((count : ℕ) → AsksFirst window count → ⊥)
IsSought window source (Some s) = AsksFirst window s.count × IsSourceText source s.ssrc

-- The window that was found is that of the first timestamps that the words ask for, by the SDP text
-- that is given, of what was read of files from their fronts on, each taken so.
pub record IsFound (window source : List ℕ) (sdp : Option (List ℕ))
    (ways : List (Result Flows Refusal)) (f : Found) : Type 0 where
  pub count : ℕ
  pub ssrc : Option ℕ
  pub asked : AsksFirst window count
  pub from : IsSourceText source ssrc
  pub timestamps : List ℕ
  pub text : AreTimestamps f.window.items timestamps
  pub unread : All ReadNone f.fresh.value.items
  pub first : FindsFirst count ssrc sdp ways ReplayedRead
      (zip f.fresh.value.items f.read.value.items) timestamps

-- So it is where the words don't list timestamps; where they do, none was looked for.
abbrev pub IsFoundWindow : List ℕ → List ℕ → Option (List ℕ) → List (Result Flows Refusal)
    → Option Found → Type 0
IsFoundWindow window source sdp ways None = ((count : ℕ) → AsksFirst window count → ⊥)
IsFoundWindow window source sdp ways (Some f) = IsFound window source sdp ways f

-- the words ask for a window: they list timestamps, or ask for the first ones
abbrev pub AsksForWindow : List ℕ → Type 0
AsksForWindow window = ((ts : List ℕ) × AreTimestamps window ts)
    ⊎ ((count : ℕ) × AsksFirst window count)

-- and for a source
abbrev pub AskForReceiver : List ℕ → List ℕ → Type 0
AskForReceiver window source =
    AsksForWindow window × ((pin : Option ℕ) × IsSourceText source pin)

-- ---- refusals

-- The refusals of the words: those of listed timestamps and of the source; and the window's only
-- where it asks for no first timestamps either.
pub record IsWindowWordRefusal (window source : List ℕ) (r : Refusal) : Type 0 where
  pub is : words.IsWordRefusal window source r
  pub other : r ≡ ReceiveWindow → (count : ℕ) → AsksFirst window count → ⊥

-- the window is looked at first: where the source is refused, it lists timestamps, or asks for the
-- first ones
abbrev pub IsBehindAsked : List ℕ → Refusal → Type 0
IsBehindAsked window r = words.IsBehindWindow window r ⊎ ((count : ℕ) × AsksFirst window count)

-- the first refusal of the words
abbrev pub IsFirstAsked : List ℕ → List ℕ → Refusal → Type 0
IsFirstAsked window source r = IsWindowWordRefusal window source r × IsBehindAsked window r

-- The refusals where the first timestamps are looked for, of what was read of files from their
-- fronts on, each taken so.
pub record IsLookedRefusal (window source : List ℕ) (sdp : Option (List ℕ))
    (ways : List (Result Flows Refusal)) (looked : List Replayed) (r : Refusal) : Type 0 where
  pub count : ℕ
  pub ssrc : Option ℕ
  pub asked : AsksFirst window count
  pub from : IsSourceText source ssrc
  pub fresh : List Replayed
  pub unread : All ReadNone fresh
  pub each : length looked ≡ length fresh
  pub is : IsFindRefusal count ssrc sdp ways ReplayedRead (zip fresh looked) r
