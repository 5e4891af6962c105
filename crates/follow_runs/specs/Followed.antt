-- What `follow` opens on this machine, and refuses before it reads files (own).
use Rattle.std.specs.Prelude.{◌≡◌, ◌⊎◌, ℕ, Bool, List, [], ◌∷◌, ◌++◌, IsTrue, Option, Result}
use Rattle.std.specs.List.{AllByRecursion}
use Rattle.capture_runs.specs.Opened.{said_text}
use Rattle.follow_runs.specs.Outputs.{AreApart, FilesFrames, TakesReport}
use Rattle.follow_runs.specs.Pictured.{HasSoundFill, IsFillRefusal, TakesPictureStream}
use Rattle.capture_runs.specs.Refused.{HasSdpText, IsFlowRefusal, IsTooLongSdp}
use Rattle.capture_runs.specs.Replayed.{replayed_ended, replayed_gave}
use Rattle.capture_runs.specs.declared.opening.Files.{Files}
use Rattle.follow_runs.specs.declared.outputs.FollowOutputs.{FollowOutputs}
use Rattle.capture_runs.specs.declared.replayed.Replayed.{Replayed}
use Rattle.flow.specs.declared.flows.Flows.{Flows}
use Rattle.follow_engine.specs.Followed.{FollowsWhole, StopsShort}
use Rattle.follow_engine.specs.Opened.{AllClosedSides}
use Rattle.follow_engine.specs.Refused.{AskForFrames, IsFirstOfWords}
use Rattle.follow_engine.specs.Sides.{SideRead}
use Rattle.follow_engine.specs.declared.opening.FollowAsked.{FollowAsked}
use Rattle.follow_engine.specs.declared.telling.FollowTotals.{FollowTotals}
use Rattle.following.specs.Following.{Handed}
use Rattle.frame_sinks.specs.declared.filling.Filling.{Filling}
use Rattle.recording_engines.specs.Files.{gave_by}
use Rattle.run_outcome.specs.declared.refusal.Refusal.{Refusal}
use Rattle.run_outcome.specs.declared.refusal.Refusal.TheVariants.{OutputIsInput}
use Rattle.run_outcome.specs.declared.refusal.Writer.TheVariants.{Follow}
use Rattle.side_by_side.specs.declared.side.Side.{Side}

-- none was looked at yet
abbrev pub AreNewSides : {A : Type 0} → List (Side A Replayed) → Type 0
AreNewSides sides =
    AllClosedSides sides × AllByRecursion (λ s. gave_by replayed_gave s.file ≡ []) sides

-- The refusals before a file is read, each only where none before it is: of the words; of the
-- fill's; that what is to be written is read; of the SDP's length; of the words for flows.
abbrev pub IsFollowOpening : FollowAsked → Option (List ℕ) → FollowOutputs → Bool
    → Option (List ℕ) → Option (List ℕ) → Files → Refusal → Type 0
IsFollowOpening w fill outputs is_input a b files r = IsFirstOfWords w.frames w.ssrc.now r
    ⊎ (AskForFrames w.frames w.ssrc.now
    × (IsFillRefusal fill r
    ⊎ (HasSoundFill fill
    × (((r ≡ OutputIsInput Follow) × IsTrue is_input)
    ⊎ (AreApart outputs is_input
    × (IsTooLongSdp files.sdp r
    ⊎ (HasSdpText files.sdp (said_text files.said) × IsFlowRefusal a b r)))))))

-- these frames are listed, each behind those before it
abbrev pub IsListed : List Handed → Handed → List Handed → Type 0
IsListed frames h more = more ≡ frames ++ h ∷ []

-- The stream of these files was followed, and told; and of all frames that left it the pictures
-- were written, one behind the other, where there is a file for them, what they lack, where there
-- is one for that, and each picture as a file of its own, where there is a directory for these.
pub record FollowsFiles {A : Type 0} (w : FollowAsked) (sdp : Option (List ℕ))
    (ways : List (Result Flows Refusal)) (files : List (Side A Replayed × Side A Replayed))
    (filling : Filling) (fill : Option (List ℕ)) (outputs outputs' : FollowOutputs)
    (took took' : List ℕ) : Type 0 where
  pub frames : List Handed
  pub totals : FollowTotals
  pub follows : FollowsWhole w sdp ways (SideRead replayed_gave replayed_ended) files IsListed []
      frames took took' totals
  pub written : TakesPictureStream filling fill frames outputs.out outputs'.out
  pub reported : TakesReport frames outputs.report outputs'.report
  pub filed : FilesFrames filling fill frames outputs.pictures outputs'.pictures

-- The run was refused: nothing was printed and written; or of the frames that left the stream of
-- these files before, up to some record, all was told, and just that was written of them which is
-- written of a stream that ends there.
pub record StopsFiles {A : Type 0} (w : FollowAsked) (sdp : Option (List ℕ))
    (ways : List (Result Flows Refusal)) (files : List (Side A Replayed × Side A Replayed))
    (filling : Filling) (fill : Option (List ℕ)) (outputs outputs' : FollowOutputs)
    (took took' : List ℕ) : Type 0 where
  pub frames : List Handed
  pub stops : StopsShort w sdp ways (SideRead replayed_gave replayed_ended) files IsListed []
      frames took took'
  pub written : TakesPictureStream filling fill frames outputs.out outputs'.out
  pub reported : TakesReport frames outputs.report outputs'.report
  pub filed : FilesFrames filling fill frames outputs.pictures outputs'.pictures
