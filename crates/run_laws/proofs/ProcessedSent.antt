-- What is sent, received and processed is the job's picture of the pictures that were sent.
use Rattle.std.proofs.Common.{◌≡◌, ◌∙◌, ℕ, List, [], ◌∷◌, map, Option, ap, refl, subst, sym}
use Rattle.st_format.specs.Picture.{Values}
use Rattle.st_format.specs.Raster.{Raster}
use Rattle.packet_plan.specs.declared.stamp.Stamp.{Stamp}
use Rattle.path_receiver.specs.Frames.{State, frame_at}
use Rattle.path_receiver.specs.Sender.{picture_raster}
use Rattle.receiver_engines.specs.Inputs.{settled_frames}
use Rattle.receiver_engines.specs.Processing.{SendsSaidFiles, TakesSaid}
use Rattle.receiver_engines.specs.Reading.{SayReceivers}
use Rattle.run_outcome.specs.Moments.{WasRead}
use Rattle.run_laws.specs.Processed.{HasPicture, HasSentPicture, HavePictures, HaveSentPictures}
use Rattle.run_laws.specs.Received.{all_read, read_of}
use Rattle.run_laws.proofs.NoProcessRefusals.{found, frame_for, one_receiver, same_found}
use Rattle.run_laws.proofs.NoProcessRefusals.{same_frame}
use Rattle.run_laws.proofs.Receiving.{was_read}
use Rattle.run_laws.proofs.SentAgain.{pictures_received}
use Rattle.run_laws.proofs.Settled.{AllWhole, frames_whole}

-- ---- files

has_picture : (ts : ℕ) (file : List ℕ) (p : Values) → HasSentPicture ts file p
    → HasPicture ts file p
has_picture ts file p h =
    let r : State = h.received.receiver in
    record {
      receiver = r;
      file_is = h.received.file_is;
      frame =
          ap (λ (t : ℕ). frame_at r.opening.window r.frames t) (sym h.time)
          ∙ pictures_received h.wanted h.text h.format h.pictures h.capture h.window h.source
          h.said h.datagrams file h.sent h.received h.number p h.same h.awaits;
      whole = h.awaits.whole;
    }

pub have_pictures : (ts : ℕ) (files : List (List ℕ)) (ps : List Values)
    → HaveSentPictures ts files ps → HavePictures ts files ps
have_pictures ts [] [] have = have
have_pictures ts [] (p ∷ ps) have = absurd have
have_pictures ts (file ∷ files) [] have = absurd have
have_pictures ts (file ∷ files) (p ∷ ps) have =
    (has_picture ts file p have.0, have_pictures ts files ps have.1)

all_whole : (ts : ℕ) (files : List (List ℕ)) (ps : List Values) → HavePictures ts files ps
    → AllWhole ps
all_whole ts [] [] have = tt
all_whole ts [] (p ∷ ps) have = absurd have
all_whole ts (file ∷ files) [] have = absurd have
all_whole ts (file ∷ files) (p ∷ ps) have = (have.0.whole, all_whole ts files ps have.1)

-- ---- a run

module _ {S : Type 0} (gave : S → List ℕ) (ended : S → Type 0) where
  frames_found : (ts : ℕ) (states : List (S × S)) (rs : List State) (ps : List Values)
      → SayReceivers (WasRead gave ended) states rs → HavePictures ts (all_read gave states) ps
      → map (frame_for ts) rs ≡ map found (map picture_raster ps)
  frames_found ts [] [] [] says have = refl
  frames_found ts [] [] (p ∷ ps) says have = absurd have
  frames_found ts [] (r ∷ rs) ps says have = absurd says
  frames_found ts (s ∷ states) [] ps says have = absurd says
  frames_found ts (s ∷ states) (r ∷ rs) [] says have = absurd have
  frames_found ts (s ∷ states) (r ∷ rs) (p ∷ ps) says have =
      let octets : List ℕ = read_of gave s in
      let h : HasPicture ts octets p = have.0 in
      let one : frame_for ts r ≡ found (picture_raster p) =
      same_frame ts h.receiver r
      (one_receiver octets h.receiver r h.file_is (says.0 octets (was_read gave ended s)))
      ∙ h.frame in
      ap (λ (f : Option Raster). f ∷ map (frame_for ts) rs) one
      ∙ ap (λ (fs : List (Option Raster)). found (picture_raster p) ∷ fs)
      (frames_found ts states rs ps says.1 have.1)

  pub sent_processed : (text : List ℕ) (states : List (S × S)) (hold : Option (S × S))
      (job_text : List ℕ) (ts : ℕ) (fill : List ℕ) (size : ℕ) (stamp : Stamp)
      (old new : List ℕ) (count : ℕ) (ps : List Values)
      (run : SendsSaidFiles text (WasRead gave ended) states hold job_text ts fill size stamp old
      new count) → HavePictures ts (all_read gave states) ps
      → TakesSaid text run.job ps size stamp old new count
  sent_processed text states hold job_text ts fill size stamp old new count ps run have =
      let frames : run.sends.frames ≡ map picture_raster ps =
      same_found run.sends.frames (map picture_raster ps)
      (sym run.sends.are
      ∙ frames_found ts states run.receivers ps run.receivers_are have) in
      let pictures : settled_frames run.held run.sends.fill run.sends.frames ≡ ps =
      ap (λ (qs : List Raster). settled_frames run.held run.sends.fill qs) frames
      ∙ frames_whole run.held run.sends.fill ps (all_whole ts (all_read gave states) ps have) in
      subst (λ (vs : List Values). TakesSaid text run.job vs size stamp old new count) pictures
      run.sends.takes
