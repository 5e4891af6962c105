-- Files that were merged, in any tree (own).
use Rattle.std.specs.Prelude.{◌≡◌, ℕ, List, [], ◌∷◌}
use Rattle.std.specs.List.{AllZip}
use Rattle.media_file.specs.StateFile.{state_text}
use Rattle.path_receiver.specs.Frames.{State}
use Rattle.receiver_file.specs.Saved.{IsReceiverFile, kept_of}
use Rattle.receiver_engines.specs.MergedAll.{AreOpenAlike, behind_each_other, merged_all}
use Rattle.run_laws.specs.Received.{IsReceivedFile}

-- octets are the files of receivers, one each
abbrev pub AreReceiverFiles : List (List ℕ) → List State → Type 0
AreReceiverFiles files receivers = AllZip (λ file r. IsReceiverFile file r) files receivers

-- Octets are the file of receivers merged that have these files: a first one and others.
pub record IsMergedFile (first : List ℕ) (others : List (List ℕ)) (file : List ℕ) : Type 0 where
  pub receiver : State
  pub receivers : List State
  pub first_is : IsReceiverFile first receiver
  pub others_are : AreReceiverFiles others receivers
  -- so whichever receivers' files they are
  pub merged : (s : State) (ts : List State) → IsReceiverFile first s → AreReceiverFiles others ts
      → AreOpenAlike s ts × (file ≡ state_text (kept_of (merged_all s ts)))

-- these are received files, one of each list of datagrams, of the same words and SDP text
abbrev pub AreReceivedFiles : List ℕ → List ℕ → List ℕ → List (List (List ℕ)) → List (List ℕ)
    → Type 0
AreReceivedFiles window source text lists files =
    AllZip (λ datagrams file. IsReceivedFile window source text datagrams file) lists files

-- Trees, side by side: none; a file that was received, of these datagrams, and others beside it; a
-- file that was merged, of all files of the trees below it, and others beside it.
pub data Trees : Type 0 where
  NoTree : Trees
  Received : List (List ℕ) → Trees → Trees
  Merged : Trees → Trees → Trees

-- the datagrams of each: those of which it was received, or those of all below it
abbrev pub datagrams_below : Trees → List (List (List ℕ))
datagrams_below NoTree = []
datagrams_below (Received datagrams beside) = datagrams ∷ datagrams_below beside
datagrams_below (Merged below beside) =
    behind_each_other (datagrams_below below) ∷ datagrams_below beside

-- these are the files of trees, all received with the same words and SDP text
abbrev pub AreFilesOf : List ℕ → List ℕ → List ℕ → Trees → List (List ℕ) → Type 0
AreFilesOf window source text NoTree files = files ≡ []
AreFilesOf window source text (Received datagrams beside) [] = ⊥
AreFilesOf window source text (Received datagrams beside) (file ∷ files) =
    IsReceivedFile window source text datagrams file × AreFilesOf window source text beside files
AreFilesOf window source text (Merged below beside) [] = ⊥
AreFilesOf window source text (Merged below beside) (file ∷ files) =
    ((first : List ℕ) × (others : List (List ℕ))
    × AreFilesOf window source text below (first ∷ others) × IsMergedFile first others file)
    × AreFilesOf window source text beside files
