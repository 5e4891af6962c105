-- What `merge` writes of a first receiver's file and of any number of others. What was read of a
-- source is told by a predicate: it holds of any octets that begin with it, and of no others where
-- the source has ended.
use Rattle.std.specs.Prelude.{◌≡◌, ℕ, List, [], ◌∷◌, ◌++◌, All}
use Rattle.std.specs.List.{AllZip, flat_map}
use Rattle.media_file.specs.StateFile.{state_text}
use Rattle.path_receiver.specs.Frames.{Holds, State}
use Rattle.receiver_file.specs.Saved.{kept_of}
use Rattle.run_outcome.specs.Frames.{frame_lines}
use Rattle.receiver_engines.specs.Merging.{GivesReceiver, IsAgain, SaysReceiver, merged_state}
use Rattle.receiver_engines.specs.Reading.{SayReceivers}

-- a receiver and others as one: each frame is the join of theirs
abbrev pub merged_all : State → List State → State
merged_all s [] = s
merged_all s (t ∷ ts) = merged_all (merged_state s t) ts

-- receivers are each opened as the first is
abbrev pub AreOpenAlike : State → List State → Type 0
AreOpenAlike s ts = All (λ t. s.opening ≡ t.opening) ts

-- lists of datagrams, one behind the other
abbrev pub behind_each_other : List (List (List ℕ)) → List (List ℕ)
behind_each_other lists = flat_map (λ datagrams. datagrams) lists

-- A sink took the file of receivers merged, which are opened alike. So it is the file of one that
-- holds the datagrams of all.
pub record SavesAll (s : State) (ts : List State) (old new : List ℕ) : Type 0 where
  pub alike : AreOpenAlike s ts
  pub taken : new ≡ old ++ state_text (kept_of (merged_all s ts))
  pub holds : (datagrams : List (List ℕ)) (others : List (List (List ℕ))) → Holds s datagrams
      → AllZip Holds ts others
      → Holds (merged_all s ts) (datagrams ++ behind_each_other others)

-- what was read of sources can be the files of these receivers, one each, which can be written
abbrev pub GiveReceivers : {S : Type 0} → (S → List ℕ → Type 0) → List S → List State → Type 0
GiveReceivers told ss ts = AllZip (λ s t. GivesReceiver (told s) t) ss ts

-- What was read of a first source and of others are the files of receivers, and a sink took that of
-- them all merged.
pub record MergesAll {S : Type 0} (first : List ℕ → Type 0) (told : S → List ℕ → Type 0)
    (others : List S) (old new : List ℕ) : Type 0 where
  pub receiver : State
  pub receivers : List State
  pub receiver_is : SaysReceiver first receiver
  pub receivers_are : SayReceivers told others receivers
  pub taken : SavesAll receiver receivers old new
  -- so whichever receivers' files they are
  pub saved : (s : State) (ts : List State) → GivesReceiver first s → GiveReceivers told others ts
      → SavesAll s ts old new

-- What was read of a first source and of others are the files of receivers, and a line was printed
-- for each frame of them all merged.
pub record PrintsAll {S : Type 0} (first : List ℕ → Type 0) (told : S → List ℕ → Type 0)
    (others : List S) (old new : List ℕ) : Type 0 where
  pub receiver : State
  pub receivers : List State
  pub receiver_is : SaysReceiver first receiver
  pub receivers_are : SayReceivers told others receivers
  pub alike : AreOpenAlike receiver receivers
  pub printed : new ≡ old ++ frame_lines (merged_all receiver receivers)

-- ---- a receiver that is not written yet

-- what was read is the file of this receiver, and of none that differs
pub record IsFileOf (told : List ℕ → Type 0) (r : State) : Type 0 where
  pub says : SaysReceiver told r
  pub same : (s : State) → GivesReceiver told s → IsAgain s r

-- the receiver whose file was read was merged into one that is opened alike
pub record JoinsOne (told : List ℕ → Type 0) (before after : State) : Type 0 where
  pub other : State
  pub other_is : IsFileOf told other
  pub alike : before.opening ≡ other.opening
  pub joined : IsAgain (merged_state before other) after

-- the receivers whose files were read were merged into one, and are all opened as that
pub record JoinsEach {S : Type 0} (told : S → List ℕ → Type 0) (others : List S)
    (before after : State) : Type 0 where
  pub receivers : List State
  pub receivers_are : AllZip (λ s r. IsFileOf (told s) r) others receivers
  pub alike : AreOpenAlike before receivers
  pub joined : IsAgain (merged_all before receivers) after

-- a receiver is that of a first file and of others merged
pub record JoinsAll {S : Type 0} (first : List ℕ → Type 0) (told : S → List ℕ → Type 0)
    (others : List S) (m : State) : Type 0 where
  pub receiver : State
  pub receivers : List State
  pub receiver_is : SaysReceiver first receiver
  pub receivers_are : SayReceivers told others receivers
  pub all : AreOpenAlike receiver receivers × IsAgain (merged_all receiver receivers) m
  pub joined : (s : State) (ts : List State) → GivesReceiver first s
      → GiveReceivers told others ts → AreOpenAlike s ts × IsAgain (merged_all s ts) m
