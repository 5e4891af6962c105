-- Which refusal ends a run of `merge` of a first receiver's file and of others (own). Each is said
-- to stand only where none before it does.
use Rattle.std.specs.Prelude.{◌≡◌, ℕ, ◌⊎◌, List, ◌∷◌, ◌++◌}
use Rattle.path_receiver.specs.Frames.{State}
use Rattle.receiver_engines.specs.Merging.{GivesReceiver, SaysReceiver}
use Rattle.receiver_engines.specs.MergedAll.{AreOpenAlike}
use Rattle.receiver_engines.specs.MergeRefused.{AreUnlike}
use Rattle.receiver_engines.specs.Reading.{SayReceivers}
use Rattle.receiver_engines.specs.States.{IsStateRefusal}
use Rattle.run_outcome.specs.declared.refusal.Refusal.{Refusal}
use Rattle.run_outcome.specs.declared.refusal.Refusal.TheVariants as refusal

-- Of what was read of one of the sources this holds, and those before it are the files of receivers
-- that are opened as a first one is.
pub record StopsMerge {S : Type 0} (s : State) (told : S → List ℕ → Type 0) (others : List S)
    (Is : (List ℕ → Type 0) → Type 0) : Type 0 where
  pub front : List S
  pub at : S
  pub behind : List S
  pub parts : others ≡ front ++ at ∷ behind
  pub receivers : List State
  pub receivers_are : SayReceivers told front receivers
  pub alike : AreOpenAlike s receivers
  pub is : Is (told at)

-- what was read is the file of a receiver, which is opened unlike this one
pub record IsUnlike (s : State) (told : List ℕ → Type 0) : Type 0 where
  pub other : State
  pub other_is : SaysReceiver told other
  pub unlike : (t : State) → GivesReceiver told t → s.opening ≡ t.opening → ⊥

-- the refusals of one that is merged into a receiver: of its file; of the two
abbrev pub IsJoinRefusal : State → (List ℕ → Type 0) → Refusal → Type 0
IsJoinRefusal s told (refusal.State f) = IsStateRefusal told (refusal.State f)
IsJoinRefusal s told refusal.MergeUnlike = IsUnlike s told
IsJoinRefusal s told r = ⊥

-- what was read of the first source is the file of a receiver, and of one of the others this holds
abbrev pub StopsMergeBehind : {S : Type 0} → (List ℕ → Type 0) → (S → List ℕ → Type 0) → List S
    → ((List ℕ → Type 0) → Type 0) → Type 0
StopsMergeBehind first told others Is =
    (s : State) × SaysReceiver first s × StopsMerge s told others Is

-- The refusals of `merge` in their order: of the first file; then of the others, one after the
-- other, of its file and of the first and it.
abbrev pub IsMergeAllRefusal : {S : Type 0} → (List ℕ → Type 0) → (S → List ℕ → Type 0) → List S
    → Refusal → Type 0
IsMergeAllRefusal first told others (refusal.State f) =
    IsStateRefusal first (refusal.State f)
    ⊎ StopsMergeBehind first told others (λ t. IsStateRefusal t (refusal.State f))
IsMergeAllRefusal first told others refusal.MergeUnlike =
    StopsMergeBehind first told others (AreUnlike first)
IsMergeAllRefusal first told others r = ⊥
