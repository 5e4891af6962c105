-- Which refusal ends a run of `merge` (own). Each is said to stand only where none before it does.
use Rattle.std.specs.Prelude.{◌≡◌, ℕ, ◌⊎◌, List}
use Rattle.path_receiver.specs.Frames.{State}
use Rattle.receiver_engines.specs.Merging.{GivesReceiver, SaysReceiver}
use Rattle.receiver_engines.specs.States.{IsStateRefusal}
use Rattle.run_outcome.specs.declared.refusal.Refusal.{Refusal}
use Rattle.run_outcome.specs.declared.refusal.Refusal.TheVariants as refusal

-- what was read are the files of receivers, and those are opened unlike
pub record AreUnlike (left right : List ℕ → Type 0) : Type 0 where
  pub first : State
  pub second : State
  pub first_is : SaysReceiver left first
  pub second_is : SaysReceiver right second
  pub unlike : (s t : State) → GivesReceiver left s → GivesReceiver right t
      → s.opening ≡ t.opening → ⊥

-- The refusals of `merge` in their order: of the left file; of the right one; of the two.
abbrev pub IsMergeRefusal : (List ℕ → Type 0) → (List ℕ → Type 0) → Refusal → Type 0
IsMergeRefusal left right (refusal.State f) =
    IsStateRefusal left (refusal.State f)
    ⊎ ((r : State) × SaysReceiver left r × IsStateRefusal right (refusal.State f))
IsMergeRefusal left right refusal.MergeUnlike = AreUnlike left right
IsMergeRefusal left right r = ⊥
