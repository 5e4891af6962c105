-- Which refusal ends a run of `merge`, of two files and of any number.
use Rattle.std.proofs.Common.{◌≡◌, ℕ, ◌+◌, ◌<◌, List, inl, inr, drop, get_or, length, take, subst}
use Rattle.std.proofs.Common.{◌∙◌, sym}
use Rattle.std.specs.Prelude.{Err, IfErr, Ok, OnOk, Result}
use Rattle.path_receiver.specs.Frames.{State}
use Rattle.receiver_engines.specs.MergeAllRefused.{IsJoinRefusal, IsMergeAllRefusal, IsUnlike}
use Rattle.receiver_engines.specs.MergeAllRefused.{StopsMerge}
use Rattle.receiver_engines.specs.MergeRefused.{AreUnlike, IsMergeRefusal}
use Rattle.receiver_engines.specs.MergedAll.{JoinsEach, JoinsOne}
use Rattle.receiver_engines.specs.Merging.{GivesReceiver, IsAgain, SaysReceiver, merged_state}
use Rattle.receiver_engines.specs.States.{IsStateRefusal}
use Rattle.receiver_engines.proofs.JoinedAll.{IsItem, item_at, said_so_far, same_opening}
use Rattle.run_outcome.specs.Refusing.{OfRefusal}
use Rattle.run_outcome.specs.declared.fault.Fault.{Fault}
use Rattle.run_outcome.specs.declared.fault.Fault.TheVariants.{Refused}
use Rattle.run_outcome.specs.declared.refusal.Refusal.{Refusal}
use Rattle.run_outcome.specs.declared.refusal.Refusal.TheVariants as why

-- a refusal of a file is one of the file that is merged
pub file_refused : (s : State) (told : List ℕ → Type 0) (r : Refusal) → IsStateRefusal told r
    → IsJoinRefusal s told r
file_refused s told (why.State f) is = is
file_refused s told r is = absurd is

-- one that was read was merged, or is opened unlike
pub joins_read : {V E : Type 0} (r : Result V E) (other before after : State)
    (told : List ℕ → Type 0) → SaysReceiver told other
    → ((s : State) → GivesReceiver told s → IsAgain s other)
    → OnOk r (before.opening ≡ other.opening)
    → OnOk r (IsAgain (merged_state before other) after) → OnOk r (JoinsOne told before after)
joins_read (Ok v) other before after told says same alike joined = record {
  other = other;
  other_is = record { says = says; same = same };
  alike = alike;
  joined = joined;
}
joins_read (Err e) other before after told says same alike joined = tt

pub unlike_refused : {V : Type 0} (r : Result V Fault) (other before : State)
    (told : List ℕ → Type 0) → SaysReceiver told other
    → ((s : State) → GivesReceiver told s → IsAgain s other)
    → IfErr r (λ f. (f ≡ Refused why.MergeUnlike) × (before.opening ≡ other.opening → ⊥))
    → IfErr r (λ f. OfRefusal f (IsJoinRefusal before told))
unlike_refused (Ok v) other before told says same only = tt
unlike_refused (Err e) other before told says same only =
    subst (λ (f : Fault). OfRefusal f (IsJoinRefusal before told)) (sym only.0) (record {
      other = other;
      other_is = says;
      unlike = λ t gives alike. only.1 (alike ∙ sym (same t gives).opening);
    })

-- what is opened unlike a receiver is so unlike one that is opened as that
unlike_again : (s m : State) (told : List ℕ → Type 0) → m.opening ≡ s.opening → IsUnlike m told
    → IsUnlike s told
unlike_again s m told same is = record {
  other = is.other;
  other_is = is.other_is;
  unlike = λ t gives alike. is.unlike t gives (same ∙ alike);
}

join_again : (s m : State) (told : List ℕ → Type 0) (r : Refusal) → m.opening ≡ s.opening
    → IsJoinRefusal m told r → IsJoinRefusal s told r
join_again s m told (why.State f) same is = is
join_again s m told why.MergeUnlike same is = unlike_again s m told same is
join_again s m told r same is = absurd is

-- the refusal of one behind others that were merged
pub stops_here : {S : Type 0} (told : S → List ℕ → Type 0) (others : List S) (k : ℕ)
    (start before : State) (r : Refusal) → k < length others
    → JoinsEach told (take k others) start before
    → ((d : S) → IsJoinRefusal before (told (get_or others k d)) r)
    → StopsMerge start told others (λ t. IsJoinRefusal start t r)
stops_here {S} told others k start before r lt each refused =
    let i : IsItem others k = item_at others k lt in
    record {
      front = take k others;
      at = i.item;
      behind = drop (k + 1) others;
      parts = i.parts;
      receivers = each.receivers;
      receivers_are = said_so_far told (take k others) start before each;
      alike = each.alike;
      is = join_again start before (told i.item) r
          (same_opening told (take k others) start before each)
          (subst (λ (s : S). IsJoinRefusal before (told s) r) (i.is i.item) (refused i.item));
    }

-- ---- the run

stops_so : {S : Type 0} (s : State) (told : S → List ℕ → Type 0) (others : List S)
    (P Q : (List ℕ → Type 0) → Type 0) → ((t : List ℕ → Type 0) → P t → Q t)
    → StopsMerge s told others P → StopsMerge s told others Q
stops_so s told others P Q then stops = record {
  front = stops.front;
  at = stops.at;
  behind = stops.behind;
  parts = stops.parts;
  receivers = stops.receivers;
  receivers_are = stops.receivers_are;
  alike = stops.alike;
  is = then (told stops.at) stops.is;
}

-- a receiver whose file was read, and one that is opened unlike it
are_unlike : (first told : List ℕ → Type 0) (s : State) → SaysReceiver first s
    → ((r : State) → GivesReceiver first r → IsAgain r s) → IsUnlike s told
    → AreUnlike first told
are_unlike first told s says same is = record {
  first = s;
  second = is.other;
  first_is = says;
  second_is = is.other_is;
  unlike = λ r t gives also_gives alike.
      is.unlike t also_gives ((same r gives).opening ∙ alike);
}

-- what refuses the second of two is a refusal of the two
pub pair_refused : (left right : List ℕ → Type 0) (s : State) → SaysReceiver left s
    → ((r : State) → GivesReceiver left r → IsAgain r s) → (r : Refusal)
    → IsJoinRefusal s right r → IsMergeRefusal left right r
pair_refused left right s says same (why.State f) is = inr (s, says, is)
pair_refused left right s says same why.MergeUnlike is = are_unlike left right s says same is
pair_refused left right s says same r is = absurd is

pub first_refused : {S : Type 0} (first : List ℕ → Type 0) (told : S → List ℕ → Type 0)
    (others : List S) (r : Refusal) → IsStateRefusal first r
    → IsMergeAllRefusal first told others r
first_refused first told others (why.State f) is = inl is
first_refused first told others r is = absurd is

pub other_refused : {S : Type 0} (first : List ℕ → Type 0) (told : S → List ℕ → Type 0)
    (others : List S) (s : State) → SaysReceiver first s
    → ((r : State) → GivesReceiver first r → IsAgain r s) → (r : Refusal)
    → StopsMerge s told others (λ t. IsJoinRefusal s t r) → IsMergeAllRefusal first told others r
other_refused first told others s says same (why.State f) stops = inr (s, says, stops)
other_refused first told others s says same why.MergeUnlike stops = (
  s,
  says,
  stops_so s told others (λ t. IsUnlike s t) (AreUnlike first)
      (λ t is. are_unlike first t s says same is) stops,
)
other_refused first told others s says same r stops = absurd stops.is
