-- All events of a schedule, one by one.
use Rattle.std.proofs.Common.{◌≡◌, ℕ, zero, suc, ◌+◌, ◌%◌, ◌^◌, ◌<◌, ◌⊎◌, inl, inr, List, [], ◌∷◌}
use Rattle.std.proofs.Common.{◌++◌, length, take, Some, refl, sym, ap, ◌∙◌, subst, arith}
use Rattle.std.specs.Prelude.{All, slice_get, Result, Err}
use Rattle.std.specs.List.{AllByRecursion}
use Rattle.std.proofs.lemmas.List.{take_all}
use Rattle.std.proofs.lemmas.List.Elements.{recursion_from_All}
use Rattle.st_format.specs.declared.format.Format.{Format}
use Rattle.st_format.specs.Picture.{Values, IsPicture}
use Rattle.packet_plan.specs.declared.stamp.Stamp.{Stamp}
use Rattle.packet_plan.specs.Plan.{RasterPlan, IsFullPlan, IsRasterPlan}
use Rattle.packet_plan.specs.Sender.{Sender, IsSenderList, SendsFrom, stamp_of}
use Rattle.packet_plan.specs.Text.{IsStamp, datagram_texts}
use Rattle.packet_plan.proofs.Texts.{picture_sent}
use Rattle.path_merge.specs.declared.schedule.event.Event.{Event}
use Rattle.path_merge.specs.declared.schedule.stage.Stage.{Stage}
use Rattle.path_receiver.specs.declared.play_fault.PlayFault.{PlayFault}
use Rattle.path_receiver.specs.declared.play_fault.PlayFault.TheVariants.{BadEvent}
use Rattle.path_receiver.specs.declared.play_fault.PlayFault.TheVariants.{BadPictures}
use Rattle.path_receiver.specs.declared.play_fault.PlayFault.TheVariants.{BadReceivers}
use Rattle.path_receiver.specs.declared.play_fault.PlayFault.TheVariants.{NoMemory}
use Rattle.path_merge.specs.Played.{ArePictures, IsPlayed}
use Rattle.path_merge.specs.Sent.{AreSentBy, sender_of, texts_from}
use Rattle.path_merge.specs.Admitted.{AreAdmittedTo, IsAdmitted, IsFirstBad}
use Rattle.path_merge.specs.Reached.{Scene}
use Rattle.path_merge.specs.Stage.{RefusesAt, IsFollowedBy, FollowsAll, FollowsTo, IsStage}
use Rattle.path_merge.specs.Stage.{NeverFits}
use Rattle.path_merge.proofs.Places.{below_or_at, get_below}
use Rattle.std.proofs.lemmas.Bool.Decides.{leb_tells}

take_suc : {X : Type 0} (xs : List X) (i : ℕ) (x : X) → slice_get xs i ≡ Some x
    → take (suc i) xs ≡ take i xs ++ x ∷ []
take_suc [] i x h = absurd cc
take_suc (z ∷ xs) zero x h = ap (λ y. y ∷ []) (same_some z x h)
  where
    same_some : {X : Type 0} (a b : X) → Some a ≡ Some b → a ≡ b
    same_some a b e = cc
take_suc (z ∷ xs) (suc i) x h = ap (λ ys. z ∷ ys) (take_suc xs i x h)

pub take_more : (es : List Event) (i : ℕ) (e : Event) → slice_get es i ≡ Some e
    → take (i + 1) es ≡ take i es ++ e ∷ []
take_more es i e h = let one : i + 1 ≡ suc i =
    omega arith in ap (λ (n : ℕ). take n es) one ∙ take_suc es i e h

same_event : (a b : Event) (es : List Event) (i : ℕ) → slice_get es i ≡ Some a
    → slice_get es i ≡ Some b → a ≡ b
same_event a b es i g h = cc

pub follows_next : {A : Type 0} (plan : RasterPlan) (stamp : Stamp) (pictures : List Values)
    (events : List Event) (place : ℕ) (e : Event) (old mid new : Stage A)
    → slice_get events place ≡ Some e → FollowsTo plan stamp pictures events place old mid
    → IsFollowedBy plan stamp pictures e mid new
    → FollowsTo plan stamp pictures events (place + 1) old new
follows_next plan stamp pictures events place e old mid new there so_far one s some is =
    let a = so_far s some is in
    let f = one s (take place events) some a.stage in
    record {
      admitted = λ p event lt at. elim (below_or_at p place lt) [
        | inl below ↦ a.admitted p event below at
        | inr same ↦ subst (λ (n : ℕ). IsAdmitted event s (take n events)) (sym same)
            (subst (λ (x : Event). IsAdmitted x s (take place events))
            (same_event e event events place there
            (ap (slice_get events) (sym same) ∙ at)) f.admitted)
      ];
      stage =
          subst (λ (es : List Event). IsStage plan stamp pictures s es new)
          (sym (take_more events place e there)) f.stage;
    }

pub fails_here : {A : Type 0} (plan : RasterPlan) (stamp : Stamp) (pictures : List Values)
    (events : List Event) (place : ℕ) (e : Event) (old mid : Stage A)
    → slice_get events place ≡ Some e → FollowsTo plan stamp pictures events place old mid
    → NeverFits plan stamp pictures e mid → RefusesAt plan stamp pictures events place old
fails_here plan stamp pictures events place e old mid there so_far never s some is =
    let a = so_far s some is in
    record {
      event = e;
      there = there;
      bad = never s (take place events) a.stage;
      before =
          a.admitted;
    }

-- ---- what is answered

pub fault_is : {T : Type 0} (r : Result T PlayFault) (f g : PlayFault) → r ≡ Err f → r ≡ Err g
    → f ≡ g
fault_is r f g a b = cc

event_or_memory : (f g : PlayFault) (place : ℕ) → f ≡ BadEvent place → f ≡ g → BadEvent place ≡ g
event_or_memory f g place a e = cc

pub no_pictures : (f : PlayFault) → (f ≡ NoMemory) ⊎ ((place : ℕ) × (f ≡ BadEvent place))
    → f ≡ BadPictures → ⊥
no_pictures f (inl a) e = absurd cc
no_pictures f (inr a) e = let h = event_or_memory f BadPictures a.0 a.1 e in absurd cc

pub no_receivers : (f : PlayFault) → (f ≡ NoMemory) ⊎ ((place : ℕ) × (f ≡ BadEvent place))
    → f ≡ BadReceivers → ⊥
no_receivers f (inl a) e = absurd cc
no_receivers f (inr a) e = let h = event_or_memory f BadReceivers a.0 a.1 e in absurd cc

pub played_all : {A : Type 0} (plan : RasterPlan) (stamp : Stamp) (pictures : List Values)
    (s : Scene) (events : List Event) (old new : Stage A) → 0 < length s.opening.window
    → IsStage plan stamp pictures s [] old
    → FollowsAll plan stamp pictures events old new
    → IsPlayed (record { handed = new.handed; receivers = new.receivers }) s events
played_all plan stamp pictures s events old new some is all =
    let a = all s some is in
    let b : IsStage plan stamp pictures s events new =
    subst (λ (es : List Event). IsStage plan stamp pictures s es new)
    (take_all (length events) events (omega arith)) a.stage in
    record { admitted = a.admitted; handed = b.handed; count = b.count; receivers = b.receivers }

-- ---- the sender's list

stamp_is : (s : Sender) (k first : ℕ) → s.payload_type < 128 → s.ssrc < 2 ^ 32
    → IsStamp (stamp_of s k first)
stamp_is s k first low fits = record { payload_type = low; timestamp = omega arith; ssrc = fits }

sends_texts : (s : Sender) (plan : RasterPlan) (k first : ℕ) (ps : List Values)
    → s.format ≡ plan.format → IsFullPlan plan.packets plan.format plan.max_octets
    → s.payload_type < 128 → s.ssrc < 2 ^ 32
    → AllByRecursion (λ p. p.format ≡ plan.format) ps → AllByRecursion IsPicture ps
    → SendsFrom s k ps first (texts_from s plan.packets k first ps)
sends_texts s plan k first [] same full low fits formats whole = refl
sends_texts s plan k first (p ∷ ps) same full low fits formats whole = record {
  size = plan.max_octets;
  packets = plan.packets;
  mine = datagram_texts p (stamp_of s k first) 0 plan.packets;
  others = texts_from s plan.packets (k + 1) ((first + length plan.packets) % 2 ^ 32) ps;
  format = formats.0 ∙ sym same;
  picture =
      picture_sent p (stamp_of s k first) plan.max_octets plan.packets
      (omega (arith, full.limits.most))
      (subst (λ (f : Format). IsRasterPlan plan.packets f plan.max_octets)
      (sym formats.0) full.plan) whole.0 (stamp_is s k first low fits);
  rest =
      sends_texts s plan (k + 1)
      ((first + length plan.packets) % 2 ^ 32) ps same full low fits formats.1 whole.1;
  whole = refl;
}

pub texts_list : (plan : RasterPlan) (stamp : Stamp) (ps : List Values)
    → IsFullPlan plan.packets plan.format plan.max_octets → stamp.payload_type < 128
    → stamp.ssrc < 2 ^ 32
    → ArePictures ps plan.format → All IsPicture ps
    → IsSenderList (texts_from (sender_of plan stamp) plan.packets 0 stamp.first ps)
    (sender_of plan stamp) stamp.first ps
texts_list plan stamp ps full low fits are whole = record {
  few = are.few;
  sent =
      sends_texts (sender_of plan stamp) plan 0 stamp.first ps refl full low fits
      (recursion_from_All (λ (p : Values). p.format ≡ plan.format) ps are.of_format)
      (recursion_from_All IsPicture ps whole);
}

sent_by : (s : Sender) (plan : RasterPlan) (k first : ℕ) (ps : List Values)
    → s.format ≡ plan.format → IsFullPlan plan.packets plan.format plan.max_octets
    → s.payload_type < 128 → s.ssrc < 2 ^ 32
    → AllByRecursion (λ p. p.format ≡ plan.format) ps → AllByRecursion IsPicture ps
    → AreSentBy (texts_from s plan.packets k first ps) s plan k first ps
sent_by s plan k first [] same full low fits formats whole = refl
sent_by s plan k first (p ∷ ps) same full low fits formats whole = record {
  mine = datagram_texts p (stamp_of s k first) 0 plan.packets;
  others = texts_from s plan.packets (k + 1) ((first + length plan.packets) % 2 ^ 32) ps;
  picture =
      picture_sent p (stamp_of s k first) plan.max_octets plan.packets
      (omega (arith, full.limits.most))
      (subst (λ (f : Format). IsRasterPlan plan.packets f plan.max_octets)
      (sym formats.0) full.plan) whole.0 (stamp_is s k first low fits);
  rest =
      sent_by s plan (k + 1)
      ((first + length plan.packets) % 2 ^ 32) ps same full low fits formats.1 whole.1;
  whole = refl;
}

-- each picture's datagrams are by the plan's own packets
pub texts_by : (plan : RasterPlan) (stamp : Stamp) (ps : List Values)
    → IsFullPlan plan.packets plan.format plan.max_octets → stamp.payload_type < 128
    → stamp.ssrc < 2 ^ 32
    → ArePictures ps plan.format → All IsPicture ps
    → AreSentBy (texts_from (sender_of plan stamp) plan.packets 0 stamp.first ps)
    (sender_of plan stamp) plan 0 stamp.first ps
texts_by plan stamp ps full low fits are whole =
    sent_by (sender_of plan stamp) plan 0 stamp.first ps refl full low fits
    (recursion_from_All (λ (p : Values). p.format ≡ plan.format) ps are.of_format)
    (recursion_from_All IsPicture ps whole)

pub same_place : (m n : ℕ) → BadEvent m ≡ BadEvent n → m ≡ n
same_place m n e = cc

-- ---- the first that is not admitted

pub none_bad : (s : Scene) (events : List Event) (p : ℕ) → AreAdmittedTo events s (length events)
    → IsFirstBad p s events → ⊥
none_bad s events p all bad =
    bad.bad (all p bad.event (get_below events p bad.event bad.there) bad.there)

pub one_bad : (s : Scene) (events : List Event) (p q : ℕ) → IsFirstBad p s events
    → IsFirstBad q s events → p ≡ q
one_bad s events p q a b = elim (leb_tells q p) [
  | inr below ↦ absurd (a.bad (b.before p a.event below.1 a.there))
  | inl up ↦ elim (leb_tells p q) [
    | inr below ↦ absurd (b.bad (a.before q b.event below.1 b.there))
    | inl down ↦ omega (arith, up.1, down.1)
  ]
]
