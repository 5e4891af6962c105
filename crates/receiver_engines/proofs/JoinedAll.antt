-- Any number of receivers that were read and merged.
use Rattle.std.proofs.Common.{◌≡◌, ℕ, ◌+◌, ◌<◌, zero, suc, List, [], ◌∷◌, ◌++◌, refl, sym, ap}
use Rattle.std.proofs.Common.{◌∙◌, append-nil, append_assoc, arith, below_more, drop, get_or}
use Rattle.std.proofs.Common.{length, subst, take}
use Rattle.std.proofs.lemmas.List.Elements.{All-append, All-cons, All-nil}
use Rattle.std.specs.List.{AllZip}
use Rattle.st_format.specs.Raster.{Raster}
use Rattle.media_file.specs.StateFile.{Kept, state_text}
use Rattle.path_receiver.specs.Frames.{Holds, State, joined_frames}
use Rattle.receiver_file.specs.Saved.{kept_of}
use Rattle.run_outcome.specs.Frames.{frame_lines}
use Rattle.receiver_engines.specs.MergedAll.{AreOpenAlike, GiveReceivers, IsFileOf, JoinsAll}
use Rattle.receiver_engines.specs.MergedAll.{JoinsEach}
use Rattle.receiver_engines.specs.MergedAll.{JoinsOne, MergesAll, PrintsAll, SavesAll}
use Rattle.receiver_engines.specs.MergedAll.{behind_each_other, merged_all}
use Rattle.receiver_engines.specs.Merging.{GivesReceiver, IsAgain, JoinsFirst, SaysReceiver}
use Rattle.receiver_engines.specs.Merging.{merged_state}
use Rattle.receiver_engines.specs.Reading.{SayReceivers}
use Rattle.receiver_engines.proofs.Lists.{zip_next}
use Rattle.receiver_engines.proofs.Merged.{again, holds_both, joined, same_kept}
use Rattle.receiver_engines.proofs.Merged.{same_lines}

-- ---- receivers as they were read

-- what is a receiver again is what that is again
again_then : (s r q : State) → IsAgain s r → IsAgain r q → IsAgain s q
again_then s r q one two = record {
  opening = two.opening ∙ one.opening;
  frames = two.frames ∙ one.frames;
}

again_both : (s t r q : State) → IsAgain s r → IsAgain t q
    → IsAgain (merged_state s t) (merged_state r q)
again_both s t r q left right = record {
  opening = left.opening;
  frames = ap (λ (rs : List Raster). joined_frames rs q.frames) left.frames
      ∙ ap (joined_frames s.frames) right.frames;
}

again_all : (s r : State) (ts rs : List State) → IsAgain s r → AllZip IsAgain ts rs
    → IsAgain (merged_all s ts) (merged_all r rs)
again_all s r [] [] is each = is
again_all s r [] (q ∷ rs) is each = absurd each
again_all s r (t ∷ ts) [] is each = absurd each
again_all s r (t ∷ ts) (q ∷ rs) is each =
    again_all (merged_state s t) (merged_state r q) ts rs (again_both s t r q is each.0) each.1

pub alike_head : (s t : State) (ts : List State) → AreOpenAlike s (t ∷ ts) → s.opening ≡ t.opening
alike_head s t ts alike = alike 0 t (omega arith)

pub alike_tail : (s t : State) (ts : List State) → AreOpenAlike s (t ∷ ts) → AreOpenAlike s ts
alike_tail s t ts alike = λ k d lt. alike (suc k) d (omega (arith, lt))

alike_again : (s r : State) (ts rs : List State) → IsAgain s r → AllZip IsAgain ts rs
    → AreOpenAlike r rs → AreOpenAlike s ts
alike_again s r [] [] is each alike = All-nil (λ (t : State). s.opening ≡ t.opening)
alike_again s r [] (q ∷ rs) is each alike = absurd each
alike_again s r (t ∷ ts) [] is each alike = absurd each
alike_again s r (t ∷ ts) (q ∷ rs) is each alike =
    All-cons (λ (u : State). s.opening ≡ u.opening) t ts
    (sym is.opening ∙ alike_head r q rs alike ∙ each.0.opening)
    (alike_again s r ts rs is each.1 (alike_tail r q rs alike))

-- ---- one more

pub all_opening : (s : State) (ts : List State) → (merged_all s ts).opening ≡ s.opening
all_opening s [] = refl
all_opening s (t ∷ ts) = all_opening (merged_state s t) ts

all_next : (s : State) (ts : List State) (t : State)
    → merged_all s (ts ++ t ∷ []) ≡ merged_state (merged_all s ts) t
all_next s [] t = refl
all_next s (u ∷ ts) t = all_next (merged_state s u) ts t

-- what others were merged into is opened as before
pub same_opening : {S : Type 0} (told : S → List ℕ → Type 0) (others : List S)
    (before after : State) → JoinsEach told others before after → after.opening ≡ before.opening
same_opening told others before after joins =
    joins.joined.opening ∙ all_opening before joins.receivers

-- an item of a list, with what stands round it
pub record IsItem {S : Type 0} (xs : List S) (k : ℕ) : Type 0 where
  pub item : S
  pub next : take (k + 1) xs ≡ take k xs ++ item ∷ []
  pub parts : xs ≡ take k xs ++ item ∷ drop (k + 1) xs
  pub is : (d : S) → get_or xs k d ≡ item

item_suc : {S : Type 0} (x : S) (xs : List S) (k : ℕ) → IsItem xs k → IsItem (x ∷ xs) (suc k)
item_suc x xs k i =
    let one : suc k + 1 ≡ suc (k + 1) = omega arith in
    record {
      item = i.item;
      next = ap (λ (n : ℕ). take n (x ∷ xs)) one ∙ ap (λ l. x ∷ l) i.next;
      parts = ap (λ l. x ∷ l) i.parts
          ∙ ap (λ (n : ℕ). (x ∷ take k xs) ++ i.item ∷ drop n (x ∷ xs)) (sym one);
      is = i.is;
    }

pub item_at : {S : Type 0} (xs : List S) (k : ℕ) → k < length xs → IsItem xs k
item_at [] k lt = absurd (omega (arith, lt))
item_at (x ∷ xs) zero lt = record { item = x; next = refl; parts = refl; is = λ d. refl }
item_at (x ∷ xs) (suc k) lt = item_suc x xs k (item_at xs k (omega (arith, lt)))

joins_more : {S : Type 0} (told : S → List ℕ → Type 0) (others : List S) (k : ℕ)
    (start before after : State) (i : IsItem others k) → k < length others
    → JoinsEach told (take k others) start before → JoinsOne (told i.item) before after
    → JoinsEach told (take (k + 1) others) start after
joins_more {S} told others k start before after i lt each one =
    let rs : List State = each.receivers in
    let all : State = merged_all start rs in
    let opening : before.opening ≡ start.opening =
    same_opening told (take k others) start before each in
    record {
      receivers = rs ++ one.other ∷ [];
      receivers_are =
          zip_next (λ (s : S) (r : State). IsFileOf (told s) r) others rs k one.other lt
          each.receivers_are
          (λ d. subst (λ (s : S). IsFileOf (told s) one.other) (sym (i.is d)) one.other_is);
      alike =
          All-append (λ (t : State). start.opening ≡ t.opening) rs (one.other ∷ []) each.alike
          (All-cons (λ (t : State). start.opening ≡ t.opening) one.other []
          (sym opening ∙ one.alike) (All-nil (λ (t : State). start.opening ≡ t.opening)));
      joined =
          subst (λ (s : State). IsAgain s after) (sym (all_next start rs one.other))
          (again_then (merged_state all one.other) (merged_state before one.other) after
          (again_both all one.other before one.other each.joined (again one.other)) one.joined);
    }

-- one more was merged, of which this is said whatever stands for none
pub one_more : {S : Type 0} (told : S → List ℕ → Type 0) (others : List S) (k : ℕ)
    (start before after : State) → k < length others
    → JoinsEach told (take k others) start before
    → ((d : S) → JoinsOne (told (get_or others k d)) before after)
    → JoinsEach told (take (k + 1) others) start after
one_more {S} told others k start before after lt each one =
    let i : IsItem others k = item_at others k lt in
    joins_more told others k start before after i lt each
    (subst (λ (s : S). JoinsOne (told s) before after) (i.is i.item) (one i.item))

pub none_yet : {S : Type 0} (told : S → List ℕ → Type 0) (s : State) → JoinsEach told [] s s
none_yet told s = record {
  receivers = [];
  receivers_are = tt;
  alike = All-nil (λ (t : State). s.opening ≡ t.opening);
  joined = again s;
}

-- ---- all

say_each : {S : Type 0} (told : S → List ℕ → Type 0) (others : List S) (rs : List State)
    → AllZip (λ s r. IsFileOf (told s) r) others rs → SayReceivers told others rs
say_each told [] [] each = tt
say_each told [] (r ∷ rs) each = absurd each
say_each told (s ∷ ss) [] each = absurd each
say_each told (s ∷ ss) (r ∷ rs) each = (each.0.says, say_each told ss rs each.1)

-- the receivers before one that stops are said
pub said_so_far : {S : Type 0} (told : S → List ℕ → Type 0) (others : List S)
    (before after : State) (joins : JoinsEach told others before after)
    → SayReceivers told others joins.receivers
said_so_far told others before after joins =
    say_each told others joins.receivers joins.receivers_are

same_each : {S : Type 0} (told : S → List ℕ → Type 0) (others : List S) (rs ts : List State)
    → AllZip (λ s r. IsFileOf (told s) r) others rs → GiveReceivers told others ts
    → AllZip IsAgain ts rs
same_each told [] [] [] each gives = tt
same_each told [] [] (t ∷ ts) each gives = absurd gives
same_each told [] (r ∷ rs) ts each gives = absurd each
same_each told (s ∷ ss) [] ts each gives = absurd each
same_each told (s ∷ ss) (r ∷ rs) [] each gives = absurd gives
same_each told (s ∷ ss) (r ∷ rs) (t ∷ ts) each gives =
    (each.0.same t gives.0, same_each told ss rs ts each.1 gives.1)

pub joins_all : {S : Type 0} (first : List ℕ → Type 0) (told : S → List ℕ → Type 0)
    (others : List S) (r m : State) → SaysReceiver first r
    → ((s : State) → GivesReceiver first s → IsAgain s r) → JoinsEach told others r m
    → JoinsAll first told others m
joins_all first told others r m says same joins = record {
  receiver = r;
  receivers = joins.receivers;
  receiver_is = says;
  receivers_are = say_each told others joins.receivers joins.receivers_are;
  all = (joins.alike, joins.joined);
  joined = λ s ts gives give.
      let each : AllZip IsAgain ts joins.receivers =
      same_each told others joins.receivers ts joins.receivers_are give in (
        alike_again s r ts joins.receivers (same s gives) each joins.alike,
        again_then (merged_all s ts) (merged_all r joins.receivers) m
            (again_all s r ts joins.receivers (same s gives) each) joins.joined,
      );
}

-- one that was merged into another is the second of two
pub joins_first : (left right : List ℕ → Type 0) (r m : State) → SaysReceiver left r
    → ((s : State) → GivesReceiver left s → IsAgain s r) → JoinsOne right r m
    → JoinsFirst left right m
joins_first left right r m says same one = record {
  first = r;
  second = one.other;
  first_is = says;
  second_is = one.other_is.says;
  both = (one.alike, one.joined);
  joined = λ s t gives also_gives.
      joined s t r one.other m (same s gives) (one.other_is.same t also_gives) one.alike
      one.joined.opening one.joined.frames;
}

-- ---- what is written and printed

holds_all : (s : State) (ts : List State) → AreOpenAlike s ts → (xs : List (List ℕ))
    (rest : List (List (List ℕ))) → Holds s xs → AllZip Holds ts rest
    → Holds (merged_all s ts) (xs ++ behind_each_other rest)
holds_all s [] alike xs [] holds each =
    subst (λ (ds : List (List ℕ)). Holds s ds) (sym (append-nil xs)) holds
holds_all s [] alike xs (ys ∷ rest) holds each = absurd each
holds_all s (t ∷ ts) alike xs [] holds each = absurd each
holds_all s (t ∷ ts) alike xs (ys ∷ rest) holds each =
    subst (λ (ds : List (List ℕ)). Holds (merged_all (merged_state s t) ts) ds)
    (append_assoc xs ys (behind_each_other rest))
    (holds_all (merged_state s t) ts (alike_tail s t ts alike) (xs ++ ys) rest
    (holds_both s t (alike_head s t ts alike) xs ys holds each.0) each.1)

saves_all : (s : State) (ts : List State) (old new : List ℕ) (m : State)
    → AreOpenAlike s ts × IsAgain (merged_all s ts) m → new ≡ old ++ state_text (kept_of m)
    → SavesAll s ts old new
saves_all s ts old new m is taken = record {
  alike = is.0;
  taken = subst (λ (k : Kept). new ≡ old ++ state_text k)
      (same_kept (merged_all s ts) m is.1) taken;
  holds = holds_all s ts is.0;
}

pub merges_all : {S : Type 0} (first : List ℕ → Type 0) (told : S → List ℕ → Type 0)
    (others : List S) (old new : List ℕ) (m : State) → JoinsAll first told others m
    → new ≡ old ++ state_text (kept_of m) → MergesAll first told others old new
merges_all first told others old new m joins taken = record {
  receiver = joins.receiver;
  receivers = joins.receivers;
  receiver_is = joins.receiver_is;
  receivers_are = joins.receivers_are;
  taken = saves_all joins.receiver joins.receivers old new m joins.all taken;
  saved = λ s ts gives give. saves_all s ts old new m (joins.joined s ts gives give) taken;
}

pub prints_all : {S : Type 0} (first : List ℕ → Type 0) (told : S → List ℕ → Type 0)
    (others : List S) (old new : List ℕ) (m : State) → JoinsAll first told others m
    → new ≡ old ++ frame_lines m → PrintsAll first told others old new
prints_all first told others old new m joins taken = record {
  receiver = joins.receiver;
  receivers = joins.receivers;
  receiver_is = joins.receiver_is;
  receivers_are = joins.receivers_are;
  alike = joins.all.0;
  printed = subst (λ (l : List ℕ). new ≡ old ++ l)
      (same_lines (merged_all joins.receiver joins.receivers) m joins.all.1) taken;
}

-- sources have ended up to a place, and at it
pub ended_more : {S : Type 0} (ended : S → Type 0) (mid last : List S) (place : ℕ)
    → ((k : ℕ) (s : S) → k < place → get_or last k s ≡ get_or mid k s)
    → ((k : ℕ) (s : S) → k < place → ended (get_or mid k s))
    → ((s : S) → ended (get_or last place s))
    → (k : ℕ) (s : S) → k < place + 1 → ended (get_or last k s)
ended_more {S} ended mid last place same before here k s lt =
    below_more (λ (j : ℕ). (t : S) → ended (get_or last j t)) place
    (λ j below t. subst ended (sym (same j t below)) (before j t below)) here k lt s
