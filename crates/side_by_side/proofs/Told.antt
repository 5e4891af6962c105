-- The datagram of the file that goes first, which is given.
use Rattle.std.proofs.Common.{◌≡◌, ℕ, zero, suc, ◌<◌, ◌≤◌, true, false, List, [], ◌∷◌}
use Rattle.std.proofs.Common.{Option, None, Some, refl, sym, ap, subst, ◌∙◌, arith}
use Rattle.std.proofs.Common.{get_or, set, length, inl, inr}
use Rattle.std.specs.List.{AllByRecursion}
use Rattle.std.specs.Prelude.{IfSome}
use Rattle.media_file.specs.Records.{Entry}
use Rattle.recording_engines.specs.Files.{next_entry}
use Rattle.recording_engines.specs.Steps.{Ahead, AllFresh, Coming, IsFresh, Over, Standing, Unknown}
use Rattle.recording_engines.specs.declared.file.ImportFile.{ImportFile}
use Rattle.recording_engines.specs.declared.file.ImportFile.TheVariants.{Closed, Open, Taken}
use Rattle.recording_reader.specs.FileReader.{fault_of}
use Rattle.recording_reader.specs.declared.way.Standing.{Standing as Stand}
use Rattle.recording_reader.specs.declared.way.Standing.TheVariants.{Reads, Ended, Failed}
use Rattle.side_by_side.specs.Going.{IsReadBy, first_place, going_by, goes, is_later}
use Rattle.side_by_side.specs.Side.{GivesDatagram, IsSoundSide, ahead_by, ahead_of_hand, goings}
use Rattle.side_by_side.specs.Side.{IsUnfailedFile, standing_by, standing_of}
use Rattle.side_by_side.specs.Sides.{AllOver, AllRead, AllSound, AllUnfailed, GivesHand}
use Rattle.side_by_side.specs.Sides.{GivesNoSide, GivesSide, IsFreshFile, IsUnreadSide, ReadsAll}
use Rattle.side_by_side.specs.Sides.{hand_at, standings}
use Rattle.side_by_side.specs.Steering.{stamp_of}
use Rattle.side_by_side.specs.Steps.{GivesAt, HasReadOn, HaveReadOn}
use Rattle.side_by_side.specs.declared.going.Going.{Going}
use Rattle.side_by_side.specs.declared.going.Going.TheVariants.{Unread, AtOnce, By, Never}
use Rattle.side_by_side.specs.declared.side.Side.{Side}
use Rattle.side_by_side.specs.declared.steering.Steering.{Steering}
use Rattle.side_by_side.proofs.Chosen.{chosen, none_first}
use Rattle.side_by_side.proofs.Gone.{AllKnownAhead, IsKnownAhead, going_ahead, gone_more, gone_on}
use Rattle.side_by_side.proofs.Reading.{IsKnownSide, all_get, all_known, all_set, goings_are}
use Rattle.side_by_side.proofs.Reading.{known_side, sound_given}

-- ---- what the one that goes first has at hand

pub record HasHand {A S : Type 0} (s : Side A S) : Type 0 where
  pub entry : Entry
  pub hand : next_entry s.file ≡ Some entry
  pub coming : (standing_of s).ahead ≡ Coming entry

-- what goes is a record
pub record Comes (a : Ahead) : Type 0 where
  pub entry : Entry
  pub is : a ≡ Coming entry

comes_by : (st : Steering) (a : Ahead) (w : Going) → w ≡ going_ahead st a → goes w ≡ true
    → Comes a
comes_by st Unknown w at does = let no : goes Unread ≡ true = sym (ap goes at) ∙ does in absurd cc
comes_by st (Coming e) w at does = record { entry = e; is = refl }
comes_by st (Over f) w at does = let no : goes Never ≡ true = sym (ap goes at) ∙ does in absurd cc

coming_hand : (h : Option Entry) (e : Entry) → ahead_of_hand AtOnce h ≡ Coming e → h ≡ Some e
coming_hand None e is = absurd cc
coming_hand (Some x) e is = let same : Coming x ≡ Coming e = is in cc

hand_by : (stand : Stand) (w : Going) (h : Option Entry) (e : Entry)
    → ahead_by stand w h ≡ Coming e → h ≡ Some e
hand_by Reads Unread h e is = absurd cc
hand_by Reads AtOnce h e is = coming_hand h e is
hand_by Reads (By t) h e is = coming_hand h e is
hand_by Reads Never h e is = absurd cc
hand_by Ended w h e is = absurd cc
hand_by (Failed f) w h e is = absurd cc

hand_file : {A S : Type 0} (w : Going) (f : ImportFile A S) (e : Entry)
    → (standing_by w f).ahead ≡ Coming e → next_entry f ≡ Some e
hand_file w (Closed s) e is = absurd cc
hand_file w (Open r) e is = hand_by r.standing w r.at_hand e is
hand_file w Taken e is = absurd cc

within_sides : {A S : Type 0} (ss : List (Side A S)) (k : ℕ) → k < length (goings ss)
    → k < length ss
within_sides [] k lt = lt
within_sides (s ∷ ss) zero lt = omega arith
within_sides (s ∷ ss) (suc k) lt =
    let rest = within_sides ss k (omega (arith, lt)) in omega (arith, rest)

going_at : {A S : Type 0} (ss : List (Side A S)) (k : ℕ) (d : Side A S)
    → (get_or ss k d).going ≡ get_or (goings ss) k d.going
going_at [] k d = refl
going_at (s ∷ ss) zero d = refl
going_at (s ∷ ss) (suc k) d = going_at ss k d

pub has_hand : {A S : Type 0} (st : Steering) (sides : List (Side A S)) (k : ℕ) (w : Going)
    (d : Side A S) → AllSound st sides → AllRead sides → first_place (goings sides) ≡ Some (k, w)
    → HasHand (get_or sides k d)
has_hand st sides k w d sound read first =
    let is = chosen (goings sides) k w d.going first in
    let lt : k < length sides = within_sides sides k is.within in
    let s : Side _ _ = get_or sides k d in
    let known = known_side st s (all_get (λ x. IsSoundSide st x) sides k d lt sound)
    (all_get (λ x. IsReadBy x.going) sides k d lt read) in
    let going : s.going ≡ w = going_at sides k d ∙ is.at in
    let comes = comes_by st (standing_of s).ahead s.going known.goes (ap goes going ∙ is.does) in
    record {
      entry = comes.entry;
      hand = hand_file s.going s.file comes.entry comes.is;
      coming = comes.is;
    }

pub within_first : {A S : Type 0} (sides : List (Side A S)) (k : ℕ) (w d : Going)
    → first_place (goings sides) ≡ Some (k, w) → k < length sides
within_first sides k w d first =
    within_sides sides k (chosen (goings sides) k w d first).within

pub some_within : {A S : Type 0} (first : Option (ℕ × Going)) (sides : List (Side A S))
    → first ≡ first_place (goings sides) → IfSome first (λ x. x.0 < length sides)
some_within None sides is = tt
some_within (Some x) sides is = within_first sides x.0 x.1 x.1 (sym is)

-- ---- giving it

given_by : (stand : Stand) (w : Going) (h : Option Entry) (e : Entry)
    → ahead_by stand w h ≡ Coming e → ahead_by stand Unread h ≡ Unknown
given_by Reads w h e is = refl
given_by Ended w h e is = absurd cc
given_by (Failed f) w h e is = absurd cc

given_file : {A S : Type 0} (w : Going) (f : ImportFile A S) (e : Entry)
    → (standing_by w f).ahead ≡ Coming e
    → standing_by Unread f ≡ record { entries = (standing_by w f).entries; ahead = Unknown }
given_file w (Closed s) e is = absurd cc
given_file w (Open r) e is =
    ap (λ (a : Ahead). (let t : Standing = record { entries = r.records; ahead = a } in t))
    (given_by r.standing w r.at_hand e is)
given_file w Taken e is = absurd cc

pub given_standing : {A S : Type 0} (s s' : Side A S) (e : Entry)
    → (standing_of s).ahead ≡ Coming e → GivesDatagram s s'
    → standing_of s' ≡ record { entries = (standing_of s).entries; ahead = Unknown }
given_standing s s' e coming given =
    ap (λ (w : Going). standing_by w s'.file) given.unread
    ∙ ap (λ (f : ImportFile _ _). standing_by Unread f) given.file
    ∙ given_file s.going s.file e coming

pub gives_at : {A S : Type 0} (sides : List (Side A S)) (k : ℕ) (d s' : Side A S) (e : Entry)
    → k < length sides → (standing_of (get_or sides k d)).ahead ≡ Coming e
    → GivesDatagram (get_or sides k d) s'
    → GivesAt k (standings sides) e (standings (set sides k s'))
gives_at [] k d s' e lt coming given = absurd (omega (arith, lt))
gives_at (s ∷ ss) zero d s' e lt coming given =
    (coming, given_standing s s' e coming given, refl)
gives_at (s ∷ ss) (suc k) d s' e lt coming given =
    (refl, gives_at ss k d s' e (omega (arith, lt)) coming given)

-- not each is at its end then
pub not_over : {A S : Type 0} (sides : List (Side A S)) (k : ℕ) (s' : Side A S)
    → k < length sides → (standing_of s').ahead ≡ Unknown → AllOver (set sides k s') → ⊥
not_over [] k s' lt unknown over = absurd (omega (arith, lt))
not_over (s ∷ ss) zero s' lt unknown over =
    let no : Unknown ≡ Over None = sym unknown ∙ over.0 in absurd cc
not_over (s ∷ ss) (suc k) s' lt unknown over =
    not_over ss k s' (omega (arith, lt)) unknown over.1

-- ---- the record that one has at hand

-- it is that of the file of the place
hand_within : {A S : Type 0} (sides : List (Side A S)) (k : ℕ) (d : Side A S) → k < length sides
    → hand_at sides k ≡ next_entry (get_or sides k d).file
hand_within [] k d lt = absurd (omega (arith, lt))
hand_within (s ∷ ss) zero d lt = refl
hand_within (s ∷ ss) (suc k) d lt = hand_within ss k d (omega (arith, lt))

pub hand_there : {A S : Type 0} (sides : List (Side A S)) (k : ℕ) (s : Side A S)
    → k < length sides → s ≡ get_or sides k s → hand_at sides k ≡ next_entry s.file
hand_there sides k s lt is =
    hand_within sides k s lt ∙ sym (ap (λ (x : Side _ _). next_entry x.file) is)

-- where there is no file there is none
pub hand_past : {A S : Type 0} (sides : List (Side A S)) (k : ℕ) → length sides ≤ k
    → hand_at sides k ≡ None
hand_past [] zero past = refl
hand_past [] (suc k) past = refl
hand_past (s ∷ ss) zero past = absurd (omega (arith, past))
hand_past (s ∷ ss) (suc k) past = hand_past ss k (omega (arith, past))

-- of the one that was set
hand_set : {A S : Type 0} (sides : List (Side A S)) (k : ℕ) (s' : Side A S) → k < length sides
    → hand_at (set sides k s') k ≡ next_entry s'.file
hand_set [] k s' lt = absurd (omega (arith, lt))
hand_set (s ∷ ss) zero s' lt = refl
hand_set (s ∷ ss) (suc k) s' lt = hand_set ss k s' (omega (arith, lt))

-- ---- the place

-- files that were read on, of which the one that goes first is given
given_first : {A S : Type 0} (st : Steering) (olds mids : List (Side A S)) (k : ℕ) (w : Going)
    (d s' : Side A S) → ReadsAll st olds mids → first_place (goings mids) ≡ Some (k, w)
    → GivesDatagram (get_or mids k d) s' → GivesSide st k olds (set mids k s')
given_first st olds mids k w d s' reads first given =
    let has = has_hand st mids k w d reads.sound reads.read first in
    let lt : k < length mids = within_first mids k w d.going first in
    let e = has.entry in
    let stands = given_standing (get_or mids k d) s' e has.coming given in
    record {
      entry = e;
      hand = hand_set mids k s' lt ∙ ap (λ (f : ImportFile _ _). next_entry f) given.file
          ∙ has.hand;
      sound = all_set (λ x. IsSoundSide st x) mids k s' reads.sound
          (sound_given st s' given.unread);
      gone = λ es gone.
          gone_more st k w (standings mids) (standings (set mids k s')) es e
          (all_known st mids reads.sound reads.read)
          (ap first_place (sym (goings_are st mids reads.sound reads.read)) ∙ first)
          (gives_at mids k d s' e lt has.coming given)
          (gone_on st (standings olds) (standings mids) es reads.goes_on gone);
      left = not_over mids k s' lt (ap (λ (x : Standing). x.ahead) stands);
    }

-- the same of the one of that place
pub given_place : {A S : Type 0} (st : Steering) (olds mids news : List (Side A S)) (k : ℕ)
    (w : Going) → ReadsAll st olds mids → first_place (goings mids) ≡ Some (k, w)
    → GivesHand k mids news → GivesSide st k olds news
given_place st olds mids news k w reads first gives =
    subst (λ (l : List (Side _ _)). GivesSide st k olds l) (sym gives.now)
    (given_first st olds mids k w gives.other gives.given reads first gives.is)

-- none goes: each is at its end
it_goes : (x : Option ℕ) → goes (going_by x) ≡ false → ⊥
it_goes None is = absurd cc
it_goes (Some t) is = absurd cc

over_one : (st : Steering) (a : Ahead) (w : Going) → IsKnownSide st w a → goes w ≡ false
    → a ≡ Over None
over_one st Unknown w known none = absurd known.known
over_one st (Coming e) w known none =
    absurd (it_goes (stamp_of st e.octets) (sym (ap goes known.goes) ∙ none))
over_one st (Over None) w known none = refl
over_one st (Over (Some f)) w known none = absurd known.known

all_end : {A S : Type 0} (st : Steering) (sides : List (Side A S)) → AllSound st sides
    → AllRead sides → first_place (goings sides) ≡ None → AllOver sides
all_end st [] sound read none = tt
all_end st (s ∷ ss) sound read none =
    let is = none_first s.going (first_place (goings ss)) (goes s.going)
    (is_later s.going (first_place (goings ss))) refl refl none in (
      over_one st (standing_of s).ahead s.going (known_side st s sound.0 read.0) is.stays,
      all_end st ss sound.1 read.1 is.rest,
    )

pub given_end : {A S : Type 0} (st : Steering) (olds news : List (Side A S))
    → ReadsAll st olds news → first_place (goings news) ≡ None → GivesNoSide st olds news
given_end st olds news reads none = record {
  sound = reads.sound;
  gone = λ es gone. gone_on st (standings olds) (standings news) es reads.goes_on gone;
  over = all_end st news reads.sound reads.read none;
}

-- ---- where all were read on none was at a fault

were_by : (stand : Stand) (w : Going) (h : Option Entry) (es : List Entry) (t : Standing)
    → HasReadOn (record { entries = es; ahead = ahead_by stand w h }) t → IsKnownAhead t.ahead
    → fault_of stand ≡ None
were_by Reads w h es t on known = refl
were_by Ended w h es t on known = refl
were_by (Failed f) w h es t (inl same) known =
    let none : IsKnownAhead (Over (Some f)) =
    subst (λ (x : Standing). IsKnownAhead x.ahead) same known in absurd none
were_by (Failed f) w h es t (inr more) known =
    let no : Over (Some f) ≡ Unknown = more.0 in absurd cc

were_file : {A S : Type 0} (w : Going) (f : ImportFile A S) (t : Standing)
    → HasReadOn (standing_by w f) t → IsKnownAhead t.ahead → IsUnfailedFile f
were_file w (Closed s) t on known = tt
were_file w (Open r) t on known = were_by r.standing w r.at_hand r.records t on known
were_file w Taken t on known = tt

were_all : {A S : Type 0} (olds news : List (Side A S))
    → HaveReadOn (standings olds) (standings news)
    → AllKnownAhead (standings news) → AllUnfailed olds
were_all [] news on known = tt
were_all (s ∷ ss) [] on known = absurd on
were_all (s ∷ ss) (n ∷ ns) on known =
    (were_file s.going s.file (standing_of n) on.0 known.0, were_all ss ns on.1 known.1)

pub all_were : {A S : Type 0} (st : Steering) (olds news : List (Side A S))
    → ReadsAll st olds news → AllUnfailed olds
all_were st olds news reads =
    were_all olds news reads.goes_on (all_known st news reads.sound reads.read)

-- ---- the beginning

fresh_file : {A S : Type 0} (f : ImportFile A S) → IsFreshFile f → IsFresh (standing_by Unread f)
fresh_file (Closed s) is = λ r. refl
fresh_file (Open r) is =
    let ahead : ahead_by r.standing Unread r.at_hand ≡ Unknown =
    ap (λ (x : Stand). ahead_by x Unread r.at_hand) is.0 in
    subst (λ (a : Ahead). IsFresh (record { entries = r.records; ahead = a })) (sym ahead)
    (subst (λ (es : List Entry). IsFresh (record { entries = es; ahead = Unknown })) (sym is.1)
    (λ r. refl))
fresh_file Taken is = λ r. refl

pub all_fresh : {A S : Type 0} (sides : List (Side A S)) → AllByRecursion IsUnreadSide sides
    → AllFresh (standings sides)
all_fresh [] begun = tt
all_fresh (s ∷ ss) begun = (
  subst (λ (w : Going). IsFresh (standing_by w s.file)) (sym begun.0.0)
      (fresh_file s.file begun.0.1),
  all_fresh ss begun.1,
)

pub begun_sound : {A S : Type 0} (st : Steering) (sides : List (Side A S))
    → AllByRecursion IsUnreadSide sides → AllSound st sides
begun_sound st [] begun = tt
begun_sound st (s ∷ ss) begun = (sound_given st s begun.0.0, begun_sound st ss begun.1)
