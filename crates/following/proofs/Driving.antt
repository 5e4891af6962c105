-- What was made of the turns of a source so far.
use Rattle.std.proofs.Common.{take}
use Rattle.std.proofs.Common.{◌≡◌, ℕ, ◌+◌, Bool, true, false, List, [], ◌∷◌, ◌++◌, fold, length, map}
use Rattle.std.proofs.Common.{Option, None, Some, Result, refl, sym, ap, ◌∙◌, subst}
use Rattle.std.proofs.Common.{arith, append_assoc, append-nil, length-append}
use Rattle.std.proofs.Math.Seq.{drop-append_seam, take-append_seam}
use Rattle.std.proofs.lemmas.List.Sums.{fold_push}
use Rattle.st_format.specs.declared.path.Path.{Path}
use Rattle.st_format.specs.Turns.{Due, Comes, Nothing, GivesTurns, came_of, datagrams_of}
use Rattle.path_receiver.specs.declared.answer.Refusal.{Refusal}
use Rattle.path_receiver.specs.declared.receiving.Received.{Received}
use Rattle.path_receiver.specs.Took.{datagrams_since}
use Rattle.following.specs.declared.answer.Followed.{Followed}
use Rattle.following.specs.declared.fault.StreamFault.{StreamFault}
use Rattle.following.specs.Follower.{Following, without_oldest}
use Rattle.following.specs.Following.{Handed, frames_in, handed_before}
use Rattle.following.specs.Stream.{AreTakenTurns, IsLeft, ShowsAll, TookTurns, delivered_by}
use Rattle.following.specs.Turned.{answer_in, answers_in, goes_early, handed_early, handed_in}
use Rattle.following.specs.Turned.{handed_while, state_behind, state_early, state_taken, turned}
use Rattle.following.proofs.Turning.{handed_more, handed_still, state_more, state_none}

-- ---- one datagram more

behind-more : (eager : Bool) (s : Following) (ds : List (List ℕ)) (octets : List ℕ)
    → state_behind eager s (ds ++ octets ∷ []) ≡ turned eager (state_behind eager s ds) octets
behind-more eager s [] octets = refl
behind-more eager s (d ∷ ds) octets = behind-more eager (turned eager s d) ds octets

while-more : (eager : Bool) (s : Following) (ds : List (List ℕ)) (octets : List ℕ)
    → handed_while eager s (ds ++ octets ∷ [])
    ≡ handed_while eager s ds ++ handed_in eager (state_behind eager s ds) octets
while-more eager s [] octets = append-nil (handed_in eager s octets)
while-more eager s (d ∷ ds) octets =
    let t : Following = turned eager s d in
    ap (λ (hs : List Handed). handed_in eager s d ++ hs) (while-more eager t ds octets)
    ∙ sym (append_assoc (handed_in eager s d) (handed_while eager t ds)
    (handed_in eager (state_behind eager t ds) octets))

answers-more : (eager : Bool) (s : Following) (ds : List (List ℕ)) (octets : List ℕ)
    → answers_in eager s (ds ++ octets ∷ [])
    ≡ answers_in eager s ds ++ answer_in (state_behind eager s ds) octets ∷ []
answers-more eager s [] octets = refl
answers-more eager s (d ∷ ds) octets =
    ap (λ (as_ : List (Result Followed Refusal)). answer_in s d ∷ as_)
    (answers-more eager (turned eager s d) ds octets)

-- ---- lists of turns

datagrams_of-append : (xs ys : List Due)
    → datagrams_of (xs ++ ys) ≡ datagrams_of xs ++ datagrams_of ys
datagrams_of-append [] ys = refl
datagrams_of-append (Comes path octets ∷ xs) ys =
    ap (λ (ds : List (List ℕ)). octets ∷ ds) (datagrams_of-append xs ys)
datagrams_of-append (Nothing ∷ xs) ys = datagrams_of-append xs ys

came_of-append : (xs ys : List Due) → came_of (xs ++ ys) ≡ came_of xs ++ came_of ys
came_of-append [] ys = refl
came_of-append (Comes path octets ∷ xs) ys =
    ap (λ (ds : List (Path × List ℕ)). (path, octets) ∷ ds) (came_of-append xs ys)
came_of-append (Nothing ∷ xs) ys = came_of-append xs ys

came_more : (xs ys : List Due) (old mid new : List (Path × List ℕ)) → mid ≡ old ++ came_of xs
    → new ≡ mid ++ came_of ys → new ≡ old ++ came_of (xs ++ ys)
came_more xs ys old mid new first next =
    next ∙ ap (λ (ds : List (Path × List ℕ)). ds ++ came_of ys) first
    ∙ append_assoc old (came_of xs) (came_of ys)
    ∙ ap (λ (ds : List (Path × List ℕ)). old ++ ds) (sym (came_of-append xs ys))

gives_none : (old : Option (List Due)) → GivesTurns old old []
gives_none None = tt
gives_none (Some due) = refl

gives_more : (xs ys : List Due) (old mid new : Option (List Due)) → GivesTurns old mid xs
    → GivesTurns mid new ys → GivesTurns old new (xs ++ ys)
gives_more xs ys None mid new first next = tt
gives_more xs ys (Some a) None new first next = absurd first
gives_more xs ys (Some a) (Some b) None first next = absurd next
gives_more xs ys (Some a) (Some b) (Some c) first next =
    first ∙ ap (λ (l : List Due). xs ++ l) next ∙ sym (append_assoc xs ys c)

came_datagrams : (due : List Due) → map (λ (d : Path × List ℕ). d.1) (came_of due) ≡ datagrams_of due
came_datagrams [] = refl
came_datagrams (Comes path octets ∷ due) =
    ap (λ (ds : List (List ℕ)). octets ∷ ds) (came_datagrams due)
came_datagrams (Nothing ∷ due) = came_datagrams due

since_is : (due : List Due) (before now : List (Path × List ℕ)) → now ≡ before ++ came_of due
    → datagrams_since before now ≡ datagrams_of due
since_is due before now e =
    ap (λ (ds : List (Path × List ℕ)). datagrams_since before ds) e
    ∙ ap (λ (ds : List (Path × List ℕ)). map (λ (d : Path × List ℕ). d.1) ds)
    (drop-append_seam before (came_of due))
    ∙ came_datagrams due

-- ---- so far

-- the turns that were taken, and what was made of the datagrams among them, where the sink did not
-- take some frames
pub record SoFar {O : Type 0} (after : O → Result Followed Refusal → O) (eager : Bool)
    (turns delivered : ℕ) (old new : Option (List Due)) (before now : List (Path × List ℕ))
    (s t : Following) (had has missed : List Handed) (knew knows : O) : Type 0 where
  pub due : List Due
  pub count : length due ≡ turns
  pub given : GivesTurns old new due
  pub came : now ≡ before ++ came_of due
  pub delivered_is : length (datagrams_of due) ≡ delivered
  pub state : t ≡ state_behind eager s (datagrams_of due)
  pub shown : ShowsAll had has missed (handed_while eager s (datagrams_of due))
  pub heard : knows ≡ fold after knew (answers_in eager s (datagrams_of due))

pub so_none : {O : Type 0} (after : O → Result Followed Refusal → O) (eager : Bool)
    (old : Option (List Due)) (before : List (Path × List ℕ)) (s : Following) (had : List Handed)
    (knew : O) → SoFar after eager 0 0 old old before before s s had had [] knew knew
so_none after eager old before s had knew = record {
  due = [];
  count = refl;
  given = gives_none old;
  came = sym (append-nil before);
  delivered_is = refl;
  state = refl;
  shown = refl;
  heard = refl;
}

next : (n : ℕ) (xs ys : List Due) → length xs ≡ n → length ys ≡ 1 → length (xs ++ ys) ≡ n + 1
next n xs ys e f = omega (arith, length-append xs ys, e, f)

next_datagram : (n : ℕ) (xs ys : List (List ℕ)) → length xs ≡ n → length ys ≡ 1
    → length (xs ++ ys) ≡ n + 1
next_datagram n xs ys e f = omega (arith, length-append xs ys, e, f)

-- a datagram
pub so_datagram : {O : Type 0} (after : O → Result Followed Refusal → O) (eager : Bool)
    (turns delivered : ℕ) (old mid new : Option (List Due)) (before now then : List (Path × List ℕ))
    (s t u : Following) (had has shows missed : List Handed) (knew knows hears : O) (path : Path)
    (octets : List ℕ)
    → SoFar after eager turns delivered old mid before now s t had has [] knew knows
    → GivesTurns mid new (Comes path octets ∷ []) → then ≡ now ++ (path, octets) ∷ []
    → u ≡ turned eager t octets → ShowsAll has shows missed (handed_in eager t octets)
    → hears ≡ after knows (answer_in t octets)
    → SoFar after eager (turns + 1) (delivered + 1) old new before then s u had shows missed knew
    hears
so_datagram {O} after eager turns delivered old mid new before now then s t u had has shows missed
    knew knows hears path octets so given comes state shown heard =
    let ds : List (List ℕ) = datagrams_of so.due in
    let more : datagrams_of (so.due ++ Comes path octets ∷ []) ≡ ds ++ octets ∷ [] =
    datagrams_of-append so.due (Comes path octets ∷ []) in
    record {
      due = so.due ++ Comes path octets ∷ [];
      count = next turns so.due (Comes path octets ∷ []) so.count refl;
      given = gives_more so.due (Comes path octets ∷ []) old mid new so.given given;
      came = came_more so.due (Comes path octets ∷ []) before now then so.came comes;
      delivered_is =
          ap length more ∙ next_datagram delivered ds (octets ∷ []) so.delivered_is refl;
      state =
          state ∙ ap (λ (x : Following). turned eager x octets) so.state
          ∙ sym (behind-more eager s ds octets)
          ∙ ap (λ (es : List (List ℕ)). state_behind eager s es) (sym more);
      shown =
          shown
          ∙ ap (λ (hs : List Handed). hs ++ handed_in eager t octets)
          (sym (append-nil has) ∙ so.shown)
          ∙ append_assoc had (handed_while eager s ds) (handed_in eager t octets)
          ∙ ap (λ (x : Following). had ++ (handed_while eager s ds ++ handed_in eager x octets))
          so.state
          ∙ ap (λ (hs : List Handed). had ++ hs) (sym (while-more eager s ds octets))
          ∙ ap (λ (es : List (List ℕ)). had ++ handed_while eager s es) (sym more);
      heard =
          heard
          ∙ ap (λ (x : O). after x (answer_in t octets)) so.heard
          ∙ ap (λ (x : Following). after (fold after knew (answers_in eager s ds)) (answer_in x octets))
          so.state
          ∙ sym (fold_push after knew (answers_in eager s ds) (answer_in (state_behind eager s ds) octets))
          ∙ ap (λ (l : List (Result Followed Refusal)). fold after knew l)
          (sym (answers-more eager s ds octets))
          ∙ ap (λ (es : List (List ℕ)). fold after knew (answers_in eager s es)) (sym more);
    }

-- a turn without one
pub so_quiet : {O : Type 0} (after : O → Result Followed Refusal → O) (eager : Bool)
    (turns delivered : ℕ) (old mid new : Option (List Due)) (before now then : List (Path × List ℕ))
    (s t : Following) (had has : List Handed) (knew knows : O)
    → SoFar after eager turns delivered old mid before now s t had has [] knew knows
    → GivesTurns mid new (Nothing ∷ []) → then ≡ now ++ []
    → SoFar after eager (turns + 1) delivered old new before then s t had has [] knew knows
so_quiet {O} after eager turns delivered old mid new before now then s t had has knew knows so given
    comes =
    let more : datagrams_of (so.due ++ Nothing ∷ []) ≡ datagrams_of so.due =
    datagrams_of-append so.due (Nothing ∷ []) ∙ append-nil (datagrams_of so.due) in
    record {
      due = so.due ++ Nothing ∷ [];
      count = next turns so.due (Nothing ∷ []) so.count refl;
      given = gives_more so.due (Nothing ∷ []) old mid new so.given given;
      came = came_more so.due (Nothing ∷ []) before now then so.came comes;
      delivered_is = ap length more ∙ so.delivered_is;
      state =
          so.state ∙ ap (λ (es : List (List ℕ)). state_behind eager s es) (sym more);
      shown =
          so.shown ∙ ap (λ (es : List (List ℕ)). had ++ handed_while eager s es) (sym more);
      heard =
          so.heard
          ∙ ap (λ (es : List (List ℕ)). fold after knew (answers_in eager s es)) (sym more);
    }

-- the end, or a fault: nothing came
pub so_nothing : {O : Type 0} (after : O → Result Followed Refusal → O) (eager : Bool)
    (turns delivered : ℕ) (old new : Option (List Due)) (before now then : List (Path × List ℕ))
    (s t : Following) (had has : List Handed) (knew knows : O)
    → SoFar after eager turns delivered old new before now s t had has [] knew knows → then ≡ now
    → SoFar after eager turns delivered old new before then s t had has [] knew knows
so_nothing {O} after eager turns delivered old new before now then s t had has knew knows so e =
    subst (λ (x : List (Path × List ℕ)). SoFar after eager turns delivered old new before x s t had has
    [] knew knows) (sym e) so

-- ---- the frames of a turn

-- one that goes early was shown, or not
pub early_shown : (eager : Bool) (s t u : Following) (hs missed has shows all : List Handed)
    → t ≡ s → u ≡ without_oldest t → hs ≡ take 1 (frames_in t) → goes_early eager s ≡ true
    → has ++ handed_early eager s ≡ all → ShowsAll has shows missed hs
    → shows ++ (missed ++ handed_early eager u) ≡ all
early_shown eager s t u hs missed has shows all same gone first goes so shown =
    let v : Following = without_oldest s in
    sym (append_assoc shows missed (handed_early eager u))
    ∙ ap (λ (l : List Handed). l ++ handed_early eager u) shown
    ∙ append_assoc has hs (handed_early eager u)
    ∙ ap (λ (x : Following). has ++ (hs ++ handed_early eager x))
    (gone ∙ ap (λ (x : Following). without_oldest x) same)
    ∙ ap (λ (l : List Handed). has ++ (l ++ handed_early eager v))
    (first ∙ ap (λ (x : Following). take 1 (frames_in x)) same)
    ∙ ap (λ (l : List Handed). has ++ l) (sym (handed_more eager s goes)) ∙ so

-- what is in then goes as what was in
pub early_state : (eager : Bool) (s t u w : Following) → t ≡ s → u ≡ without_oldest t
    → goes_early eager s ≡ true → state_early eager s ≡ state_early eager w
    → state_early eager u ≡ state_early eager w
early_state eager s t u w same gone goes so =
    ap (λ (x : Following). state_early eager x) (gone ∙ ap (λ (x : Following). without_oldest x) same)
    ∙ sym (state_more eager s goes) ∙ so

-- the frame that was due was shown, or not
pub turn_shown : (eager : Bool) (s t : Following) (octets : List ℕ) (missed old new : List Handed)
    → t ≡ state_taken s octets → ShowsAll old new missed (handed_before s octets)
    → ShowsAll old new (missed ++ handed_early eager t) (handed_in eager s octets)
unfolding handed_in
turn_shown eager s t octets missed old new same shown =
    let early : List Handed = handed_early eager t in
    sym (append_assoc new missed early) ∙ ap (λ (l : List Handed). l ++ early) shown
    ∙ append_assoc old (handed_before s octets) early
    ∙ ap (λ (x : Following). old ++ (handed_before s octets ++ handed_early eager x)) same

-- and those that go early behind it
pub turn_early : (eager : Bool) (s t : Following) (octets : List ℕ) (missed old mid new : List Handed)
    → t ≡ state_taken s octets → ShowsAll old mid [] (handed_before s octets)
    → ShowsAll mid new missed (handed_early eager t)
    → ShowsAll old new missed (handed_in eager s octets)
turn_early eager s t octets missed old mid new same first rest =
    rest ∙ turn_shown eager s t octets [] old mid same first

pub turn_state : (eager : Bool) (s t : Following) (octets : List ℕ) → t ≡ state_taken s octets
    → state_early eager t ≡ turned eager s octets
unfolding turned
turn_state eager s t octets same = ap (λ (x : Following). state_early eager x) same

-- where none that may go early is in any more
pub state_still : (eager : Bool) (t u : Following) → goes_early eager t ≡ false
    → state_early eager t ≡ u → t ≡ u
state_still eager t u still is = sym (state_none eager t still) ∙ is

pub shown_still : (eager : Bool) (t : Following) (old new all : List Handed)
    → goes_early eager t ≡ false → ShowsAll old new (handed_early eager t) all
    → ShowsAll old new [] all
shown_still eager t old new all still shown =
    ap (λ (l : List Handed). new ++ l) (sym (handed_still eager t still)) ∙ shown

-- ---- at the end

pub took_turns : {O : Type 0} (after : O → Result Followed Refusal → O) (eager : Bool)
    (limit turns delivered : ℕ) (r : Result Received StreamFault) (old mid new : Option (List Due))
    (before now : List (Path × List ℕ)) (s t : Following) (had has missed : List Handed)
    (knew knows : O)
    → SoFar after eager turns delivered old mid before now s t had has missed knew knows
    → IsLeft r mid new → AreTakenTurns limit r turns → delivered ≡ delivered_by r
    → TookTurns limit r old new before now
took_turns {O} after eager limit turns delivered r old mid new before now s t had has missed knew
    knows so left enough is = record {
      due = so.due;
      rest = mid;
      given = so.given;
      left = left;
      turns = subst (λ (n : ℕ). AreTakenTurns limit r n) (sym so.count) enough;
      delivered = so.delivered_is ∙ is;
      came = so.came;
    }

pub state_since : {O : Type 0} (after : O → Result Followed Refusal → O) (eager : Bool)
    (turns delivered : ℕ) (old mid : Option (List Due)) (before now : List (Path × List ℕ))
    (s t : Following) (had has missed : List Handed) (knew knows : O)
    → SoFar after eager turns delivered old mid before now s t had has missed knew knows
    → t ≡ state_behind eager s (datagrams_since before now)
state_since {O} after eager turns delivered old mid before now s t had has missed knew knows so =
    so.state
    ∙ ap (λ (es : List (List ℕ)). state_behind eager s es) (sym (since_is so.due before now so.came))

pub shown_since : {O : Type 0} (after : O → Result Followed Refusal → O) (eager : Bool)
    (turns delivered : ℕ) (old mid : Option (List Due)) (before now : List (Path × List ℕ))
    (s t : Following) (had has missed : List Handed) (knew knows : O)
    → SoFar after eager turns delivered old mid before now s t had has missed knew knows
    → ShowsAll had has missed (handed_while eager s (datagrams_since before now))
shown_since {O} after eager turns delivered old mid before now s t had has missed knew knows so =
    so.shown
    ∙ ap (λ (es : List (List ℕ)). had ++ handed_while eager s es)
    (sym (since_is so.due before now so.came))

pub heard_since : {O : Type 0} (after : O → Result Followed Refusal → O) (eager : Bool)
    (turns delivered : ℕ) (old mid : Option (List Due)) (before now : List (Path × List ℕ))
    (s t : Following) (had has missed : List Handed) (knew knows : O)
    → SoFar after eager turns delivered old mid before now s t had has missed knew knows
    → knows ≡ fold after knew (answers_in eager s (datagrams_since before now))
heard_since {O} after eager turns delivered old mid before now s t had has missed knew knows so =
    so.heard
    ∙ ap (λ (es : List (List ℕ)). fold after knew (answers_in eager s es))
    (sym (since_is so.due before now so.came))

-- ---- turns that a source told beforehand

front_of : (xs ys : List (List ℕ)) (n : ℕ) → length xs ≡ n → xs ≡ take n (xs ++ ys)
front_of xs ys n e =
    sym (ap (λ (m : ℕ). take m (xs ++ ys)) (sym e) ∙ take-append_seam xs ys)

told : (old rest : Option (List Due)) (took due : List Due) → GivesTurns old rest took
    → old ≡ Some due → (l : List Due) × (due ≡ took ++ l)
told None rest took due given e = absurd cc
told (Some a) None took due given e = absurd given
told (Some a) (Some l) took due given e = let same : a ≡ due = cc in (l, sym same ∙ given)

pub turns_told : (limit : ℕ) (r : Result Received StreamFault) (old new : Option (List Due))
    (before now : List (Path × List ℕ)) → TookTurns limit r old new before now → (due : List Due)
    → old ≡ Some due
    → datagrams_since before now ≡ take (delivered_by r) (datagrams_of due)
turns_told limit r old new before now took due e =
    let k = told old took.rest took.due due took.given e in
    since_is took.due before now took.came
    ∙ front_of (datagrams_of took.due) (datagrams_of k.0) (delivered_by r) took.delivered
    ∙ ap (take (delivered_by r))
    (sym (ap datagrams_of k.1 ∙ datagrams_of-append took.due k.0))
