-- A source over files, from one call to the next.
use Rattle.std.proofs.Common.{◌≡◌, ℕ, inl, inr, List, [], ◌∷◌, ◌++◌, Option, None, Some, refl}
use Rattle.std.proofs.Common.{sym, ap, subst, ◌∙◌, arith, drop, length, take, append-nil}
use Rattle.std.proofs.lemmas.List.{take_at}
use Rattle.std.specs.List.{AllByRecursion}
use Rattle.media_file.specs.Records.{Entry}
use Rattle.recording_engines.specs.Files.{IsFailedAt}
use Rattle.recording_engines.specs.declared.file.ImportFile.{ImportFile}
use Rattle.recording_engines.specs.declared.file.ImportFile.TheVariants.{Closed, Open, Taken}
use Rattle.recording_reader.proofs.Telling.{datagrams_more}
use Rattle.recording_reader.specs.FileReader.{TellsTurn, fault_of}
use Rattle.recording_reader.specs.Files.{datagrams_of}
use Rattle.recording_reader.specs.declared.fault.ReadingFault.{ReadingFault}
use Rattle.recording_reader.specs.declared.way.Standing.{Standing as Stand}
use Rattle.st_format.specs.Device.{CountsOne}
use Rattle.st_format.specs.declared.device.Turn.{Turn}
use Rattle.st_format.specs.declared.device.Turn.TheVariants.{Datagram, Quiet, End}
use Rattle.st_format.specs.declared.path.Path.{Path}
use Rattle.side_by_side.specs.Side.{IsUnfailedFile}
use Rattle.side_by_side.specs.Sides.{AllUnfailed, CountsPlace, FirstSideAt, GivesNextSide}
use Rattle.side_by_side.specs.Sides.{GivesSide, IsFaultOfFiles, IsSideBySide, IsUnreadSide}
use Rattle.side_by_side.specs.Sides.{LendsSides, Sides, StopsAll, StopsSides, TellsSides, given_of}
use Rattle.side_by_side.specs.Sides.{hand_at, standings}
use Rattle.side_by_side.specs.Steps.{HasGone}
use Rattle.side_by_side.specs.declared.side.Side.{Side}
use Rattle.side_by_side.specs.declared.steering.Steering.{Steering}
use Rattle.side_by_side.proofs.Gone.{gone_none, gone_on}
use Rattle.side_by_side.proofs.InOrder.{gone_is}
use Rattle.side_by_side.proofs.Told.{all_fresh, begun_sound}

abbrev pub seen : {A S : Type 0} → Steering → List (Side A S) → ℕ → ℕ → Option ReadingFault
    → Sides A S
seen st sides delivered failures fault = record {
  steering = st;
  sides = sides;
  came = given_of st sides;
  delivered = delivered;
  failures = failures;
  fault = fault;
}

-- ---- the datagrams that went

given_is : {A S : Type 0} (st : Steering) (sides : List (Side A S)) (es : List Entry)
    → HasGone st (standings sides) es → given_of st sides ≡ datagrams_of es
given_is st sides es gone = ap datagrams_of (gone_is st (standings sides) es gone)

-- where nothing was read yet
pub given_none : {A S : Type 0} (st : Steering) (sides : List (Side A S))
    → AllByRecursion IsUnreadSide sides → given_of st sides ≡ []
given_none st sides begun =
    given_is st sides [] (gone_none st (standings sides) (all_fresh sides begun))

pub sound_new : {A S : Type 0} (st : Steering) (sides : List (Side A S))
    → AllByRecursion IsUnreadSide sides → IsSideBySide (seen st sides 0 0 None)
sound_new st sides begun = record {
  sound = begun_sound st sides begun;
  entries = [];
  gone = gone_none st (standings sides) (all_fresh sides begun);
  came_is = given_none st sides begun;
  stopped = tt;
}

given_more : {A S : Type 0} (st : Steering) (place : ℕ) (olds news : List (Side A S))
    (es : List Entry) → HasGone st (standings olds) es → (gives : GivesSide st place olds news)
    → given_of st news ≡ given_of st olds ++ (gives.entry.path, gives.entry.octets) ∷ []
given_more st place olds news es gone gives =
    let e = gives.entry in
    given_is st news (es ++ e ∷ []) (gives.gone es gone) ∙ datagrams_more es e
    ∙ ap (λ (l : List (Path × List ℕ)). l ++ (e.path, e.octets) ∷ [])
    (sym (given_is st olds es gone))

given_same : {A S : Type 0} (st : Steering) (olds news : List (Side A S)) (es : List Entry)
    → HasGone st (standings olds) es → HasGone st (standings news) es
    → given_of st news ≡ given_of st olds
given_same st olds news es gone goes =
    given_is st news es goes ∙ sym (given_is st olds es gone)

-- ---- the fault at which it stays

at_unfailed : {A S : Type 0} (f : ReadingFault) (file : ImportFile A S) → IsFailedAt f file
    → IsUnfailedFile file → ⊥
at_unfailed f (Closed s) at unfailed = at
at_unfailed f (Open r) at unfailed =
    let no : Some f ≡ None = sym (ap (λ (s : Stand). fault_of s) at) ∙ unfailed in absurd cc
at_unfailed f Taken at unfailed = at

one_unfailed : {A S : Type 0} (f : ReadingFault) (sides : List (Side A S)) → FirstSideAt f sides
    → AllUnfailed sides → ⊥
one_unfailed f [] at unfailed = at
one_unfailed f (s ∷ ss) (inl at) unfailed = at_unfailed f s.file at unfailed.0
one_unfailed f (s ∷ ss) (inr at) unfailed = one_unfailed f ss at.1 unfailed.1

-- where none was at a fault, it stays at none
stopped_none : {A S : Type 0} (fault : Option ReadingFault) (olds news : List (Side A S))
    → IsFaultOfFiles fault olds → AllUnfailed olds → IsFaultOfFiles fault news
stopped_none None olds news stopped unfailed = tt
stopped_none (Some f) olds news stopped unfailed = absurd (one_unfailed f olds stopped unfailed)

-- ---- going on

pub sound_next : {A S : Type 0} (st : Steering) (at : Option ℕ) (olds news : List (Side A S))
    (delivered delivered' failures : ℕ) (fault : Option ReadingFault)
    → IsSideBySide (seen st olds delivered failures fault) → GivesNextSide st at olds news
    → AllUnfailed olds → IsSideBySide (seen st news delivered' failures fault)
sound_next st None olds news delivered delivered' failures fault is gives were = record {
  sound = gives.sound;
  entries = is.entries;
  gone = gives.gone is.entries is.gone;
  came_is = given_is st news is.entries (gives.gone is.entries is.gone);
  stopped = stopped_none fault olds news is.stopped were;
}
sound_next st (Some place) olds news delivered delivered' failures fault is gives were = record {
  sound = gives.sound;
  entries = is.entries ++ gives.entry ∷ [];
  gone = gives.gone is.entries is.gone;
  came_is = given_is st news (is.entries ++ gives.entry ∷ []) (gives.gone is.entries is.gone);
  stopped = stopped_none fault olds news is.stopped were;
}

a_place : (place : ℕ) → Some place ≡ None → ⊥
a_place place is = absurd cc

pub lends_next : {A S : Type 0} (st : Steering) (at : Option ℕ) (olds news : List (Side A S))
    (delivered delivered' failures : ℕ) (fault : Option ReadingFault)
    → IsSideBySide (seen st olds delivered failures fault) → GivesNextSide st at olds news
    → AllUnfailed news → CountsPlace at delivered delivered'
    → LendsSides at (seen st olds delivered failures fault)
    (seen st news delivered' failures fault)
lends_next st None olds news delivered delivered' failures fault is gives are one = record {
  came = given_same st olds news is.entries is.gone (gives.gone is.entries is.gone);
  delivered = one;
  failures = refl;
  fault = refl;
  over = (λ _. refl, λ _. gives.over);
  unfailed = are;
}
lends_next st (Some place) olds news delivered delivered' failures fault is gives are one = record {
  came =
      record {
        entry = gives.entry;
        hand = gives.hand;
        came = given_more st place olds news is.entries is.gone gives;
      };
  delivered = one;
  failures = refl;
  fault = refl;
  over = (λ over. absurd (gives.left over), λ never. absurd (a_place place never));
  unfailed = are;
}

-- ---- a turn, of what was lent

tells_entry : {A S : Type 0} (t : Turn) (buf : List ℕ) (old new : Sides A S) (place : ℕ)
    (e : Entry) → LendsSides (Some place) old new
    → new.came ≡ old.came ++ (e.path, e.octets) ∷ [] → TellsTurn (Some e) t buf
    → TellsSides t buf old new
tells_entry (Datagram path count) buf old new place e lends came told = record {
  tells = tt;
  within = told.2;
  came =
      came
      ∙ ap (λ (by : Path). old.came ++ (by, e.octets) ∷ []) (sym told.0)
      ∙ ap (λ (o : List ℕ). old.came ++ (path, o) ∷ []) (sym told.1);
  delivered = lends.delivered;
  failures = lends.failures;
  fault = lends.fault;
  over = (λ over. a_place place (lends.over.0 over), λ never. absurd never);
  unfailed = lends.unfailed;
}
tells_entry Quiet buf old new place e lends came told = absurd told
tells_entry End buf old new place e lends came told = absurd told

-- the datagram that is lent was copied
pub tells_lent : {A S : Type 0} (t : Turn) (buf : List ℕ) (old new : Sides A S) (place : ℕ)
    → LendsSides (Some place) old new → TellsTurn (hand_at new.sides place) t buf
    → TellsSides t buf old new
tells_lent t buf old new place lends told =
    tells_entry t buf old new place lends.came.entry lends lends.came.came
    (subst (λ (h : Option Entry). TellsTurn h t buf) lends.came.hand told)

-- none was lent
pub tells_end : {A S : Type 0} (buf : List ℕ) (old new : Sides A S) → LendsSides None old new
    → TellsSides End buf old new
tells_end buf old new lends = record {
  tells = tt;
  within = tt;
  came = lends.came ∙ sym (append-nil old.came);
  delivered = lends.delivered;
  failures = lends.failures;
  fault = lends.fault;
  over = (λ _. tt, λ _. lends.over.1 refl);
  unfailed = lends.unfailed;
}

-- ---- a fault

pub sound_stopped : {A S : Type 0} (st : Steering) (f : ReadingFault)
    (olds news : List (Side A S)) (delivered failures failures' : ℕ)
    (fault : Option ReadingFault) → IsSideBySide (seen st olds delivered failures fault)
    → StopsAll st f olds news → IsSideBySide (seen st news delivered failures' (Some f))
sound_stopped st f olds news delivered failures failures' fault is stops =
    let goes = gone_on st (standings olds) (standings news) is.entries stops.goes_on is.gone in
    record {
      sound = stops.sound;
      entries = is.entries;
      gone = goes;
      came_is = given_is st news is.entries goes;
      stopped = stops.stopped;
    }

pub stops_sides : {A S : Type 0} (st : Steering) (f : ReadingFault)
    (olds news : List (Side A S)) (delivered failures failures' : ℕ)
    (fault : Option ReadingFault) → IsSideBySide (seen st olds delivered failures fault)
    → StopsAll st f olds news → CountsOne failures failures'
    → StopsSides f (seen st olds delivered failures fault)
    (seen st news delivered failures' (Some f))
stops_sides st f olds news delivered failures failures' fault is stops one = record {
  stopped = stops.stopped;
  came = given_same st olds news is.entries is.gone
      (gone_on st (standings olds) (standings news) is.entries stops.goes_on is.gone);
  delivered = refl;
  failures = one;
  fault = refl;
}

-- ---- files that are kept in a vector

-- what it holds behind a loan of all of it
pub lent_back : {X : Type 0} (len : ℕ) (items lent : List X) → len ≡ length items
    → length lent ≡ length items → take len (lent ++ drop (length lent) items) ≡ lent
lent_back len items lent e f =
    take_at lent (drop (length lent) items) len (omega (arith, e, f))
