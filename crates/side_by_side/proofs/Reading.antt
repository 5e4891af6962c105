-- Files that are read on.
use Rattle.std.proofs.Common.{◌≡◌, ℕ, zero, suc, ◌<◌, Bool, true, false, inl, inr, List, [], ◌∷◌}
use Rattle.std.proofs.Common.{Option, None, Some, Result, Ok, Err, refl, sym, ap, subst}
use Rattle.std.proofs.Common.{◌∙◌, arith}
use Rattle.std.proofs.Common.{get_or, set, length, take}
use Rattle.std.specs.List.{AllByRecursion, sum_by}
use Rattle.std.proofs.lemmas.List.Sums.{sum_by-set}
use Rattle.media_file.specs.Records.{Entry}
use Rattle.recording_engines.specs.Files.{IsFailedAt}
use Rattle.recording_engines.specs.Steps.{Ahead, Coming, Over, ReadsMore, Standing}
use Rattle.recording_engines.specs.declared.file.ImportFile.{ImportFile}
use Rattle.recording_engines.specs.declared.file.ImportFile.TheVariants.{Closed, Open, Taken}
use Rattle.flow.specs.declared.flows.Flows.{Flows}
use Rattle.recording_reader.specs.FileReader.{FileReader, FindsFault, FindsOne, FindsRecord}
use Rattle.recording_reader.specs.FileReader.{IsSameFile}
use Rattle.recording_reader.specs.FileReader.{IsNewFileReader, fault_of, octets_at_hand}
use Rattle.st_format.specs.Device.{Told}
use Rattle.run_outcome.proofs.SetSums.{set_counted}
use Rattle.run_outcome.specs.Fault.{Blames, counts}
use Rattle.run_outcome.specs.declared.fault.Fault.{Fault}
use Rattle.recording_reader.specs.declared.fault.ReadingFault.{ReadingFault}
use Rattle.recording_reader.specs.declared.way.Standing.{Standing as Stand}
use Rattle.recording_reader.specs.declared.way.Standing.TheVariants.{Reads, Ended, Failed}
use Rattle.side_by_side.specs.Going.{IsReadBy, going_by}
use Rattle.side_by_side.specs.Side.{Begun, HandGoes, IsNewSide, IsSoundBy, IsSoundFile, IsSoundSide}
use Rattle.side_by_side.specs.Side.{IsUnfailed, IsUnfailedFile, ReadsFile, ReadsReader, ReadsSide}
use Rattle.side_by_side.specs.Side.{ComesToFault, StopsReader, StopsSide, ahead_by, ahead_of_hand}
use Rattle.side_by_side.specs.Side.{going_found, goings, reader_standing, standing_by, standing_of}
use Rattle.side_by_side.specs.Sides.{AllRead, AllSound, AllUnfailed, FirstSideAt, standings}
use Rattle.side_by_side.specs.Steering.{stamp_of}
use Rattle.side_by_side.specs.Steps.{HasReadOn, HaveReadOn}
use Rattle.side_by_side.specs.declared.going.Going.{Going}
use Rattle.side_by_side.specs.declared.going.Going.TheVariants.{Unread, AtOnce, By, Never}
use Rattle.side_by_side.specs.declared.side.Side.{Side}
use Rattle.side_by_side.specs.declared.steering.Steering.{Steering}
use Rattle.side_by_side.proofs.Gone.{AllKnownAhead, IsKnownAhead, all_stay, going_ahead}
use Rattle.side_by_side.proofs.Gone.{goings_ahead}
use Rattle.run_outcome.specs.LowerFaults.{reading_fault}

-- ---- one file

pub sound_unread : {A S : Type 0} (st : Steering) (f : ImportFile A S) → IsSoundFile st Unread f
sound_unread st (Closed s) = inl refl
sound_unread st (Open r) = tt
sound_unread st Taken = inl refl

pub sound_given : {A S : Type 0} (st : Steering) (s : Side A S) → s.going ≡ Unread
    → IsSoundSide st s
sound_given st s is =
    subst (λ (w : Going). IsSoundFile st w s.file) (sym is) (sound_unread st s.file)

-- what comes next of it is known, and goes so
pub record IsKnownSide (st : Steering) (w : Going) (a : Ahead) : Type 0 where
  pub known : IsKnownAhead a
  pub goes : w ≡ going_ahead st a

known_hand : (st : Steering) (w : Going) (stand : Stand) (at_hand : Option Entry)
    → HandGoes st w stand at_hand → ((e : Entry) → ahead_of_hand w (Some e) ≡ Coming e)
    → IsKnownSide st w (ahead_by stand w at_hand)
known_hand st w stand at_hand is comes =
    let e = is.0 in
    subst (λ (x : Stand). IsKnownSide st w (ahead_by x w at_hand)) (sym is.1)
    (subst (λ (h : Option Entry). IsKnownSide st w (ahead_by Reads w h)) (sym is.2)
    (subst (λ (a : Ahead). IsKnownSide st w a) (sym (comes e))
    (record { known = tt; goes = is.3 })))

known_never : (st : Steering) (stand : Stand) (at_hand : Option Entry) → stand ≡ Ended
    → IsKnownSide st Never (ahead_by stand Never at_hand)
known_never st stand at_hand is =
    subst (λ (x : Stand). IsKnownSide st Never (ahead_by x Never at_hand)) (sym is)
    (record { known = tt; goes = refl })

known_by : (st : Steering) (w : Going) (stand : Stand) (at_hand : Option Entry)
    → IsSoundBy st w stand at_hand → IsReadBy w → IsKnownSide st w (ahead_by stand w at_hand)
known_by st Unread stand at_hand sound read = absurd read
known_by st AtOnce stand at_hand sound read =
    known_hand st AtOnce stand at_hand sound (λ e. refl)
known_by st (By t) stand at_hand sound read = known_hand st (By t) stand at_hand sound (λ e. refl)
known_by st Never stand at_hand sound read = known_never st stand at_hand sound

known_closed : (st : Steering) (w : Going) → IsSoundFile {A = Unit {0}} {S = Unit {0}} st w Taken
    → IsReadBy w → IsKnownSide st w (Over None)
known_closed st Unread sound read = absurd read
known_closed st AtOnce (inl is) read = absurd cc
known_closed st AtOnce (inr is) read = absurd cc
known_closed st (By t) (inl is) read = absurd cc
known_closed st (By t) (inr is) read = absurd cc
known_closed st Never sound read = record { known = tt; goes = refl }

known_file : {A S : Type 0} (st : Steering) (w : Going) (f : ImportFile A S)
    → IsSoundFile st w f → IsReadBy w → IsKnownSide st w (standing_by w f).ahead
known_file st w (Closed s) sound read = known_closed st w sound read
known_file st w (Open r) sound read = known_by st w r.standing r.at_hand sound read
known_file st w Taken sound read = known_closed st w sound read

pub known_side : {A S : Type 0} (st : Steering) (s : Side A S) → IsSoundSide st s
    → IsReadBy s.going → IsKnownSide st s.going (standing_of s).ahead
known_side st s sound read = known_file st s.going s.file sound read

-- so it came to no fault
unfailed_by : (st : Steering) (w : Going) (stand : Stand) (at_hand : Option Entry)
    → IsSoundBy st w stand at_hand → IsReadBy w → fault_of stand ≡ None
unfailed_by st Unread stand at_hand sound read = absurd read
unfailed_by st AtOnce stand at_hand sound read = ap fault_of sound.1
unfailed_by st (By t) stand at_hand sound read = ap fault_of sound.1
unfailed_by st Never stand at_hand sound read = ap fault_of sound

unfailed_file : {A S : Type 0} (st : Steering) (w : Going) (f : ImportFile A S)
    → IsSoundFile st w f → IsReadBy w → IsUnfailedFile f
unfailed_file st w (Closed s) sound read = tt
unfailed_file st w (Open r) sound read = unfailed_by st w r.standing r.at_hand sound read
unfailed_file st w Taken sound read = tt

pub unfailed_read : {A S : Type 0} (st : Steering) (s : Side A S) → IsSoundSide st s
    → IsReadBy s.going → IsUnfailed s
unfailed_read st s sound read = unfailed_file st s.going s.file sound read

-- ---- a reader that goes on

going_comes : (x : Option ℕ) (e : Entry) → ahead_of_hand (going_by x) (Some e) ≡ Coming e
going_comes None e = refl
going_comes (Some t) e = refl

reads_one : {S : Type 0} (x : Option ℕ) (r r' : FileReader S) → FindsOne r r'
    → ReadsMore r.records (reader_standing (going_by x) r').ahead r'.records
reads_one x r r' finds =
    let es : List Entry = r.records in
    subst (λ (s : Stand). ReadsMore es (ahead_by s (going_by x) r'.at_hand) r'.records)
    (sym finds.reads)
    (subst (λ (h : Option Entry). ReadsMore es (ahead_of_hand (going_by x) h) r'.records)
    (sym finds.at_hand)
    (subst (λ (a : Ahead). ReadsMore es a r'.records) (sym (going_comes x finds.entry))
    finds.records))

-- of one that stood so
pub went_one : {S : Type 0} (x : Option ℕ) (r r' : FileReader S) → r.standing ≡ Reads
    → FindsOne r r' → HasReadOn (reader_standing Unread r) (reader_standing (going_by x) r')
went_one x r r' reads finds =
    inr (ap (λ (s : Stand). ahead_by s Unread r.at_hand) reads, reads_one x r r' finds)

sound_one : {S : Type 0} (st : Steering) (x : Option ℕ) (r r' : FileReader S)
    → (finds : FindsOne r r') → x ≡ stamp_of st finds.entry.octets
    → IsSoundBy st (going_by x) r'.standing r'.at_hand
sound_one st None r r' finds is =
    (finds.entry, finds.reads, finds.at_hand, ap going_by is)
sound_one st (Some t) r r' finds is =
    (finds.entry, finds.reads, finds.at_hand, ap going_by is)

read_going : (x : Option ℕ) → IsReadBy (going_by x)
read_going None = tt
read_going (Some t) = tt

pub read_one : {S : Type 0} (st : Steering) (x : Option ℕ) (r r' : FileReader S)
    → r.standing ≡ Reads → (finds : FindsOne r r') → x ≡ stamp_of st finds.entry.octets
    → ReadsReader st (going_by x) r r'
read_one st x r r' reads finds is = record {
  sound = sound_one st x r r' finds is;
  read = read_going x;
  goes_on = went_one x r r' reads finds;
}

abbrev stands : List Entry → Ahead → Standing
stands es a = record { entries = es; ahead = a }

stands_same : (es fs : List Entry) (a b : Ahead) → es ≡ fs → a ≡ b → stands es a ≡ stands fs b
stands_same es fs a b records ahead =
    ap (λ (l : List Entry). stands l a) records ∙ ap (λ (x : Ahead). stands fs x) ahead

-- at its end
standing_same : {S : Type 0} (w : Going) (r r' : FileReader S) → r'.records ≡ r.records
    → r.standing ≡ Ended → r'.standing ≡ Ended → reader_standing w r' ≡ reader_standing Unread r
standing_same w r r' same before after =
    stands_same r'.records r.records (ahead_by r'.standing w r'.at_hand)
    (ahead_by r.standing Unread r.at_hand) same
    (ap (λ (s : Stand). ahead_by s w r'.at_hand) after
    ∙ sym (ap (λ (s : Stand). ahead_by s Unread r.at_hand) before))

went_end : {S : Type 0} (stand : Stand) (r r' : FileReader S) → r.standing ≡ stand
    → ((f : ReadingFault) → stand ≡ Failed f → ⊥) → FindsRecord false r r'
    → HasReadOn (reader_standing Unread r) (reader_standing Never r')
went_end Reads r r' at unfailed finds =
    inr (
      ap (λ (s : Stand). ahead_by s Unread r.at_hand) at,
      subst (λ (s : Stand). ReadsMore r.records (ahead_by s Never r'.at_hand) r'.records)
          (sym finds.ended) finds.records,
    )
went_end Ended r r' at unfailed finds =
    inl (standing_same Never r r' finds.records at finds.ended)
went_end (Failed f) r r' at unfailed finds = absurd (unfailed f refl)

pub read_end : {S : Type 0} (st : Steering) (r r' : FileReader S)
    → ((f : ReadingFault) → r.standing ≡ Failed f → ⊥) → FindsRecord false r r'
    → ReadsReader st Never r r'
read_end st r r' unfailed finds = record {
  sound = finds.ended;
  read = tt;
  goes_on = went_end r.standing r r' refl unfailed finds;
}

-- at a fault
went_fault : {S : Type 0} (f : ReadingFault) (stand : Stand) (r r' : FileReader S)
    → r.standing ≡ stand → (stand ≡ Ended → ⊥)
    → ((g : ReadingFault) → stand ≡ Failed g → g ≡ f) → FindsFault f r r'
    → HasReadOn (reader_standing Unread r) (reader_standing Unread r')
went_fault f Reads r r' at unended same finds =
    inr (
      ap (λ (s : Stand). ahead_by s Unread r.at_hand) at,
      subst (λ (s : Stand). ReadsMore r.records (ahead_by s Unread r'.at_hand) r'.records)
          (sym finds.failed) finds.records,
    )
went_fault f Ended r r' at unended same finds = absurd (unended refl)
went_fault f (Failed g) r r' at unended same finds =
    inl (stands_same r'.records r.records (ahead_by r'.standing Unread r'.at_hand)
    (ahead_by r.standing Unread r.at_hand) finds.records
    (ap (λ (s : Stand). ahead_by s Unread r'.at_hand) finds.failed
    ∙ ap (λ (h : ReadingFault). Over (Some h)) (sym (same g refl))
    ∙ sym (ap (λ (s : Stand). ahead_by s Unread r.at_hand) at)))

pub stops_one : {S : Type 0} (f : ReadingFault) (r r' : FileReader S)
    → (r.standing ≡ Ended → ⊥) → ((g : ReadingFault) → r.standing ≡ Failed g → g ≡ f)
    → FindsFault f r r' → StopsReader f r r'
stops_one f r r' unended same finds = record {
  at = finds.failed;
  goes_on = went_fault f r.standing r r' refl unended same finds;
}

-- ---- what a call of a reader answers

-- what is so of a reader that is asked for its next datagram, by where it stood
pub record Asks {S : Type 0} (r : FileReader S) (answer : Result Bool ReadingFault) : Type 0 where
  pub ended : r.standing ≡ Ended → answer ≡ Ok false
  pub failed : (f : ReadingFault) → r.standing ≡ Failed f → answer ≡ Err f

reads_by : {S : Type 0} (stand : Stand) (r : FileReader S) → r.standing ≡ stand → Asks r (Ok true)
    → r.standing ≡ Reads
reads_by Reads r at asks = at
reads_by Ended r at asks = let no : Ok true ≡ Ok false = asks.ended at in absurd cc
reads_by (Failed f) r at asks = let no : Ok true ≡ Err f = asks.failed f at in absurd cc

found_one : {S : Type 0} (st : Steering) (octets : List ℕ) (r r' : FileReader S)
    → Asks r (Ok true) → (finds : FindsRecord true r r') → octets ≡ octets_at_hand r'.at_hand
    → ReadsReader st (going_by (stamp_of st octets)) r r'
found_one st octets r r' asks finds is =
    read_one st (stamp_of st octets) r r' (reads_by r.standing r refl asks) finds
    (ap (stamp_of st) is ∙ ap (λ (h : Option Entry). stamp_of st (octets_at_hand h)) finds.at_hand)

pub found : {S : Type 0} (st : Steering) (b : Bool) (octets : List ℕ) (r r' : FileReader S)
    → Asks r (Ok b) → FindsRecord b r r' → octets ≡ octets_at_hand r'.at_hand
    → ReadsReader st (going_found st b octets) r r'
found st true octets r r' asks finds is = found_one st octets r r' asks finds is
found st false octets r r' asks finds is =
    read_end st r r' (λ f at. let no : Ok false ≡ Err f = asks.failed f at in absurd cc) finds

pub found_fault : {S : Type 0} (f : ReadingFault) (r r' : FileReader S) → Asks r (Err f)
    → FindsFault f r r' → StopsReader f r r'
found_fault f r r' asks finds =
    stops_one f r r' (λ at. let no : Err f ≡ Ok false = asks.ended at in absurd cc)
    (λ g at. let same : Err f ≡ Err g = asks.failed g at in cc) finds

-- where it came to no fault yet, it reads, or is at its end
pub unfailed_cases : {P : Type 0} (stand : Stand) → fault_of stand ≡ None → (stand ≡ Reads → P)
    → (stand ≡ Ended → P) → P
unfailed_cases Reads none reads ended = reads refl
unfailed_cases Ended none reads ended = ended refl
unfailed_cases (Failed f) none reads ended = absurd cc

pub not_ended : {S : Type 0} (f : ReadingFault) (r : FileReader S) → Asks r (Err f)
    → r.standing ≡ Ended → ⊥
not_ended f r asks at = let no : Err f ≡ Ok false = asks.ended at in cc

abbrev begun_by : Option Flows → List ℕ → List ℕ → Option Begun
begun_by flows before text = Some (record { flows = flows; before = before; text = text })

pub same_begun : {S : Type 0} (old new : FileReader S) → IsSameFile old new
    → begun_by new.flows new.before.gave new.text ≡ begun_by old.flows old.before.gave old.text
same_begun old new same =
    ap (λ (f : Option Flows). begun_by f new.before.gave new.text) same.flows
    ∙ ap (λ (t : Told). begun_by old.flows t.gave new.text) same.before
    ∙ ap (λ (text : List ℕ). begun_by old.flows old.before.gave text) same.text

pub ruleset file_begun = (same_begun)

-- ---- a file that goes on

-- what became of one that was read on
pub record FileRead {A S : Type 0} (st : Steering) (w : Going) (old new : ImportFile A S) : Type 0
  where
    pub sound : IsSoundFile st w new
    pub read : IsReadBy w
    pub goes_on : HasReadOn (standing_by Unread old) (standing_by w new)

file_read : {A S : Type 0} (st : Steering) (w : Going) (old new : ImportFile A S)
    → ReadsFile st w old new → FileRead st w old new
file_read st w (Closed s) new reads =
    subst (λ (v : Going). FileRead st v (Closed s) new) (sym reads.0)
    (subst (λ (f : ImportFile _ _). FileRead st Never (Closed s) f) (sym reads.1)
    (record { sound = inr refl; read = tt; goes_on = inl refl }))
file_read st w (Open r) (Closed s) reads = absurd reads
file_read st w (Open r) (Open r') reads =
    record { sound = reads.sound; read = reads.read; goes_on = reads.goes_on }
file_read st w (Open r) Taken reads = absurd reads
file_read st w Taken new reads =
    subst (λ (v : Going). FileRead st v Taken new) (sym reads.0)
    (subst (λ (f : ImportFile _ _). FileRead st Never Taken f) (sym reads.1)
    (record { sound = inr refl; read = tt; goes_on = inl refl }))

pub has_read : {A S : Type 0} (st : Steering) (old new : Side A S) → old.going ≡ Unread
    → ReadsFile st new.going old.file new.file → ReadsSide st old new
has_read st old new was reads =
    let so = file_read st new.going old.file new.file reads in
    record {
      sound = so.sound;
      read = so.read;
      goes_on =
          subst (λ (w : Going). HasReadOn (standing_by w old.file) (standing_of new)) (sym was)
          so.goes_on;
    }

stops_at : {A S : Type 0} (f : ReadingFault) (old new : ImportFile A S) → ComesToFault f old new
    → IsFailedAt f new × HasReadOn (standing_by Unread old) (standing_by Unread new)
stops_at f (Closed s) new stops = absurd stops
stops_at f (Open r) (Closed s) stops = absurd stops
stops_at f (Open r) (Open r') stops = (stops.at, stops.goes_on)
stops_at f (Open r) Taken stops = absurd stops
stops_at f Taken new stops = absurd stops

pub stops_side : {A S : Type 0} (f : ReadingFault) (old new : Side A S) → old.going ≡ Unread
    → new.going ≡ Unread → ComesToFault f old.file new.file → StopsSide f old new
stops_side f old new was is stops =
    let so = stops_at f old.file new.file stops in
    record {
      unread = is;
      at = so.0;
      goes_on =
          subst (λ (w : Going). HasReadOn (standing_by w old.file) (standing_of new)) (sym was)
          (subst (λ (w : Going). HasReadOn (standing_by Unread old.file) (standing_by w new.file))
          (sym is) so.1);
    }

-- one that was just opened
pub new_side : {A S : Type 0} (flows : Option Flows) (gave text : List ℕ) (r : FileReader S)
    (count : ℕ) → IsNewFileReader flows r → r.before.gave ≡ gave
    → take (length r.text) text ≡ r.text → count ≡ length r.text
    → IsNewSide {A = A} flows gave (take count text) (record { file = Open r; going = Unread })
new_side flows gave text r count new before at is = record {
  begun =
      ap (λ (f : Option Flows). begun_by f r.before.gave r.text) new.by_flows
      ∙ ap (λ (g : List ℕ). begun_by flows g r.text) before
      ∙ ap (λ (t : List ℕ). begun_by flows gave t) (sym at ∙ ap (λ (n : ℕ). take n text) (sym is));
  unread = record { reading = new.reads; none = new.records };
  going = refl;
}

-- one of which what comes next is read stays
pub read_stays : {A S : Type 0} (st : Steering) (s : Side A S) → IsSoundSide st s
    → IsReadBy s.going → ReadsSide st s s
read_stays st s sound read = record { sound = sound; read = read; goes_on = inl refl }

-- ---- all of them

pub all_known : {A S : Type 0} (st : Steering) (sides : List (Side A S)) → AllSound st sides
    → AllRead sides → AllKnownAhead (standings sides)
all_known st [] sound read = tt
all_known st (s ∷ ss) sound read =
    ((known_side st s sound.0 read.0).known, all_known st ss sound.1 read.1)

cons : {x y : Going} {xs ys : List Going} → x ≡ y → xs ≡ ys → x ∷ xs ≡ y ∷ ys
cons one rest = cc

pub goings_are : {A S : Type 0} (st : Steering) (sides : List (Side A S)) → AllSound st sides
    → AllRead sides → goings sides ≡ goings_ahead st (standings sides)
goings_are st [] sound read = refl
goings_are st (s ∷ ss) sound read =
    cons (known_side st s sound.0 read.0).goes (goings_are st ss sound.1 read.1)

pub all_set : {X : Type 0} (P : X → Type 0) (xs : List X) (k : ℕ) (y : X) → AllByRecursion P xs
    → P y → AllByRecursion P (set xs k y)
all_set P [] k y are is = tt
all_set P (x ∷ xs) zero y are is = (is, are.1)
all_set P (x ∷ xs) (suc k) y are is = (are.0, all_set P xs k y are.1 is)

pub all_get : {X : Type 0} (P : X → Type 0) (xs : List X) (k : ℕ) (d : X) → k < length xs
    → AllByRecursion P xs → P (get_or xs k d)
all_get P [] k d lt are = absurd (omega (arith, lt))
all_get P (x ∷ xs) zero d lt are = are.0
all_get P (x ∷ xs) (suc k) d lt are = all_get P xs k d (omega (arith, lt)) are.1

-- those of the first places, and one more
pub all_one_more : {X : Type 0} (P : X → Type 0) (xs : List X) (k : ℕ) (y : X) → k < length xs
    → AllByRecursion P (take k xs) → P y → AllByRecursion P (take (suc k) (set xs k y))
all_one_more P [] k y lt are is = absurd (omega (arith, lt))
all_one_more P (x ∷ xs) zero y lt are is = (is, tt)
all_one_more P (x ∷ xs) (suc k) y lt are is =
    (are.0, all_one_more P xs k y (omega (arith, lt)) are.1 is)

-- one was read on, and the others are as they were
pub on_set : {A S : Type 0} (sides : List (Side A S)) (k : ℕ) (d s' : Side A S)
    → HasReadOn (standing_of (get_or sides k d)) (standing_of s')
    → HaveReadOn (standings sides) (standings (set sides k s'))
on_set [] k d s' on = tt
on_set (s ∷ ss) zero d s' on = (on, all_stay (standings ss))
on_set (s ∷ ss) (suc k) d s' on = (inl refl, on_set ss k d s' on)

-- the one of a place came to a fault, and those before it are read
pub stopped_set : {A S : Type 0} (f : ReadingFault) (sides : List (Side A S)) (k : ℕ)
    (s' : Side A S) → k < length sides → AllRead (take k sides) → IsFailedAt f s'.file
    → FirstSideAt f (set sides k s')
stopped_set f [] k s' lt read at = absurd (omega (arith, lt))
stopped_set f (s ∷ ss) zero s' lt read at = inl at
stopped_set f (s ∷ ss) (suc k) s' lt read at =
    inr (read.0, stopped_set f ss k s' (omega (arith, lt)) read.1 at)

pub all_unfailed : {A S : Type 0} (st : Steering) (sides : List (Side A S)) → AllSound st sides
    → AllRead sides → AllUnfailed sides
all_unfailed st [] sound read = tt
all_unfailed st (s ∷ ss) sound read =
    (unfailed_read st s sound.0 read.0, all_unfailed st ss sound.1 read.1)

-- how often the sources failed, all together, where one was read on
pub failures_same : {A S : Type 0} (f : Side A S → ℕ) (sides : List (Side A S)) (k : ℕ)
    (d s' : Side A S) → k < length sides → f s' ≡ f (get_or sides k d)
    → sum_by f (set sides k s') ≡ sum_by f sides
failures_same f sides k d s' lt same = omega (arith, sum_by-set f sides k s' d lt, same)

pub blames_set : {A S : Type 0} (f : Side A S → ℕ) (sides : List (Side A S)) (k : ℕ)
    (d s' : Side A S) (r : ReadingFault) → k < length sides
    → Blames (counts (f (get_or sides k d)) (f s') ∷ []) (reading_fault r)
    → Blames (counts (sum_by f sides) (sum_by f (set sides k s')) ∷ []) (reading_fault r)
blames_set f sides k d s' r lt is =
    let result : Result (Unit {0}) Fault = Err (reading_fault r) in
    set_counted f sides k d s' result lt is
