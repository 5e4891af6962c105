-- The records that went of files are the first of what was read of them.
use Rattle.std.proofs.Common.{◌≡◌, ◌∙◌, ◌⊎◌, ℕ, zero, suc, List, [], ◌∷◌, ◌++◌, Option, None, Some}
use Rattle.std.proofs.Common.{◌<◌, ap, inl, inr, length, refl, subst, sym}
use Rattle.std.specs.List.{AllByRecursion, AllZip}
use Rattle.std.specs.Prelude.{⊤}
use Rattle.flow.specs.declared.flows.Flows.{Flows}
use Rattle.media_file.specs.Records.{Entry}
use Rattle.recording_counts.specs.declared.left_out.LeftOut.{LeftOut}
use Rattle.recording_engines.proofs.FileFaults.{fault_is, fault_none, not_device, not_memory}
use Rattle.recording_engines.proofs.FileFaults.{of_file, strand_by}
use Rattle.recording_engines.specs.Files.{HasKnownOctets, IsFailedAt}
use Rattle.recording_engines.specs.Joining.{ComesNoFault, IsAtNoFault, Strand}
use Rattle.recording_engines.specs.Steps.{Ahead, Over, left_by, left_of, lefts, nothing, whole}
use Rattle.recording_engines.specs.Steps.{whole_by, wholes}
use Rattle.recording_engines.specs.Strands.{fault_of_file, strand_in}
use Rattle.recording_engines.specs.declared.file.ImportFile.{ImportFile}
use Rattle.recording_engines.specs.declared.file.ImportFile.TheVariants.{Closed, Open, Taken}
use Rattle.recording_reader.specs.FileReader.{IsKnownBy}
use Rattle.recording_reader.specs.Files.{HaveFileRecords, IsFileFault}
use Rattle.recording_reader.specs.declared.fault.ReadingFault.{ReadingFault}
use Rattle.recording_reader.specs.declared.way.Standing.{Standing as Stand}
use Rattle.recording_reader.specs.declared.way.Standing.TheVariants.{Reads, Ended, Failed}
use Rattle.run_outcome.specs.LowerFaults.{reading_fault}
use Rattle.run_outcome.specs.declared.fault.Fault.{Fault}
use Rattle.run_outcome.specs.declared.fault.Fault.TheVariants.{Device, Memory, Refused}
use Rattle.run_outcome.specs.declared.refusal.Refusal.{Refusal}
use Rattle.side_by_side.specs.Going.{first_place}
use Rattle.side_by_side.specs.Side.{IsSoundSide, ahead_by, standing_by, standing_of}
use Rattle.side_by_side.specs.Sides.{AllSound, FileGave, FirstSideAt, IsSideBySide, SideGave}
use Rattle.side_by_side.specs.Sides.{Sides, standings, strand_of, strands_of}
use Rattle.side_by_side.specs.Strands.{AllRunning, Goes, TakesAt, going_in, goings_in}
use Rattle.side_by_side.specs.declared.going.Going.{Going}
use Rattle.side_by_side.specs.declared.going.Going.TheVariants.{Unread, AtOnce, By, Never}
use Rattle.side_by_side.specs.declared.side.Side.{Side}
use Rattle.side_by_side.specs.declared.steering.Steering.{Steering}
use Rattle.side_by_side.proofs.Gone.{IsKnownAhead, running_left}
use Rattle.side_by_side.proofs.Reading.{known_side}
use Rattle.follow_engine.specs.Order.{FirstIsAt, GoesFirst, GoesToFault, most_datagrams}

abbrev strand : List Entry → Option ReadingFault → Strand
strand es f = record { entries = es; fault = f }

-- ---- files that have more behind a fault

-- no run is refused by this fault
abbrev RefusesNone : ReadingFault → Type 0
RefusesNone f = (r : Refusal) → reading_fault f ≡ Refused r → ⊥

-- one has what another has, and where that is at a fault by which no run is refused then it may
-- have more
abbrev IsLonger : Strand → Strand → Type 0
IsLonger s s' = (s' ≡ s)
    ⊎ ((f : ReadingFault) × (more : List Entry) × (s.fault ≡ Some f) × RefusesNone f
    × (s'.entries ≡ s.entries ++ more))

abbrev AllLonger : List Strand → List Strand → Type 0
AllLonger [] [] = ⊤
AllLonger [] (s' ∷ ss') = ⊥
AllLonger (s ∷ ss) [] = ⊥
AllLonger (s ∷ ss) (s' ∷ ss') = IsLonger s s' × AllLonger ss ss'

none_runs : (fault : Option ReadingFault) (f : ReadingFault) → fault ≡ Some f
    → ComesNoFault [] fault → ⊥
none_runs None f is runs = absurd cc
none_runs (Some g) f is runs = runs

going_more : (st : Steering) (es es' more : List Entry) (fault : Option ReadingFault)
    (f : ReadingFault) → fault ≡ Some f → es' ≡ es ++ more → ComesNoFault es fault
    → going_in st es' ≡ going_in st es
going_more st [] es' more fault f at is runs = absurd (none_runs fault f at runs)
going_more st (e ∷ es) es' more fault f at is runs = ap (going_in st) is

going_longer : (st : Steering) (s s' : Strand) → IsLonger s s' → ComesNoFault s.entries s.fault
    → going_in st s'.entries ≡ going_in st s.entries
going_longer st s s' (inl same) runs = ap (λ (x : Strand). going_in st x.entries) same
going_longer st s s' (inr more) runs =
    going_more st s.entries s'.entries more.1 s.fault more.0 more.2 more.4 runs

running_more : (es es' more : List Entry) (fault fault' : Option ReadingFault)
    (f : ReadingFault) → fault ≡ Some f → es' ≡ es ++ more → ComesNoFault es fault
    → ComesNoFault es' fault'
running_more [] es' more fault fault' f at is runs = absurd (none_runs fault f at runs)
running_more (e ∷ es) es' more fault fault' f at is runs =
    subst (λ (l : List Entry). ComesNoFault l fault') (sym is) tt

running_longer : (s s' : Strand) → IsLonger s s' → ComesNoFault s.entries s.fault
    → ComesNoFault s'.entries s'.fault
running_longer s s' (inl same) runs =
    subst (λ (x : Strand). ComesNoFault x.entries x.fault) (sym same) runs
running_longer s s' (inr more) runs =
    running_more s.entries s'.entries more.1 s.fault s'.fault more.0 more.2 more.4 runs

cons_going : {x y : Going} {xs ys : List Going} → x ≡ y → xs ≡ ys → x ∷ xs ≡ y ∷ ys
cons_going one rest = cc

goings_longer : (st : Steering) (ss ss' : List Strand) → AllLonger ss ss' → AllRunning ss
    → goings_in st ss' ≡ goings_in st ss
goings_longer st [] [] longer runs = refl
goings_longer st [] (s' ∷ ss') longer runs = absurd longer
goings_longer st (s ∷ ss) [] longer runs = absurd longer
goings_longer st (s ∷ ss) (s' ∷ ss') longer runs =
    cons_going (going_longer st s s' longer.0 runs.0) (goings_longer st ss ss' longer.1 runs.1)

all_run : (ss ss' : List Strand) → AllLonger ss ss' → AllRunning ss → AllRunning ss'
all_run [] [] longer runs = tt
all_run [] (s' ∷ ss') longer runs = absurd longer
all_run (s ∷ ss) [] longer runs = absurd longer
all_run (s ∷ ss) (s' ∷ ss') longer runs =
    (running_longer s s' longer.0 runs.0, all_run ss ss' longer.1 runs.1)

-- ---- a record that goes

abbrev TakesLonger : ℕ → List Strand → Entry → List Strand → Type 0
TakesLonger place ss' e left =
    (left' : List Strand) × TakesAt place ss' e left' × AllLonger left left'

-- of the file of the place
takes_first : (s s' l : Strand) (ss ss' ls : List Strand) (e : Entry) → IsLonger s s'
    → AllLonger ss ss' → s ≡ strand (e ∷ l.entries) l.fault → ls ≡ ss
    → TakesLonger zero (s' ∷ ss') e (l ∷ ls)
takes_first s s' l ss ss' ls e (inl same) rest is are = (
  l ∷ ss',
  (same ∙ is, refl),
  (inl refl, subst (λ (x : List Strand). AllLonger x ss') (sym are) rest),
)
takes_first s s' l ss ss' ls e (inr more) rest is are =
    let fault : l.fault ≡ Some more.0 = sym (ap (λ (x : Strand). x.fault) is) ∙ more.2 in
    let entries : s'.entries ≡ e ∷ (l.entries ++ more.1) =
    more.4 ∙ ap (λ (x : Strand). x.entries ++ more.1) is in (
      strand (l.entries ++ more.1) s'.fault ∷ ss',
      (ap (λ (x : List Entry). strand x s'.fault) entries, refl),
      (
        inr (more.0, more.1, fault, more.3, refl),
        subst (λ (x : List Strand). AllLonger x ss') (sym are) rest,
      ),
    )

takes_longer : (place : ℕ) (ss ss' left : List Strand) (e : Entry) → AllLonger ss ss'
    → TakesAt place ss e left → TakesLonger place ss' e left
takes_longer place [] ss' left e longer takes = absurd takes
takes_longer place (s ∷ ss) [] left e longer takes = absurd longer
takes_longer place (s ∷ ss) (s' ∷ ss') [] e longer takes = absurd takes
takes_longer zero (s ∷ ss) (s' ∷ ss') (l ∷ ls) e longer takes =
    takes_first s s' l ss ss' ls e longer.0 longer.1 takes.0 takes.1
takes_longer (suc place) (s ∷ ss) (s' ∷ ss') (l ∷ ls) e longer takes =
    let rest = takes_longer place ss ss' ls e longer.1 takes.1 in (
      s' ∷ rest.0,
      (refl, rest.1),
      (subst (λ (x : Strand). IsLonger x s') (sym takes.0) longer.0, rest.2),
    )

-- what goes, and what is left then
record GoesLonger (st : Steering) (ss : List Strand) (es : List Entry) (left : List Strand) : Type 0
  where
    pub left' : List Strand
    pub goes : Goes st ss es left'
    pub longer : AllLonger left left'

goes_longer : (st : Steering) (ss ss' : List Strand) (es : List Entry) (left : List Strand)
    → AllLonger ss ss' → Goes st ss es left → GoesLonger st ss' es left
goes_longer st ss ss' [] left longer goes = record {
  left' = ss';
  goes = refl;
  longer = subst (λ (l : List Strand). AllLonger l ss') (sym goes) longer;
}
goes_longer st ss ss' (e ∷ es) left longer goes =
    let next = goes.1 in
    let one = takes_longer next.place ss ss' goes.0 e longer next.takes in
    let rest = goes_longer st goes.0 one.0 es left one.2 goes.2 in
    record {
      left' = rest.left';
      goes = (
        one.0,
        record {
          place = next.place;
          going = next.going;
          first = ap first_place (goings_longer st ss ss' longer next.running) ∙ next.first;
          running = all_run ss ss' longer next.running;
          takes = one.1;
        },
        rest.goes,
      );
      longer = rest.longer;
    }

-- ---- what was read

-- one that is read has more behind the records that were read
reads_whole : (w : Going) (h : Option Entry) (es : List Entry) (r : Strand)
    → whole_by es (ahead_by Reads w h) r ≡ strand (es ++ r.entries) r.fault
reads_whole Unread h es r = refl
reads_whole AtOnce None es r = refl
reads_whole AtOnce (Some e) es r = refl
reads_whole (By t) None es r = refl
reads_whole (By t) (Some e) es r = refl
reads_whole Never h es r = refl

abbrev HasLonger : List Entry → Stand → Going → Option Entry → Strand → Type 0
HasLonger es stand w h s = (r : Strand) × IsLonger (whole_by es (ahead_by stand w h) r) s

none_refuses : (f : ReadingFault) (x : Fault) → reading_fault f ≡ x
    → ((r : Refusal) → x ≡ Refused r → ⊥) → RefusesNone f
none_refuses f x is none = λ r told. none r (sym is ∙ told)

-- at a fault by which a run is refused all of its records were read
longer_at : (flows : Option Flows) (f : ReadingFault) (w : Going) (h : Option Entry)
    (octets : List ℕ) (es : List Entry) (left : LeftOut)
    → IsKnownBy flows (Failed f) octets es left → (x : Fault) → reading_fault f ≡ x
    → HasLonger es (Failed f) w h (strand_in flows octets)
longer_at flows f w h octets es left known (Refused why) told =
    let is =
    of_file (HaveFileRecords flows octets es left × IsFileFault f octets) f why told known.1 in
    (nothing, inl (strand_by flows octets es (Some f) is.0.records_are (fault_is f octets is.1)))
longer_at flows f w h octets es left known Device told =
    (nothing, inr (f, known.0.0, refl, none_refuses f Device told not_device, known.0.1))
longer_at flows f w h octets es left known Memory told =
    (nothing, inr (f, known.0.0, refl, none_refuses f Memory told not_memory, known.0.1))

longer_by : (flows : Option Flows) (stand : Stand) (w : Going) (h : Option Entry)
    (octets : List ℕ) (es : List Entry) (left : LeftOut) → IsKnownBy flows stand octets es left
    → HasLonger es stand w h (strand_in flows octets)
longer_by flows Reads w h octets es left known =
    let r : Strand = strand known.0 (fault_of_file octets) in (
      r,
      inl (ap (λ (l : List Entry). strand l (fault_of_file octets)) known.1
          ∙ sym (reads_whole w h es r)),
    )
longer_by flows Ended w h octets es left known =
    (nothing, inl (strand_by flows octets es None known.0.records_are (fault_none octets known.1)))
longer_by flows (Failed f) w h octets es left known =
    longer_at flows f w h octets es left known (reading_fault f) refl

longer_file : {A S : Type 0} (gave : S → List ℕ) (ended : S → Type 0) (w : Going)
    (f : ImportFile A S) (octets : List ℕ) → HasKnownOctets gave ended f
    → FileGave gave ended f octets
    → (r : Strand) × IsLonger (whole (standing_by w f) r) (strand_of f octets)
longer_file gave ended w (Closed s) octets known read = (nothing, inl refl)
longer_file gave ended w (Open r) octets known read =
    longer_by r.flows r.standing w r.at_hand octets r.records r.left_out (known octets read).known
longer_file gave ended w Taken octets known read = (nothing, inl refl)

all_longer : {A S : Type 0} (gave : S → List ℕ) (ended : S → Type 0) (sides : List (Side A S))
    (octets : List (List ℕ)) → AllByRecursion (λ s. HasKnownOctets gave ended s.file) sides
    → AllZip (SideGave gave ended) sides octets
    → (rs : List Strand) × AllLonger (wholes (standings sides) rs) (strands_of sides octets)
all_longer gave ended [] octets known read = ([], tt)
all_longer gave ended (s ∷ ss) [] known read = absurd read
all_longer gave ended (s ∷ ss) (o ∷ os) known read =
    let one = longer_file gave ended s.going s.file o known.0 read.0 in
    let rest = all_longer gave ended ss os known.1 read.1 in
    (one.0 ∷ rest.0, (one.1, rest.1))

-- what went of files goes first of the records that were read of them
pub goes_first : {A S : Type 0} (gave : S → List ℕ) (ended : S → Type 0) (s : Sides A S)
    (octets : List (List ℕ)) → (is : IsSideBySide s)
    → AllByRecursion (λ x. HasKnownOctets gave ended x.file) s.sides
    → AllZip (SideGave gave ended) s.sides octets
    → GoesFirst s.steering (strands_of s.sides octets) is.entries
goes_first gave ended s octets is known read =
    let all = all_longer gave ended s.sides octets known read in
    let rest =
    goes_longer s.steering (wholes (standings s.sides) all.0) (strands_of s.sides octets)
    is.entries (lefts (standings s.sides) all.0) all.1 (is.gone.goes all.0) in
    record { left = rest.left'; goes = rest.goes }

-- ---- the fault of the one whose turn it is

same_some : (f g : ReadingFault) → Some f ≡ Some g → f ≡ g
same_some f g is = cc

exact_left : (f : ReadingFault) (r : Refusal) (l : Strand) → reading_fault f ≡ Refused r
    → IsLonger (strand [] (Some f)) l → l ≡ strand [] (Some f)
exact_left f r l told (inl same) = same
exact_left f r l told (inr more) =
    absurd (more.3 r (subst (λ (g : ReadingFault). reading_fault g ≡ Refused r)
    (same_some f more.0 more.2) told))

left_ahead : (f : ReadingFault) (r : Refusal) (a : Ahead) (q l : Strand)
    → reading_fault f ≡ Refused r → a ≡ Over (Some f) → IsLonger (left_by a q) l
    → l ≡ strand [] (Some f)
left_ahead f r a q l told is longer =
    exact_left f r l told (subst (λ (x : Ahead). IsLonger (left_by x q) l) is longer)

left_file : {A S : Type 0} (f : ReadingFault) (r : Refusal) (w : Going) (file : ImportFile A S)
    (q l : Strand) → reading_fault f ≡ Refused r → IsFailedAt f file
    → IsLonger (left_of (standing_by w file) q) l → l ≡ strand [] (Some f)
left_file f r w (Closed s) q l told at longer = absurd at
left_file f r w (Open x) q l told at longer =
    left_ahead f r (ahead_by x.standing w x.at_hand) q l told
    (ap (λ (s : Stand). ahead_by s w x.at_hand) at) longer
left_file f r w Taken q l told at longer = absurd at

-- one of which what comes next is known is at no fault
left_known : (a : Ahead) (q l : Strand) → IsKnownAhead a → IsLonger (left_by a q) l
    → IsAtNoFault l
left_known a q l known longer = running_longer (left_by a q) l longer (running_left a q known)

module _ {A S : Type 0} (f : ReadingFault) (r : Refusal) (st : Steering)
    (told : reading_fault f ≡ Refused r) where
  -- what is left of one that came to the fault, or of one that is read and of those behind it
  here_or_behind : (s : Side A S) (ss : List (Side A S)) (q l : Strand) (ls : List Strand)
      → IsSoundSide st s → IsLonger (left_of (standing_of s) q) l
      → (FirstSideAt f ss → FirstIsAt f ls) → FirstSideAt f (s ∷ ss) → FirstIsAt f (l ∷ ls)
  here_or_behind s ss q l ls sound longer rest (inl here) =
      inl (left_file f r s.going s.file q l told here longer)
  here_or_behind s ss q l ls sound longer rest (inr behind) =
      inr (
        left_known (standing_of s).ahead q l (known_side st s sound behind.0).known longer,
        rest behind.1,
      )

  first_at : (sides : List (Side A S)) (rs left : List Strand) → AllSound st sides
      → FirstSideAt f sides → AllLonger (lefts (standings sides) rs) left → FirstIsAt f left
  first_at [] rs left sound at longer = absurd at
  first_at (s ∷ ss) [] [] sound at longer = absurd longer
  first_at (s ∷ ss) [] (l ∷ ls) sound at longer =
      here_or_behind s ss nothing l ls sound.0 longer.0
      (λ behind. first_at ss [] ls sound.1 behind longer.1) at
  first_at (s ∷ ss) (q ∷ qs) [] sound at longer = absurd longer
  first_at (s ∷ ss) (q ∷ qs) (l ∷ ls) sound at longer =
      here_or_behind s ss q l ls sound.0 longer.0
      (λ behind. first_at ss qs ls sound.1 behind longer.1) at

-- where a file is at a fault by which a run is refused, all went that goes up to there
pub goes_to_fault : {A S : Type 0} (gave : S → List ℕ) (ended : S → Type 0) (s : Sides A S)
    (octets : List (List ℕ)) (f : ReadingFault) (r : Refusal) → (is : IsSideBySide s)
    → AllByRecursion (λ x. HasKnownOctets gave ended x.file) s.sides
    → reading_fault f ≡ Refused r → FirstSideAt f s.sides → length is.entries < most_datagrams
    → AllZip (SideGave gave ended) s.sides octets
    → GoesToFault f s.steering (strands_of s.sides octets) is.entries
goes_to_fault gave ended s octets f r is known told at few read =
    let all = all_longer gave ended s.sides octets known read in
    let rest =
    goes_longer s.steering (wholes (standings s.sides) all.0) (strands_of s.sides octets)
    is.entries (lefts (standings s.sides) all.0) all.1 (is.gone.goes all.0) in
    record {
      left = rest.left';
      goes = rest.goes;
      at = first_at f r s.steering told s.sides all.0 rest.left' is.sound at rest.longer;
      few = few;
    }
