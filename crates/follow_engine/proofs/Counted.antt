-- How many records go of files, and that there are too many.
use Rattle.std.proofs.Common.{◌≡◌, ◌∙◌, ◌++◌, ℕ, zero, suc, ◌+◌, ◌≤◌, ◌<◌, List, [], ◌∷◌, length}
use Rattle.std.proofs.Common.{ap, append-nil, arith, inl, inr, length-append, refl, subst, sym}
use Rattle.std.proofs.lemmas.List.{length-map}
use Rattle.std.specs.List.{AllByRecursion, AllZip}
use Rattle.media_file.specs.Records.{Entry}
use Rattle.path_receiver.specs.Took.{datagrams_since}
use Rattle.recording_engines.specs.Files.{HasKnownOctets}
use Rattle.recording_engines.specs.Imported.{AreOver}
use Rattle.recording_engines.specs.Joining.{Strand}
use Rattle.run_outcome.specs.declared.refusal.Refusal.{Refusal}
use Rattle.side_by_side.specs.InOrder.{record_count}
use Rattle.side_by_side.specs.Sides.{IsSideBySide, SideGave, Sides, strands_of}
use Rattle.side_by_side.specs.Strands.{Goes, GoesWhole, TakesAt}
use Rattle.side_by_side.specs.declared.side.Side.{Side}
use Rattle.side_by_side.specs.declared.steering.Steering.{Steering}
use Rattle.st_format.specs.declared.path.Path.{Path}
use Rattle.follow_engine.specs.Order.{GoesFirst, GoesToFault, GoesToMost, datagrams_in}
use Rattle.follow_engine.specs.Order.{most_datagrams}
use Rattle.follow_engine.specs.Refused.{StopsFollowing, StopsReadSides}
use Rattle.follow_engine.proofs.First.{goes_first, goes_to_fault}
use Rattle.follow_engine.proofs.Turns.{since_by, since_more}
use Rattle.follow_engine.proofs.Whole.{datagrams_from}

-- ---- how many go

takes_count : (place : ℕ) (ss left : List Strand) (e : Entry) → TakesAt place ss e left
    → record_count ss ≡ suc (record_count left)
takes_count place [] left e takes = absurd takes
takes_count place (s ∷ ss) [] e takes = absurd takes
takes_count zero (s ∷ ss) (l ∷ ls) e takes =
    omega (arith, ap (λ (x : Strand). length x.entries) takes.0, ap record_count takes.1)
takes_count (suc place) (s ∷ ss) (l ∷ ls) e takes =
    omega (
      arith,
      ap (λ (x : Strand). length x.entries) takes.0,
      takes_count place ss ls e takes.1,
    )

-- those that go, and those that are left
pub goes_count : (st : Steering) (ss : List Strand) (es : List Entry) (left : List Strand)
    → Goes st ss es left → record_count ss ≡ length es + record_count left
goes_count st ss [] left goes = omega (arith, ap record_count goes)
goes_count st ss (e ∷ es) left goes =
    omega (
      arith,
      takes_count goes.1.place ss goes.0 e goes.1.takes,
      goes_count st goes.0 es left goes.2,
    )

over_count : (ss : List Strand) → AreOver ss → record_count ss ≡ 0
over_count [] over = refl
over_count (s ∷ ss) over =
    omega (arith, ap (λ (x : Strand). length x.entries) over.0, over_count ss over.1)

-- of files that go whole, all
pub whole_count : (st : Steering) (ss : List Strand) (es : List Entry) → GoesWhole st ss es
    → record_count ss ≡ length es
whole_count st ss es goes =
    omega (arith, goes_count st ss es goes.left goes.goes, over_count goes.left goes.over)

-- ---- how many came

pub none_since : (came : List (Path × List ℕ)) → length (datagrams_since came came) ≡ 0
none_since came =
    ap (λ (l : List (List ℕ)). length l) (since_by [] came came (sym (append-nil came)))

pub one_more_since : (before now then : List (Path × List ℕ)) (path : Path) (octets : List ℕ)
    (count : ℕ) (rest : List (Path × List ℕ)) → now ≡ before ++ rest
    → then ≡ now ++ (path, octets) ∷ [] → length (datagrams_since before now) ≡ count
    → length (datagrams_since before then) ≡ count + 1
one_more_since before now then path octets count rest came comes is =
    omega (
      arith,
      is,
      ap (λ (l : List (List ℕ)). length l)
          (since_more before now then rest path octets came comes),
      length-append (datagrams_since before now) (octets ∷ []),
    )

-- none more at the end
pub few_since : (before now then : List (Path × List ℕ)) (count : ℕ) → then ≡ now ++ []
    → length (datagrams_since before now) ≡ count → count < most_datagrams
    → length (datagrams_since before then) < most_datagrams
few_since before now then count same is few =
    omega (
      arith,
      is,
      few,
      ap (λ (l : List (Path × List ℕ)). length (datagrams_since before l))
          (same ∙ append-nil now),
    )

-- ---- as many as are counted

-- as many as came of files that were read side by side
came_count : {A S : Type 0} (source source' : Sides A S) (entries : List Entry)
    → source.came ≡ [] → datagrams_since [] source'.came ≡ datagrams_in entries
    → length (datagrams_since source.came source'.came) ≡ length entries
came_count source source' entries none is =
    ap (λ (l : List (Path × List ℕ)). length (datagrams_since l source'.came)) none
    ∙ ap (λ (l : List (List ℕ)). length l) is ∙ length-map entries (λ (e : Entry). e.octets)

-- and fewer than are counted
few_entries : {A S : Type 0} (source source' : Sides A S) → (is : IsSideBySide source')
    → source.came ≡ [] → length (datagrams_since source.came source'.came) < most_datagrams
    → length is.entries < most_datagrams
few_entries source source' is none few =
    omega (
      arith,
      few,
      came_count source source' is.entries none
          (datagrams_from source'.came is.entries is.came_is),
    )

-- so many went of them, whatever is behind what was read
most_read : {A S : Type 0} (gave : S → List ℕ) (ended : S → Type 0) (st : Steering)
    (source source' : Sides A S) (octets : List (List ℕ)) → (is : IsSideBySide source')
    → AllByRecursion (λ s. HasKnownOctets gave ended s.file) source'.sides → source.came ≡ []
    → source'.steering ≡ st
    → most_datagrams ≤ length (datagrams_since source.came source'.came)
    → AllZip (SideGave gave ended) source'.sides octets
    → GoesToMost st (strands_of source'.sides octets) is.entries
most_read gave ended st source source' octets is known none steering many read = record {
  goes =
      subst (λ (x : Steering). GoesFirst x (strands_of source'.sides octets) is.entries) steering
      (goes_first gave ended source' octets is known read);
  most = omega (
    arith,
    many,
    came_count source source' is.entries none (datagrams_from source'.came is.entries is.came_is),
  );
}

-- what stops files stops them by what was read
pub stops_read : {A S : Type 0} (gave : S → List ℕ) (ended : S → Type 0) (st : Steering)
    (source source' : Sides A S) (sides : List (Side A S)) (r : Refusal) → IsSideBySide source'
    → AllByRecursion (λ s. HasKnownOctets gave ended s.file) source'.sides → source.came ≡ []
    → source'.steering ≡ st → source'.sides ≡ sides
    → StopsFollowing (length (datagrams_since source.came source'.came)) source'.sides r
    → StopsReadSides gave ended st sides r
stops_read gave ended st source source' sides r is known none steering at
    (inl (f, told, stops, few)) =
    subst (λ (l : List (Side _ _)). StopsReadSides gave ended st l r) at
    (inl (
      f,
      told,
      stops,
      is.entries,
      λ octets read.
          subst (λ (x : Steering). GoesToFault f x (strands_of source'.sides octets) is.entries)
          steering
          (goes_to_fault gave ended source' octets f r is known told stops
          (few_entries source source' is none few) read),
    ))
stops_read gave ended st source source' sides r is known none steering at (inr many) =
    subst (λ (l : List (Side _ _)). StopsReadSides gave ended st l r) at
    (inr (
      many.0,
      is.entries,
      λ octets read.
          most_read gave ended st source source' octets is known none steering many.1 read,
    ))
